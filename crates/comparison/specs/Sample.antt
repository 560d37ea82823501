-- docs/FORMAT.md, "The command's text", of `compare`: all that is written of two uploads, byte by byte. One entry differs, each has one alone, and two behind these start later in B.
use Rattle.std.specs.Prelude.{ℕ, ◌≡◌, Bool, true, false, List, [], ◌∷◌, ◌++◌, codes}
use Rattle.refusal.specs.declared.Mode.TheVariants.{Present}
use Rattle.upload.specs.declared.Form.TheVariants.{Binary}
use Rattle.report.specs.declared.Upload.{Upload}
use Rattle.pairing.specs.Pieces.{pieces_of}
use Rattle.pairing.specs.Rows.{rows_of}
use Rattle.comparison.specs.Report.{written_text}

-- an entry of 34 bytes that claims so many, of one name and of a size
abbrev pub entry : ℕ → ℕ → ℕ → List ℕ
entry claim size name =
    claim ∷ 0 ∷ 0 ∷ 0 ∷ 1 ∷ 0 ∷ 0 ∷ 0 ∷ 2 ∷ 0 ∷ 0 ∷ 0 ∷ size ∷ 0 ∷ 0 ∷ 0 ∷ 3 ∷ 0 ∷ 0 ∷ 0 ∷
    0 ∷ 0 ∷ 0 ∷ 0 ∷ 1 ∷ 0 ∷ 0 ∷ 0 ∷ 0 ∷ 0 ∷ name ∷ 0 ∷ 0 ∷ 0 ∷ []

-- n, o, q and r; and n of another size, p, q and r
abbrev pub a : List ℕ
a = entry 34 8 110 ++ (entry 36 5 111 ++ (7 ∷ 7 ∷ [] ++ (entry 34 6 113 ++ entry 34 7 114)))

abbrev pub b : List ℕ
b = entry 34 4 110 ++ (entry 43 5 112 ++ (9 ∷ 9 ∷ 9 ∷ 9 ∷ 9 ∷ 9 ∷ 9 ∷ 9 ∷ 9 ∷ [] ++ (entry 34 6 113 ++ entry 34 7 114)))

abbrev pub table : List ℕ
table =
    codes "A: f (binary, 138 bytes)\n"
    ++ (codes "B: g (binary, 145 bytes)\n"
    ++ (codes " A   B  name  part       in A -> in B\n"
    ++ (codes " 0   0  n     size       8 bytes -> 4 bytes\n"
    ++ (codes " -  34  p     only in B\n"
    ++ (codes "34   -  o     only in A\n"
    ++ (codes "70  77  from here on 7 bytes later in B\n"
    ++ codes "4 entries in A, 4 in B: 2 alike, 1 different, 1 only in A, 1 only in B; at other places: 2\n"))))))

abbrev pub json : List ℕ
json =
    codes "{\"name\":\"n\",\"a\":{\"place\":0},\"b\":{\"place\":0},\"parts\":[{\"part\":\"size\",\"a\":8,\"b\":4}]}\n"
    ++ (codes "{\"name\":\"p\",\"a\":null,\"b\":{\"place\":34},\"parts\":[]}\n"
    ++ (codes "{\"name\":\"o\",\"a\":{\"place\":34},\"b\":null,\"parts\":[]}\n"
    ++ codes "{\"later_in_b\":7,\"a\":{\"place\":70},\"b\":{\"place\":77}}\n"))

-- an upload from a file of this name with these bytes
pub record IsRead (u : Upload) (name own : List ℕ) : Type 0 where
  pub path : u.path.now ≡ name
  pub form : u.form ≡ Binary
  pub mode : u.mode ≡ Present
  pub bytes : u.bytes.now ≡ own

abbrev pub Tells : Bool → List ℕ → Type 0
Tells as_json text = (u v : Upload) → IsRead u (codes "f") a → IsRead v (codes "g") b → written_text as_json u v (rows_of (pieces_of u) (pieces_of v)) ≡ text

pub record ReportMeant : Type 0 where
  pub table : Tells false table
  pub json : Tells true json
