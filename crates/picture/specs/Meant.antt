-- docs/FORMAT.md, "The command's text": the picture of an entry by the entry's bytes, as a terminal shows it.
use Rattle.std.specs.Prelude.{ℕ, ◌+◌, ◌-◌, ◌*◌, ◌<◌, ◌≤◌, ◌≡◌, ◌==◌, ◌&&◌, min, nat_lt, Bool, true, false, List, [], ◌∷◌, ◌++◌, codes, decimal, length, map, replicate, filter, Contains, get_or, if◌then◌else◌}
use Rattle.std.specs.List.{join_by, list_any}
use Rattle.std.specs.Borrow.{Bor}
use Rattle.wording.specs.Meant.{digit}
use Rattle.symbol.specs.declared.AdsSymbolInfo.{AdsSymbolInfo}
use Rattle.sections.specs.Parts.{part_text}
use Rattle.sections.specs.Sections.{sections_of}
use Rattle.sections.specs.declared.Section.{Section}
use Rattle.picture.specs.Rows.{colour, label, picture_text}
use Rattle.picture.specs.Seen.{none, Shows}

-- text in a colour
abbrev pub in_colour : List ℕ → List ℕ → List (ℕ × List ℕ)
in_colour c text = map (λ x. (x, c)) text

-- before a byte, of a section and a row: a rule where the section begins, else a space, in the section's colour where its byte before stands in the same row
abbrev pub before : Section → ℕ → ℕ → ℕ × List ℕ
before x start i = if x.at == i then (124, none) else if start == i then (32, none) else (32, colour x.part)

-- from a byte on to the end of its row: three characters a byte, the last two its digits in the colour of the section that holds it
pub data AreBytes (e : List ℕ) (all : List Section) (start end : ℕ) : ℕ → List (ℕ × List ℕ) → Type 0 where
  row_end : AreBytes e all start end end []
  byte : (i h l : ℕ) (x : Section) (more : List (ℕ × List ℕ)) → Contains all x → x.at ≤ i → i < x.at + length x.bytes.now
      → get_or e i 0 ≡ 16 * h + l → h < 16 → l < 16 → AreBytes e all start end (i + 1) more
      → AreBytes e all start end i (before x start i ∷ (digit h, colour x.part) ∷ (digit l, colour x.part) ∷ more)

-- a section has a byte in a row
abbrev pub stands_in : ℕ → ℕ → Section → Bool
stands_in start end x = nat_lt x.at end && nat_lt start (x.at + length x.bytes.now)

-- what a section is called in a row, in its colour
abbrev pub name_seen : ℕ → Section → List (ℕ × List ℕ)
name_seen start x = in_colour (colour x.part) (if nat_lt x.at start then codes ".." ++ part_text x.part else label x.part (length x.bytes.now))

abbrev pub names_seen : ℕ → ℕ → List Section → List (ℕ × List ℕ)
names_seen start end all = join_by (name_seen start) (in_colour none (codes " | ")) (filter (stands_in start end) all)

-- a row: its place at the right of six characters, two spaces, its bytes, a rule where a section ends with it, as many spaces as it has bytes less than 16,
-- and the names of the sections that have bytes in it
pub record IsRow (e : List ℕ) (all : List Section) (start end : ℕ) (seen : List (ℕ × List ℕ)) : Type 0 where
  pub own : List (ℕ × List ℕ)
  pub bytes : AreBytes e all start end start own
  pub is : seen ≡ in_colour none (replicate (6 - length (decimal start)) 32 ++ (decimal start ++ codes "  "))
      ++ (own
      ++ (in_colour none ((if list_any (λ x. x.at + length x.bytes.now == end) all then codes "|" else codes " ") ++ (replicate (3 * (16 - (end - start))) 32 ++ codes " "))
      ++ (names_seen start end all
      ++ in_colour none (codes "\n"))))

-- from a place of the entry on, a row for each 16 bytes
pub data AreRows (e : List ℕ) (all : List Section) : ℕ → List (ℕ × List ℕ) → Type 0 where
  done : (start : ℕ) → length e ≤ start → AreRows e all start []
  row : (start : ℕ) (seen more : List (ℕ × List ℕ)) → start < length e → IsRow e all start (min (start + 16) (length e)) seen → AreRows e all (start + 16) more
      → AreRows e all start (seen ++ more)

-- what is shown of the coloured picture, whatever symbol is told of the entry; the picture without colours is the same text, and no colour is left behind
pub record IsPicture (e : List ℕ) (all : List Section) : Type 0 where
  pub seen : List (ℕ × List ℕ)
  pub shows : Shows none (picture_text true (length e) all) seen none
  pub plain : picture_text false (length e) all ≡ map (λ x. x.0) seen
  pub rows : AreRows e all 0 seen

abbrev pub PictureMeant : Type 0
PictureMeant = (e : Bor (List ℕ)) (r : AdsSymbolInfo) → ((k : ℕ) → get_or e.now k 0 < 256) → IsPicture e.now (sections_of e r)
