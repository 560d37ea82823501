-- docs/FORMAT.md, "Binding": texts, and the parts that they begin with, or where they are none.
use Rattle.std.specs.Prelude.{ℕ, ◌≡◌, true, false, List, codes, Result, Ok, Err}
use Rattle.std.specs.Borrow.{Bor}
use Rattle.path.specs.declared.Split.{Split}
use Rattle.path.specs.declared.Part.TheVariants.{Member, Element}
use Rattle.path.specs.Path.{split_at, first_part}

-- a text that lies at a place, and what is behind so many of its bytes
abbrev lying : ℕ → List ℕ → Bor (List ℕ)
lying at s = record { ref_ptr = (0, at); now = s }

abbrev member : List ℕ → ℕ → List ℕ → Result Split ℕ
member name behind rest = Ok (split_at (Member (lying 1 name)) (lying behind rest))

abbrev positive : ℕ → ℕ → List ℕ → Result Split ℕ
positive n behind rest = Ok (split_at (Element (record { negative = false; magnitude = n })) (lying behind rest))

abbrev negative : ℕ → ℕ → List ℕ → Result Split ℕ
negative n behind rest = Ok (split_at (Element (record { negative = true; magnitude = n })) (lying behind rest))

pub record PartsRead : Type 0 where
  -- a name ends before a dot, a bracket or the end, and has whatever else stands there
  pub last : first_part (lying 0 (codes ".fZoom")) ≡ member (codes "fZoom") 6 (codes "")
  pub before_dot : first_part (lying 0 (codes ".a b].c")) ≡ member (codes "a b]") 5 (codes ".c")
  pub before_bracket : first_part (lying 0 (codes ".a[3]")) ≡ member (codes "a") 2 (codes "[3]")
  pub long : first_part (lying 0 (codes ".VeryLongNameOfAMemberWithFortyTwoBytesInIt.x")) ≡ member (codes "VeryLongNameOfAMemberWithFortyTwoBytesInIt") 43 (codes ".x")
  -- a number before a bracket that closes, or before a comma, which stays
  pub closed : first_part (lying 0 (codes "[1203].x")) ≡ positive 1203 6 (codes ".x")
  pub at_end : first_part (lying 0 (codes "[9]")) ≡ positive 9 3 (codes "")
  pub again : first_part (lying 0 (codes "[0][1]")) ≡ positive 0 3 (codes "[1]")
  pub below : first_part (lying 0 (codes "[-12,5]")) ≡ negative 12 4 (codes ",5]")
  pub behind_comma : first_part (lying 0 (codes ",007]")) ≡ positive 7 5 (codes "")
  pub largest : first_part (lying 0 (codes "[4294967296]")) ≡ positive 4294967296 12 (codes "")
  pub capped : first_part (lying 0 (codes "[99999999999999999999]")) ≡ positive 8589934592 22 (codes "")
  -- no part: by the bytes that are left at the fault
  pub nothing : first_part (lying 0 (codes "")) ≡ Err 0
  pub no_mark : first_part (lying 0 (codes "x.y")) ≡ Err 3
  pub no_name : first_part (lying 0 (codes "..y")) ≡ Err 2
  pub name_missing : first_part (lying 0 (codes ".")) ≡ Err 0
  pub no_digit : first_part (lying 0 (codes "[]")) ≡ Err 1
  pub sign_alone : first_part (lying 0 (codes "[-]")) ≡ Err 1
  pub space : first_part (lying 0 (codes "[ 1]")) ≡ Err 3
  pub not_closed : first_part (lying 0 (codes "[12")) ≡ Err 0
  pub letter : first_part (lying 0 (codes "[12a]")) ≡ Err 2
  pub capital : first_part (lying 0 (codes "[1A]")) ≡ Err 2
  pub joined : first_part (lying 0 (codes "[12]a")) ≡ Err 1
