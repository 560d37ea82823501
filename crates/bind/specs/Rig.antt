-- docs/FORMAT.md, "Binding": a small controller, byte by byte, and what its paths lead to.
use Rattle.std.specs.Prelude.{ℕ, ◌≡◌, List, [], ◌∷◌, ◌++◌, codes, Result, Err}
use Rattle.refusal.specs.declared.Refusal.{Refusal}
use Rattle.refusal.specs.declared.Refusal.TheVariants.{NameNotFound, NoSuchNumber, BadPath, NoSuchMember, NoSuchType, WrongDimensions, NoOffset, OffsetTooLarge, TooManyAliases}
use Rattle.bind.specs.declared.reading.Place.TheVariants.{Symbol, DataType}
use Rattle.bind.specs.Entries.{symbol, entry, Told, at, bits_at, Controller, leads_in}

-- the first has every flag but those of a bit and of a reference
abbrev symbols : List ℕ
symbols =
    symbol (codes "M") (codes "PR") [] 1 7 8 0xFFF9
    ++ symbol (codes "M.s") (codes "ST") (codes "a b") 0x4040 1000 60 0x1008
    ++ symbol (codes "M.s.o") (codes "X") [] 3 9 1 0
    ++ symbol (codes "b") (codes "ST") [] 0x4041 5000 1 2
    ++ symbol (codes "c") (codes "C") [] 5 6 7 0
    ++ symbol (codes "h") (codes "ST") [] 5 0xFFFFFFFE 60 0
    ++ symbol (codes "k") (codes "K") [] 6 100 8 0
    ++ symbol (codes "e") (codes "ST") [] 8 200 4 4
    ++ symbol (codes "t") (codes "RF") [] 10 300 4 0
    ++ symbol (codes "g") (codes "BA") [] 11 400 1 0

-- a member of its own; one with every flag but those of bits, a reference, a property and a static one, and in it one in bits; an array of two dimensions by its
-- type's name, one with a comment that says it again; one of the same name as the first in other letters; a static one, a property, a reference
abbrev members : List (List ℕ)
members =
    entry (codes "f") (codes "REAL") [] 4 5 0 [] []
    ∷ entry (codes "n") (codes "P") [] 3 17 0xFFFDFF9B [] (entry (codes "z") (codes "BIT") [] 1 11 0x20 [] [] ∷ [])
    ∷ entry (codes "a") (codes "AR") [] 24 20 0 [] []
    ∷ entry (codes "r") (codes "AR") (codes "rows") 24 21 0 ((0xFFFFFFFE, 2) ∷ (1, 3) ∷ []) []
    ∷ entry (codes "F") (codes "LREAL") [] 8 44 0 [] []
    ∷ entry (codes "s") (codes "DINT") [] 4 0 0x20000 [] []
    ∷ entry (codes "p") (codes "DINT") [] 4 0 0x40 [] []
    ∷ entry (codes "q") (codes "P") [] 4 52 0x4 [] []
    ∷ []

-- the last is an array in bits
abbrev types : List ℕ
types =
    entry (codes "ST") [] (codes "type") 60 0 0xFFFDFF9B [] members
    ++ entry (codes "AR") (codes "AL") [] 24 0 0 ((0xFFFFFFFE, 2) ∷ (1, 3) ∷ []) []
    ++ entry (codes "AL") (codes "P") [] 4 0 0 [] []
    ++ entry (codes "P") [] [] 4 0 0 [] (entry (codes "y") (codes "INT") [] 2 1 0 [] [] ∷ [])
    ++ entry (codes "C") (codes "C") [] 4 0 0 [] []
    ++ entry (codes "K") (codes "P") (codes "comment") 8 0 0 ((0, 2) ∷ []) (entry (codes "w") (codes "INT") [] 2 3 0 [] [] ∷ [])
    ++ entry (codes "PR") [] [] 8 0 0 [] (entry (codes "sum") (codes "INT") [] 2 3 0 [] [] ∷ [])
    ++ entry (codes "RF") [] [] 4 0 0x4 [] (entry (codes "y") (codes "INT") [] 2 1 0 [] [] ∷ [])
    ++ entry (codes "BA") (codes "BIT") [] 8 0 0x20 ((0, 8) ∷ []) []

abbrev rig : Controller
rig =
    record {
      symbols = symbols;
      symbol_starts = (codes "M", 0) ∷ (codes "M.s", 36) ∷ (codes "M.s.o", 77) ∷ (codes "b", 116) ∷ (codes "c", 152) ∷ (codes "h", 187) ∷ (codes "k", 223) ∷ (codes "e", 258) ∷ (codes "t", 294) ∷ (codes "g", 330) ∷ [];
      types = types;
      type_starts = (codes "ST", 0) ∷ (codes "AR", 511) ∷ (codes "AL", 576) ∷ (codes "P", 624) ∷ (codes "C", 719) ∷ (codes "K", 766) ∷ (codes "PR", 877) ∷ (codes "RF", 975) ∷ (codes "BA", 1071) ∷ [];
    }

abbrev leads : List ℕ → Result Told Refusal
leads path = leads_in rig path

pub record RigBound : Type 0 where
  -- a symbol's own numbers, in any case of its letters; the longest of three names, where each ends before a part of the path; a symbol of a bit, and one at the end of its group
  pub alone : leads (codes "m.S") ≡ at 0x4040 1000 0 60 (codes "ST") (Symbol 36)
  pub longest_name : leads (codes "M.s.o") ≡ at 3 9 0 1 (codes "X") (Symbol 77)
  pub through_shorter : leads (codes "M.sum") ≡ at 1 10 0 2 (codes "INT") (DataType 924)
  pub bit_alone : leads (codes "b") ≡ at 0x4041 5000 0 1 (codes "ST") (Symbol 116)
  pub end_alone : leads (codes "h") ≡ at 5 0xFFFFFFFE 0 60 (codes "ST") (Symbol 187)
  -- the first of two members of one name: 1000 + 5; a member in a member, its offset in bits: 1000 + 17 and 11 bits
  pub first_member : leads (codes "M.s.F") ≡ at 0x4040 1005 0 4 (codes "REAL") (DataType 51)
  pub in_bits : leads (codes "M.s.n.z") ≡ bits_at 0x4040 1018 3 1 (codes "BIT") (DataType 148)
  -- the second of two rows and in it the second of three: 1000 + 20 + 12 + 4; through a type of another name to a member: 1 more; and from 21 where a member says
  -- again what its type says
  pub element : leads (codes "M.s.a[-1,2]") ≡ at 0x4040 1036 0 4 (codes "AL") (DataType 511)
  pub one_by_one : leads (codes "M.s.a[-1][2]") ≡ at 0x4040 1036 0 4 (codes "AL") (DataType 511)
  pub below_element : leads (codes "M.s.a[-1,2].Y") ≡ at 0x4040 1037 0 2 (codes "INT") (DataType 670)
  pub said_again : leads (codes "M.s.r[-1,2].y") ≡ at 0x4040 1038 0 2 (codes "INT") (DataType 670)
  -- the fourth of eight elements in bits
  pub element_in_bits : leads (codes "g[3]") ≡ bits_at 11 400 3 1 (codes "BIT") (DataType 1071)
  -- a member of an array that has its own sub-items: 100 + 4 + 3
  pub own_items : leads (codes "k[1].w") ≡ at 6 107 0 2 (codes "INT") (DataType 828)
  pub whole_array : leads (codes "M.s.r") ≡ at 0x4040 1021 0 24 (codes "AR") (DataType 245)
  -- no symbol; no part: an empty name, a bracket that is not closed, no number, a sign that is none, something behind a bracket
  pub no_symbol : leads (codes "x.f") ≡ Err NameNotFound
  pub no_name : leads (codes "M.s..f") ≡ Err (BadPath 4)
  pub not_closed : leads (codes "M.s.r[-2,1") ≡ Err (BadPath 10)
  pub no_number : leads (codes "M.s.r[-2,]") ≡ Err (BadPath 9)
  pub no_sign : leads (codes "M.s.r[+1,1]") ≡ Err (BadPath 6)
  pub more_behind : leads (codes "M.s.r[-2,1]f") ≡ Err (BadPath 11)
  -- no member of that name, and a type that is not there
  pub no_member : leads (codes "M.s.x") ≡ Err (NoSuchMember 4)
  pub no_type : leads (codes "M.s.f.x") ≡ Err (NoSuchType 6)
  -- outside the bounds of each dimension, on both sides, and far outside; a dimension without its number, and a number without its dimension
  pub below_first : leads (codes "M.s.r[-3,1]") ≡ Err (NoSuchNumber 2 6)
  pub above_first : leads (codes "M.s.r[0,1]") ≡ Err (NoSuchNumber 2 6)
  pub below_second : leads (codes "M.s.r[-2,0]") ≡ Err (NoSuchNumber 3 9)
  pub above_second : leads (codes "M.s.r[-2,4]") ≡ Err (NoSuchNumber 3 9)
  pub far_above : leads (codes "M.s.r[99999999999,1]") ≡ Err (NoSuchNumber 2 6)
  pub far_below : leads (codes "M.s.r[-99999999999,1]") ≡ Err (NoSuchNumber 2 6)
  pub one_missing : leads (codes "M.s.r[-2]") ≡ Err (WrongDimensions 9 2)
  pub member_of_row : leads (codes "M.s.r[-2].y") ≡ Err (WrongDimensions 10 2)
  pub member_of_array : leads (codes "M.s.r.y") ≡ Err (WrongDimensions 6 2)
  pub no_array : leads (codes "M.s.n[1]") ≡ Err (WrongDimensions 6 0)
  -- static, a property, a reference, below a bit, whatever the part is, below a reference, through a data type that is one; above 32 bits; a type that is its own
  pub static_member : leads (codes "M.s.s") ≡ Err (NoOffset 4 0x20000)
  pub property_member : leads (codes "M.s.p") ≡ Err (NoOffset 4 0x40)
  pub reference_member : leads (codes "M.s.q.y") ≡ Err (NoOffset 4 0x4)
  pub below_bit : leads (codes "b.f") ≡ Err (NoOffset 2 0x2)
  pub below_bit_first : leads (codes "b[") ≡ Err (NoOffset 2 0x2)
  pub below_reference : leads (codes "e.f") ≡ Err (NoOffset 2 0x4)
  pub reference_type : leads (codes "t.y") ≡ Err (NoOffset 2 0x4)
  pub too_large : leads (codes "h.f") ≡ Err (OffsetTooLarge 4294967299)
  pub in_circles : leads (codes "c.f") ≡ Err (TooManyAliases 2)
  -- of two faults the one that is met first: a text that is no part, before a type that is its own; a reference, before its offset above 32 bits
  pub no_part_first : leads (codes "c..") ≡ Err (BadPath 2)
  pub reference_first : leads (codes "h.q") ≡ Err (NoOffset 2 0x4)
