-- docs/FORMAT.md, "Binding": a second controller, byte by byte, for what is long, large or many: paths, offsets, bounds, types one behind another, arrays of arrays.
use Rattle.std.specs.Prelude.{ℕ, ◌+◌, ◌≡◌, List, [], ◌∷◌, ◌++◌, codes, Result, Err}
use Rattle.std.specs.List.{flat_map}
use Rattle.refusal.specs.declared.Refusal.{Refusal}
use Rattle.refusal.specs.declared.Refusal.TheVariants.{NoSuchNumber, BadPath, NoOffset, OffsetTooLarge, TooManyAliases}
use Rattle.bind.specs.declared.reading.Place.TheVariants.{Symbol, DataType}
use Rattle.bind.specs.Entries.{symbol, entry, Told, at, Controller, leads_in}

abbrev symbols : List ℕ
symbols =
    symbol (codes "MAIN.fbNext") (codes "NODE") [] 1 0x12345678 160040 0
    ++ symbol (codes "t") (codes "B") [] 2 50 7 0
    ++ symbol (codes "u") (codes "A") [] 3 60 7 0
    ++ symbol (codes "l") (codes "LA") [] 4 1000 400000 0
    ++ symbol (codes "x") (codes "XA") [] 5 1 0xFFFFFFFF 0
    ++ symbol (codes "z") (codes "XA") [] 6 2 0xFFFFFFFF 0
    ++ symbol (codes "o") (codes "OA") [] 7 70 6 0
    ++ symbol (codes "v") (codes "V") [] 8 80 16 0
    ++ symbol (codes "w") (codes "S") [] 9 90 20 0
    ++ symbol (codes "f") (codes "FL") [] 10 100 8 0
    ++ symbol (codes "d") (codes "FL") [] 11 110 1 6
    ++ symbol (codes "M.pLens") (codes "POINTER TO ST") [] 12 600 8 0
    ++ symbol (codes "y") (codes "ST") [] 13 700 60 0

-- A is B, and so on up to Q
abbrev aliases : List ℕ
aliases = flat_map (λ (letter : ℕ). entry (letter ∷ []) ((letter + 1) ∷ []) [] 7 0 0 [] []) (codes "ABCDEFGHIJKLMNOP")

-- a type that has itself as a member, and an array of two of itself; the aliases; arrays over many numbers, over all of a DINT, over its end; an array of two arrays
-- of two, and of one array from 5 to 9; members with more than one flag; a pointer by the name of its type, and what it points to, with pointers by their own flags: one of
-- the PLC, one to an interface that is not there, and an array of two
abbrev types : List ℕ
types =
    entry (codes "NODE") [] [] 160040 0 0 [] (entry (codes "next") (codes "NODE") [] 160040 3 0 [] [] ∷ entry (codes "list") (codes "NODE") [] 80 70000 0 ((0, 2) ∷ []) [] ∷ entry (codes "value") (codes "INT") [] 2 9 0 [] [] ∷ [])
    ++ aliases
    ++ entry (codes "Q") [] [] 7 0 0 [] (entry (codes "y") (codes "INT") [] 2 5 0 [] [] ∷ [])
    ++ entry (codes "LA") (codes "INT") [] 400000 0 0 ((4294867296, 200000) ∷ []) []
    ++ entry (codes "XA") (codes "BYTE") [] 0xFFFFFFFF 0 0 ((0x80000000, 0xFFFFFFFF) ∷ []) []
    ++ entry (codes "OA") (codes "INT") [] 6 0 0 ((0x7FFFFFFF, 3) ∷ []) []
    ++ entry (codes "V") (codes "W") [] 16 0 0 ((0, 2) ∷ []) []
    ++ entry (codes "W") (codes "DINT") [] 8 0 0 ((0, 2) ∷ []) []
    ++ entry (codes "S") (codes "U") [] 20 0 0 ((0, 1) ∷ []) []
    ++ entry (codes "U") (codes "DINT") [] 20 0 0 ((5, 5) ∷ []) []
    ++ entry (codes "FL") [] [] 8 0 0 [] (entry (codes "a") (codes "INT") [] 2 0 0x20044 [] [] ∷ entry (codes "b") (codes "INT") [] 2 0 0x20040 [] [] ∷ [])
    ++ entry (codes "POINTER TO ST") (codes "ST") [] 8 0 0x800001 [] []
    ++ entry (codes "ST") [] [] 60 0 0 [] (entry (codes "fEnd") (codes "REAL") [] 4 24 0 [] [] ∷ entry (codes "p") (codes "ST") [] 8 28 0x800000 [] [] ∷ entry (codes "i") (codes "none") [] 8 36 0x800400 [] [] ∷ entry (codes "a") (codes "ST") [] 16 44 0x800000 ((0, 2) ∷ []) [] ∷ [])

abbrev edges : Controller
edges =
    record {
      symbols = symbols;
      symbol_starts = (codes "MAIN.fbNext", 0) ∷ (codes "t", 48) ∷ (codes "u", 83) ∷ (codes "l", 118) ∷ (codes "x", 154) ∷ (codes "z", 190) ∷ (codes "o", 226) ∷ (codes "v", 262) ∷ (codes "w", 297) ∷ (codes "f", 332) ∷ (codes "d", 368) ∷ (codes "M.pLens", 404) ∷ (codes "y", 457) ∷ [];
      types = types;
      type_starts = (codes "NODE", 0) ∷ (codes "A", 216) ∷ (codes "B", 263) ∷ (codes "C", 310) ∷ (codes "D", 357) ∷ (codes "E", 404) ∷ (codes "F", 451) ∷ (codes "G", 498)
          ∷ (codes "H", 545) ∷ (codes "I", 592) ∷ (codes "J", 639) ∷ (codes "K", 686) ∷ (codes "L", 733) ∷ (codes "M", 780) ∷ (codes "N", 827) ∷ (codes "O", 874) ∷ (codes "P", 921)
          ∷ (codes "Q", 968) ∷ (codes "LA", 1063) ∷ (codes "XA", 1121) ∷ (codes "OA", 1180) ∷ (codes "V", 1238) ∷ (codes "W", 1293) ∷ (codes "S", 1351) ∷ (codes "U", 1406) ∷ (codes "FL", 1464) ∷ (codes "POINTER TO ST", 1609) ∷ (codes "ST", 1669) ∷ [];
    }

abbrev leads : List ℕ → Result Told Refusal
leads path = leads_in edges path

pub record EdgesBound : Type 0 where
  -- 43 bytes and seven parts: 0x12345678 + 3 + 70000 + 40 + 3 + 70000 + 9
  pub seven_parts : leads (codes "MAIN.fbNext.next.list[1].next.list[0].value") ≡ at 1 305559951 0 2 (codes "INT") (DataType 163)
  pub last_of_seven : leads (codes "MAIN.fbNext.next.list[1].next.list[0].[") ≡ Err (BadPath 38)
  -- fifteen types that only name the next, and one that has members; and one more
  pub sixteen_types : leads (codes "t.y") ≡ at 2 55 0 2 (codes "INT") (DataType 1014)
  pub seventeen_types : leads (codes "u.y") ≡ Err (TooManyAliases 2)
  -- from -100000 on, two bytes each
  pub far_element : leads (codes "l[70000]") ≡ at 4 341000 0 2 (codes "INT") (DataType 1063)
  pub far_element_below : leads (codes "l[-70000]") ≡ at 4 61000 0 2 (codes "INT") (DataType 1063)
  pub past_last : leads (codes "l[100000]") ≡ Err (NoSuchNumber 200000 2)
  -- from the least of 32 bits with a sign on, a byte each, up to the last offset; behind it
  pub least : leads (codes "x[-2147483648]") ≡ at 5 1 0 1 (codes "BYTE") (DataType 1121)
  pub last_offset : leads (codes "x[2147483646]") ≡ at 5 0xFFFFFFFF 0 1 (codes "BYTE") (DataType 1121)
  pub past_last_offset : leads (codes "z[2147483646]") ≡ Err (OffsetTooLarge 4294967296)
  pub below_least : leads (codes "x[-2147483649]") ≡ Err (NoSuchNumber 0xFFFFFFFF 2)
  -- from the largest of 32 bits with a sign on
  pub over_largest : leads (codes "o[2147483649]") ≡ at 7 74 0 2 (codes "INT") (DataType 1180)
  -- an array of arrays whose array records are alike, the sizes not; and whose sizes are alike, the array records not
  pub arrays_alike : leads (codes "v[1][1]") ≡ at 8 92 0 4 (codes "DINT") (DataType 1293)
  pub sizes_alike : leads (codes "w[0][7]") ≡ at 9 98 0 4 (codes "DINT") (DataType 1406)
  pub inner_left : leads (codes "v[1]") ≡ at 8 88 0 8 (codes "W") (DataType 1238)
  -- of more than one flag
  pub reference_first : leads (codes "f.a") ≡ Err (NoOffset 2 0x4)
  pub property_before_static : leads (codes "f.b") ≡ Err (NoOffset 2 0x40)
  pub bit_before_reference : leads (codes "d.a") ≡ Err (NoOffset 2 0x2)
  -- a pointer has its address, and nothing below it; neither has a member that is one by its own flags, of which the lowest is told, before its type is looked for; nor an element
  pub pointer_alone : leads (codes "M.pLens") ≡ at 12 600 0 8 (codes "POINTER TO ST") (Symbol 404)
  pub below_pointer : leads (codes "M.pLens.fEnd") ≡ Err (NoOffset 8 0x800000)
  pub number_of_pointer : leads (codes "M.pLens[0]") ≡ Err (NoOffset 8 0x800000)
  pub pointer_member : leads (codes "y.p") ≡ at 13 728 0 8 (codes "ST") (DataType 1769)
  pub below_pointer_member : leads (codes "y.p.fEnd") ≡ Err (NoOffset 4 0x800000)
  pub below_interface : leads (codes "y.i.fEnd") ≡ Err (NoOffset 4 0x400)
  pub pointer_element : leads (codes "y.a[1]") ≡ at 13 752 0 8 (codes "ST") (DataType 1867)
  pub below_pointer_element : leads (codes "y.a[1].fEnd") ≡ Err (NoOffset 7 0x800000)
