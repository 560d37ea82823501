-- docs/FORMAT.md, "Data type entries", as a layout: what stands where in the bytes of an entry that is read, whatever the reader looks at first. Refused.antt says
-- what is refused, and in which order.
use Rattle.std.specs.Prelude.{ℕ, suc, ◌+◌, ◌-◌, ◌≤◌, ◌≡◌, List, [], ◌∷◌, ◌++◌, replicate, set, Ok, length}
use Rattle.std.specs.Borrow.{Bor}
use Rattle.le.specs.Le.{le2, le4}
use Rattle.part.specs.Slice.{part, after}
use Rattle.refusal.specs.declared.Mode.{Mode}
use Rattle.walk.specs.Step.{parse_of}
use Rattle.field.specs.declared.tail.Tail.{Tail}
use Rattle.field.specs.Tail.{tail_of}
use Rattle.data_type.specs.declared.AdsDataTypeInfo.{AdsDataTypeInfo}
use Rattle.data_type.specs.declared.members.Member.{Member}
use Rattle.data_type.specs.declared.members.Position.{Position}
use Rattle.data_type.specs.DataType.{type_of}
use Rattle.data_type.specs.Layout.{arrays_end, HasStrings, front, record_of}
use Rattle.data_type.specs.Members.{members_of}

-- the position of the entry itself; and that of a sub-item at a place of it, one level deeper: the place is the last of its path, and its offset is added
abbrev pub start : Position
start = record { path = replicate 15 0; depth = 1; offset = 0 }

abbrev pub under : Position → ℕ → ℕ → Position
under p place offset = record { path = set p.path (p.depth - 1) place; depth = p.depth + 1; offset = p.offset + offset }

-- an entry in its own bytes, with its members; or so many sub-items at the start of some bytes, with what stands behind them and the members that they bring
pub data What : Type 0 where
  Entry : Bor (List ℕ) → AdsDataTypeInfo → List Member → What
  Items : Bor (List ℕ) → ℕ → Bor (List ℕ) → List Member → What

-- at the position of the entry, whose bytes end at a place of the root
pub data Stand (mode : Mode) : Position → ℕ → What → Type 0 where
  -- the header and the strings, 8 bytes for each array record, the sub-items, and behind them what a field has
  entry : {p : Position} {end : ℕ} {e : Bor (List ℕ)} {ms : List Member} (rest : Bor (List ℕ)) (t : Tail)
      → HasStrings mode e
      → arrays_end e.now ≤ length e.now
      → Stand mode p end (Items (after e (arrays_end e.now)) (le2 e.now 40) rest ms)
      → tail_of mode (front e) rest ≡ Ok t
      → Stand mode p end (Entry e (record_of e t (length ms)) ms)
  none : {p : Position} {end : ℕ} {s : Bor (List ℕ)} → Stand mode p end (Items s 0 s [])
  -- a sub-item claims 42 bytes or more, which are there; it is an entry one level deeper, to a depth of 16, and the next stands behind it
  item : {p : Position} {end left : ℕ} {s rest : Bor (List ℕ)} {more : List Member} (info : AdsDataTypeInfo) (held : List Member)
      → p.depth + 1 ≤ 16
      → 42 ≤ le4 s.now 0
      → le4 s.now 0 ≤ length s.now
      → Stand mode (under p (end - length s.now) (le4 s.now 20)) (end - length s.now + le4 s.now 0) (Entry (part s 0 (le4 s.now 0)) info held)
      → Stand mode p end (Items (after s (le4 s.now 0)) left rest more)
      → Stand mode p end (Items s (suc left) rest (record { position = under p (end - length s.now) (le4 s.now 20); own = part s 0 (le4 s.now 0) } ∷ (held ++ more)))

-- the bytes begin with an entry that stands at depth 1
pub record IsRoot (mode : Mode) (s : Bor (List ℕ)) (r : AdsDataTypeInfo) (ms : List Member) : Type 0 where
  pub small : length s.now ≤ 16777216
  pub least : 42 ≤ le4 s.now 0
  pub room : le4 s.now 0 ≤ length s.now
  pub stands : Stand mode start (le4 s.now 0) (Entry (part s 0 (le4 s.now 0)) r ms)

-- exactly what stands so is read, and its members are those that stand
pub record TypesStand : Type 0 where
  pub reads : (mode : Mode) (s : Bor (List ℕ)) (r : AdsDataTypeInfo) (ms : List Member) → IsRoot mode s r ms → (parse_of 42 (type_of mode) s ≡ Ok r) × (members_of r ≡ ms)
  pub stood : (mode : Mode) (s : Bor (List ℕ)) (r : AdsDataTypeInfo) → parse_of 42 (type_of mode) s ≡ Ok r → IsRoot mode s r (members_of r)
