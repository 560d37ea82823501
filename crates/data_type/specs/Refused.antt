-- docs/FORMAT.md, "Data type entries": by which refusal bytes are refused that do not stand as a data type: exactly by the first that is met, with its figures.
use Rattle.std.specs.Prelude.{ℕ, suc, ◌+◌, ◌<◌, ◌≤◌, ◌≡◌, List, Err, length}
use Rattle.std.specs.Borrow.{Bor}
use Rattle.le.specs.Le.{le2, le4}
use Rattle.part.specs.Slice.{part, after}
use Rattle.refusal.specs.EndsMeant.{FirstNot}
use Rattle.refusal.specs.declared.Mode.{Mode}
use Rattle.refusal.specs.declared.Mode.TheVariants.{Checked}
use Rattle.refusal.specs.declared.Refusal.{Refusal}
use Rattle.refusal.specs.declared.Refusal.TheVariants.{TooShort, EntryLengthMismatch, ClaimBelowHeader, TooLarge, TooDeep, EndByte}
use Rattle.walk.specs.Step.{parse_of}
use Rattle.field.specs.Field.{field_of}
use Rattle.data_type.specs.declared.AdsDataTypeInfo.{AdsDataTypeInfo}
use Rattle.data_type.specs.declared.members.Member.{Member}
use Rattle.data_type.specs.declared.members.Position.{Position}
use Rattle.data_type.specs.DataType.{type_of}
use Rattle.data_type.specs.List.{members_written}
use Rattle.field.specs.Modes.{strings_end, string_bytes}
use Rattle.data_type.specs.Layout.{arrays_end, HasStrings}
use Rattle.data_type.specs.Stand.{Entry, Items, Stand}

-- an entry in its own bytes; or so many sub-items at the start of some bytes
pub data Asked : Type 0 where
  Whole : Bor (List ℕ) → Asked
  Many : Bor (List ℕ) → ℕ → Asked

-- what stands at the start of some bytes has a claim of 42 bytes or more, which are there
pub record Claims (s : Bor (List ℕ)) : Type 0 where
  pub least : 42 ≤ le4 s.now 0
  pub room : le4 s.now 0 ≤ length s.now

-- of an entry at a depth
pub data IsRefused (mode : Mode) : ℕ → Asked → Refusal → Type 0 where
  -- strings that leave the entry, and then, in the checked mode, the first of their end bytes that is not 0; array records that leave the entry, by the place of their end;
  -- then its sub-items; then what stands behind these, as a field's
  strings : {depth : ℕ} {e : Bor (List ℕ)} → 42 ≤ length e.now → length e.now < strings_end e.now → IsRefused mode depth (Whole e) (EntryLengthMismatch (strings_end e.now) (length e.now))
  ends : {depth : ℕ} {e : Bor (List ℕ)} (b : ℕ × ℕ) → mode ≡ Checked → strings_end e.now ≤ length e.now → FirstNot (string_bytes e.now) b → IsRefused mode depth (Whole e) (EndByte b.0 b.1)
  arrays : {depth : ℕ} {e : Bor (List ℕ)} → HasStrings mode e → length e.now < arrays_end e.now → IsRefused mode depth (Whole e) (EntryLengthMismatch (arrays_end e.now) (length e.now))
  items : {depth : ℕ} {e : Bor (List ℕ)} {why : Refusal} → HasStrings mode e → arrays_end e.now ≤ length e.now → IsRefused mode depth (Many (after e (arrays_end e.now)) (le2 e.now 40)) why
      → IsRefused mode depth (Whole e) why
  sections : {depth : ℕ} {e : Bor (List ℕ)} {why : Refusal} (p : Position) (end : ℕ) (rest : Bor (List ℕ)) (ms : List Member) → p.depth ≡ depth → HasStrings mode e → arrays_end e.now ≤ length e.now
      → Stand mode p end (Items (after e (arrays_end e.now)) (le2 e.now 40) rest ms) → field_of mode e ≡ Err why → IsRefused mode depth (Whole e) why
  -- a sub-item below depth 16, whatever it is; else fewer than 4 bytes; a claim that leaves the parent; one below the header; then as an entry one level deeper
  deep : {s : Bor (List ℕ)} {left : ℕ} → IsRefused mode 16 (Many s (suc left)) TooDeep
  few : {depth : ℕ} {s : Bor (List ℕ)} {left : ℕ} → depth < 16 → length s.now < 4 → IsRefused mode depth (Many s (suc left)) (TooShort 4 (length s.now))
  outside : {depth : ℕ} {s : Bor (List ℕ)} {left : ℕ} → depth < 16 → 4 ≤ length s.now → length s.now < le4 s.now 0
      → IsRefused mode depth (Many s (suc left)) (EntryLengthMismatch (le4 s.now 0) (length s.now))
  below : {depth : ℕ} {s : Bor (List ℕ)} {left : ℕ} → depth < 16 → 4 ≤ length s.now → le4 s.now 0 ≤ length s.now → le4 s.now 0 < 42
      → IsRefused mode depth (Many s (suc left)) (ClaimBelowHeader 42 (le4 s.now 0))
  first : {depth : ℕ} {s : Bor (List ℕ)} {left : ℕ} {why : Refusal} → depth < 16 → Claims s → IsRefused mode (depth + 1) (Whole (part s 0 (le4 s.now 0))) why
      → IsRefused mode depth (Many s (suc left)) why
  -- or one behind it, where it stands
  later : {depth : ℕ} {s : Bor (List ℕ)} {left : ℕ} {why : Refusal} (p : Position) (end : ℕ) (info : AdsDataTypeInfo) (held : List Member) → depth < 16 → p.depth ≡ depth + 1 → Claims s
      → Stand mode p end (Entry (part s 0 (le4 s.now 0)) info held) → IsRefused mode depth (Many (after s (le4 s.now 0)) left) why → IsRefused mode depth (Many s (suc left)) why

-- what is read from the start of some bytes: above the limit; fewer bytes than a header; a claim that leaves them; one below the header; then as an entry at depth 1
pub data IsRootRefused (mode : Mode) (s : Bor (List ℕ)) : Refusal → Type 0 where
  large : 16777216 < length s.now → IsRootRefused mode s (TooLarge (length s.now))
  short : length s.now < 42 → IsRootRefused mode s (TooShort 42 (length s.now))
  outside : length s.now ≤ 16777216 → 42 ≤ length s.now → length s.now < le4 s.now 0 → IsRootRefused mode s (EntryLengthMismatch (le4 s.now 0) (length s.now))
  below : length s.now ≤ 16777216 → 42 ≤ length s.now → le4 s.now 0 ≤ length s.now → le4 s.now 0 < 42 → IsRootRefused mode s (ClaimBelowHeader 42 (le4 s.now 0))
  entry : {why : Refusal} → length s.now ≤ 16777216 → Claims s → IsRefused mode 1 (Whole (part s 0 (le4 s.now 0))) why → IsRootRefused mode s why

-- exactly by that it is refused, and by that the list of its members
pub record TypesRefused : Type 0 where
  pub refuses : (mode : Mode) (s : Bor (List ℕ)) (why : Refusal) → IsRootRefused mode s why → (parse_of 42 (type_of mode) s ≡ Err why) × (members_written mode s ≡ Err why)
  pub refused : (mode : Mode) (s : Bor (List ℕ)) (why : Refusal) → parse_of 42 (type_of mode) s ≡ Err why → IsRootRefused mode s why
