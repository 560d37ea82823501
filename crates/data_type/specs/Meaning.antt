-- docs/FORMAT.md, "Data type entries": what the members of a data type that is read are, by its bytes, and that all ways to ask for them tell the same.
use Rattle.std.specs.Prelude.{ℕ, ◌+◌, ◌-◌, ◌*◌, ◌<◌, ◌≤◌, ◌≡◌, List, [], ◌∷◌, replicate, Some, Ok, Err, eqb, length, take, drop, get_or, slice_get, if◌then◌else◌}
use Rattle.std.specs.Borrow.{Bor}
use Rattle.le.specs.Le.{le2, le4}
use Rattle.part.specs.Slice.{part, after}
use Rattle.refusal.specs.declared.Mode.{Mode}
use Rattle.refusal.specs.declared.Refusal.TheVariants.{NoSuchNumber}
use Rattle.walk.specs.Step.{parse_of}
use Rattle.data_type.specs.declared.AdsDataTypeInfo.{AdsDataTypeInfo}
use Rattle.data_type.specs.declared.members.Member.{Member}
use Rattle.data_type.specs.declared.members.Position.{Position}
use Rattle.data_type.specs.DataType.{type_of}
use Rattle.data_type.specs.Members.{place_of, members_of, numbered}
use Rattle.data_type.specs.List.{members_written}

-- the places of the entries from depth 2 down
abbrev pub path_of : Position → List ℕ
path_of p = take (p.depth - 1) p.path

-- the sum of the offsets that stand in the headers of the entries at these places
unfoldable pub offsets_at : List ℕ → List ℕ → ℕ
offsets_at s [] = 0
offsets_at s (place ∷ more) = le4 s (place + 20) + offsets_at s more

-- how many members stand at a depth: at depth 2 they are sub-items of the root itself
unfoldable pub among : ℕ → List Member → ℕ
among depth [] = 0
among depth (m ∷ ms) = (if eqb m.position.depth depth then 1 else 0) + among depth ms

-- where an entry stands that the bytes s hold: its path, with zeros behind it, and the sum of the offsets along it
pub record IsAt (s : List ℕ) (p : Position) : Type 0 where
  pub long : length p.path ≡ 15
  pub least : 1 ≤ p.depth
  pub zeros : drop (p.depth - 1) p.path ≡ replicate (16 - p.depth) 0
  pub sum : p.offset ≡ offsets_at s (path_of p)

-- a member of the entry that the bytes begin with: it lies in the entry, at a depth that may be; its own bytes, and those from its place on, are read as one record
pub record IsMember (mode : Mode) (s : Bor (List ℕ)) (m : Member) : Type 0 where
  pub at : IsAt s.now m.position
  pub below : 2 ≤ m.position.depth
  pub deep : m.position.depth ≤ 16
  pub inside : place_of m.position + length m.own.now ≤ le4 s.now 0
  pub own : m.own ≡ part s (place_of m.position) (length m.own.now)
  pub info : AdsDataTypeInfo
  pub read : type_of mode m.own ≡ Ok info
  pub there : parse_of 42 (type_of mode) (after s (place_of m.position)) ≡ Ok info

-- places from one on, each behind the one before, up to another: each member is met once, and behind those that it stands in
unfoldable pub Between : ℕ → ℕ → List Member → Type 0
Between from to [] = from ≤ to
Between from to (m ∷ ms) = (from ≤ place_of m.position) × Between (place_of m.position + 1) to ms

-- what a member lies in at a depth: the last one of that depth that is met up to it, whose place is that entry of its path, from depth 2 on. At its own depth it is itself
pub record LiesIn (ms : List Member) (k : ℕ) (m : Member) (i : ℕ) : Type 0 where
  pub number : ℕ
  pub member : Member
  pub is : slice_get ms number ≡ Some member
  pub depth : member.position.depth ≡ i + 2
  pub met : number ≤ k
  pub last : (j : ℕ) (a : Member) → number < j → j ≤ k → slice_get ms j ≡ Some a → i + 2 < a.position.depth
  pub place : get_or m.position.path i 0 ≡ place_of member.position
  pub begins : place_of member.position ≤ place_of m.position
  pub ends : place_of m.position + length m.own.now ≤ place_of member.position + length member.own.now

-- of one number: the answer to it, and the slots of the one pass
pub record IsAsked (r : AdsDataTypeInfo) (slots : List ℕ) (k : ℕ) (m : Member) : Type 0 where
  pub answer : numbered r k ≡ Ok m
  pub listed : take 3 (drop (3 * k) slots) ≡ place_of m.position ∷ m.position.depth ∷ m.position.offset ∷ []

pub record IsMeant (mode : Mode) (s : Bor (List ℕ)) (r : AdsDataTypeInfo) (ms : List Member) : Type 0 where
  pub arrays : r.arrays.count ≡ le2 s.now 38
  pub items : r.sub_items.count ≡ le2 s.now 40
  pub among : among 2 ms ≡ le2 s.now 40
  pub counted : r.member_count ≡ length ms
  pub order : Between 1 (le4 s.now 0) ms
  pub stands : (k : ℕ) (m : Member) → slice_get ms k ≡ Some m → IsMember mode s m
  pub path : (k : ℕ) (m : Member) → slice_get ms k ≡ Some m → (i : ℕ) → i + 2 ≤ m.position.depth → LiesIn ms k m i
  pub slots : List ℕ
  pub written : members_written mode s ≡ Ok slots
  pub all : length slots ≡ 3 * r.member_count
  pub asked : (k : ℕ) (m : Member) → slice_get ms k ≡ Some m → IsAsked r slots k m
  pub past : (k : ℕ) → r.member_count ≤ k → numbered r k ≡ Err (NoSuchNumber r.member_count k)

abbrev pub TypesMeant : Type 0
TypesMeant = (mode : Mode) (s : Bor (List ℕ)) (r : AdsDataTypeInfo) → parse_of 42 (type_of mode) s ≡ Ok r → IsMeant mode s r (members_of r)
