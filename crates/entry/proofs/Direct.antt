-- A direct parse of just a whole entry, which is what a step meets.
use Rattle.std.proofs.Common.{ℕ, ◌+◌, ◌≤◌, ◌≡◌, sym, ap, ◌∙◌, List, length, Ok, arith, Bor}
use native.Mathlib.Nat.{add-zero}
use lib.Seq.{take-length}
use borrow.Author.Tests.{le-ltb}
use Rattle.le.specs.Le.{le4}
use Rattle.le.proofs.Laws.{length_part, get_d_part}
use Rattle.le.specs.Le as le
use Rattle.part.specs.Slice.{part}
use Rattle.refusal.specs.Refusal.{limit}
use Rattle.entry.specs.Entry.{claim_of}
use Rattle.entry.proofs.Claims.{Meets}

-- all of a slice is that slice
pub part_all : (e : Bor (List ℕ)) → part e 0 (length e.now) ≡ e
part_all e = simp (add-zero, take-length e.now)

pub part_long : (s : Bor (List ℕ)) (at size : ℕ) → at + size ≤ length s.now → length (part s at size).now ≡ size
unfolding le.part
part_long s at size h = length_part s.now at size h

-- the bytes of an entry are those of its claim, where they hold it
pub own_claim : (s : List ℕ) (at size : ℕ) → 4 ≤ size → le4 (le.part s at size) 0 ≡ le4 s at
unfolding le4
own_claim s at size h =
    simp (get_d_part s at size 0 0 (omega arith), get_d_part s at size 1 0 (omega arith), get_d_part s at size 2 0 (omega arith), get_d_part s at size 3 0 (omega arith), add-zero)

module _ (header : ℕ) (s : Bor (List ℕ)) (at size : ℕ) (m : Meets s.now at size) (four : 4 ≤ header) (long : header ≤ size) where
  pub claims_own : claim_of header (part s at size).now ≡ Ok size
  unfolding claim_of le.part
  claims_own =
      let l = part_long s at size m.room in
      let c : le4 (part s at size).now 0 ≡ size = own_claim s.now at size (omega arith) ∙ m.claim in
      simp (
        c,
        l,
        le-ltb limit size (omega (arith, m.room, m.small)),
        le-ltb size header long,
        le-ltb size size (omega arith),
      )

  pub own_again : part (part s at size) 0 size ≡ part s at size
  own_again =
      let l = part_long s at size m.room in
      ap (λ (k : ℕ). part (part s at size) 0 k) (sym l) ∙ part_all (part s at size)

-- an entry that is claimed at the start lies in the bytes
pub room_of : (header : ℕ) (s : List ℕ) (size : ℕ) → claim_of header s ≡ Ok size → size ≤ length s
unfolding claim_of
room_of header s size e = grind arith
