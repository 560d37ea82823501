-- How a salvage comes to its promise.
use Prim.Native.Nat.{ℕ, ◌<◌, ◌≤◌}
use native.Mathlib.Omega.{arith}
use mathlib.Core.Path.{◌≡◌, sym, ap, ap₂, ◌∙◌}
use mathlib.Core.List.{List}
use lib.ListN.{length}
use borrow.Author.Tests.{le-ltb, lt-ltb}
use Rattle.std.specs.Prelude.{Result, Ok, Err}
use Rattle.std.specs.Borrow.{Bor}
use Rattle.le.specs.Put.{Wrote}
use Rattle.le.proofs.Laws.{whole_length, whole_is}
use Rattle.refusal.specs.Refusal.{limit}
use Rattle.refusal.specs.declared.Refusal.{Refusal}
use Rattle.refusal.specs.declared.Refusal.TheVariants.{TooLarge, OutputTooSmall}
use Rattle.walk.specs.Pieces.{pieces}
use Rattle.salvage.specs.Both.{Writings, wrote, WritesBoth, OneWritingBoth}
use Rattle.salvage.specs.Salvage.{kept, dropped, salvaging}

pub refuses : {w : Writings} {why : Refusal} {out runs : List ℕ} → w ≡ Err why → WritesBoth w out runs out runs (Err why)
refuses e = record { said = simp e; left_bytes = simp e; left_slots = simp e }

module _ {w : Writings} {bs ns out runs : List ℕ} (e : w ≡ Ok (bs, ns)) where
  pub few_bytes : {needed : ℕ} → length bs ≡ needed → length out < needed → WritesBoth w out runs out runs (Err (OutputTooSmall needed (length out)))
  few_bytes {needed} l h =
      let t = lt-ltb (length out) needed h in
      record { said = simp (e, l, t); left_bytes = simp (e, l, t); left_slots = simp (e, l, t) }

  pub few_slots : {needed : ℕ} → length bs ≤ length out → length ns ≡ needed → length runs < needed → WritesBoth w out runs out runs (Err (OutputTooSmall needed (length runs)))
  few_slots {needed} k l h =
      let t = le-ltb (length out) (length bs) k in
      let u = lt-ltb (length runs) needed h in
      record { said = simp (e, l, t, u); left_bytes = simp (e, l, t, u); left_slots = simp (e, l, t, u) }

  pub both_done : {out' runs' : List ℕ} {bytes slots : ℕ} → Wrote out 0 bs out' bytes → Wrote runs 0 ns runs' slots → WritesBoth w out runs out' runs' (Ok (wrote bytes slots))
  both_done {out'} {runs'} {bytes} {slots} d f =
      let t = le-ltb (length out) (length bs) (omega arith) in
      let u = le-ltb (length runs) (length ns) (omega arith) in
      let m = whole_length d in
      let n = whole_length f in
      record { said = simp (e, t, u) (ap Ok (ap₂ wrote (sym m) (sym n))); left_bytes = simp (e, t, u) (whole_is d); left_slots = simp (e, t, u) (whole_is f) }

pub salvage_large : {R : Type 0} (read : Bor (List ℕ) → Result R Refusal) (s : Bor (List ℕ)) → limit < length s.now → salvaging read s ≡ Err (TooLarge (length s.now))
unfolding salvaging
salvage_large read s h = simp (lt-ltb limit (length s.now) h)

pub salvage_both : {R : Type 0} (read : Bor (List ℕ) → Result R Refusal) (s : Bor (List ℕ)) → length s.now ≤ limit → salvaging read s ≡ Ok (kept s.now (pieces read s), dropped (pieces read s))
unfolding salvaging
salvage_both read s h = simp (le-ltb limit (length s.now) h)

-- what one promise allows is one
pub one_writing_both : OneWritingBoth
one_writing_both w out runs out' runs' out'' runs'' r r' p q = (p.said ∙ sym q.said, p.left_bytes ∙ sym q.left_bytes, p.left_slots ∙ sym q.left_slots)
