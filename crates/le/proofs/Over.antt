-- A part of a buffer that was written over, as the record that a contract cites.
use Rattle.std.proofs.Common.{ℕ, ◌+◌, ◌-◌, ◌≤◌, ◌≡◌, sym, ap, ◌∙◌, List, length, take, drop, append_assoc, arith}
use borrow.Rule.Slice.PartMut.{put_mid, post_of, Post-is}
use Rattle.le.specs.Put.{put, Wrote}
use Rattle.le.proofs.Laws.{wrote}

pub wrote_over : {old bs new : List ℕ} {at next : ℕ} → new ≡ bs → next ≡ at + length bs → next ≤ length old → Wrote old at bs (put_mid at (next - at) old new) next
unfolding put
wrote_over {old} {bs} {new} {at} {next} is end room =
    let rest : post_of at (next - at) old ≡ drop (at + length bs) old = Post-is at next old (omega arith) ∙ ap (λ (k : ℕ). drop k old) end in
    let all : put_mid at (next - at) old new ≡ put old at bs = simp (is, rest) (sym (append_assoc (take at old) bs (drop (at + length bs) old))) in
    wrote all end (omega arith)
