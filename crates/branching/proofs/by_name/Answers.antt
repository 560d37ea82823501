use Rattle.std.proofs.Common.{ℕ, ◌≡◌, List, Ok, Err, sym, ap, ◌∙◌, length}
use Rattle.branching.specs.Ordered.{IfRefused, by_name}
use Rattle.branching.proofs.Laws.{passed_on, cut, roomless, built, unbuilt}
use Rattle.branching.proofs.by_name.Goals as goal

pub returns-in_err-room-clause-refused : goal.returns-in_err-room-clause-refused
returns-in_err-room-clause-refused c =
    passed_on _ _ (λ e. IfRefused e (λ why. by_name c.args.upload.now ≡ Err why)) c.from_residual.ensures.1 (roomless c.args.upload.now _ (sym c.in_err-room.ensures))

pub returns-in_err-count-clause-refused : goal.returns-in_err-count-clause-refused
returns-in_err-count-clause-refused c =
    passed_on _ _ (λ e. IfRefused e (λ why. by_name c.args.upload.now ≡ Err why)) c.from_residual-in_err-count.ensures.1
    (unbuilt c.args.upload.now c.as_mut_slice.result.now c.build.new.slots c.in_ok-room.room _ (sym c.in_ok-room.ensures) (c.as_mut_slice.ensures.len ∙ c.in_ok-slots.ensures.len) c.in_err-count.ensures)

pub returns-clause-ok : goal.returns-clause-ok
returns-clause-ok c =
    built c.args.upload.now c.as_mut_slice.result.now c.build.new.slots c.in_ok-count.count c.in_ok-count.ensures ∙ ap (λ (l : List ℕ). Ok l) (sym (c.truncate.ensures.items ∙ cut c.in_ok-count.count c.in_ok-slots.slots.len c.build.new.slots c.in_ok-slots.slots.items (c.build.auto.slots ∙ ap length c.as_mut_slice.ensures.value) (sym (ap length c.as_mut_slice.ensures.value) ∙ c.as_mut_slice.ensures.len)))
