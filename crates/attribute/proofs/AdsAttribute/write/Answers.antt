use Rattle.std.proofs.Common.{rules, ◌≡◌, Err, sym, ◌∙◌}
use Rattle.le.proofs.Laws.{after}
use Rattle.writing.proofs.Laws.{refuses, too_small, done}
use Rattle.attribute.specs.Writing.{attribute_bytes}
use Rattle.attribute.proofs.Written.{length_bytes, passes, refused}
use Rattle.attribute.proofs.AdsAttribute.write.Goals as goal

pub returns-in_err-check_lengths : goal.returns-in_err-check_lengths
returns-in_err-check_lengths c =
    let e : c.from_residual.result ≡ Err c.in_err-check_lengths.field-0.0 = search rules in
    simp e (refuses (refused _ (sym c.check_lengths.ensures.value ∙ c.in_err-check_lengths.was)))

pub returns-then-lent-needed : goal.returns-then-lent-needed
returns-then-lent-needed c = too_small (passes _ (sym c.check_lengths.ensures.value ∙ c.in_ok-check_lengths.was)) (length_bytes _) c.if-lent-needed.true

pub returns : goal.returns
unfolding attribute_bytes
returns c =
    done (passes _ (sym c.check_lengths.ensures.value ∙ c.in_ok-check_lengths.was))
    (after c.put_u8-a.ensures (after c.put_u8-b.ensures (after c.put_bytes-c.ensures (after c.put_u8-d.ensures (after c.put_bytes-e.ensures c.put_u8.ensures)))))
