use Rattle.std.proofs.Common.{sym, ap, ◌∙◌, length, arith}
use Rattle.le.specs.Put.{put}
use Rattle.le.proofs.Laws.{wrote}
use Rattle.salvage.proofs.Promise.{refuses, few_bytes, few_slots, both_done, salvage_large, salvage_both}
use Rattle.salvage.proofs.Accepted.{kept_alike, dropped_alike}
use Rattle.salvage.proofs.salvage.Goals as goal

pub returns-then-length-gt-LIMIT : goal.returns-then-length-gt-LIMIT
returns-then-length-gt-LIMIT g c = refuses (salvage_large _ _ c.if-length-gt-LIMIT.true)

pub returns-then-lent-needed : goal.returns-then-lent-needed
returns-then-lent-needed g c =
    let bytes = c.measure-needed.ensures.kept_bytes ∙ ap length (kept_alike _ _ _ _) in
    few_bytes (salvage_both _ _ c.if-length-gt-LIMIT.false) (sym bytes) c.if-lent-needed.true

pub returns-then-free-needed : goal.returns-then-free-needed
returns-then-free-needed g c =
    let bytes = c.measure-needed.ensures.kept_bytes ∙ ap length (kept_alike _ _ _ _) in
    let slots = c.measure-needed.ensures.run_slots ∙ ap length (dropped_alike _ _ _ _) in
    few_slots (salvage_both _ _ c.if-length-gt-LIMIT.false) (omega (arith, bytes)) (sym slots) c.if-free-needed.true

pub returns : goal.returns
returns g c =
    let bytes = c.measure-needed.ensures.kept_bytes ∙ ap length (kept_alike _ _ _ _) in
    let slots = c.measure-needed.ensures.run_slots ∙ ap length (dropped_alike _ _ _ _) in
    let out = c.write.ensures.out_after ∙ ap (put c.args.out.now 0) (kept_alike _ _ _ _) in
    let runs = c.write.ensures.runs_after ∙ ap (put c.args.runs.now 0) (dropped_alike _ _ _ _) in
    both_done (salvage_both _ _ c.if-length-gt-LIMIT.false) (wrote out (omega (arith, bytes)) (omega (arith, bytes))) (wrote runs (omega (arith, slots)) (omega (arith, slots)))
