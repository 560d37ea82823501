use Rattle.std.proofs.Common.{◌+◌, ◌∙◌, ap, sym, take, length, arith, length-drop, List, ℕ, ◌∷◌}
use Rattle.captures.specs.Captures.{lines}
use Rattle.captures.proofs.Lines.{lines_first, lines_last, all_left, line_fits, line_goes, line_ends}
use Rattle.captures.proofs.put_upload.Goals as goal

pub loop-end-init : goal.loop-end-init
loop-end-init c = all_left c.args.text.now c.args.upload.now c.requires

pub put_spelt-at-requires : goal.put_spelt-at-requires
put_spelt-at-requires c = line_fits c.loop-end.invariant _ _ (lines_first c.loop-end.rest.now c.in-Some.end c.in-Some.ensures)

pub loop-end-smaller : goal.loop-end-smaller
loop-end-smaller c = omega (arith, ap length c.behind-rest.ensures, length-drop (c.in-Some.end + 1) c.loop-end.rest.now, c.in-Some.ensures.0.high)

pub loop-end-preserved : goal.loop-end-preserved
loop-end-preserved c =
    let next = lines_first c.loop-end.rest.now c.in-Some.end c.in-Some.ensures ∙ ap (λ (l : List ℕ). take c.in-Some.end c.loop-end.rest.now ∷ lines l) (sym c.behind-rest.ensures) in
    line_goes c.loop-end.invariant _ _ (take c.in-Some.end c.loop-end.rest.now) c.behind-rest.result.now c.put_spelt-at.ensures next

pub put_spelt-requires : goal.put_spelt-requires
put_spelt-requires c = line_fits c.loop-end.invariant _ _ (lines_last c.loop-end.rest.now c.in_default.ensures)

pub returns : goal.returns
returns c = line_ends c.loop-end.invariant _ _ c.loop-end.rest.now c.put_spelt.ensures (lines_last c.loop-end.rest.now c.in_default.ensures)
