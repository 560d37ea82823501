use Rattle.std.proofs.Common.{◌≡◌, drop}
use Rattle.wording.specs.Text.{shown_width, widths_on}
use Rattle.wording.proofs.strings.shown_width.Given as goal

abbrev pub invariant-loop-b : goal.invariant-loop-b
invariant-loop-b l = widths_on l.width (drop l.b-index l.text) ≡ shown_width l.text
