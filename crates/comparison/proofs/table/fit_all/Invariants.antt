use Rattle.std.proofs.Common.{◌≡◌, drop}
use Rattle.comparison.specs.Table.{fits_on}
use Rattle.comparison.proofs.table.fit_all.Given as goal

abbrev pub invariant-loop-line : goal.invariant-loop-line
invariant-loop-line l = fits_on l.fits (drop l.line-index l.lines) ≡ fits_on l.fn.widths l.lines
