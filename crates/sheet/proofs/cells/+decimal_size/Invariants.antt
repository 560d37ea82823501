use Rattle.sheet.proofs.cells.+decimal_size.Given as goal

abbrev pub decreases-decimal_size : goal.decreases-decimal_size
decreases-decimal_size l = l.n
