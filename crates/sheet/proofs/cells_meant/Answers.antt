use Rattle.sheet.proofs.Meant as proved
use Rattle.sheet.proofs.cells_meant.Goals as goal

pub returns : goal.returns
returns c = proved.cells_meant
