use Rattle.sheet.proofs.Meant as proved
use Rattle.sheet.proofs.admitted_meant.Goals as goal

pub returns : goal.returns
returns c = proved.admitted_meant
