use Rattle.sheet.proofs.Exports as proved
use Rattle.sheet.proofs.exports_meant.Goals as goal

pub returns : goal.returns
returns c = proved.exports_meant
