use Rattle.sheet_import.proofs.Meaning as proved
use Rattle.sheet_import.proofs.imports_meant.Goals as goal

pub returns : goal.returns
returns c = proved.imports_meant
