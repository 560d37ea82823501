use Rattle.sheets_back.proofs.Again as proved
use Rattle.sheets_back.proofs.sheets_again.Goals as goal

pub returns : goal.returns
returns c = proved.sheets_again
