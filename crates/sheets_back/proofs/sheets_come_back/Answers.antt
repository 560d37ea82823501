use Rattle.sheets_back.proofs.Trip as proved
use Rattle.sheets_back.proofs.sheets_come_back.Goals as goal

pub returns : goal.returns
returns c = proved.sheets_come_back
