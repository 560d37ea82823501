use Rattle.sheets_back.proofs.Entries as proved
use Rattle.sheets_back.proofs.sheets_written.Goals as goal

pub returns : goal.returns
returns c = proved.sheets_written
