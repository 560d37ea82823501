use Rattle.sheet_rows.proofs.SheetRead as proved
use Rattle.sheet_rows.proofs.sheets_meant.Goals as goal

pub returns : goal.returns
returns c = proved.sheets_meant
