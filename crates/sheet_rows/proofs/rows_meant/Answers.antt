use Rattle.sheet_rows.proofs.RowsRead as proved
use Rattle.sheet_rows.proofs.rows_meant.Goals as goal

pub returns : goal.returns
returns c = proved.rows_meant
