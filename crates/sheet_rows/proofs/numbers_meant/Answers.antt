use Rattle.sheet_rows.proofs.NumbersRead as proved
use Rattle.sheet_rows.proofs.numbers_meant.Goals as goal

pub returns : goal.returns
returns c = proved.numbers_meant
