use Rattle.symbols_damaged.proofs.Listed.{listed_by_rows}
use Rattle.symbols_damaged.proofs.listed_by_rows.Goals as goal

pub returns : goal.returns
returns c = listed_by_rows
