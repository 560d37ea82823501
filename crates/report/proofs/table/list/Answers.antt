use Rattle.std.proofs.Common.{◌++◌, codes, ap}
use Rattle.std.specs.List.{flat_map}
use Rattle.symbol.specs.Symbol.{symbol_of}
use Rattle.walk.specs.Pieces.{pieces}
use Rattle.report.specs.declared.table.Columns.{Columns}
use Rattle.report.specs.Report.{upload_text}
use Rattle.report.specs.Table.{headings_text, line_text, table_text}
use Rattle.report.proofs.Going.{of_text, two}
use Rattle.report.proofs.table.list.Goals as goal

pub returns-clause-text : goal.returns-clause-text
unfolding table_text
returns-clause-text g c =
    let u = c.args.upload.now in
    of_text _ _ _ _ (two _ _ _ _ _ c.in_ok-write_head.ensures c.in_ok-tally.ensures.text)
    (ap (λ (k : Columns). (upload_text u ++ (codes "\n" ++ (headings_text k ++ codes "\n"))) ++ flat_map (line_text k) (pieces (symbol_of u.mode) u.bytes)) c.columns_of-columns.ensures)
