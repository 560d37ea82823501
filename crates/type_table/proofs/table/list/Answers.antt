use Rattle.std.proofs.Common.{◌++◌, ap}
use Rattle.std.specs.List.{flat_map}
use Rattle.walk.specs.Pieces.{pieces}
use Rattle.data_type.specs.DataType.{type_of}
use Rattle.report.proofs.Going.{of_text, two}
use Rattle.type_table.specs.declared.table.Columns.{Columns}
use Rattle.type_table.specs.Table.{head_text, piece_lines, table_text}
use Rattle.type_table.proofs.table.list.Goals as goal

pub returns-clause-text : goal.returns-clause-text
unfolding table_text
returns-clause-text g c =
    let u = c.args.upload.now in
    of_text _ _ _ _ (two _ _ _ _ _ c.in_ok-write_head.ensures c.in_ok-counts.ensures.text)
    (ap (λ (k : Columns). head_text u k ++ flat_map (piece_lines u.mode k) (pieces (type_of u.mode) u.bytes)) c.columns_of-columns.ensures)
