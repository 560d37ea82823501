use Rattle.std.proofs.Common.{◌++◌, ap, ◌∙◌}
use Rattle.std.specs.List.{flat_map}
use Rattle.report.proofs.Going.{of_text, two}
use Rattle.type_table.specs.declared.table.Columns.{Columns}
use Rattle.type_table.specs.Table.{fitted_on, head_text, row_line, rows_at, type_table}
use Rattle.type_table.proofs.table.write_type.Goals as goal

pub returns : goal.returns
unfolding type_table
returns g c =
    let u = c.args.upload.now in
    let n = c.args.root.now in
    of_text _ _ _ _ (two _ _ _ _ _ c.in_ok-write_head.ensures c.in_ok-write_node.ensures)
    (ap (λ (k : Columns). head_text u k ++ flat_map (row_line k) (rows_at u.mode n)) (c.fit_node.ensures ∙ ap (λ (k : Columns). fitted_on k (rows_at u.mode n)) c.new-columns.ensures))
