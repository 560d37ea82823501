use Rattle.std.proofs.Common.{◌≡◌, List, ℕ, ◌++◌, codes, ap, sym, ◌∙◌, append_assoc}
use Rattle.std.specs.List.{flat_map}
use Rattle.report.specs.declared.table.Columns.{Columns}
use Rattle.report.specs.Report.{upload_text}
use Rattle.report.specs.Table.{headings_text, line_text}
use Rattle.report.proofs.Going.{three}
use Rattle.branching.specs.Lines.{entries_at, table}
use Rattle.branching.proofs.write_table.Goals as goal

pub returns-clause-text : goal.returns-clause-text
unfolding table
returns-clause-text g c =
    let u = c.args.upload.now in
    let ps = entries_at u c.args.starts.now in
    let k = c.columns_of-columns.result in
    let one : (upload_text u ++ codes "\n") ++ ((headings_text k ++ codes "\n") ++ flat_map (line_text k) ps) ≡ (upload_text u ++ (codes "\n" ++ (headings_text k ++ codes "\n"))) ++ flat_map (line_text k) ps
    = sym (append_assoc (upload_text u ++ codes "\n") (headings_text k ++ codes "\n") (flat_map (line_text k) ps)) ∙ ap (λ (t : List ℕ). t ++ flat_map (line_text k) ps) (append_assoc (upload_text u) (codes "\n") (headings_text k ++ codes "\n")) in
    three _ _ _ _ _ _ _ _ c.in_ok-writeln.ensures.bytes c.in_ok-write_headings.ensures c.in_ok-tally.ensures.text
    (one ∙ ap (λ (x : Columns). (upload_text u ++ (codes "\n" ++ (headings_text x ++ codes "\n"))) ++ flat_map (line_text x) ps) c.columns_of-columns.ensures)
