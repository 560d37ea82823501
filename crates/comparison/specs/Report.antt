-- docs/FORMAT.md, "The command's text", of `compare`: all that is written of two uploads.
use Rattle.std.specs.Prelude.{ℕ, Bool, List, ◌++◌, codes, if◌then◌else◌}
use Rattle.report.specs.declared.Upload.{Upload}
use Rattle.report.specs.Report.{upload_text}
use Rattle.pairing.specs.declared.rows.Row.{Row}
use Rattle.comparison.specs.Counts.{counted_on, counted_text, nothing}
use Rattle.comparison.specs.Entries.{together}
use Rattle.comparison.specs.Json.{json_lines}
use Rattle.comparison.specs.Table.{table_text}

-- what was read, a line each
abbrev pub uploads_text : Upload → Upload → List ℕ
uploads_text u v = codes "A: " ++ (upload_text u ++ (codes "\nB: " ++ (upload_text v ++ codes "\n")))

-- then the table, and how many entries there are
unfoldable pub report_text : Upload → Upload → List Row → List ℕ
report_text u v rows = uploads_text u v ++ (table_text u.mode rows ++ (counted_text (counted_on nothing rows) ++ codes "\n"))

-- as A is read
abbrev pub written_text : Bool → Upload → Upload → List Row → List ℕ
written_text as_json u v rows = if as_json then json_lines u.mode together rows else report_text u v rows
