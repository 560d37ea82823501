-- What is written of the sample: antt computes what the definitions say of it.
use Rattle.std.proofs.Common.{refl}
use Rattle.std.specs.Fmt.{digits}
use Rattle.text.specs.Text.{code_point}
use Rattle.wording.specs.Text.{quoted, shown, shown_width, widths_on}
use Rattle.wording.specs.Wording.{grouped_by, grouped, many, bytes, figure, refusal_text}
use Rattle.report.specs.Cells.{hexadecimal_cell, name_cell}
use Rattle.bind_report.specs.Words.{reason_text, part_from}
use Rattle.bind_report.specs.Json as json
use Rattle.bind_report.specs.Json.{json_line, figures_text}
use Rattle.bind_report.specs.Table as table
use Rattle.bind_report.specs.Table.{offset_text, size_text, widths_of, widest, fitted, fitted_on, headings_text, offset_cell, size_cell, line_text}
use Rattle.bind_report.specs.Sample.{PathsSampled}

pub paths_sampled : PathsSampled
unfolding digits code_point lib.Utf8.encode quoted shown shown_width widths_on grouped_by grouped many bytes figure refusal_text hexadecimal_cell name_cell reason_text part_from json.numbers_text json.entry_text json.address_text figures_text json.refused_text json_line offset_text size_text table.entry_text widths_of widest fitted fitted_on headings_text offset_cell size_cell table.numbers_text table.address_text table.refused_text line_text
paths_sampled = record { as_json = λ there. refl; as_table = λ there. refl; refused = λ there. refl; bound = λ there. refl }
