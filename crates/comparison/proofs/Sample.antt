-- All that is written of two uploads, byte by byte: antt computes what the definitions say of their bytes.
use Rattle.std.proofs.Common.{ℕ, ◌≡◌, List, codes, refl, ap₂, ◌∙◌, true, false}
use Rattle.std.specs.Fmt.{digits}
use Rattle.le.specs.Le.{le2, le4}
use Rattle.le.specs.Le as le
use Rattle.refusal.specs.EndBytes.{ended}
use Rattle.refusal.specs.declared.Mode.TheVariants.{Present}
use Rattle.entry.specs.Entry.{claim_at}
use Rattle.walk.specs.Pieces.{piece_at, pieces_from}
use Rattle.attribute.specs.Attribute as attribute
use Rattle.refactor.specs.Refactor as refactor
use Rattle.layout.specs.Layout.{guid_of}
use Rattle.symbol.specs.Symbol.{attributes_of, extended_of, refactor_infos_of, with_strings, symbol_ended, ended_symbol, symbol_of}
use Rattle.text.specs.Text.{code_point}
use Rattle.names.specs.Names.{folded}
use Rattle.name_order.specs.Sorted as sorted
use Rattle.upload.specs.declared.Form.TheVariants.{Binary}
use Rattle.wording.specs.Text.{shown, shown_width, widths_on, quoted}
use Rattle.wording.specs.Wording.{grouped_by, grouped, many, bytes}
use Rattle.report.specs.declared.Upload.{Upload}
use Rattle.report.specs.Report.{upload_text}
use Rattle.report.specs.Cells.{number_cell, name_cell}
use Rattle.sections.specs.Parts.{part_text}
use Rattle.sections.specs.Sections.{cut, cut_entry, sections_of}
use Rattle.values.specs.Alike.{tells_the_same}
use Rattle.values.specs.Values.{value_of}
use Rattle.values.specs.Shown.{value_text, value_json}
use Rattle.differences.specs.Differences.{in_symbols}
use Rattle.differences.specs.First.{common, first_byte}
use Rattle.differences.specs.Parts.{in_front, in_parts}
use Rattle.pairing.specs.Pieces.{piece_of, pieces_of, by_name}
use Rattle.pairing.specs.Pairs.{joined, order_at, number_order, free, matched, by_rule, beside, neighbours, partners_of, alone, told, pairs_of}
use Rattle.pairing.specs.Rows.{rows_of}
use Rattle.comparison.specs.Counts.{counted, counted_on, counted_text}
use Rattle.comparison.specs.Json.{moved_line, front_text, difference_json, parts_json, entry_line, row_lines, json_lines}
use Rattle.comparison.specs.Table as table
use Rattle.comparison.specs.Report.{report_text, written_text}
use Rattle.comparison.specs.Sample as sample
use Rattle.comparison.specs.Sample.{IsRead, ReportMeant}

abbrev upload : List ℕ → List ℕ → (p q : ℕ × ℕ) → Upload
upload path bytes p q = record { path = record { ref_ptr = p; now = path }; form = Binary; mode = Present; bytes = record { ref_ptr = q; now = bytes } }

in_table : (o p q r : ℕ × ℕ) → written_text false (upload (codes "f") sample.a o p) (upload (codes "g") sample.b q r) (rows_of (pieces_of (upload (codes "f") sample.a o p)) (pieces_of (upload (codes "g") sample.b q r))) ≡ sample.table
unfolding digits le2 le4 le.part ended claim_at piece_at pieces_from attribute.first_of attribute.listed attribute.after_listed attribute.stopped attribute.ends refactor.first_of refactor.listed refactor.chained refactor.ends_from guid_of attributes_of extended_of refactor_infos_of with_strings symbol_ended ended_symbol symbol_of code_point lib.Utf8.encode folded sorted.placed sorted.in_order shown shown_width widths_on grouped_by grouped many bytes upload_text number_cell name_cell part_text cut cut_entry sections_of tells_the_same value_of value_text in_symbols common first_byte in_front in_parts piece_of pieces_of by_name joined order_at number_order free matched by_rule beside neighbours partners_of alone told pairs_of rows_of counted counted_on counted_text table.lines_of table.fitted table.fits_on table.widths_on table.line_text table.headings_text table.table_lines table.table_text report_text
in_table o p q r = refl

in_json : (o p q r : ℕ × ℕ) → written_text true (upload (codes "f") sample.a o p) (upload (codes "g") sample.b q r) (rows_of (pieces_of (upload (codes "f") sample.a o p)) (pieces_of (upload (codes "g") sample.b q r))) ≡ sample.json
unfolding digits le2 le4 le.part ended claim_at piece_at pieces_from attribute.first_of attribute.listed attribute.after_listed attribute.stopped attribute.ends refactor.first_of refactor.listed refactor.chained refactor.ends_from guid_of attributes_of extended_of refactor_infos_of with_strings symbol_ended ended_symbol symbol_of code_point lib.Utf8.encode folded sorted.placed sorted.in_order quoted part_text cut cut_entry sections_of tells_the_same value_of value_json in_symbols common first_byte in_front in_parts piece_of pieces_of by_name joined order_at number_order free matched by_rule beside neighbours partners_of alone told pairs_of rows_of moved_line front_text difference_json parts_json entry_line row_lines json_lines
in_json o p q r = refl

same : (u : Upload) (path bytes : List ℕ) → IsRead u path bytes → u ≡ upload path bytes u.path.ref_ptr u.bytes.ref_ptr
same u path bytes r = rw (r.path, r.form, r.mode, r.bytes) refl

pub report_meant : ReportMeant
report_meant = record {
  table = λ u v r s. ap₂ (λ (x y : Upload). written_text false x y (rows_of (pieces_of x) (pieces_of y))) (same u (codes "f") sample.a r) (same v (codes "g") sample.b s) ∙ in_table u.path.ref_ptr u.bytes.ref_ptr v.path.ref_ptr v.bytes.ref_ptr;
  json = λ u v r s. ap₂ (λ (x y : Upload). written_text true x y (rows_of (pieces_of x) (pieces_of y))) (same u (codes "f") sample.a r) (same v (codes "g") sample.b s) ∙ in_json u.path.ref_ptr u.bytes.ref_ptr v.path.ref_ptr v.bytes.ref_ptr;
}
