-- What is written of the symbol in which every number is another: antt computes what the definitions say of its bytes.
use Rattle.std.proofs.Common.{ℕ, ◌≡◌, List, codes, refl, subst, sym, ap, ◌∙◌}
use Rattle.std.specs.List.{flat_map}
use Rattle.std.specs.Fmt.{digits}
use Rattle.le.specs.Le.{le2, le4}
use Rattle.le.specs.Le as le
use Rattle.refusal.specs.EndBytes.{ended}
use Rattle.refusal.specs.declared.Mode.TheVariants.{Present}
use Rattle.entry.specs.Entry.{claim_at}
use Rattle.walk.specs.Pieces.{piece_at, pieces_from, pieces}
use Rattle.attribute.specs.Attribute as attribute
use Rattle.refactor.specs.Refactor as refactor
use Rattle.layout.specs.Layout.{guid_of}
use Rattle.symbol.specs.Symbol.{attributes_of, extended_of, refactor_infos_of, with_strings, symbol_ended, ended_symbol, symbol_of}
use Rattle.text.specs.Text.{code_point}
use Rattle.upload.specs.declared.Form.TheVariants.{Binary}
use Rattle.wording.specs.Text.{quoted, shown, shown_width, widths_on}
use Rattle.wording.specs.Wording.{grouped_by, grouped, many, bytes, figure, refusal_text}
use Rattle.report.specs.declared.Upload.{Upload}
use Rattle.report.specs.Json.{figures_text, refused_text, strings_text, numbers_text, guid_text, more_attributes, attributes_text, more_formers, formers_text, sections_text, symbol_text}
use Rattle.report.specs.Report as texts
use Rattle.report.specs.Report.{json_line, upload_text, counted, tallied, unread_text, summary_text, refused_line, check_text}
use Rattle.report.specs.Cells.{number_cell, hexadecimal_cell, name_cell, refused_row}
use Rattle.report.specs.Table as rows
use Rattle.report.specs.Table.{widths_of, widest, fitted, fitted_on, headings_text, names_text, counts_text, symbol_row, line_text, table_text}
use Rattle.report.specs.Sample.{sample, lines, table, checked, SampleTold}

told : (p : ℕ × ℕ) → flat_map json_line (pieces (symbol_of Present) (record { ref_ptr = p; now = sample })) ≡ lines
unfolding digits le2 le4 le.part ended claim_at piece_at pieces_from attribute.first_of attribute.listed attribute.after_listed attribute.stopped attribute.ends refactor.first_of refactor.listed refactor.chained guid_of attributes_of extended_of refactor_infos_of with_strings symbol_ended ended_symbol symbol_of code_point quoted grouped_by grouped many bytes figure refusal_text figures_text refused_text strings_text numbers_text guid_text more_attributes attributes_text more_formers formers_text sections_text symbol_text json_line lib.Utf8.encode
told p = refl

abbrev upload : (p q : ℕ × ℕ) → Upload
upload p q = record { path = record { ref_ptr = p; now = codes "f" }; form = Binary; mode = Present; bytes = record { ref_ptr = q; now = sample } }

in_table : (p q : ℕ × ℕ) → table_text (upload p q) ≡ table
unfolding digits le2 le4 le.part ended claim_at piece_at pieces_from attribute.first_of attribute.listed attribute.after_listed attribute.stopped attribute.ends refactor.first_of refactor.listed refactor.chained guid_of attributes_of extended_of refactor_infos_of with_strings symbol_ended ended_symbol symbol_of code_point shown shown_width widths_on grouped_by grouped many bytes figure refusal_text lib.Utf8.encode number_cell hexadecimal_cell name_cell refused_row widths_of widest fitted fitted_on headings_text names_text rows.numbers_text counts_text symbol_row line_text table_text upload_text
in_table p q = refl

in_check : (p q : ℕ × ℕ) → check_text (upload p q) ≡ checked
unfolding digits le2 le4 le.part ended claim_at piece_at pieces_from attribute.first_of attribute.listed attribute.after_listed attribute.stopped attribute.ends refactor.first_of refactor.listed refactor.chained guid_of attributes_of extended_of refactor_infos_of with_strings symbol_ended ended_symbol symbol_of code_point shown shown_width widths_on grouped_by grouped many bytes figure refusal_text lib.Utf8.encode upload_text counted tallied texts.counts_text unread_text summary_text refused_line check_text
in_check p q = refl

same : (u : Upload) → u.path.now ≡ codes "f" → u.form ≡ Binary → u.mode ≡ Present → u.bytes.now ≡ sample → u ≡ upload u.path.ref_ptr u.bytes.ref_ptr
same u p f m b = rw (p, f, m, b) refl

pub sample_told : SampleTold
sample_told = record {
  as_json = λ u h.
      let P : List ℕ → Type 0 = λ s. flat_map json_line (pieces (symbol_of Present) (record { ref_ptr = u.ref_ptr; now = s })) ≡ lines in
      subst P (sym h) (told u.ref_ptr);
  as_table = λ u p f m b. ap table_text (same u p f m b) ∙ in_table u.path.ref_ptr u.bytes.ref_ptr;
  as_checked = λ u p f m b. ap check_text (same u p f m b) ∙ in_check u.path.ref_ptr u.bytes.ref_ptr;
}
