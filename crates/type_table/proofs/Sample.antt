-- The table of the data type in which every number is another: antt computes what the definitions say of its bytes.
use Rattle.std.proofs.Common.{ℕ, ◌≡◌, codes, refl, ap, ◌∙◌}
use Rattle.std.specs.Fmt.{digits}
use Rattle.le.specs.Le.{le2, le4}
use Rattle.le.specs.Le as le
use Rattle.refusal.specs.EndBytes.{ended}
use Rattle.refusal.specs.declared.Mode.TheVariants.{Present}
use Rattle.entry.specs.Entry.{claim_at}
use Rattle.walk.specs.Pieces.{piece_at, pieces_from}
use Rattle.attribute.specs.Attribute as attribute
use Rattle.field.specs.Skip.{after_items}
use Rattle.field.specs.Front.{with_strings, front_of}
use Rattle.layout.specs.Layout.{guid_of}
use Rattle.field.specs.Tail.{after_mask, after_methods, attributes_of, tail_of}
use Rattle.data_type.specs.Array as array
use Rattle.data_type.specs.DataType.{taken, items_from, arrays_of, type_with, type_at}
use Rattle.text.specs.Text.{code_point}
use Rattle.upload.specs.declared.Form.TheVariants.{Binary}
use Rattle.wording.specs.Text.{shown, shown_width, widths_on}
use Rattle.wording.specs.Wording.{grouped_by, grouped, many, bytes}
use Rattle.report.specs.declared.Upload.{Upload}
use Rattle.report.specs.Report.{upload_text}
use Rattle.report.specs.Cells.{number_cell, name_cell, refused_row}
use Rattle.type_tree.specs.Joined.{more, joined}
use Rattle.type_tree.specs.Marks.{words_of, marks_text}
use Rattle.type_tree.specs.Node.{member_at, members_from}
use Rattle.type_tree.specs.Sample.{sample}
use Rattle.type_table.specs.Cells.{array_cell, array_cells, array_width, arrays_on, attribute_cell}
use Rattle.type_table.specs.Table.{rows_of, widths_of, widest, fitted, fitted_on, fitted_all, headings_text, names_text, numbers_text, tail_text, row_text, row_line, piece_lines, head_text, table_text}
use Rattle.type_table.specs.Sample.{table, TableTold}

abbrev upload : (p q : ℕ × ℕ) → Upload
upload p q = record { path = record { ref_ptr = p; now = codes "f" }; form = Binary; mode = Present; bytes = record { ref_ptr = q; now = sample } }

in_table : (p q : ℕ × ℕ) → table_text (upload p q) ≡ table
unfolding digits le2 le4 le.part ended claim_at piece_at pieces_from attribute.first_of attribute.listed attribute.stopped attribute.ends after_items with_strings front_of guid_of after_mask after_methods attributes_of tail_of array.listed taken items_from arrays_of type_with type_at code_point more joined words_of marks_text member_at members_from lib.Utf8.encode shown shown_width widths_on grouped_by grouped many bytes upload_text number_cell name_cell refused_row array_cell array_cells array_width arrays_on attribute_cell rows_of widths_of widest fitted fitted_on fitted_all headings_text names_text numbers_text tail_text row_text row_line piece_lines head_text table_text
in_table p q = refl

same : (u : Upload) → u.path.now ≡ codes "f" → u.form ≡ Binary → u.mode ≡ Present → u.bytes.now ≡ sample → u ≡ upload u.path.ref_ptr u.bytes.ref_ptr
same u p f m b = rw (p, f, m, b) refl

pub table_told : TableTold
table_told u p f m b = ap table_text (same u p f m b) ∙ in_table u.path.ref_ptr u.bytes.ref_ptr
