-- The line of the data type in which every number is another: antt computes what the definitions say of its bytes.
use Rattle.std.proofs.Common.{ℕ, ◌≡◌, List, refl, subst, sym}
use Rattle.std.specs.List.{flat_map}
use Rattle.std.specs.Fmt.{digits}
use Rattle.le.specs.Le.{le2, le4}
use Rattle.le.specs.Le as le
use Rattle.refusal.specs.EndBytes.{ended}
use Rattle.refusal.specs.declared.Mode.TheVariants.{Present}
use Rattle.entry.specs.Entry.{claim_at}
use Rattle.walk.specs.Pieces.{piece_at, pieces_from, pieces}
use Rattle.attribute.specs.Attribute as attribute
use Rattle.field.specs.Skip.{after_items}
use Rattle.field.specs.Front.{with_strings, front_of}
use Rattle.layout.specs.Layout.{guid_of}
use Rattle.field.specs.Tail.{after_mask, after_methods, attributes_of, tail_of}
use Rattle.data_type.specs.Array as array
use Rattle.data_type.specs.DataType.{taken, items_from, arrays_of, type_with, type_at, type_of}
use Rattle.text.specs.Text.{code_point}
use Rattle.wording.specs.Text.{quoted}
use Rattle.report.specs.Json.{guid_text, more_attributes, attributes_text}
use Rattle.type_tree.specs.Joined.{more, joined}
use Rattle.type_tree.specs.Marks.{words_of, marks_text}
use Rattle.type_tree.specs.Node.{member_at, members_from}
use Rattle.type_tree.specs.Sample.{sample}
use Rattle.type_report.specs.Json.{strings_text, numbers_text, shape_text, maker_text, own_text, node_text, type_line, entry_line}
use Rattle.type_report.specs.Sample.{line, SampleTold}

told : (p : ℕ × ℕ) → flat_map (entry_line Present) (pieces (type_of Present) (record { ref_ptr = p; now = sample })) ≡ line
unfolding digits le2 le4 le.part ended claim_at piece_at pieces_from attribute.first_of attribute.listed attribute.stopped attribute.ends after_items with_strings front_of guid_of after_mask after_methods attributes_of tail_of array.listed taken items_from arrays_of type_with type_at code_point quoted guid_text more_attributes attributes_text more joined words_of marks_text member_at members_from strings_text numbers_text shape_text maker_text own_text node_text type_line entry_line lib.Utf8.encode
told p = refl

pub sample_told : SampleTold
sample_told u h =
    let P : List ℕ → Type 0 = λ s. flat_map (entry_line Present) (pieces (type_of Present) (record { ref_ptr = u.ref_ptr; now = s })) ≡ line in
    subst P (sym h) (told u.ref_ptr)
