-- The bytes of a field that is written: proved.
use Rattle.std.proofs.Common.{ℕ, ◌+◌, ◌<◌, ◌≡◌, refl, sym, ap, ◌∙◌, subst, Bool, true, false, List, [], ◌∷◌, ◌++◌, length, drop, arith, append_assoc, append-nil}
use Rattle.std.specs.Prelude.{Option, Some, None, if◌then◌else◌}
use Rattle.le.specs.Le.{le4}
use Rattle.writing.specs.Layout.{lengths_bytes, strings_bytes, attributes_bytes, entry_bytes}
use Rattle.writing.proofs.Entry.{length_entry}
use Rattle.field.specs.declared.writer.NewField.{NewField}
use Rattle.field.specs.Told.{IsTyped}
use Rattle.field.specs.Writing.{numbers_bytes, header_bytes, guid_bytes, mask_bytes, sections_bytes, field_bytes}
use Rattle.field.specs.Bytes.{given, sections, IsInBytes, FieldsInBytes}
use Rattle.field.proofs.Accepted.{Accepted, accepted_is}
use Rattle.field.proofs.Header as header
use Rattle.field.proofs.Header.{body_of}

guid_is : (here : Bool) (guid : Option (List ℕ)) → guid_bytes here guid ≡ (if here then given guid else [])
unfolding guid_bytes
guid_is true (Some guid) = refl
guid_is true None = refl
guid_is false guid = refl

module _ (p : NewField) (t : IsTyped p) (a : Accepted p) where
  sections_are : sections_bytes p ≡ sections p
  unfolding sections_bytes mask_bytes attributes_bytes
  sections_are = simp guid_is

  behind : drop 42 (field_bytes p) ≡ p.name.now ++ (0 ∷ (p.type_name.now ++ (0 ∷ (p.comment.now ++ (0 ∷ sections p)))))
  unfolding field_bytes entry_bytes header_bytes numbers_bytes lengths_bytes strings_bytes
  behind = simp (append_assoc, sections_are)

  grown : body_of p ++ [] ≡ body_of p
  grown = append-nil (body_of p)

  fits : length (body_of p ++ []) + 4 < 4294967296
  unfolding field_bytes
  fits = let l = length_entry (body_of p) in let g = ap length grown in omega (arith, a.small)

  claim : le4 (entry_bytes (body_of p ++ [])) 0 ≡ length (entry_bytes (body_of p ++ []))
  unfolding entry_bytes le4
  claim = omega (arith, fits)

  same : entry_bytes (body_of p ++ []) ≡ field_bytes p
  unfolding field_bytes
  same = ap entry_bytes grown

  in_bytes : IsInBytes p (entry_bytes (body_of p ++ []))
  in_bytes =
      record {
        claim = claim;
        version = header.version p t a.short [] fits;
        hash_value = header.hash_value p t a.short [] fits;
        type_hash_value = header.type_hash_value p t a.short [] fits;
        size = header.size p t a.short [] fits;
        offset = header.offset p t a.short [] fits;
        type_id = header.type_id p t a.short [] fits;
        flags = header.flags p t a.short [] fits;
        name_length = header.name_len p t a.short [] fits;
        type_name_length = header.type_name_len p t a.short [] fits;
        comment_length = header.comment_len p t a.short [] fits;
        array_count = header.array_count p t a.short [] fits;
        sub_item_count = header.sub_item_count p t a.short [] fits;
        behind = ap (drop 42) same ∙ behind;
      }

pub fields_in_bytes : FieldsInBytes
fields_in_bytes p bs t h =
    let a = accepted_is p bs h in
    subst (IsInBytes p) (same p t a.0 ∙ sym a.1) (in_bytes p t a.0)
