-- Why an entry's own bytes are refused as a field: proved.
use Rattle.std.proofs.Common.{ℕ, ◌+◌, ◌≤◌, ◌≡◌, refl, sym, ap, ◌∙◌, subst, Bool, true, false, List, length, Ok, Err, Result, Bor}
use Rattle.std.specs.Prelude.{Option, Some, None, ltb}
use borrow.Author.Tests.{le-ltb, lt-ltb, ltb-true, ltb-false}
use Rattle.le.specs.Le.{le2}
use Rattle.part.specs.Slice.{after}
use Rattle.part.specs.Outcome.{and_then}
use Rattle.refusal.specs.EndBytes.{ended}
use Rattle.refusal.specs.EndsMeant.{AllZero}
use Rattle.refusal.proofs.EndsMeant.{ends_meant}
use Rattle.refusal.specs.declared.Mode.{Mode}
use Rattle.refusal.specs.declared.Mode.TheVariants.{Present, Checked}
use Rattle.refusal.specs.declared.Refusal.{Refusal}
use Rattle.refusal.specs.declared.Refusal.TheVariants.{TooShort, EntryLengthMismatch}
use Rattle.field.specs.declared.AdsFieldInfo.{AdsFieldInfo}
use Rattle.field.specs.Front.{front_of, HasStrings}
use Rattle.field.specs.Field.{field_of}
use Rattle.field.specs.Kind.{short}
use Rattle.field.specs.Laid.{Shows}
use Rattle.field.specs.Placed.{attributes_at, attributes_there}
use Rattle.field.specs.Modes.{end_bytes}
use Rattle.field.specs.Refused.{IsRefused, header, strings, end_byte, attribute, FieldsRefused}
use Rattle.field.proofs.Placed.{read_there}
use Rattle.field.proofs.Modes.{checked_is, fields_modes}

module _ (e : Bor (List ℕ)) where
  abbrev needed : ℕ
  needed = 45 + le2 e.now 32 + le2 e.now 34 + le2 e.now 36

  no_strings : (mode : Mode) → 42 ≤ length e.now → ltb (length e.now) needed ≡ true → field_of mode e ≡ Err (EntryLengthMismatch needed (length e.now))
  unfolding field_of front_of
  no_strings mode h s = simp (le-ltb (length e.now) 42 h, s)

  -- whatever the mode, where the checked one finds no end byte that is not 0
  in_mode : (mode : Mode) → (mode ≡ Checked → AllZero (end_bytes e)) → field_of mode e ≡ field_of Present e
  in_mode Present a = refl
  in_mode Checked a = (fields_modes e).tested.alike (a refl)

  refused : (mode : Mode) (why : Refusal) → IsRefused mode e why → field_of mode e ≡ Err why
  refused mode why (header h) = short mode e h
  refused mode why (strings h s) = no_strings mode h (lt-ltb (length e.now) needed s)
  refused mode why (end_byte m b f) = ap (λ (x : Mode). field_of x e) m ∙ (fields_modes e).tested.first b f
  refused mode why (attribute h a t n w s) = in_mode mode a ∙ (read_there e h).refused t n w s

  -- an entry that has a header and strings, and that the present mode refuses
  module _ (mode : Mode) (why : Refusal) (h : HasStrings e) where
    by_attribute : (mode ≡ Checked → AllZero (end_bytes e)) → field_of Present e ≡ Err why → IsRefused mode e why
    by_attribute a p = by_there (attributes_there e.now) refl
      where
        by_shown : (t : attributes_there e.now ≡ true) (n : ℕ) (w : Option Refusal) → Shows (after e (attributes_at e.now + 2)) (le2 e.now (attributes_at e.now)) n w → IsRefused mode e why
        by_shown t n None s = let r = (read_there e h).read t n s in cc
        by_shown t n (Some w) s =
            let is : ◌≡◌ {A = Result AdsFieldInfo Refusal} (Err w) (Err why) = sym ((read_there e h).refused t n w s) ∙ p in
            let same : w ≡ why = cc in
            subst (IsRefused mode e) same (attribute h a t n w s)

        by_there : (b : Bool) → attributes_there e.now ≡ b → IsRefused mode e why
        by_there true t = let x = (read_there e h).some t in by_shown t x.n x.why x.shows
        by_there false t = let r = (read_there e h).without t in cc

  by_test : (why : Refusal) → HasStrings e → (x : Result Unit Refusal) → ended (end_bytes e) ≡ x → and_then x (λ _. field_of Present e) ≡ Err why → IsRefused Checked e why
  by_test why h (Ok u) t p = by_attribute Checked why h (λ m. (ends_meant (end_bytes e)).passed t) p
  by_test why h (Err w) t p =
      let f = (ends_meant (end_bytes e)).refused w t in
      let same : w ≡ why = cc in
      subst (IsRefused Checked e) (sym f.1.1 ∙ same) (end_byte refl f.0 f.1.0)

  by_mode : (mode : Mode) (why : Refusal) → HasStrings e → field_of mode e ≡ Err why → IsRefused mode e why
  by_mode Present why h p = by_attribute Present why h (λ m. cc) p
  by_mode Checked why h p = by_test why h (ended (end_bytes e)) refl (sym (checked_is e) ∙ p)

  only : (mode : Mode) (why : Refusal) → field_of mode e ≡ Err why → IsRefused mode e why
  only mode why p = by_header (ltb (length e.now) 42) refl (ltb (length e.now) needed) refl
    where
      by_header : (b : Bool) → ltb (length e.now) 42 ≡ b → (c : Bool) → ltb (length e.now) needed ≡ c → IsRefused mode e why
      by_header true x c y =
          let h = ltb-true (length e.now) 42 x in
          let r = short mode e h in
          let same : TooShort 42 (length e.now) ≡ why = cc in
          subst (IsRefused mode e) same (header h)
      by_header false x true y =
          let h = ltb-false (length e.now) 42 x in
          let r = no_strings mode h y in
          let same : EntryLengthMismatch needed (length e.now) ≡ why = cc in
          subst (IsRefused mode e) same (strings h (ltb-true (length e.now) needed y))
      by_header false x false y = by_mode mode why (record { header = ltb-false (length e.now) 42 x; strings = ltb-false (length e.now) needed y }) p

pub fields_refused : FieldsRefused
fields_refused mode e why = record { refused = refused e mode why; only = only e mode why }
