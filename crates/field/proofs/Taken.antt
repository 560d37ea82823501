-- Which fields are written: proved.
use Rattle.std.proofs.Common.{ℕ, zero, suc, ◌+◌, ◌-◌, ◌<◌, ◌≤◌, ◌≡◌, refl, sym, ap, ◌∙◌, subst, Bool, true, false, List, length, Ok, Err, Result, arith, Bor}
use Rattle.std.specs.Prelude.{Option, Some, None, ltb, eqb, if◌then◌else◌}
use borrow.Author.Tests.{le-ltb, lt-ltb, ltb-true}
use Rattle.le.specs.Le.{has}
use Rattle.part.specs.Outcome.{and_then, outcome}
use Rattle.refusal.specs.Refusal.{limit}
use Rattle.refusal.specs.declared.Refusal.{Refusal}
use Rattle.refusal.specs.declared.Refusal.TheVariants.{TooLong, TooLarge, BadBlock}
use Rattle.attribute.specs.Block.{good_of, exact, block_checked}
use Rattle.writing.specs.Checks.{IsShort, count_checked, strings_checked, entry_checked}
use Rattle.part.proofs.Outcome.{both_passed}
use Rattle.writing.proofs.Entry.{count_passed, strings_passed}
use Rattle.field.specs.declared.writer.NewField.{NewField}
use Rattle.field.specs.Tail.{type_guid_flag, attributes_flag}
use Rattle.field.specs.Told.{IsGuid}
use Rattle.field.specs.Writing.{flagged, guid_bytes, field_bytes, attributes_checked, field_checked, field_written}
use Rattle.field.specs.Written.{size_of, entry_length, HasBlock, IsTaken, IsBarred, name, type_name, comment, count, block, size, FieldsWritten}
use Rattle.field.proofs.Accepted.{accepted_is, attributes_passed}
use Rattle.field.proofs.Sizes.{length_zeros, length_parts, length_sections}

-- the first that fails of a test and what follows it
data Either {A B : Type 0} (x : Result A Refusal) (next : A → Result B Refusal) (why : Refusal) : Type 0 where
  fails : x ≡ Err why → Either x next why
  follows : (y : A) → x ≡ Ok y → next y ≡ Err why → Either x next why

first_of_two : {A B : Type 0} (x : Result A Refusal) {next : A → Result B Refusal} {why : Refusal} → and_then x next ≡ Err why → Either x next why
first_of_two (Ok y) h = follows y refl h
first_of_two (Err w) h = fails cc

record TooMany (n : ℕ) (why : Refusal) : Type 0 where
  over : 65535 < n
  is : why ≡ TooLong 65535 n

count_refused : (n : ℕ) (why : Refusal) → count_checked n ≡ Err why → TooMany n why
count_refused n why h = by (ltb 65535 n) refl h
  where
    by : (b : Bool) → ltb 65535 n ≡ b → ◌≡◌ {A = Result Unit Refusal} (if b then Err (TooLong 65535 n) else Ok tt) (Err why) → TooMany n why
    by true l h = record { over = ltb-true 65535 n l; is = cc }
    by false l h = cc

record IsBad (count : ℕ) (why : Refusal) : Type 0 where
  good : ℕ
  is : why ≡ BadBlock count good

block_refused : (left all : ℕ) (b : Bor (List ℕ)) (why : Refusal) → exact b all left ≡ Err why → IsBad all why
unfolding exact
block_refused zero all b why h = by (eqb (length b.now) 0) h
  where
    by : (t : Bool) → ◌≡◌ {A = Result Unit Refusal} (if t then Ok tt else Err (BadBlock all all)) (Err why) → IsBad all why
    by true h = cc
    by false h = record { good = all; is = cc }
block_refused (suc left) all b why h = by (λ next. block_refused left all next why) (good_of b) h
  where
    by : ((next : Bor (List ℕ)) → exact next all left ≡ Err why → IsBad all why) → (w : Result (Bor (List ℕ)) Refusal)
        → outcome w (λ next. exact next all left) (λ x. Err (BadBlock all (all - suc left))) ≡ Err why → IsBad all why
    by on (Ok next) h = on next h
    by on (Err x) h = record { good = all - suc left; is = cc }

length_guid : (here : Bool) (g : Option (List ℕ)) → IsGuid g → length (guid_bytes here g) ≡ size_of here 16
unfolding guid_bytes
length_guid true (Some g) h = h
length_guid true None h = length_zeros 16
length_guid false g h = refl

module _ (p : NewField) where
  block_size : (there : Bool) → (if there then length p.attributes.bytes.now + 2 else 0) ≡ size_of there (2 + length p.attributes.bytes.now)
  block_size true = omega arith
  block_size false = refl

  long : IsGuid p.guid → length (field_bytes p) ≡ entry_length p
  long g =
      let a = length_parts p in
      let b = length_sections p in
      let c = length_guid (flagged p type_guid_flag) p.guid g in
      let d = block_size (flagged p attributes_flag) in
      omega (arith, a, b, c, d)

  strings_pass : IsShort p.name.now p.type_name.now p.comment.now → strings_checked p.name.now p.type_name.now p.comment.now ≡ Ok tt
  unfolding strings_checked
  strings_pass s = simp (le-ltb 65535 (length p.name.now) s.name_fits, le-ltb 65535 (length p.type_name.now) s.type_fits, le-ltb 65535 (length p.comment.now) s.comment_fits)

  block_passes : (there : Bool) → flagged p attributes_flag ≡ there → (there ≡ true → HasBlock p) → attributes_checked p ≡ Ok tt
  unfolding attributes_checked
  block_passes true h b = simp (h, le-ltb 65535 p.attributes.count (b refl).count, (b refl).good)
  block_passes false h b = simp h

  passes : IsShort p.name.now p.type_name.now p.comment.now → (flagged p attributes_flag ≡ true → HasBlock p) → field_checked p ≡ Ok tt
  unfolding field_checked
  passes s b = simp (strings_pass s, block_passes (flagged p attributes_flag) refl b)

  written : IsGuid p.guid → IsTaken p → field_written p ≡ Ok (field_bytes p)
  unfolding field_written entry_checked
  written g t = let l = long g in simp (passes t.short t.block, le-ltb limit (length (field_bytes p)) (omega (arith, l, t.small)))

  only : IsGuid p.guid → (bs : List ℕ) → field_written p ≡ Ok bs → IsTaken p
  only g bs h = let a = (accepted_is p bs h).0 in record { short = a.short; block = λ f. record { count = a.count f; good = a.block f }; small = omega (arith, a.small, long g) }

  refused : IsGuid p.guid → (why : Refusal) → IsBarred p why → field_written p ≡ Err why
  unfolding field_written field_checked strings_checked attributes_checked entry_checked
  refused g why (name h) = simp (lt-ltb 65535 (length p.name.now) h)
  refused g why (type_name a h) = simp (le-ltb 65535 (length p.name.now) a, lt-ltb 65535 (length p.type_name.now) h)
  refused g why (comment a b h) = simp (le-ltb 65535 (length p.name.now) a, le-ltb 65535 (length p.type_name.now) b, lt-ltb 65535 (length p.comment.now) h)
  refused g why (count s f h) = simp (strings_pass s, f, lt-ltb 65535 p.attributes.count h)
  refused g why (block good s f a h) = simp (strings_pass s, f, le-ltb 65535 p.attributes.count a, h)
  refused g why (size s b h) = simp (passes s b, long g, lt-ltb limit (entry_length p) h)

  -- of a count or a length that is refused
  strings_bar : (why : Refusal) → strings_checked p.name.now p.type_name.now p.comment.now ≡ Err why → IsBarred p why
  unfolding strings_checked
  strings_bar why h = by_name (first_of_two (count_checked (length p.name.now)) h)
    where
      by_comment : length p.name.now ≤ 65535 → length p.type_name.now ≤ 65535 → TooMany (length p.comment.now) why → IsBarred p why
      by_comment a b t = subst (IsBarred p) (sym t.is) (comment a b t.over)

      by_type : length p.name.now ≤ 65535 → Either (count_checked (length p.type_name.now)) (λ _. count_checked (length p.comment.now)) why → IsBarred p why
      by_type a (fails x) = let t = count_refused (length p.type_name.now) why x in subst (IsBarred p) (sym t.is) (type_name a t.over)
      by_type a (follows u x y) = by_comment a (count_passed (length p.type_name.now) x) (count_refused (length p.comment.now) why y)

      by_name : Either (count_checked (length p.name.now)) (λ _. and_then (count_checked (length p.type_name.now)) (λ _. count_checked (length p.comment.now))) why → IsBarred p why
      by_name (fails x) = let t = count_refused (length p.name.now) why x in subst (IsBarred p) (sym t.is) (name t.over)
      by_name (follows u x y) = by_type (count_passed (length p.name.now) x) (first_of_two (count_checked (length p.type_name.now)) y)

  attributes_bar : (why : Refusal) → IsShort p.name.now p.type_name.now p.comment.now → attributes_checked p ≡ Err why → IsBarred p why
  unfolding attributes_checked
  attributes_bar why s h = by_flag (has p.flags.0 0x1000) refl h
    where
      by_count : has p.flags.0 0x1000 ≡ true → Either (count_checked p.attributes.count) (λ _. block_checked p.attributes.count p.attributes.bytes) why → IsBarred p why
      by_count f (fails x) = let t = count_refused p.attributes.count why x in subst (IsBarred p) (sym t.is) (count s f t.over)
      by_count f (follows u x y) =
          let b = block_refused p.attributes.count p.attributes.count p.attributes.bytes why y in
          subst (IsBarred p) (sym b.is) (block b.good s f (count_passed p.attributes.count x) (y ∙ ap Err b.is))

      by_flag : (there : Bool) → has p.flags.0 0x1000 ≡ there
          → (if there then and_then (count_checked p.attributes.count) (λ _. block_checked p.attributes.count p.attributes.bytes) else Ok tt) ≡ Err why → IsBarred p why
      by_flag true f h = by_count f (first_of_two (count_checked p.attributes.count) h)
      by_flag false f h = cc

  abbrev by_limit : Bool → Result Unit Refusal
  by_limit above = if above then Err (TooLarge (length (field_bytes p))) else Ok tt

  size_bars : IsGuid p.guid → (why : Refusal) → field_checked p ≡ Ok tt → entry_checked (field_bytes p) ≡ Err why → IsBarred p why
  unfolding field_checked entry_checked
  size_bars g why c h =
      let a = both_passed (strings_checked p.name.now p.type_name.now p.comment.now) c in
      let short : IsShort p.name.now p.type_name.now p.comment.now = strings_passed p.name.now p.type_name.now p.comment.now a.1.0 in
      by_size short (λ f. let b = attributes_passed p a.1.1 f in record { count = b.0; good = b.1 }) (ltb limit (length (field_bytes p))) refl h
    where
      by_size : IsShort p.name.now p.type_name.now p.comment.now → (has p.flags.0 0x1000 ≡ true → HasBlock p) → (b : Bool) → ltb limit (length (field_bytes p)) ≡ b
          → and_then (by_limit b) (λ _. Ok (field_bytes p)) ≡ Err why → IsBarred p why
      by_size s b true l h =
          let e : TooLarge (entry_length p) ≡ TooLarge (length (field_bytes p)) = ap TooLarge (sym (long g)) in
          let is : TooLarge (length (field_bytes p)) ≡ why = cc in
          subst (IsBarred p) (e ∙ is) (size s b (rw (sym (long g)) (ltb-true limit (length (field_bytes p)) l)))
      by_size s b false l h = cc

  barred : IsGuid p.guid → (why : Refusal) → field_written p ≡ Err why → IsBarred p why
  unfolding field_written field_checked
  barred g why h = by_checks (first_of_two (field_checked p) h)
    where
      by_strings : Either (strings_checked p.name.now p.type_name.now p.comment.now) (λ _. attributes_checked p) why → IsBarred p why
      by_strings (fails x) = strings_bar why x
      by_strings (follows u x y) = attributes_bar why (strings_passed p.name.now p.type_name.now p.comment.now x) y

      by_checks : Either (field_checked p) (λ _. entry_checked (field_bytes p)) why → IsBarred p why
      by_checks (fails x) = by_strings (first_of_two (strings_checked p.name.now p.type_name.now p.comment.now) x)
      by_checks (follows u x y) = size_bars g why x y

pub fields_written : FieldsWritten
fields_written p g = record { long = long p g; written = written p g; only = only p g; refused = refused p g; barred = barred p g }
