-- By which refusal a symbol is refused that is not written, and that it is: proved.
use Rattle.std.proofs.Common.{ℕ, ◌<◌, ◌≤◌, ◌≡◌, refl, sym, ap, ◌∙◌, Bool, true, false, length, Ok, Err, Result, arith, subst}
use Rattle.std.specs.Prelude.{is_some, eqb, ltb, if◌then◌else◌}
use Rattle.std.specs.Bool.{beq}
use borrow.Author.Tests.{ltb-true, le-ltb, lt-ltb}
use Rattle.le.specs.Le.{has}
use Rattle.part.specs.Outcome.{and_then}
use Rattle.refusal.specs.Refusal.{limit}
use Rattle.refusal.specs.declared.Refusal.{Refusal}
use Rattle.refusal.specs.declared.Refusal.TheVariants.{TooLong, SectionsDisagree, TooLarge}
use Rattle.attribute.specs.Block as attribute
use Rattle.refactor.specs.Block as refactor
use Rattle.writing.specs.Checks.{count_checked, strings_checked, size_checked, entry_checked, IsShort}
use Rattle.part.proofs.Outcome.{both_passed}
use Rattle.writing.proofs.Entry.{count_passed, strings_passed}
use Rattle.symbol.specs.declared.writer.NewSymbol.{NewSymbol}
use Rattle.symbol.specs.Symbol.{type_guid_flag, attributes_flag, extended_flags_flag, refactor_info_flag}
use Rattle.symbol.specs.Told.{IsTyped}
use Rattle.symbol.specs.Writing.{flagged, agree, symbol_bytes, sections_checked, symbol_checked, symbol_written}
use Rattle.symbol.specs.Barred.{size_of, HasGoodParts, GuidAgrees, AttributesAgree, ExtendedAgree, ChainAgrees, IsBarred, name, type_name, comment, count, attributes, refactor_infos, guid, unflagged_attributes, unflagged_word, chain, size, SymbolsBarred}
use Rattle.symbol.proofs.Accepted.{agreed}
use Rattle.std.specs.Cmp.{booleans_Decides}
use Rattle.symbol.proofs.Writable.{unflagged_none, test_same, none_unflagged, strings_pass, size_is}

-- of two checks the first refuses, or it passes and the second does
data Split {B : Type 0} (a : Result Unit Refusal) (b : Result B Refusal) (why : Refusal) : Type 0 where
  here : a ≡ Err why → Split a b why
  there : a ≡ Ok tt → b ≡ Err why → Split a b why

split : {B : Type 0} (a : Result Unit Refusal) (b : Result B Refusal) (why : Refusal) → and_then a (λ _. b) ≡ Err why → Split a b why
split (Ok u) b why h = there refl h
split (Err w) b why h = here cc

too_long_by : (actual : ℕ) (why : Refusal) (b : Bool) → ltb 65535 actual ≡ b → ◌≡◌ {A = Result Unit Refusal} (if b then Err (TooLong 65535 actual) else Ok tt) (Err why) → (65535 < actual) × (TooLong 65535 actual ≡ why)
too_long_by actual why true e h = (ltb-true 65535 actual e, cc)
too_long_by actual why false e h = cc

too_long : (actual : ℕ) (why : Refusal) → count_checked actual ≡ Err why → (65535 < actual) × (TooLong 65535 actual ≡ why)
too_long actual why h = too_long_by actual why (ltb 65535 actual) refl h

too_large_by : (length : ℕ) (why : Refusal) (b : Bool) → ltb limit length ≡ b → ◌≡◌ {A = Result Unit Refusal} (if b then Err (TooLarge length) else Ok tt) (Err why) → (limit < length) × (TooLarge length ≡ why)
too_large_by length why true e h = (ltb-true limit length e, cc)
too_large_by length why false e h = cc

too_large : (length : ℕ) (why : Refusal) → size_checked length ≡ Err why → (limit < length) × (TooLarge length ≡ why)
too_large length why h = too_large_by length why (ltb limit length) refl h

disagreed : (b : Bool) (section : ℕ) (why : Refusal) → agree b section ≡ Err why → (b ≡ true → ⊥) × (SectionsDisagree section ≡ why)
disagreed true section why h = cc
disagreed false section why h = ((λ e. cc), cc)

module _ (n : NewSymbol) (why : Refusal) where
  abbrev guid_there : Bool
  guid_there = beq (is_some n.guid) (flagged n type_guid_flag)

  abbrev attributes_there : Bool
  attributes_there = if flagged n attributes_flag then true else eqb (length n.attributes.bytes.now) 0

  abbrev extended_there : Bool
  extended_there = if flagged n extended_flags_flag then true else eqb n.extended_flags.0 0

  abbrev chain_there : Bool
  chain_there = beq (ltb 0 n.refactor_infos.count) (has n.extended_flags.0 refactor_info_flag)

  strings_barred : strings_checked n.name.now n.type_name.now n.comment.now ≡ Err why → IsBarred n why
  unfolding strings_checked
  strings_barred h = by_name (split _ _ why h)
    where
      by_type : length n.name.now ≤ 65535 → Split (count_checked (length n.type_name.now)) (count_checked (length n.comment.now)) why → IsBarred n why
      by_type a (here e) = let t = too_long _ why e in subst (IsBarred n) t.1 (type_name a t.0)
      by_type a (there p e) = let t = too_long _ why e in subst (IsBarred n) t.1 (comment a (count_passed _ p) t.0)

      by_name : Split (count_checked (length n.name.now)) (and_then (count_checked (length n.type_name.now)) (λ _. count_checked (length n.comment.now))) why → IsBarred n why
      by_name (here e) = let t = too_long _ why e in subst (IsBarred n) t.1 (name t.0)
      by_name (there p e) = by_type (count_passed _ p) (split _ _ why e)

  sections_barred : HasGoodParts n → sections_checked n ≡ Err why → IsBarred n why
  unfolding sections_checked
  sections_barred g h = by_guid (split _ _ why h)
    where
      agrees_guid : agree guid_there 1 ≡ Ok tt → GuidAgrees n
      agrees_guid p = (booleans_Decides (is_some n.guid) (flagged n type_guid_flag)).0 (agreed _ _ p)

      agrees_attributes : agree attributes_there 2 ≡ Ok tt → AttributesAgree n
      agrees_attributes p = unflagged_none (flagged n attributes_flag) (length n.attributes.bytes.now) (agreed _ _ p)

      agrees_extended : agree extended_there 3 ≡ Ok tt → ExtendedAgree n
      agrees_extended p = unflagged_none (flagged n extended_flags_flag) n.extended_flags.0 (agreed _ _ p)

      by_chain : GuidAgrees n → AttributesAgree n → ExtendedAgree n → agree chain_there 4 ≡ Err why → IsBarred n why
      by_chain a b c e = let t = disagreed _ 4 why e in subst (IsBarred n) t.1 (chain g a b c (λ s. t.0 (test_same (ltb 0 n.refactor_infos.count) (has n.extended_flags.0 refactor_info_flag) s)))

      by_extended : GuidAgrees n → AttributesAgree n → Split (agree extended_there 3) (agree chain_there 4) why → IsBarred n why
      by_extended a b (here e) = let t = disagreed _ 3 why e in subst (IsBarred n) t.1 (unflagged_word g a b (λ s. t.0 (none_unflagged (flagged n extended_flags_flag) n.extended_flags.0 s)))
      by_extended a b (there p e) = by_chain a b (agrees_extended p) e

      by_attributes : GuidAgrees n → Split (agree attributes_there 2) (and_then (agree extended_there 3) (λ _. agree chain_there 4)) why → IsBarred n why
      by_attributes a (here e) = let t = disagreed _ 2 why e in subst (IsBarred n) t.1 (unflagged_attributes g a (λ s. t.0 (none_unflagged (flagged n attributes_flag) (length n.attributes.bytes.now) s)))
      by_attributes a (there p e) = by_extended a (agrees_attributes p) (split _ _ why e)

      by_guid : Split (agree guid_there 1) (and_then (agree attributes_there 2) (λ _. and_then (agree extended_there 3) (λ _. agree chain_there 4))) why → IsBarred n why
      by_guid (here e) = let t = disagreed _ 1 why e in subst (IsBarred n) t.1 (guid g (λ s. t.0 (test_same (is_some n.guid) (flagged n type_guid_flag) s)))
      by_guid (there p e) = by_attributes (agrees_guid p) (split _ _ why e)

  record Passed : Type 0 where
    pub parts : HasGoodParts n
    pub guid_agrees : GuidAgrees n
    pub attributes_agree : AttributesAgree n
    pub extended_agree : ExtendedAgree n
    pub chain_agrees : ChainAgrees n

  passed : symbol_checked n ≡ Ok tt → Passed
  unfolding symbol_checked sections_checked
  passed h =
      let a = both_passed _ h in
      let b = both_passed _ a.1.1 in
      let c = both_passed _ b.1.1 in
      let d = both_passed _ c.1.1 in
      let e = both_passed _ d.1.1 in
      let f = both_passed _ e.1.1 in
      let g = both_passed _ f.1.1 in
      record {
        parts = record { short = strings_passed _ _ _ a.1.0; few = count_passed _ b.1.0; attributes = c.1.0; refactor_infos = d.1.0 };
        guid_agrees = (booleans_Decides (is_some n.guid) (flagged n type_guid_flag)).0 (agreed _ _ e.1.0);
        attributes_agree = unflagged_none (flagged n attributes_flag) (length n.attributes.bytes.now) (agreed _ _ f.1.0);
        extended_agree = unflagged_none (flagged n extended_flags_flag) n.extended_flags.0 (agreed _ _ g.1.0);
        chain_agrees = (booleans_Decides (ltb 0 n.refactor_infos.count) (has n.extended_flags.0 refactor_info_flag)).0 (agreed _ _ g.1.1);
      }

  abbrev attributes_checked : Result Unit Refusal
  attributes_checked = attribute.block_checked n.attributes.count n.attributes.bytes

  abbrev records_checked : Result Unit Refusal
  records_checked = refactor.block_checked n.refactor_infos.count n.refactor_infos.bytes

  checks_barred : symbol_checked n ≡ Err why → IsBarred n why
  unfolding symbol_checked
  checks_barred h = by_strings (split _ _ why h)
    where
      by_records : IsShort n.name.now n.type_name.now n.comment.now → n.attributes.count ≤ 65535 → attributes_checked ≡ Ok tt → Split records_checked (sections_checked n) why → IsBarred n why
      by_records s l a (here e) = refactor_infos s l a e
      by_records s l a (there p e) = sections_barred (record { short = s; few = l; attributes = a; refactor_infos = p }) e

      by_attributes : IsShort n.name.now n.type_name.now n.comment.now → n.attributes.count ≤ 65535 → Split attributes_checked (and_then records_checked (λ _. sections_checked n)) why → IsBarred n why
      by_attributes s l (here e) = attributes s l e
      by_attributes s l (there p e) = by_records s l p (split _ _ why e)

      by_count : IsShort n.name.now n.type_name.now n.comment.now → Split (count_checked n.attributes.count) (and_then attributes_checked (λ _. and_then records_checked (λ _. sections_checked n))) why → IsBarred n why
      by_count s (here e) = let t = too_long _ why e in subst (IsBarred n) t.1 (count s t.0)
      by_count s (there p e) = by_attributes s (count_passed _ p) (split _ _ why e)

      by_strings : Split (strings_checked n.name.now n.type_name.now n.comment.now) (and_then (count_checked n.attributes.count) (λ _. and_then attributes_checked (λ _. and_then records_checked (λ _. sections_checked n)))) why
          → IsBarred n why
      by_strings (here e) = strings_barred e
      by_strings (there p e) = by_count (strings_passed _ _ _ p) (split _ _ why e)

  size_barred : IsTyped n → Passed → Split (size_checked (length (symbol_bytes n))) (Ok (symbol_bytes n)) why → IsBarred n why
  size_barred typed p (here e) =
      let t = too_large _ why e in
      let l = size_is n typed p.guid_agrees in
      subst (IsBarred n) (ap TooLarge (sym l) ∙ t.1) (size p.parts p.guid_agrees p.attributes_agree p.extended_agree p.chain_agrees (omega (arith, l, t.0)))
  size_barred typed p (there u e) = cc

  barred : IsTyped n → symbol_written n ≡ Err why → IsBarred n why
  unfolding symbol_written entry_checked
  barred typed h = by (split _ _ why h)
    where
      by : Split (symbol_checked n) (entry_checked (symbol_bytes n)) why → IsBarred n why
      by (here e) = checks_barred e
      by (there p e) = size_barred typed (passed p) (split _ _ why e)

-- what is told where a check refuses, and where it passes
refused_here : {A B : Type 0} (a : Result A Refusal) (next : A → Result B Refusal) (why : Refusal) → a ≡ Err why → and_then a next ≡ Err why
refused_here (Ok x) next why h = cc
refused_here (Err w) next why h = let same : w ≡ why = cc in ap Err same

passed_to : {B : Type 0} (a : Result Unit Refusal) (b t : Result B Refusal) → a ≡ Ok tt → b ≡ t → and_then a (λ _. b) ≡ t
passed_to (Ok u) b t h e = e
passed_to (Err w) b t h e = cc

count_refused : (actual : ℕ) → 65535 < actual → count_checked actual ≡ Err (TooLong 65535 actual)
count_refused actual h = simp (lt-ltb 65535 actual h)

count_fits : (actual : ℕ) → actual ≤ 65535 → count_checked actual ≡ Ok tt
count_fits actual h = simp (le-ltb 65535 actual h)

disagree : (b : Bool) (section : ℕ) → (b ≡ true → ⊥) → agree b section ≡ Err (SectionsDisagree section)
disagree true section h = absurd (h refl)
disagree false section h = refl

agrees : (b : Bool) (section : ℕ) → b ≡ true → agree b section ≡ Ok tt
agrees true section h = refl
agrees false section h = cc

module _ (n : NewSymbol) where
  abbrev unsuitable : Refusal → Type 0
  unsuitable why = symbol_checked n ≡ Err why

  by_strings : (why : Refusal) → strings_checked n.name.now n.type_name.now n.comment.now ≡ Err why → unsuitable why
  unfolding symbol_checked
  by_strings why h = refused_here _ _ why h

  by_count : (why : Refusal) → IsShort n.name.now n.type_name.now n.comment.now → count_checked n.attributes.count ≡ Err why → unsuitable why
  unfolding symbol_checked
  by_count why s h = passed_to _ _ _ (strings_pass _ _ _ s) (refused_here _ _ why h)

  by_attributes : (why : Refusal) → IsShort n.name.now n.type_name.now n.comment.now → n.attributes.count ≤ 65535 → attributes_checked n why ≡ Err why → unsuitable why
  unfolding symbol_checked
  by_attributes why s l h = passed_to _ _ _ (strings_pass _ _ _ s) (passed_to _ _ _ (count_fits _ l) (refused_here _ _ why h))

  by_records : (why : Refusal) → IsShort n.name.now n.type_name.now n.comment.now → n.attributes.count ≤ 65535 → attributes_checked n why ≡ Ok tt → records_checked n why ≡ Err why → unsuitable why
  unfolding symbol_checked
  by_records why s l a h = passed_to _ _ _ (strings_pass _ _ _ s) (passed_to _ _ _ (count_fits _ l) (passed_to _ _ _ a (refused_here _ _ why h)))

  by_sections : (t : Result Unit Refusal) → HasGoodParts n → sections_checked n ≡ t → symbol_checked n ≡ t
  unfolding symbol_checked
  by_sections t g h = passed_to _ _ _ (strings_pass _ _ _ g.short) (passed_to _ _ _ (count_fits _ g.few) (passed_to _ _ _ g.attributes (passed_to _ _ _ g.refactor_infos h)))

  -- the tests of the sections that agree
  guid_agrees : GuidAgrees n → agree (beq (is_some n.guid) (flagged n type_guid_flag)) 1 ≡ Ok tt
  guid_agrees g = agrees _ 1 (test_same (is_some n.guid) (flagged n type_guid_flag) g)

  attributes_agree : AttributesAgree n → agree (if flagged n attributes_flag then true else eqb (length n.attributes.bytes.now) 0) 2 ≡ Ok tt
  attributes_agree a = agrees _ 2 (none_unflagged (flagged n attributes_flag) (length n.attributes.bytes.now) a)

  extended_agree : ExtendedAgree n → agree (if flagged n extended_flags_flag then true else eqb n.extended_flags.0 0) 3 ≡ Ok tt
  extended_agree x = agrees _ 3 (none_unflagged (flagged n extended_flags_flag) n.extended_flags.0 x)

  no_guid : (GuidAgrees n → ⊥) → sections_checked n ≡ Err (SectionsDisagree 1)
  unfolding sections_checked
  no_guid h = refused_here _ _ _ (disagree _ 1 (λ e. h ((booleans_Decides (is_some n.guid) (flagged n type_guid_flag)).0 e)))

  no_attributes : GuidAgrees n → (AttributesAgree n → ⊥) → sections_checked n ≡ Err (SectionsDisagree 2)
  unfolding sections_checked
  no_attributes g h = passed_to _ _ _ (guid_agrees g) (refused_here _ _ _ (disagree _ 2 (λ e. h (unflagged_none (flagged n attributes_flag) (length n.attributes.bytes.now) e))))

  no_word : GuidAgrees n → AttributesAgree n → (ExtendedAgree n → ⊥) → sections_checked n ≡ Err (SectionsDisagree 3)
  unfolding sections_checked
  no_word g a h = passed_to _ _ _ (guid_agrees g) (passed_to _ _ _ (attributes_agree a) (refused_here _ _ _ (disagree _ 3 (λ e. h (unflagged_none (flagged n extended_flags_flag) n.extended_flags.0 e)))))

  no_chain : GuidAgrees n → AttributesAgree n → ExtendedAgree n → (ChainAgrees n → ⊥) → sections_checked n ≡ Err (SectionsDisagree 4)
  unfolding sections_checked
  no_chain g a x h =
      passed_to _ _ _ (guid_agrees g)
      (passed_to _ _ _ (attributes_agree a) (passed_to _ _ _ (extended_agree x) (disagree _ 4 (λ e. h ((booleans_Decides (ltb 0 n.refactor_infos.count) (has n.extended_flags.0 refactor_info_flag)).0 e)))))

  all_agree : GuidAgrees n → AttributesAgree n → ExtendedAgree n → ChainAgrees n → sections_checked n ≡ Ok tt
  unfolding sections_checked
  all_agree g a x c =
      passed_to _ _ _ (guid_agrees g)
      (passed_to _ _ _ (attributes_agree a) (passed_to _ _ _ (extended_agree x) (agrees _ 4 (test_same (ltb 0 n.refactor_infos.count) (has n.extended_flags.0 refactor_info_flag) c))))

  too_large_told : IsTyped n → GuidAgrees n → limit < size_of n → entry_checked (symbol_bytes n) ≡ Err (TooLarge (size_of n))
  unfolding entry_checked
  too_large_told t g h = refused_here (size_checked (length (symbol_bytes n))) (λ _. Ok (symbol_bytes n)) (TooLarge (size_of n)) (rw (size_is n t g) (simp (lt-ltb limit (size_of n) h)))

  checked_first : (why : Refusal) → symbol_checked n ≡ Err why → symbol_written n ≡ Err why
  unfolding symbol_written
  checked_first why h = refused_here _ _ why h

  then_sized : (why : Refusal) → symbol_checked n ≡ Ok tt → entry_checked (symbol_bytes n) ≡ Err why → symbol_written n ≡ Err why
  unfolding symbol_written
  then_sized why p h = passed_to _ _ _ p h

  name_too_long : (why : Refusal) → count_checked (length n.name.now) ≡ Err why → strings_checked n.name.now n.type_name.now n.comment.now ≡ Err why
  unfolding strings_checked
  name_too_long why h = refused_here _ _ why h

  type_too_long : (why : Refusal) → length n.name.now ≤ 65535 → count_checked (length n.type_name.now) ≡ Err why → strings_checked n.name.now n.type_name.now n.comment.now ≡ Err why
  unfolding strings_checked
  type_too_long why a h = passed_to _ _ _ (count_fits _ a) (refused_here _ _ why h)

  comment_too_long : (why : Refusal) → length n.name.now ≤ 65535 → length n.type_name.now ≤ 65535 → count_checked (length n.comment.now) ≡ Err why → strings_checked n.name.now n.type_name.now n.comment.now ≡ Err why
  unfolding strings_checked
  comment_too_long why a b h = passed_to _ _ _ (count_fits _ a) (passed_to _ _ _ (count_fits _ b) h)

  told : IsTyped n → {why : Refusal} → IsBarred n why → symbol_written n ≡ Err why
  told t (name h) = checked_first _ (by_strings _ (name_too_long _ (count_refused _ h)))
  told t (type_name a h) = checked_first _ (by_strings _ (type_too_long _ a (count_refused _ h)))
  told t (comment a b h) = checked_first _ (by_strings _ (comment_too_long _ a b (count_refused _ h)))
  told t (count s h) = checked_first _ (by_count _ s (count_refused _ h))
  told t (attributes s l h) = checked_first _ (by_attributes _ s l h)
  told t (refactor_infos s l a h) = checked_first _ (by_records _ s l a h)
  told t (guid g h) = checked_first _ (by_sections _ g (no_guid h))
  told t (unflagged_attributes g a h) = checked_first _ (by_sections _ g (no_attributes a h))
  told t (unflagged_word g a b h) = checked_first _ (by_sections _ g (no_word a b h))
  told t (chain g a b x h) = checked_first _ (by_sections _ g (no_chain a b x h))
  told t (size g a b x c h) = then_sized _ (by_sections _ g (all_agree a b x c)) (too_large_told t a h)

pub symbols_barred : SymbolsBarred
symbols_barred n why t = (barred n why t, told n t)
