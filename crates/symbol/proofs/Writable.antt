-- Which symbols are written: proved.
use Rattle.std.proofs.Common.{ℕ, zero, suc, ◌+◌, ◌-◌, ◌<◌, ◌≤◌, ◌≡◌, refl, sym, ◌∙◌, Bool, true, false, List, length, Ok, Err, Result, arith, Bor, length-drop}
use Rattle.std.specs.Prelude.{Option, Some, None, is_some, eqb, ltb, if◌then◌else◌}
use Rattle.std.specs.List.{All}
use Rattle.std.specs.Bool.{beq}
use Rattle.std.proofs.lemmas.List.{length-map}
use lib.Seq.{get_or-drop}
use borrow.Author.Tests.{le-ltb, eq-eqb, eqb-true}
use Rattle.le.specs.Le.{le2, has}
use Rattle.part.specs.Slice.{after}
use Rattle.refusal.specs.Refusal.{limit}
use Rattle.refusal.specs.declared.Refusal.{Refusal}
use Rattle.refusal.specs.declared.Refusal.TheVariants.{BadBlock}
use Rattle.attribute.specs.declared.AdsAttribute.{AdsAttribute}
use Rattle.attribute.specs.Attribute as attribute
use Rattle.attribute.specs.Told as attributes
use Rattle.attribute.specs.Fit as attribute-fit
use Rattle.attribute.specs.Block as attribute-block
use Rattle.attribute.proofs.Again as attribute-again
use Rattle.attribute.proofs.Fit.{attribute_blocks, attribute_blocks_made}
use Rattle.std.proofs.lemmas.List.Elements.{All-cons}
use Rattle.attribute.proofs.Laws.{listed_more, listed_none, listed_stop}
use Rattle.refactor.specs.declared.AdsRefactorInfo.{AdsRefactorInfo}
use Rattle.refactor.specs.Refactor as refactor
use Rattle.refactor.specs.Told as refactors
use Rattle.refactor.specs.Fit as refactor-fit
use Rattle.refactor.specs.Block as refactor-block
use Rattle.refactor.proofs.Again as refactor-again
use Rattle.refactor.proofs.Fit.{refactor_blocks, refactor_blocks_made}
use Rattle.refactor.proofs.Inside as refactor-inside
use Rattle.writing.specs.Checks.{strings_checked, entry_checked, IsShort}
use Rattle.symbol.specs.declared.writer.NewSymbol.{NewSymbol}
use Rattle.symbol.specs.Symbol.{type_guid_flag, attributes_flag, extended_flags_flag, refactor_info_flag}
use Rattle.symbol.specs.Told.{IsSixteen, IsTyped}
use Rattle.symbol.specs.Writing.{flagged, guid_bytes, symbol_bytes, sections_checked, symbol_checked, symbol_written}
use Rattle.symbol.specs.Barred.{size_of}
use Rattle.symbol.specs.Writable.{AreAttributes, AreRecords, IsWritable, AreBytes, SymbolsWritten}
use Rattle.symbol.proofs.Accepted.{Accepted, accepted_is}
use Rattle.std.specs.Cmp.{booleans_Decides}
use Rattle.symbol.proofs.Sizes.{length_parts, length_sections}

-- bytes from a place on are bytes
later_bytes : (s : Bor (List ℕ)) (k : ℕ) → All (λ b. b < 256) s.now → All (λ b. b < 256) (after s k).now
later_bytes s k h j d l = let n = length-drop k s.now in rw (get_or-drop k s.now j d) (h (k + j) d (omega arith))

-- attributes that are read of bytes are within their length fields
one_fits : (s : Bor (List ℕ)) → All (λ b. b < 256) s.now → attribute-again.n_of s + attribute-again.v_of s + 4 ≤ length s.now → attribute-fit.Fits (attributes.told_of (attribute-again.here s).0)
one_fits s h t =
    let n = h 0 0 (omega (arith, t)) in
    let v = h 1 0 (omega (arith, t)) in
    record { name = omega (arith, attribute-again.length_name s t, n); value = omega (arith, attribute-again.length_value s t, v) }

listed_fit_by : (s : Bor (List ℕ)) (left : ℕ) → All (λ b. b < 256) s.now → (w : Result (AdsAttribute × Bor (List ℕ)) Refusal) → attribute.first_of s ≡ w
    → ((q : Bor (List ℕ)) → All (λ b. b < 256) q.now → All attribute-fit.Fits (attributes.told (attribute.listed q left))) → All attribute-fit.Fits (attributes.told (attribute.listed s (suc left)))
listed_fit_by s left h (Err why) f ih = rw (listed_stop s left why f) (λ k d l. absurd (omega arith))
listed_fit_by s left h (Ok p) f ih =
    let t = attribute-again.fits s p f in
    rw (listed_more s left (attribute-again.here s) (attribute-again.first_here s t))
    (All-cons attribute-fit.Fits _ _ (one_fits s h t) (ih (attribute-again.here s).1 (later_bytes s (attribute-again.n_of s + attribute-again.v_of s + 4) h)))

listed_fit : (s : Bor (List ℕ)) (left : ℕ) → All (λ b. b < 256) s.now → All attribute-fit.Fits (attributes.told (attribute.listed s left))
listed_fit s zero h = rw (listed_none s) (λ k d l. absurd (omega arith))
listed_fit s (suc left) h = listed_fit_by s left h (attribute.first_of s) refl (λ q b. listed_fit q left b)

-- so are refactor records
abbrev formers_of : Bor (List ℕ) → ℕ → List refactor-fit.Former
formers_of s left = refactor-fit.formers (refactors.told (refactor.listed s left))

record_fits : (s : Bor (List ℕ)) → All (λ b. b < 256) s.now → refactor-again.n_of s + 7 ≤ length s.now
    → refactor-fit.Fits (record { count = (refactor-again.here s).0.refactor_count; name = (refactor-again.here s).0.name.now })
unfolding le2
record_fits s h t =
    let a = h 4 0 (omega (arith, t)) in
    let b = h 5 0 (omega (arith, t)) in
    record { name = omega (arith, refactor-again.length_name s t, a, b) }

formers_fit_by : (s : Bor (List ℕ)) (left : ℕ) → All (λ b. b < 256) s.now → (w : Result (AdsRefactorInfo × Bor (List ℕ)) Refusal) → refactor.first_of s ≡ w
    → ((q : Bor (List ℕ)) → All (λ b. b < 256) q.now → All refactor-fit.Fits (formers_of q left)) → All refactor-fit.Fits (formers_of s (suc left))
formers_fit_by s left h (Err why) f ih = rw (refactor-inside.listed_stop s left why f) (λ k d l. absurd (omega arith))
formers_fit_by s left h (Ok p) f ih =
    let t = refactor-again.fits s p f in
    rw (refactor-again.listed_here s left t)
    (All-cons refactor-fit.Fits _ _ (record_fits s h t) (ih (refactor-again.here s).1 (later_bytes s (refactor-again.n_of s + 7) h)))

formers_fit : (s : Bor (List ℕ)) (left : ℕ) → All (λ b. b < 256) s.now → All refactor-fit.Fits (formers_of s left)
formers_fit s zero h = rw (refactor-inside.listed_none s) (λ k d l. absurd (omega arith))
formers_fit s (suc left) h = formers_fit_by s left h (refactor.first_of s) refl (λ q b. formers_fit q left b)

-- blocks of what fits pass
attributes_pass : (count : ℕ) (block : Bor (List ℕ)) → AreAttributes count block.now → attribute-block.block_checked count block ≡ Ok tt
attributes_pass count block a = rw (← a.long) (attribute_blocks a.all block a.fit a.bytes).passes

records_pass : (count : ℕ) (block : Bor (List ℕ)) → AreRecords count block.now → refactor-block.block_checked count block ≡ Ok tt
records_pass count block a = rw (← a.long) ((refactor_blocks a.all block a.fit a.bytes).passes ∙ rw a.last refl)

-- and the blocks that pass are such
attributes_are : (count : ℕ) (block : Bor (List ℕ)) → All (λ b. b < 256) block.now → attribute-block.block_checked count block ≡ Ok tt → AreAttributes count block.now
attributes_are count block h p =
    let m = attribute_blocks_made count block p in
    record { all = attributes.told (attribute.listed block count); long = m.long; fit = listed_fit block count h; bytes = m.is }

last_is : (all : List refactor-fit.Former) (b : Bool) → has (refactor-fit.last_count all) refactor.follower ≡ b
    → ◌≡◌ {A = Result Unit Refusal} (if b then Err (BadBlock (length all) (length all - 1)) else Ok tt) (Ok tt) → has (refactor-fit.last_count all) refactor.follower ≡ false
last_is all true h p = cc
last_is all false h p = h

records_are : (count : ℕ) (block : Bor (List ℕ)) → All (λ b. b < 256) block.now → refactor-block.block_checked count block ≡ Ok tt → AreRecords count block.now
records_are count block h p =
    let m = refactor_blocks_made count block h p in
    let all = formers_of block count in
    let long : length all ≡ count = length-map (refactors.told (refactor.listed block count)) _ ∙ m.long in
    let fit = formers_fit block count h in
    let passes = (refactor_blocks all block fit m.is).passes in
    let same : refactor-block.block_checked (length all) block ≡ Ok tt = rw long p in
    record { all = all; long = long; fit = fit; last = last_is all (has (refactor-fit.last_count all) refactor.follower) refl (sym passes ∙ same); bytes = m.is }

-- the sections agree with the flags
pub test_same : (a b : Bool) → a ≡ b → beq a b ≡ true
test_same true true h = refl
test_same true false h = cc
test_same false true h = cc
test_same false false h = refl

pub none_unflagged : (b : Bool) (n : ℕ) → (b ≡ false → n ≡ 0) → (if b then true else eqb n 0) ≡ true
none_unflagged true n h = refl
none_unflagged false n h = eq-eqb n 0 (h refl)

pub unflagged_none : (b : Bool) (n : ℕ) → (if b then true else eqb n 0) ≡ true → b ≡ false → n ≡ 0
unflagged_none true n h f = cc
unflagged_none false n h f = eqb-true n 0 h

length_guid : (guid : Option (List ℕ)) (flagged : Bool) → IsSixteen guid → is_some guid ≡ flagged → length (guid_bytes guid) ≡ (if flagged then 16 else 0)
length_guid (Some guid) true s h = s
length_guid (Some guid) false s h = cc
length_guid None true s h = cc
length_guid None false s h = refl

pub strings_pass : (name type comment : List ℕ) → IsShort name type comment → strings_checked name type comment ≡ Ok tt
unfolding strings_checked
strings_pass name type comment h = simp (le-ltb 65535 (length name) h.name_fits, le-ltb 65535 (length type) h.type_fits, le-ltb 65535 (length comment) h.comment_fits)

module _ (n : NewSymbol) where
  pub size_is : IsTyped n → is_some n.guid ≡ flagged n type_guid_flag → length (symbol_bytes n) ≡ size_of n
  size_is t g = omega (arith, length_parts n, length_sections n, length_guid n.guid (flagged n type_guid_flag) t.guid g)

  sections_pass : IsWritable n → sections_checked n ≡ Ok tt
  unfolding sections_checked
  sections_pass w = simp (
    test_same (is_some n.guid) (flagged n type_guid_flag) w.guid_flagged,
    none_unflagged (flagged n attributes_flag) (length n.attributes.bytes.now) w.attributes_flagged,
    none_unflagged (flagged n extended_flags_flag) n.extended_flags.0 w.extended_flagged,
    test_same (ltb 0 n.refactor_infos.count) (has n.extended_flags.0 refactor_info_flag) w.chain_flagged,
  )

  checks_pass : IsWritable n → symbol_checked n ≡ Ok tt
  unfolding symbol_checked
  checks_pass w = simp (
    strings_pass n.name.now n.type_name.now n.comment.now w.short,
    le-ltb 65535 n.attributes.count w.few,
    attributes_pass n.attributes.count n.attributes.bytes w.attributes,
    records_pass n.refactor_infos.count n.refactor_infos.bytes w.refactor_infos,
    sections_pass w,
  )

  all_passes : IsWritable n → length (symbol_bytes n) ≤ limit → symbol_written n ≡ Ok (symbol_bytes n)
  unfolding symbol_written entry_checked
  all_passes w l = simp (checks_pass w, le-ltb limit (length (symbol_bytes n)) l)

  is_writable : IsTyped n → AreBytes n → Accepted n → IsWritable n
  is_writable t b a =
      let g = (booleans_Decides (is_some n.guid) (flagged n type_guid_flag)).0 a.guid_agrees in
      record {
        short = a.short;
        few = a.count;
        attributes = attributes_are n.attributes.count n.attributes.bytes b.attributes a.attributes_good;
        refactor_infos = records_are n.refactor_infos.count n.refactor_infos.bytes b.refactor_infos a.chain_good;
        guid_flagged = g;
        attributes_flagged = unflagged_none (flagged n attributes_flag) (length n.attributes.bytes.now) a.attributes_agree;
        extended_flagged = unflagged_none (flagged n extended_flags_flag) n.extended_flags.0 a.extended_agree;
        chain_flagged = (booleans_Decides (ltb 0 n.refactor_infos.count) (has n.extended_flags.0 refactor_info_flag)).0 a.chain_agrees;
        within = let s = size_is t g in omega (arith, a.small, s);
      }

pub symbols_written : SymbolsWritten
symbols_written n t b = record {
  written = λ w. let s = size_is n t w.guid_flagged in (all_passes n w (omega (arith, s, w.within)), s);
  only = λ bytes h. let a = accepted_is n bytes h in (is_writable n t b a.0, a.1);
}
