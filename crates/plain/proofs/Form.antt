-- The two statements of plain form are the same: proved.
use Rattle.std.proofs.Common.{ℕ, ◌≤◌, ◌≡◌, refl, sym, ap, ◌∙◌, Bool, true, false, List, length, arith, Bor, Ok, Err, Result}
use Rattle.std.specs.Prelude.{Option, Some, None, is_some}
use Rattle.le.specs.Le.{has}
use Rattle.refusal.specs.declared.Refusal.{Refusal}
use Rattle.refusal.specs.declared.Mode.TheVariants.{Present}
use Rattle.writing.specs.Checks.{IsShort}
use Rattle.symbol.specs.declared.AdsSymbolInfo.{AdsSymbolInfo}
use Rattle.symbol.specs.declared.writer.NewSymbol.{NewSymbol}
use Rattle.symbol.specs.Symbol.{extended_word, symbol_of}
use Rattle.symbol.specs.Inside.{behind_guid}
use Rattle.symbol.specs.Writing.{symbol_written}
use Rattle.symbol.specs.Barred.{IsBarred, name, type_name, comment, count, attributes, refactor_infos, guid, unflagged_attributes, unflagged_word, chain, size}
use Rattle.symbol.specs.Again.{new_of}
use Rattle.symbol.proofs.Barred.{symbols_barred}
use Rattle.symbol.proofs.Writable.{size_is}
use Rattle.symbol.proofs.Accepted.{accepted_is}
use Rattle.plain.specs.Form.{HoldsBytes, IsWrittenSo, IsInForm}
use Rattle.plain.proofs.Bytes.{two_small}
use Rattle.plain.proofs.Formed.{typed, lies, unflagged, bytes_are}
use Rattle.plain.proofs.Good.{good_attributes_pass, good_records_pass}

module _ (e : Bor (List ℕ)) (r : AdsSymbolInfo) (h : HoldsBytes e) (read : symbol_of Present e ≡ Ok r) where
  abbrev n : NewSymbol
  n = new_of r

  short : IsShort r.name.now r.type_name.now r.comment.now
  short =
      let i = lies e r h read in
      let a = two_small e.now 24 h in
      let b = two_small e.now 26 h in
      let c = two_small e.now 28 h in
      record { name_fits = omega (arith, i.name_length); type_fits = omega (arith, i.type_name_length); comment_fits = omega (arith, i.comment_length) }

  -- nothing bars a record that is in form
  module _ (f : IsInForm e r) where
    few_by : (t : Bool) → has r.flags.0 0x1000 ≡ t → r.attributes.count ≤ 65535
    few_by true w = let c = (f.attributes w).all in let s = two_small e.now (behind_guid r) h in omega arith
    few_by false w = let c = (unflagged e r h read f w).none in omega arith

    pub not_barred : (why : Refusal) → IsBarred n why → ⊥
    unfolding new_of
    not_barred why (name l) = let s = short in omega (arith, s.name_fits)
    not_barred why (type_name l m) = let s = short in omega (arith, s.type_fits)
    not_barred why (comment l m k) = let s = short in omega (arith, s.comment_fits)
    not_barred why (count s l) = let c = few_by (has r.flags.0 0x1000) refl in omega arith
    not_barred why (attributes s l p) = let g = good_attributes_pass r.attributes.count n.attributes.bytes f.good_attributes in let z = sym g ∙ p in cc
    not_barred why (refactor_infos s l a p) = let g = good_records_pass r.refactor_infos.count n.refactor_infos.bytes f.good_chain in let z = sym g ∙ p in cc
    not_barred why (guid g not) = not (sym f.guid)
    not_barred why (unflagged_attributes g a not) = not (λ w. (unflagged e r h read f w).empty)
    not_barred why (unflagged_word g a b not) = not (λ w. no_word r.extended_flags (sym f.extended_flags ∙ w))
      where
        no_word : (x : Option _) → is_some x ≡ false → extended_word x ≡ 0
        no_word (Some x) q = cc
        no_word None q = refl
    not_barred why (chain g a b x not) = not (sym f.chain)
    not_barred why (size g a b x c l) =
        let s = size_is n (typed e r h read) a in
        let b = ap length (bytes_are e r h read f) in
        omega (arith, s, b, f.within)

    written : (w : Result (List ℕ) Refusal) → symbol_written n ≡ w → IsWrittenSo e r
    written (Ok bytes) w = w ∙ ap Ok ((accepted_is n bytes w).1 ∙ sym (bytes_are e r h read f))
    written (Err why) w = absurd (not_barred why ((symbols_barred n why (typed e r h read)).0 w))

    pub form_written : IsWrittenSo e r
    form_written = written (symbol_written n) refl
