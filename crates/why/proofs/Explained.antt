-- The reasons of a symbol are true of its bytes, and say what it shows: proved.
use Rattle.std.proofs.Common.{inr, ◌≡◌, ℕ, ◌+◌, ◌-◌, ◌≤◌, Bool, true, false, List, length, drop, Ok, Err, Result, refl, sym, ap, ◌∙◌, subst, arith, Bor}
use Rattle.std.specs.Prelude.{Option, Some, None, is_some, leb, if◌then◌else◌}
use borrow.Author.Tests.{le-leb}
use Rattle.le.specs.Le.{le2, has}
use Rattle.part.specs.Outcome.{outcome, and_then}
use Rattle.part.specs.End.{rest_at}
use Rattle.refusal.specs.declared.Mode.{Mode}
use Rattle.refusal.specs.declared.Mode.TheVariants.{Present, Checked}
use Rattle.flags.specs.declared.symbol_flags.AdsSymbol2Flags.{AdsSymbol2Flags}
use Rattle.walk.specs.Step.{parse_of}
use Rattle.walk.specs.Direct.{IsParsed, large, short, beyond, below, own}
use Rattle.walk.specs.Theorems.{Begins as BeginsEntry, entry_of}
use Rattle.walk.proofs.Direct.{parses_meant}
use Rattle.walk.proofs.Theorems.{behind_unread}
use Rattle.symbol.specs.declared.AdsSymbolInfo.{AdsSymbolInfo}
use Rattle.symbol.specs.Symbol.{extended_word, symbol_of}
use Rattle.symbol.specs.Inside.{behind_strings, behind_guid, behind_attributes, IsInside}
use Rattle.symbol.specs.Laws.{IsWhole}
use Rattle.symbol.specs.ReadOn.{is_flagged, IsReadOn}
use Rattle.refusal.specs.declared.Refusal.{Refusal}
use Rattle.refactor.specs.Refactor.{chain_of}
use Rattle.refactor.proofs.Chains.{chains_refused}
use Rattle.symbol.proofs.Laws.{symbols_whole}
use Rattle.symbol.proofs.Modes.{symbols_modes}
use Rattle.symbol.proofs.Lies.{symbols_inside}
use Rattle.symbol.proofs.ReadOn.{symbols_read_on}
use Rattle.why.specs.declared.Reason.{Reason}
use Rattle.why.specs.declared.Reasons.{Reasons}
use Rattle.why.specs.Reasons.{explained_own, explained, extended_at, reasons_of, chain_reason_by, chain_reason, fixed_reason}
use Rattle.why.specs.Meant.{strings_end, IsFixed, fixed_unflagged, fixed_short, fixed_there, AreTrue, ReasonsTrue}
use Rattle.why.specs.Meant.{IsAttributes, attributes_unflagged, attributes_short, attributes_whole, attributes_refused, attributes_owed, BehindAttributes, list_there}
use Rattle.why.specs.Meant.{IsChain, chain_no_flags, chain_short_flags, chain_unflagged, chain_no_byte, chain_refused, chain_whole}
use Rattle.why.specs.Shown.{kept_of, Begins, RefusedAt, AreShown, ReasonsShown}
use Rattle.why.proofs.One.{is_cut, one_behind_list}
use Rattle.why.proofs.True.{fixed_true, behind_true, attributes_true, attributes_shown, behind_list}
use Rattle.why.proofs.Chain.{chain_by, kept_flagged}

-- whether an optional part is there, by the test that puts it there
some_if : {A : Type 0} (t : Bool) (x : A) → is_some (if t then Some x else None) ≡ t
some_if true x = refl
some_if false x = refl

module _ (e : Bor (List ℕ)) (r : AdsSymbolInfo) (i : IsInside e r) (w : IsReadOn e r) (h : IsWhole e r) where
  names : behind_strings r ≡ strings_end e.now
  names = let n = i.name_length in let t = i.type_name_length in let c = i.comment_length in omega arith

  strings_there : behind_strings r ≤ length e.now
  strings_there = let s = h.within.strings in omega arith

  guid_there : is_some r.guid ≡ (if has (le2 e.now 20) 0x0008 then leb 16 (length e.now - behind_strings r) else false)
  guid_there = ap (λ (x : Option (List ℕ)). is_some x) i.guid ∙ some_if _ _

  flags_there : is_some r.extended_flags ≡ (if has (le2 e.now 20) 0x8000 then leb 4 (length e.now - behind_attributes e r) else false)
  flags_there = ap (λ (x : Option AdsSymbol2Flags). is_some x) i.extended_flags ∙ some_if _ _

  count_there : behind_guid r ≤ length e.now
  count_there = let z = i.attributes_at in let m = i.attribute_bytes.within in omega arith

  attributes_there : behind_attributes e r ≤ length e.now
  attributes_there = omega arith

  flags_at : extended_at e r ≡ behind_attributes e r
  flags_at = let z = i.chain_at in omega arith

  chain_from_flags : rest_at e r.refactor_infos.bytes ≡ behind_attributes e r + (if (if has (le2 e.now 20) 0x8000 then leb 4 (length e.now - behind_attributes e r) else false) then 4 else 0)
  chain_from_flags = subst (λ (t : Bool). rest_at e r.refactor_infos.bytes ≡ behind_attributes e r + (if t then 4 else 0)) flags_there i.chain_at

  pub are_true : AreTrue e.now (reasons_of e r)
  unfolding reasons_of
  are_true = record {
    guid = rw (i.flags, names) (fixed_true e.now 0x0008 16 (strings_end e.now) (is_some r.guid) (rw names at strings_there) (omega arith) (rw names at guid_there));
    count_at = behind_guid r;
    behind_guid = rw names (behind_true e.now 0x0008 16 (strings_end e.now) (is_some r.guid) (rw names at strings_there) (omega arith) (rw names at guid_there));
    attributes = attributes_true e r i count_there;
    flags_at = behind_attributes e r;
    behind_attributes = behind_list e r i w.attributes h.counted count_there;
    extended_flags = rw (i.flags, flags_at) (fixed_true e.now 0x8000 4 (behind_attributes e r) (is_some r.extended_flags) attributes_there (omega arith) flags_there);
    chain =
        rw i.extended_flags
        (chain_by e r.refactor_infos.bytes (behind_attributes e r) i.refactor_bytes attributes_there (has (le2 e.now 20) 0x8000) (leb 4 (length e.now - behind_attributes e r)) refl refl chain_from_flags);
  }

-- an entry that either mode accepts the present mode reads as the same symbol
present : (mode : Mode) (e : Bor (List ℕ)) (r : AdsSymbolInfo) → symbol_of mode e ≡ Ok r → symbol_of Present e ≡ Ok r
present Present e r h = h
present Checked e r h = ((symbols_modes e).ended r h).0

-- what a direct reading gives, where it accepts, is what the entry's own bytes give
record FromOwn {R : Type 0} (read : Bor (List ℕ) → Result R Refusal) (s : Bor (List ℕ)) (r : R) : Type 0 where
  begins : BeginsEntry 30 s.now
  reads : read (entry_of s) ≡ Ok r

from_own : {R : Type 0} (read : Bor (List ℕ) → Result R Refusal) (s : Bor (List ℕ)) (r : R) → parse_of 30 read s ≡ Ok r → FromOwn read s r
from_own read s r h = by (parse_of 30 read s) (parses_meant 30 read s) h
  where
    by : (x : Result _ Refusal) → IsParsed 30 read s x → x ≡ Ok r → FromOwn read s r
    by x (large a) e = absurd cc
    by x (short a b) e = absurd cc
    by x (beyond a b c) e = absurd cc
    by x (below a b c d) e = absurd cc
    by x (own a b c d) e = record { begins = record { within = a; long = d; there = c }; reads = e }

-- of the entry at the start of some bytes the reasons that are answered are those of its own bytes
answer : (mode : Mode) (s : Bor (List ℕ)) (r : AdsSymbolInfo) → FromOwn (symbol_of mode) s r → explained s ≡ Ok (reasons_of (entry_of s) r)
answer mode s r f =
    let b = f.begins in
    (behind_unread explained_own 30 (omega arith) s b.within b.long b.there).reads ∙ ap (λ x. and_then x (λ t. Ok (reasons_of (entry_of s) t))) (present mode (entry_of s) r f.reads)

pub reasons_true : ReasonsTrue
reasons_true mode s r h =
    let f = from_own (symbol_of mode) s r h in
    let e = entry_of s in
    record {
      reasons = reasons_of e r;
      answered = answer mode s r f;
      are_true = are_true e r (symbols_inside mode e r f.reads) ((symbols_read_on e).only mode r f.reads).1 (symbols_whole mode e r f.reads);
    }

-- the place that a reason tells, by what it says
begins_fixed : (e : List ℕ) (bit size at : ℕ) (x : Reason) → IsFixed e bit size at x → Begins x at
begins_fixed e bit size at x (fixed_unflagged f) = tt
begins_fixed e bit size at x (fixed_short f h l) = refl
begins_fixed e bit size at x (fixed_there f h) = refl

begins_attributes : (e : List ℕ) (at : ℕ) (x : Reason) → IsAttributes e at x → Begins x at
begins_attributes e at x (attributes_unflagged f) = tt
begins_attributes e at x (attributes_short f h l) = refl
begins_attributes e at x (attributes_whole f h s) = refl
begins_attributes e at x (attributes_refused f h s l o c) = tt
begins_attributes e at x (attributes_owed f h s l o c) = tt

refused_here : (e : List ℕ) (at to : ℕ) (x : Reason) → IsAttributes e at x → BehindAttributes e at to → RefusedAt x to
refused_here e at to x (attributes_unflagged f) b = tt
refused_here e at to x (attributes_short f h l) b = tt
refused_here e at to x (attributes_whole f h s) b = tt
refused_here e at to x (attributes_refused {to = place} {why = why} f h s l o c) b = one_behind_list e at place to (list_there f h s (omega arith) (inr (is_cut (drop place e) why c))) b
refused_here e at to x (attributes_owed f h s l o c) b = tt

kept_fixed : (there flagged : Bool) (at left : ℕ) → kept_of (fixed_reason there flagged at left) ≡ (if there then 1 else 0)
kept_fixed true flagged at left = refl
kept_fixed false true at left = refl
kept_fixed false false at left = refl

module _ (e q : Bor (List ℕ)) (at : ℕ) (z : rest_at e q ≡ at + (if (if has (le2 e.now 20) 0x8000 then leb 4 (length e.now - at) else false) then 4 else 0)) where
  behind_flags : has (le2 e.now 20) 0x8000 ≡ true → at + 4 ≤ length e.now → at + 4 ≡ rest_at e q
  behind_flags f h = let g : leb 4 (length e.now - at) ≡ true = le-leb 4 (length e.now - at) (omega arith) in sym (rw (f, g) at z)

  begins_chain : (x : Reason) → IsChain e.now at x → Begins x (rest_at e q)
  begins_chain x (chain_no_flags f) = tt
  begins_chain x (chain_short_flags h) = tt
  begins_chain x (chain_unflagged f h b) = tt
  begins_chain x (chain_no_byte f h b) = behind_flags f (omega arith)
  begins_chain x (chain_refused f h b s c) = tt
  begins_chain x (chain_whole f h b s t n) = behind_flags f (omega arith)

-- a chain keeps as many records as its reader shows
module _ (e : Bor (List ℕ)) (r : AdsSymbolInfo) (w : IsReadOn e r) where
  abbrev chain : Bor (List ℕ)
  chain = r.refactor_infos.bytes

  read_by : is_flagged r ≡ true → (t : Result (ℕ × Bor (List ℕ)) Refusal) → chain_of chain ≡ t → outcome t (λ x. x.0) (λ why. 0) ≡ r.refactor_infos.count
  read_by f (Ok p) h = sym (w.chain f p.0 p.1 h).0
  read_by f (Err why) h = sym (w.dropped why ((chains_refused chain why).only (ap (λ (t : Result (ℕ × Bor (List ℕ)) Refusal). and_then t (λ p. Ok (record { bytes = chain; count = p.0 }, p.1))) h))).none

  kept_by : (x : Option AdsSymbol2Flags) → r.extended_flags ≡ x → (b : Bool) → has (extended_word x) 0x0004 ≡ b → kept_of (chain_reason_by e chain x) ≡ r.refactor_infos.count
  kept_by None h b g = sym (w.unflagged (ap (λ (x : Option AdsSymbol2Flags). has (extended_word x) 0x0004) h)).none
  kept_by (Some flags) h false g = rw g (sym (w.unflagged (ap (λ (x : Option AdsSymbol2Flags). has (extended_word x) 0x0004) h ∙ g)).none)
  kept_by (Some flags) h true g = rw g (kept_flagged e chain ∙ read_by (ap (λ (x : Option AdsSymbol2Flags). has (extended_word x) 0x0004) h ∙ g) (chain_of chain) refl)

  pub kept_chain : kept_of (chain_reason e r) ≡ r.refactor_infos.count
  kept_chain = kept_by r.extended_flags refl (has (extended_word r.extended_flags) 0x0004) refl

module _ (e : Bor (List ℕ)) (r : AdsSymbolInfo) (i : IsInside e r) (w : IsReadOn e r) (h : IsWhole e r) where
  are_shown : AreShown e r (reasons_of e r)
  unfolding reasons_of are_true
  are_shown =
      let t = are_true e r i w h in
      record {
        guid = kept_fixed _ _ _ _;
        attributes = attributes_shown e r i w.attributes h.counted (count_there e r i w h) _ t.attributes;
        extended_flags = kept_fixed _ _ _ _;
        chain = kept_chain e r w;
        guid_at = subst (Begins _) (sym (names e r i w h)) (begins_fixed e.now 0x0008 16 (strings_end e.now) _ t.guid);
        attributes_at = begins_attributes e.now (behind_guid r) _ t.attributes;
        refused_at = refused_here e.now (behind_guid r) (behind_attributes e r) _ t.attributes t.behind_attributes;
        extended_at = begins_fixed e.now 0x8000 4 (behind_attributes e r) _ t.extended_flags;
        chain_at = begins_chain e r.refactor_infos.bytes (behind_attributes e r) (chain_from_flags e r i w h) _ t.chain;
      }

pub reasons_shown : ReasonsShown
reasons_shown mode s r x h a =
    let f = from_own (symbol_of mode) s r h in
    let e = entry_of s in
    let same : ◌≡◌ {A = Result Reasons Refusal} (Ok (reasons_of e r)) (Ok x) = sym (answer mode s r f) ∙ a in
    let is : reasons_of e r ≡ x = cc in
    subst (AreShown e r) is (are_shown e r (symbols_inside mode e r f.reads) ((symbols_read_on e).only mode r f.reads).1 (symbols_whole mode e r f.reads))
