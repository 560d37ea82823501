-- What is read of a written symbol is, to be written again, what was given: proved.
use Rattle.std.proofs.Common.{ℕ, ◌+◌, ◌<◌, ◌≡◌, refl, sym, ap, ap₂, ◌∙◌, Bool, true, false, List, ◌++◌, length, take, Ok, Some, None, Bor, arith, length-append, Result}
use Rattle.std.specs.Prelude.{Option, is_some, if◌then◌else◌}
use lib.Seq.{take-append_seam}
use Rattle.refusal.specs.declared.Refusal.{Refusal}
use Rattle.flags.specs.declared.symbol_flags.AdsSymbol2Flags.{AdsSymbol2Flags}
use Rattle.writing.specs.Layout.{entry_bytes}
use Rattle.writing.proofs.Entry.{length_entry}
use Rattle.symbol.specs.declared.AdsSymbolInfo.{AdsSymbolInfo}
use Rattle.symbol.specs.declared.writer.NewSymbol.{NewSymbol}
use Rattle.symbol.specs.Symbol.{extended_flags_flag}
use Rattle.symbol.specs.Told.{Told, told_of, meant, IsTyped}
use Rattle.symbol.specs.Writing.{flagged, extended_bytes, symbol_bytes}
use Rattle.symbol.specs.Again.{given_of, new_of, attributes_size, refactors_size}
use Rattle.symbol.specs.ReadBack.{SymbolsGivenBack}
use Rattle.symbol.proofs.Accepted.{Accepted, accepted_is}
use Rattle.symbol.proofs.Header.{body_of}
use Rattle.symbol.proofs.Back.{back, read_is, tells, BlocksBack, blocks_back}

-- a word that is flagged has 4 bytes
word_long : (x : Option AdsSymbol2Flags) (t : Bool) (v : AdsSymbol2Flags) → x ≡ (if t then Some v else None) → length (extended_bytes t v.0) ≡ (if is_some x then 4 else 0)
word_long x true v h = rw h refl
word_long x false v h = rw h refl

first_of_both : (n : ℕ) (s xs ys : List ℕ) → s ≡ xs ++ ys → n ≡ length xs → take n s ≡ xs
first_of_both n s xs ys h l = ap₂ (λ (k : ℕ) (t : List ℕ). take k t) l h ∙ take-append_seam xs ys

module _ (n : NewSymbol) (t : IsTyped n) (a : Accepted n) (extra : List ℕ) (fits : length (body_of n ++ extra) + 4 < 4294967296)
    (e : Bor (List ℕ)) (is : e.now ≡ entry_bytes (body_of n ++ extra)) where
  abbrev r : AdsSymbolInfo
  r = back n t a extra fits e is

  b : BlocksBack n t a extra fits e is
  b = blocks_back n t a extra fits e is

  told : told_of r ≡ meant n extra
  told = tells n t a extra fits e is

  attributes_long : attributes_size r ≡ length n.attributes.bytes.now
  attributes_long =
      let w = word_long r.extended_flags (flagged n extended_flags_flag) n.extended_flags (ap (λ (t : Told). t.extended_flags) told) in
      let whole = ap length b.attributes ∙ length-append n.attributes.bytes.now _ in
      let behind = length-append (extended_bytes (flagged n extended_flags_flag) n.extended_flags.0) (n.refactor_infos.bytes.now ++ extra) in
      let chain = ap length b.refactor_infos in
      omega (arith, w, whole, behind, chain)

  refactors_long : refactors_size r ≡ length n.refactor_infos.bytes.now
  refactors_long =
      let whole = ap length b.refactor_infos ∙ length-append n.refactor_infos.bytes.now extra in
      let behind = ap length b.unread in
      omega (arith, whole, behind)

  pub given : given_of (new_of r) ≡ given_of n
  unfolding new_of
  given =
      let index_group : r.index_group ≡ n.index_group = ap (λ (t : Told). t.index_group) told in
      let index_offset : r.index_offset ≡ n.index_offset = ap (λ (t : Told). t.index_offset) told in
      let size : r.size ≡ n.size = ap (λ (t : Told). t.size) told in
      let data_type_id : r.data_type_id ≡ n.data_type_id = ap (λ (t : Told). t.data_type_id) told in
      let flags : r.flags ≡ n.flags = ap (λ (t : Told). t.flags) told in
      let high : r.high ≡ n.high = ap (λ (t : Told). t.high) told in
      let name : r.name.now ≡ n.name.now = ap (λ (t : Told). t.name) told in
      let type_name : r.type_name.now ≡ n.type_name.now = ap (λ (t : Told). t.type_name) told in
      let comment : r.comment.now ≡ n.comment.now = ap (λ (t : Told). t.comment) told in
      let guid : r.guid ≡ n.guid = ap (λ (t : Told). t.guid) told in
      let attributes : take (attributes_size r) r.attributes.bytes.now ≡ n.attributes.bytes.now = first_of_both _ _ n.attributes.bytes.now _ b.attributes attributes_long in
      let refactor_infos : take (refactors_size r) r.refactor_infos.bytes.now ≡ n.refactor_infos.bytes.now = first_of_both _ _ n.refactor_infos.bytes.now extra b.refactor_infos refactors_long in
      simp (index_group, index_offset, size, data_type_id, flags, high, name, type_name, comment, guid, attributes, refactor_infos, b.attribute_count, b.refactor_count, b.word)

same_read : (r q : AdsSymbolInfo) → ◌≡◌ {A = Result AdsSymbolInfo Refusal} (Ok r) (Ok q) → r ≡ q
same_read r q h = cc

pub symbols_given_back : SymbolsGivenBack
unfolding symbol_bytes entry_bytes
symbols_given_back mode n extra e r t w h small read =
    let is : e.now ≡ entry_bytes (body_of n ++ extra) = h in
    let fits : length (body_of n ++ extra) + 4 < 4294967296 = omega (arith, ap length is, length_entry (body_of n ++ extra), small) in
    let a = (accepted_is n (symbol_bytes n) w).0 in
    let same = same_read r (back n t a extra fits e is) (sym read ∙ read_is n t a extra fits e is mode) in
    ap (λ (q : AdsSymbolInfo). given_of (new_of q)) same ∙ given n t a extra fits e is
