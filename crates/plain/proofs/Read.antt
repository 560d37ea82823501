-- An entry that is what is written of its record is in form.
use Rattle.std.proofs.Common.{ℕ, ◌+◌, ◌<◌, ◌≤◌, ◌≡◌, refl, sym, ap, ◌∙◌, Bool, true, false, List, [], ◌++◌, length, drop, get_or, arith, Bor, length-drop, drop-drop, Ok, append-nil}
use Rattle.std.specs.Prelude.{Option, Some, None, is_some, if◌then◌else◌}
use lib.Seq.{drop-append_seam}
use Rattle.le.specs.Le.{le2, le4, bytes4}
use Rattle.le.proofs.Laws.{le2_bytes2, le4_bytes4}
use Rattle.refusal.specs.declared.Mode.{Mode}
use Rattle.refusal.specs.declared.Mode.TheVariants.{Present}
use Rattle.flags.specs.declared.symbol_flags.AdsSymbol2Flags.{AdsSymbol2Flags}
use Rattle.walk.specs.Mapped.{map_ok}
use Rattle.writing.specs.Layout.{strings_bytes, attributes_bytes, entry_bytes}
use Rattle.writing.proofs.Laid as laid
use Rattle.writing.proofs.Entry.{length_entry}
use Rattle.symbol.specs.declared.AdsSymbolInfo.{AdsSymbolInfo}
use Rattle.symbol.specs.declared.writer.NewSymbol.{NewSymbol}
use Rattle.symbol.specs.Symbol.{attributes_flag, extended_flags_flag, symbol_of}
use Rattle.symbol.specs.Told.{Told, told_of, meant, IsSixteen}
use Rattle.symbol.specs.Inside.{behind_strings, behind_guid}
use Rattle.symbol.specs.Writing.{flagged, guid_bytes, extended_bytes, header_bytes, sections_bytes, symbol_bytes, symbol_written}
use Rattle.symbol.specs.Again.{new_of}
use Rattle.symbol.proofs.Accepted.{Accepted, accepted_is}
use Rattle.std.specs.Cmp.{booleans_Decides}
use Rattle.symbol.proofs.Header as header
use Rattle.symbol.proofs.Header.{body_of}
use Rattle.symbol.proofs.Lies.{two_from}
use Rattle.symbol.proofs.ReadBack.{symbols_read_back}
use Rattle.plain.specs.Form.{HoldsBytes, IsWrittenSo, IsComplete, IsInForm}
use Rattle.plain.proofs.Formed.{typed}
use Rattle.plain.proofs.Good.{passed_attributes_good, passed_records_good}

guid_long : (g : Option (List ℕ)) → IsSixteen g → length (guid_bytes g) ≡ (if is_some g then 16 else 0)
guid_long (Some guid) h = h
guid_long None h = refl

flag_there : (x : Option AdsSymbol2Flags) (t : Bool) (v : AdsSymbol2Flags) → x ≡ (if t then Some v else None) → t ≡ is_some x
flag_there x true v h = sym (ap is_some h)
flag_there x false v h = sym (ap is_some h)

body_bytes : (n : NewSymbol) → symbol_bytes n ≡ entry_bytes (body_of n ++ [])
unfolding symbol_bytes
body_bytes n = ap entry_bytes (sym (append-nil (body_of n)))

dropped : (n : NewSymbol) → entry_bytes (drop 4 (symbol_bytes n) ++ []) ≡ entry_bytes (body_of n ++ [])
unfolding symbol_bytes entry_bytes
dropped n = refl

module _ (e : Bor (List ℕ)) (r : AdsSymbolInfo) (h : HoldsBytes e) (read : symbol_of Present e ≡ Ok r) (w : IsWrittenSo e r) where
  abbrev n : NewSymbol
  n = new_of r

  a : Accepted n
  a = (accepted_is n e.now w).0

  is : e.now ≡ entry_bytes (body_of n ++ [])
  is = (accepted_is n e.now w).1 ∙ body_bytes n

  small : length e.now ≤ 16777216
  small = let l = ap length (accepted_is n e.now w).1 in omega (arith, a.small)

  fits : length (body_of n ++ []) + 4 < 4294967296
  fits = let l = ap length is in omega (arith, small, length_entry (body_of n ++ []))

  claims : le4 e.now 0 ≡ length e.now
  unfolding entry_bytes
  claims =
      let l : length e.now ≡ length (body_of n ++ []) + 4 = ap length is ∙ length_entry (body_of n ++ []) in
      ap (λ (s : List ℕ). le4 s 0) is ∙ le4_bytes4 (length (body_of n ++ []) + 4) (body_of n ++ []) fits ∙ sym l

  l : laid.Laid (entry_bytes (body_of n ++ [])) (bytes4 (length (body_of n ++ []) + 4) ++ header_bytes n) n.name.now n.type_name.now n.comment.now (sections_bytes n ++ []) 30
  l = header.laid n (typed e r h read) a [] fits

  -- in either mode it is read as what is written of it
  pub read_again : (mode : Mode) → map_ok told_of (symbol_of mode e) ≡ Ok (meant n [])
  read_again mode =
      let again : symbol_written n ≡ Ok (symbol_bytes n) = w ∙ ap Ok (accepted_is n e.now w).1 in
      symbols_read_back mode n [] e (typed e r h read) again (is ∙ sym (dropped n)) small

  pub told : told_of r ≡ meant n []
  told = let b = sym (ap (map_ok told_of) read) ∙ read_again Present in cc

  abbrev front : List ℕ
  front = (bytes4 (length (body_of n ++ []) + 4) ++ header_bytes n) ++ strings_bytes n.name.now n.type_name.now n.comment.now

  front_long : behind_strings r ≡ length front
  unfolding new_of
  front_long = omega (arith, laid.length_front l)

  behind : drop (behind_strings r) e.now ≡ sections_bytes n
  behind =
      ap (drop (behind_strings r)) (is ∙ laid.split l)
      ∙ ap (λ (k : ℕ). drop k (front ++ (sections_bytes n ++ []))) front_long
      ∙ drop-append_seam front (sections_bytes n ++ [])
      ∙ append-nil (sections_bytes n)

  rest : List ℕ
  rest = extended_bytes (flagged n extended_flags_flag) n.extended_flags.0 ++ n.refactor_infos.bytes.now

  behind_it : drop (behind_guid r) e.now ≡ attributes_bytes (flagged n attributes_flag) n.attributes.count n.attributes.bytes.now ++ rest
  unfolding new_of sections_bytes rest
  behind_it =
      let g = guid_long r.guid (typed e r h read).guid in
      sym (drop-drop (if is_some r.guid then 16 else 0) (behind_strings r) e.now)
      ∙ ap (drop (if is_some r.guid then 16 else 0)) behind
      ∙ ap (λ (k : ℕ). drop k (sections_bytes n)) (sym g)
      ∙ drop-append_seam (guid_bytes r.guid) _

  complete_by : (t : Bool) → t ≡ true → drop (behind_guid r) e.now ≡ attributes_bytes t n.attributes.count n.attributes.bytes.now ++ rest → IsComplete e r
  unfolding attributes_bytes new_of
  complete_by true q d =
      let long = sym (length-drop (behind_guid r) e.now) ∙ ap length d in
      let c = a.count in
      record {
        there = omega (arith, long);
        all = sym (two_from e.now (behind_guid r)) ∙ ap (λ (s : List ℕ). le2 s 0) d ∙ le2_bytes2 n.attributes.count (n.attributes.bytes.now ++ rest) (omega (arith, c));
      }
  complete_by false q d = cc

  pub written_form : IsInForm e r
  unfolding new_of
  written_form =
      let name_end = laid.name_end l in
      let type_end = laid.type_end l in
      let comment_end = laid.comment_end l in
      record {
        within = small;
        claims = claims;
        guid = sym ((booleans_Decides _ _).0 a.guid_agrees);
        attributes = λ q. complete_by (flagged n attributes_flag) q behind_it;
        extended_flags = flag_there r.extended_flags _ _ (ap (λ (t : Told). t.extended_flags) told);
        chain = sym ((booleans_Decides _ _).0 a.chain_agrees);
        good_attributes = passed_attributes_good _ n.attributes.bytes a.attributes_good;
        good_chain = passed_records_good _ n.refactor_infos.bytes a.chain_good;
        name_ended = ap (λ (s : List ℕ). get_or s (30 + length r.name.now) 0) is ∙ name_end;
        type_ended = ap (λ (s : List ℕ). get_or s (31 + length r.name.now + length r.type_name.now) 0) is ∙ ap (λ (k : ℕ). get_or (entry_bytes (body_of n ++ [])) k 0) (omega arith) ∙ type_end;
        comment_ended = ap (λ (s : List ℕ). get_or s (32 + length r.name.now + length r.type_name.now + length r.comment.now) 0) is ∙ ap (λ (k : ℕ). get_or (entry_bytes (body_of n ++ [])) k 0) (omega arith) ∙ comment_end;
        read_whole = ap (λ (t : Told). length t.unread) told;
      }
