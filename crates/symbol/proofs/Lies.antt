-- Every part of a symbol lies in its entry, in layout order.
use Rattle.std.proofs.Common.{ℕ, ◌+◌, ◌-◌, ◌<◌, ◌≤◌, ◌≡◌, refl, sym, ap, ◌∙◌, Bool, true, false, List, length, take, drop, Ok, Err, Result, arith, Bor, subst, length-drop}
use Rattle.std.specs.Prelude.{Option, Some, None, is_some, leb, if◌then◌else◌}
use Rattle.std.proofs.lemmas.Grind.{common_steps}
use lib.Seq.{length-take-le, get_or-drop}
use native.Mathlib.Nat.{add-zero}
use borrow.Author.Tests.{leb-true}
use Rattle.flags.specs.declared.symbol_flags.AdsSymbol2Flags.{AdsSymbol2Flags}
use Rattle.le.specs.Le.{le2, le4, has}
use Rattle.part.specs.Slice.{part, after}
use Rattle.part.proofs.Slice.{end_self, end_after, end_again, string_at}
use Rattle.part.specs.Outcome.{outcome}
use Rattle.refusal.specs.declared.Refusal.{Refusal}
use Rattle.attribute.specs.Attribute as attribute
use Rattle.attribute.specs.declared.Attributes.{Attributes}
use Rattle.attribute.proofs.Inside.{attributes_inside}
use Rattle.attribute.proofs.Laws.{after_again, after_none}
use Rattle.refactor.specs.Refactor as refactor
use Rattle.refactor.specs.declared.RefactorInfos.{RefactorInfos}
use Rattle.refactor.specs.Inside.{RefactorsLie}
use Rattle.refactor.proofs.Inside.{listed_none, chains_counted}
use Rattle.layout.specs.Layout.{guid_of}
use Rattle.layout.proofs.Guid.{end_guid}
use Rattle.symbol.specs.Symbol.{type_guid_flag, attributes_flag, extended_flags_flag, refactor_info_flag, extended_word, attributes_of, extended_of, refactor_infos_of, with_strings}
use Rattle.part.specs.End.{IsEnd, IsString, rest_at}
use Rattle.symbol.specs.Inside.{behind_strings, behind_guid, IsInside, SymbolsInside}
use Rattle.symbol.proofs.Laws.{accepted_is, accepted_room}

-- the sections
extended_tail : (s : Bor (List ℕ)) (b : Bool) → IsEnd s (extended_of s b).1
unfolding extended_of
extended_tail s false = end_self s
extended_tail s true = by_room (leb 4 (length s.now)) refl
  where
    by_room : (b : Bool) → leb 4 (length s.now) ≡ b → IsEnd s (if◌then◌else◌ {A = Option AdsSymbol2Flags × Bor (List ℕ)} b (Some (record { 0 = le4 s.now 0 }), after s 4) (None, s)).1
    by_room true h = end_after 4 (leb-true 4 (length s.now) h) (end_self s)
    by_room false h = end_self s

-- as many bytes are taken as are there for the section
guid_size : (s : Bor (List ℕ)) (b : Bool) → length (guid_of s b).1.now + (if is_some (guid_of s b).0 then 16 else 0) ≡ length s.now
unfolding guid_of
guid_size s b = grind (arith, common_steps)

extended_size : (s : Bor (List ℕ)) (b : Bool) → length (extended_of s b).1.now + (if is_some (extended_of s b).0 then 4 else 0) ≡ length s.now
unfolding extended_of
extended_size s b = grind (arith, common_steps)

-- a section that is read of the bytes from a place on, by the bytes that are left there
abbrev pub left_there : Bor (List ℕ) → ℕ → Bool → ℕ → Bool
left_there e at flagged size = if flagged then leb size (length e.now - at) else false

guid_is : (e : Bor (List ℕ)) (at : ℕ) (b : Bool) → (guid_of (after e at) b).0 ≡ (if left_there e at b 16 then Some (take 16 (drop at e.now)) else None)
unfolding guid_of
guid_is e at b = let l = length-drop at e.now in grind (arith, common_steps)

-- numbers of the bytes from a place on
pub two_from : (l : List ℕ) (at : ℕ) → le2 (drop at l) 0 ≡ le2 l at
unfolding le2
two_from l at = simp (get_or-drop, add-zero)

four_from : (l : List ℕ) (at : ℕ) → le4 (drop at l) 0 ≡ le4 l at
unfolding le4
four_from l at = simp (get_or-drop, add-zero)

extended_is : (e : Bor (List ℕ)) (at : ℕ) (b : Bool) → (extended_of (after e at) b).0 ≡ (if left_there e at b 4 then Some (record { 0 = le4 (drop at e.now) 0 }) else None)
unfolding extended_of
extended_is e at b = let l = length-drop at e.now in grind (arith, common_steps)

count_size : (e : Bor (List ℕ)) (at : ℕ) (b : Bool) → at ≤ length e.now → rest_at e (attributes_of (after e at) b).0.bytes ≡ at + (if left_there e at b 2 then 2 else 0)
unfolding attributes_of
count_size e at b h = let l = length-drop at e.now in grind (arith, common_steps)

module _ (e q : Bor (List ℕ)) (b : Bool) (t : IsEnd e q) where
  extended_there : (extended_of q b).0 ≡ (if left_there e (rest_at e q) b 4 then Some (record { 0 = le4 e.now (rest_at e q) }) else None)
  extended_there =
      rw (four_from e.now (rest_at e q)) at
      (subst (λ (x : Bor (List ℕ)). (extended_of x b).0 ≡ (if left_there e (rest_at e q) b 4 then Some (record { 0 = le4 (drop (rest_at e q) e.now) 0 }) else None)) (sym t.is) (extended_is e (rest_at e q) b))

  count_there : rest_at e (attributes_of q b).0.bytes ≡ rest_at e q + (if left_there e (rest_at e q) b 2 then 2 else 0)
  count_there =
      subst (λ (x : Bor (List ℕ)). rest_at e (attributes_of x b).0.bytes ≡ rest_at e q + (if left_there e (rest_at e q) b 2 then 2 else 0)) (sym t.is)
      (count_size e (rest_at e q) b (omega arith))

-- a list of attributes of an entry's last bytes, and the bytes after it
record AttributesSection (e s : Bor (List ℕ)) (q : Attributes × Bor (List ℕ)) : Type 0 where
  from : IsEnd s q.0.bytes
  after_is : attribute.after_listed q.0.bytes q.0.count ≡ q.1
  tail : IsEnd e q.1

attributes_section : (e s : Bor (List ℕ)) (b : Bool) → IsEnd e s → AttributesSection e s (attributes_of s b)
unfolding attributes_of
attributes_section e s false a = record { from = end_self s; after_is = after_none s; tail = a }
attributes_section e s true a = by_room (leb 2 (length s.now)) refl
  where
    by_room : (b : Bool) → leb 2 (length s.now) ≡ b
        → AttributesSection e s (if b then (record { bytes = after s 2; count = length (attribute.listed (after s 2) (le2 s.now 0)) }, attribute.after_listed (after s 2) (le2 s.now 0)) else (record { bytes = s; count = 0 }, s))
    by_room true h =
        let t = end_after 2 (leb-true 2 (length s.now) h) (end_self s) in
        record { from = t; after_is = after_again (after s 2) (le2 s.now 0); tail = (attributes_inside e (after s 2) (le2 s.now 0) (end_again a t)).rest }
    by_room false h = record { from = end_self s; after_is = after_none s; tail = a }

record ChainSection (e s : Bor (List ℕ)) (q : RefactorInfos × Bor (List ℕ)) : Type 0 where
  from : q.0.bytes ≡ s
  lie : RefactorsLie e (rest_at e s) (refactor.listed q.0.bytes q.0.count) (rest_at e q.1)
  tail : IsEnd e q.1

no_chain : (e s : Bor (List ℕ)) → IsEnd e s → ChainSection e s (record { bytes = s; count = 0 }, s)
no_chain e s a = record { from = refl; lie = rw (listed_none s) refl; tail = a }

chain_section : (e s : Bor (List ℕ)) (b : Bool) → IsEnd e s → ChainSection e s (refactor_infos_of s b)
unfolding refactor_infos_of
chain_section e s false a = no_chain e s a
chain_section e s true a = by_chain (refactor.chain_of s) refl
  where
    by_chain : (w : Result (ℕ × Bor (List ℕ)) Refusal) → refactor.chain_of s ≡ w
        → ChainSection e s (outcome w (λ p. (record { bytes = s; count = p.0 }, p.1)) (λ why. (record { bytes = s; count = 0 }, s)))
    by_chain (Ok p) h =
        let c = chains_counted e s p.0 p.1 a h in
        record { from = refl; lie = c.lie; tail = c.after_it }
    by_chain (Err why) h = no_chain e s a

string_of : (e : Bor (List ℕ)) (at n : ℕ) → at + n < length e.now → IsString e at (part e at n)
string_of e at n h =
    let l : length (part e at n).now ≡ n = length-take-le n (drop at e.now) (simp length-drop (omega arith)) in
    record { is = ap (part e at) (sym l); within = omega (arith, l) }

length_of_part : (e : Bor (List ℕ)) (at n : ℕ) → at + n < length e.now → length (part e at n).now ≡ n
length_of_part e at n h = length-take-le n (drop at e.now) (simp length-drop (omega arith))

-- what follows the GUID, and where
module _ (e : Bor (List ℕ)) (n t k : ℕ) (h : 33 + n + t + k ≤ length e.now) where
  abbrev strings_size : ℕ
  strings_size = 33 + length (part e 30 n).now + length (part e (31 + n) t).now + length (part e (32 + n + t) k).now

  abbrev guid_and_rest : Option (List ℕ) × Bor (List ℕ)
  guid_and_rest = guid_of (after e (33 + n + t + k)) (has (le2 e.now 20) type_guid_flag)

  pub strings_end : 33 + n + t + k ≡ strings_size
  strings_end = omega (arith, length_of_part e 30 n (omega arith), length_of_part e (31 + n) t (omega arith), length_of_part e (32 + n + t) k (omega arith))

  pub guid_rest : IsEnd e guid_and_rest.1
  guid_rest = end_guid (has (le2 e.now 20) type_guid_flag) (end_after (33 + n + t + k) h (end_self e))

  pub guid_end : rest_at e guid_and_rest.1 ≡ strings_size + (if is_some guid_and_rest.0 then 16 else 0)
  guid_end = omega (arith, strings_end, h, length-drop (33 + n + t + k) e.now, guid_size (after e (33 + n + t + k)) (has (le2 e.now 20) type_guid_flag))

inside : (e : Bor (List ℕ)) (n t k : ℕ) → 33 + n + t + k ≤ length e.now → n ≡ le2 e.now 24 → t ≡ le2 e.now 26 → k ≡ le2 e.now 28 → IsInside e (with_strings e n t k)
unfolding with_strings
inside e n t k h name_is type_is comment_is =
    let w : ℕ = le2 e.now 20 in
    let s : Bor (List ℕ) = after e (33 + n + t + k) in
    let g = guid_of s (has w type_guid_flag) in
    let tg : IsEnd e g.1 = guid_rest e n t k h in
    let a = attributes_of g.1 (has w attributes_flag) in
    let ta = attributes_section e g.1 (has w attributes_flag) tg in
    let x = extended_of a.1 (has w extended_flags_flag) in
    let tx : IsEnd a.1 x.1 = extended_tail a.1 (has w extended_flags_flag) in
    let tf = chain_section e x.1 (has (extended_word x.0) refactor_info_flag) (end_again ta.tail tx) in
    let ln = length_of_part e 30 n (omega arith) in
    let lt = length_of_part e (31 + n) t (omega arith) in
    let lk = length_of_part e (32 + n + t) k (omega arith) in
    let bs : 33 + n + t + k ≡ behind_strings (with_strings e n t k) = omega (arith, strings_end e n t k h) in
    let bg : rest_at e g.1 ≡ behind_guid (with_strings e n t k) = omega (arith, guid_end e n t k h) in
    record {
      long = refl;
      index_group = refl;
      index_offset = refl;
      size = refl;
      data_type_id = refl;
      flags = refl;
      high = refl;
      name_length = ln ∙ name_is;
      type_name_length = lt ∙ type_is;
      comment_length = lk ∙ comment_is;
      name = string_of e 30 n (omega arith);
      type_name = string_at e (part e (31 + n) t) (31 + n) (31 + length (part e 30 n).now) (omega (arith, ln)) (string_of e (31 + n) t (omega arith));
      comment = string_at e (part e (32 + n + t) k) (32 + n + t) (32 + length (part e 30 n).now + length (part e (31 + n) t).now) (omega (arith, ln, lt)) (string_of e (32 + n + t) k (omega arith));
      guid = subst (λ (q : ℕ). g.0 ≡ (if left_there e q (has w type_guid_flag) 16 then Some (take 16 (drop q e.now)) else None)) bs (guid_is e (33 + n + t + k) (has w type_guid_flag));
      attributes_at = subst (λ (q : ℕ). rest_at e a.0.bytes ≡ q + (if left_there e q (has w attributes_flag) 2 then 2 else 0)) bg (count_there e g.1 (has w attributes_flag) tg);
      extended_flags = subst (λ (q : Bor (List ℕ)). x.0 ≡ (if left_there e (rest_at e q) (has w extended_flags_flag) 4 then Some (record { 0 = le4 e.now (rest_at e q) }) else None)) (sym ta.after_is) (extended_there e a.1 (has w extended_flags_flag) ta.tail);
      attributes = (attributes_inside e a.0.bytes a.0.count (end_again tg ta.from)).lie;
      attribute_bytes = end_again tg ta.from;
      refactor_bytes = subst (IsEnd e) (sym tf.from) (end_again ta.tail tx);
      chain_at =
          let y = extended_size a.1 (has w extended_flags_flag) in
          omega (arith, ap (λ (q : Bor (List ℕ)). length q.now) ta.after_is, ap (λ (q : Bor (List ℕ)). length q.now) tf.from, y, ta.tail.within);
      refactor_infos = subst (λ (q : Bor (List ℕ)). RefactorsLie e (rest_at e q) (refactor.listed (refactor_infos_of x.1 (has (extended_word x.0) refactor_info_flag)).0.bytes (refactor_infos_of x.1 (has (extended_word x.0) refactor_info_flag)).0.count) (rest_at e (refactor_infos_of x.1 (has (extended_word x.0) refactor_info_flag)).1)) (sym tf.from) tf.lie;
      unread = tf.tail;
    }

pub symbols_inside : SymbolsInside
symbols_inside mode e r h =
    subst (IsInside e) (accepted_is mode e r h) (inside e (le2 e.now 24) (le2 e.now 26) (le2 e.now 28) (accepted_room mode e r h) refl refl refl)
