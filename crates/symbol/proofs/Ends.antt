-- The end bytes of a symbol are those behind its strings.
use Rattle.std.proofs.Common.{ℕ, zero, suc, ◌+◌, ◌≡◌, refl, sym, ap, ap₂, ◌∙◌, Bool, true, false, List, [], ◌∷◌, ◌++◌, length, get_or, Ok, Err, Result, arith, Bor}
use Rattle.std.specs.Prelude.{if◌then◌else◌}
use Rattle.le.specs.Le.{has}
use Rattle.part.specs.End.{IsEnd, rest_at}
use Rattle.part.specs.Outcome.{and_then}
use Rattle.refusal.specs.EndBytes.{ended}
use Rattle.refusal.specs.declared.Refusal.{Refusal}
use Rattle.attribute.specs.Attribute as attribute
use Rattle.attribute.specs.Behind.{byte_behind, bytes_behind}
use Rattle.attribute.proofs.Behind.{ended_both, string_behind, end_is, ends_behind}
use Rattle.refactor.specs.declared.AdsRefactorInfo.{AdsRefactorInfo}
use Rattle.refactor.specs.Refactor as refactor
use Rattle.refactor.proofs.Again as refactors
use Rattle.refactor.proofs.Inside.{refactor_name, refactor_next, refactor_rest}
use Rattle.symbol.specs.declared.AdsSymbolInfo.{AdsSymbolInfo}
use Rattle.symbol.specs.Symbol.{extended_word, refactor_info_flag, string_ends_of, attribute_ends, refactor_ends, symbol_ended}
use Rattle.symbol.specs.Inside.{IsInside}
use Rattle.symbol.specs.Modes.{met, names_behind, end_bytes}

chain_on : (e s : Bor (List ℕ)) (left : ℕ) (b : Bool) → refactor.ends_from s (rest_at e s) left ≡ names_behind e (met s left)
    → (if b then refactor.ends_from s (rest_at e s) left else []) ≡ names_behind e (if b then met s left else [])
chain_on e s left true h = h
chain_on e s left false h = refl

chain_end_by : (e s : Bor (List ℕ)) (left : ℕ) → IsEnd e s → (w : Result (AdsRefactorInfo × Bor (List ℕ)) Refusal) → refactor.first_of s ≡ w
    → ((q : Bor (List ℕ)) → IsEnd e q → refactor.ends_from q (rest_at e q) left ≡ names_behind e (met q left))
    → refactor.ends_from s (rest_at e s) (suc left) ≡ names_behind e (met s (suc left))
unfolding refactor.ends_from met
chain_end_by e s left a (Err why) h ih = simp h
chain_end_by e s left a (Ok p) h ih =
    let t = refactors.fits s p h in
    let f = refactors.first_here s t in
    let q : AdsRefactorInfo × Bor (List ℕ) = refactors.here s in
    let name = end_is e s q.0.name (6 + length q.0.name.now) (rest_at e s + 6) a (refactor_name e s a t) (omega arith) in
    let next : rest_at e s + (6 + length q.0.name.now) + 1 ≡ rest_at e q.1 = omega (arith, refactor_next e s a t) in
    let rest : (if q.0.next_refactor_info then refactor.ends_from q.1 (rest_at e s + (6 + length q.0.name.now) + 1) left else []) ≡ names_behind e (if q.0.next_refactor_info then met q.1 left else []) =
    ap (λ (k : ℕ). if q.0.next_refactor_info then refactor.ends_from q.1 k left else []) next ∙ chain_on e q.1 left q.0.next_refactor_info (ih q.1 (refactor_rest e s a t)) in
    simp f (ap₂ (λ (x : ℕ × ℕ) (l : List (ℕ × ℕ)). x ∷ l) name rest)

chain_end : (e s : Bor (List ℕ)) (left : ℕ) → IsEnd e s → refactor.ends_from s (rest_at e s) left ≡ names_behind e (met s left)
unfolding refactor.ends_from met
chain_end e s zero a = refl
chain_end e s (suc left) a = chain_end_by e s left a (refactor.first_of s) refl (λ q b. chain_end e q left b)

module _ (e : Bor (List ℕ)) (r : AdsSymbolInfo) (i : IsInside e r) where
  abbrev end_at : ℕ → ℕ × ℕ
  end_at k = (k, get_or e.now k 0)

  strings_is : string_ends_of e r ≡ byte_behind e r.name ∷ byte_behind e r.type_name ∷ byte_behind e r.comment ∷ []
  strings_is =
      let t : end_at (30 + length r.name.now + 1 + length r.type_name.now) ≡ byte_behind e r.type_name = ap end_at (omega arith) ∙ sym (string_behind e r.type_name (31 + length r.name.now) i.type_name) in
      let k : end_at (30 + length r.name.now + 1 + length r.type_name.now + 1 + length r.comment.now) ≡ byte_behind e r.comment =
      ap end_at (omega arith) ∙ sym (string_behind e r.comment (32 + length r.name.now + length r.type_name.now) i.comment) in
      ap₂ (λ (x y : ℕ × ℕ). x ∷ y ∷ end_at (30 + length r.name.now + 1 + length r.type_name.now + 1 + length r.comment.now) ∷ []) (sym (string_behind e r.name 30 i.name)) t
      ∙ ap (λ (x : ℕ × ℕ). byte_behind e r.name ∷ byte_behind e r.type_name ∷ x ∷ []) k

  abbrev strings : List (ℕ × ℕ)
  strings = byte_behind e r.name ∷ byte_behind e r.type_name ∷ byte_behind e r.comment ∷ []

  abbrev attributes : List (ℕ × ℕ)
  attributes = bytes_behind e (attribute.listed r.attributes.bytes r.attributes.count)

  abbrev names_by : Bool → List (ℕ × ℕ)
  names_by b = if b then names_behind e (met r.refactor_infos.bytes (length r.refactor_infos.bytes.now)) else []

  chain_by : (b : Bool) → (if b then refactor.ends r.refactor_infos.bytes (rest_at e r.refactor_infos.bytes) else []) ≡ names_by b
  chain_by true = chain_end e r.refactor_infos.bytes (length r.refactor_infos.bytes.now) i.refactor_bytes
  chain_by false = refl

  abbrev flagged : Bool
  flagged = has (extended_word r.extended_flags) refactor_info_flag

  pub symbol_ends : symbol_ended e r ≡ ended (end_bytes e r)
  unfolding symbol_ended
  symbol_ends =
      ap (λ (l : List (ℕ × ℕ)). and_then (ended l) (λ _. and_then (ended (attribute_ends e r)) (λ _. ended (refactor_ends e r)))) strings_is
      ∙ ap₂ (λ (l m : List (ℕ × ℕ)). and_then (ended strings) (λ _. and_then (ended l) (λ _. ended m))) (ends_behind e r.attributes.bytes r.attributes.count i.attribute_bytes) (chain_by flagged)
      ∙ ap (λ (x : Result Unit Refusal). and_then (ended strings) (λ _. x)) (sym (ended_both attributes (names_by flagged)))
      ∙ sym (ended_both strings (attributes ++ names_by flagged))
