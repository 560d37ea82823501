-- The laws of symbols.
use Rattle.std.proofs.Common.{◌≡◌, ℕ, ◌+◌, ◌≤◌, Bool, true, false, List, length, Ok, Err, Result, refl, ap, arith, Bor, subst}
use Rattle.part.proofs.Slice.{end_self}
use Rattle.part.specs.Outcome.{outcome, and_then}
use Rattle.refusal.specs.declared.Mode.{Mode}
use Rattle.refusal.specs.declared.Refusal.{Refusal}
use Rattle.refusal.specs.declared.Mode.TheVariants.{Present, Checked}
use Rattle.le.specs.Le.{le2}
use Rattle.attribute.specs.Attribute as attribute
use Rattle.attribute.proofs.Laws.{listed_again, listed_none}
use Rattle.refactor.specs.declared.RefactorInfos.{RefactorInfos}
use Rattle.refactor.specs.Refactor as refactor
use Rattle.refactor.proofs.Inside as refactor-inside
use Rattle.symbol.specs.declared.AdsSymbolInfo.{AdsSymbolInfo}
use Rattle.symbol.specs.Symbol.{attributes_of, refactor_infos_of, with_strings, symbol_of, symbol_ended, ended_symbol}
use Rattle.symbol.specs.Laws.{IsWhole, SymbolsWhole}
use Rattle.symbol.proofs.Within.{within}

counted_at : (s : Bor (List ℕ)) (b : Bool) → length (attribute.listed (attributes_of s b).0.bytes (attributes_of s b).0.count) ≡ (attributes_of s b).0.count
unfolding attributes_of
counted_at s b = grind (arith, listed_again, listed_none)

-- the records of a chain, and of one that is dropped
abbrev kept : Bor (List ℕ) → Result (ℕ × Bor (List ℕ)) Refusal → RefactorInfos × Bor (List ℕ)
kept s w = outcome w (λ p. (record { bytes = s; count = p.0 }, p.1)) (λ why. (record { bytes = s; count = 0 }, s))

kept_counted : (s : Bor (List ℕ)) (w : Result (ℕ × Bor (List ℕ)) Refusal) → refactor.chain_of s ≡ w → length (refactor.listed (kept s w).0.bytes (kept s w).0.count) ≡ (kept s w).0.count
kept_counted s (Ok p) h = (refactor-inside.chains_counted s s p.0 p.1 (end_self s) h).long
kept_counted s (Err why) h = ap length (refactor-inside.listed_none s)

chain_at : (s : Bor (List ℕ)) (b : Bool) → length (refactor.listed (refactor_infos_of s b).0.bytes (refactor_infos_of s b).0.count) ≡ (refactor_infos_of s b).0.count
unfolding refactor_infos_of
chain_at s false = ap length (refactor-inside.listed_none s)
chain_at s true = kept_counted s (refactor.chain_of s) refl

-- an accepted symbol is the one that its entry's lengths place
pub accepted_room : (mode : Mode) (e : Bor (List ℕ)) (r : AdsSymbolInfo) → symbol_of mode e ≡ Ok r → 33 + le2 e.now 24 + le2 e.now 26 + le2 e.now 28 ≤ length e.now
unfolding symbol_of ended_symbol
accepted_room mode e r h = grind arith

pub accepted_is : (mode : Mode) (e : Bor (List ℕ)) (r : AdsSymbolInfo) → symbol_of mode e ≡ Ok r → with_strings e (le2 e.now 24) (le2 e.now 26) (le2 e.now 28) ≡ r
unfolding symbol_of ended_symbol
accepted_is mode e r h = grind arith

with_counted : (e : Bor (List ℕ)) (n t k : ℕ) → length (attribute.listed (with_strings e n t k).attributes.bytes (with_strings e n t k).attributes.count) ≡ (with_strings e n t k).attributes.count
unfolding with_strings
with_counted e n t k = counted_at _ _

with_chain : (e : Bor (List ℕ)) (n t k : ℕ) → length (refactor.listed (with_strings e n t k).refactor_infos.bytes (with_strings e n t k).refactor_infos.count) ≡ (with_strings e n t k).refactor_infos.count
unfolding with_strings
with_chain e n t k = chain_at _ _

-- the checked mode reads what the present mode reads, and then refuses by the first end byte that is not 0
pub checked_is : (e : Bor (List ℕ)) → symbol_of Checked e ≡ and_then (symbol_of Present e) (λ r. and_then (symbol_ended e r) (λ _. Ok r))
unfolding symbol_of ended_symbol
checked_is e = grind arith

pub symbols_whole : SymbolsWhole
symbols_whole mode e r h =
    let n : ℕ = le2 e.now 24 in
    let t : ℕ = le2 e.now 26 in
    let k : ℕ = le2 e.now 28 in
    let whole : IsWhole e (with_strings e n t k) = record { within = within e n t k (accepted_room mode e r h); counted = with_counted e n t k; refactors_counted = with_chain e n t k } in
    subst (IsWhole e) (accepted_is mode e r h) whole
