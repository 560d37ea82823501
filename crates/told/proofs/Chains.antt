-- What is told of a chain that stands alone.
use Rattle.std.proofs.Common.{ℕ, ◌+◌, ◌≡◌, sym, ap, ◌∙◌, List, drop, Ok, Err, arith, Bor}
use Rattle.part.specs.Slice.{after}
use Rattle.refusal.specs.declared.Mode.{Mode}
use Rattle.refusal.specs.declared.Refusal.{Refusal}
use Rattle.refusal.specs.Refusal.{numbered, figures_of}
use Rattle.refactor.specs.declared.RefactorInfos.{RefactorInfos}
use Rattle.refactor.specs.Refactor as refactor
use Rattle.refactor.specs.Read.{Chain, chain_short, chain_cut, chain_whole}
use Rattle.refactor.proofs.Read.{refactors_read}
use Rattle.refactor.specs.Laid.{size}
use Rattle.places.specs.Alone.{chain_read, chain_places}
use Rattle.places.specs.Places.{place_in}
use Rattle.told.specs.Told.{numbers_told}
use Rattle.told.specs.Meaning.{ChainTold, ChainsTold}

module _ (mode : Mode) (s : Bor (List ℕ)) where
  infos_is : (p : RefactorInfos × Bor (List ℕ)) → refactor.chain_alone mode s ≡ Ok p → refactor.infos_of s ≡ Ok p
  infos_is p h = grind arith

  by_place : (p : RefactorInfos × Bor (List ℕ)) (at : ℕ) → refactor.chain_alone mode s ≡ Ok p → p.1 ≡ after s at → ChainTold mode s p
  by_place p at h is =
      let found : chain_read mode s ≡ Ok (chain_places s p) = cc in
      let place : place_in s p.1 ≡ at = omega (arith, ap (λ (t : Bor (List ℕ)). t.ref_ptr.1) is) in
      record { place = at; rest = sym is; told = ap numbers_told found ∙ ap (numbered 0 p.0.count) place }

  told : (p : RefactorInfos × Bor (List ℕ)) → refactor.chain_alone mode s ≡ Ok p → ChainTold mode s p
  told p h = by (refactors_read.chain s)
    where
      by : Chain s → ChainTold mode s p
      by (chain_short at before stands short is) = absurd (let i : refactor.infos_of s ≡ Ok p = infos_is p h in cc)
      by (chain_cut at before stands some short is) = absurd (let i : refactor.infos_of s ≡ Ok p = infos_is p h in cc)
      by (chain_whole at before stands whole last is) = let i : refactor.infos_of s ≡ Ok p = infos_is p h in by_place p (at + size (drop at s.now)) h (cc)

  refused : (why : Refusal) → refactor.chain_alone mode s ≡ Err why → numbers_told (chain_read mode s) ≡ figures_of why
  refused why h = let found : chain_read mode s ≡ Err why = cc in ap numbers_told found

pub chains_told : ChainsTold
chains_told = record { accepted = λ mode s p h. told mode s p h; refused = λ mode s why h. refused mode s why h }
