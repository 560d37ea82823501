-- Useless finding is shut out of a kind of which an upload of one entry with no name is known, and by the empty upload.
use Rattle.std.proofs.Common.{ℕ, zero, suc, ◌<◌, ◌≤◌, ◌≡◌, refl, subst, length, List, [], ◌∷◌, ◌++◌, take, arith, Bor, Result}
use Rattle.std.specs.Prelude.{Ok}
use Rattle.std.proofs.lemmas.List.Elements.{All-head}
use borrow.Author.Tests.{lt-ltb}
use Rattle.part.specs.Slice.{part}
use Rattle.refusal.specs.Refusal.{limit}
use Rattle.refusal.specs.declared.Mode.{Mode}
use Rattle.refusal.specs.declared.Mode.TheVariants.{Present}
use Rattle.refusal.specs.declared.Refusal.{Refusal}
use Rattle.entry.specs.Entry.{claim_of}
use Rattle.entry.specs.Walk.{steps, steps_from}
use Rattle.walk.specs.Step.{parse_of}
use Rattle.name_find.specs.Meaning.{HasName, Nowhere, Finds, UselessShutOut}

abbrev pub lying : List ℕ → Bor (List ℕ)
lying s = record { ref_ptr = (0, 0); now = s }

-- nothing has a name where there is nothing
none_taken : (n : ℕ) → ◌≡◌ {A = List ℕ} (take n []) []
none_taken zero = refl
none_taken (suc n) = refl

among_none : (before behind : List ℕ) (at : ℕ) → [] ≡ before ++ (at ∷ behind) → ⊥
among_none [] behind at h = let z : ◌≡◌ {A = ℕ} 0 1 = cc in omega arith
among_none (x ∷ before) behind at h = let z : ◌≡◌ {A = ℕ} 0 1 = cc in omega arith

module _ {R : Type 0} (header : ℕ) (read : Mode → Bor (List ℕ) → Result R Refusal) (length_of : R → ℕ) (name_of : R → List ℕ) (some : 0 < header) where
  none_read : (e : Bor (List ℕ)) (r : R) → e.now ≡ [] → parse_of header (read Present) e ≡ Ok r → ⊥
  unfolding claim_of
  none_read e r h k = let t = simp (h, lt-ltb 0 header some) at k in let z : ◌≡◌ {A = ℕ} 0 1 = cc in omega arith

  none_found : (name : List ℕ) (at : ℕ) → Finds header read length_of name_of Present (lying []) name [] at → ⊥
  none_found name at f = among_none f.before f.behind at f.among

  module _ (one : List ℕ) (small : length one ≤ limit) (walked_there : steps one ≡ 0 ∷ []) (has_there : HasName header read length_of name_of Present (lying one) [] 0) where
    somewhere : (places more : List ℕ) → places ≡ 0 ∷ more → Nowhere header read length_of name_of Present (lying one) [] places → ⊥
    somewhere places more is none = All-head (λ at. ¬ HasName header read length_of name_of Present (lying one) [] at) 0 more (subst (Nowhere header read length_of name_of Present (lying one) []) is none) has_there

    pub useless_shut_out_of : UselessShutOut header read length_of name_of
    unfolding steps steps_from
    useless_shut_out_of = record {
      refuses = λ why indexed r. somewhere (steps one) [] walked_there (r.walk Present (lying one) [] why small refl);
      answers = λ at indexed r. none_found [] at (r.walk Present (lying []) [] at refl);
      refuses_slots = λ why walked r. somewhere (0 ∷ []) [] refl (r.index Present (lying one) (0 ∷ []) [] why small refl);
      answers_slots = λ at walked r. none_found [] at (r.index Present (lying []) [] [] at refl);
      answers_first = λ why walked r. let f = r.index Present (lying []) (0 ∷ []) [] 0 refl in none_read (part (lying []) 0 (length_of f.has.entry)) f.has.entry (none_taken (length_of f.has.entry)) f.has.alone;
    }
