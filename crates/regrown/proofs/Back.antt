-- Entries that come back from the laws of a kind of entry and of its writer.
use Rattle.std.proofs.Common.{ℕ, ◌+◌, ◌-◌, ◌<◌, ◌≤◌, ◌≡◌, refl, ap, ◌∙◌, List, [], ◌++◌, length, drop, arith, Bor, Result, length-append, length-drop}
use Rattle.std.specs.Prelude.{Ok}
use Rattle.le.proofs.Laws.{le4_bytes4}
use Rattle.refusal.specs.Refusal.{limit}
use Rattle.refusal.specs.declared.Refusal.{Refusal}
use Rattle.walk.specs.Step.{step_at}
use Rattle.walk.specs.Theorems.{cursor_of}
use Rattle.regrown.specs.Regrown.{Entry, lying, grown, ComeBack}
use Rattle.regrown.specs.Tells.{tells, ReadsBack}
use Rattle.regrown.proofs.Whole.{Whole}
use Rattle.regrown.proofs.Walked.{entry, all_of, cut_of}

module _ {R S : Type 0} (read : Bor (List ℕ) → Result R Refusal) (length_of : R → ℕ) (told : R → S) (header : ℕ) (four : 4 < header)
    (long : (e : Bor (List ℕ)) (r : R) → read e ≡ Ok r → length_of r ≡ length e.now)
    (room : (e : Bor (List ℕ)) (r : R) → read e ≡ Ok r → header ≤ length e.now)
    {P : Type 0} (Fit : P → Type 0) (written : P → List ℕ) (meant : P → List ℕ → S)
    (back : (p : P) (extra : List ℕ) (e : Bor (List ℕ)) → Fit p → e.now ≡ grown (written p) extra → length e.now ≤ limit → ReadsBack read told e (meant p extra)) where
  length_grown : (e extra : List ℕ) → length (grown e extra) ≡ 4 + (length e - 4) + length extra
  unfolding grown
  length_grown e extra = omega (arith, length-append (drop 4 e) extra, length-drop 4 e)

  -- an entry holds its length
  four_there : (p : P) (extra : List ℕ) → Fit p → length (grown (written p) extra) ≤ limit → 4 ≤ length (written p)
  four_there p extra f h =
      let l = length_grown (written p) extra in
      let n = length_grown (written p) [] in
      let e : Bor (List ℕ) = lying (0, 0) (grown (written p) []) in
      let b = back p [] e f refl (omega arith) in
      omega (arith, room e b.back b.is)

  whole : (e extra : List ℕ) → 4 ≤ length e → length (grown e extra) ≤ limit → Whole (grown e extra)
  unfolding grown
  whole e extra l h =
      let n = length_grown e extra in
      record { claims = le4_bytes4 (length e + length extra) (drop 4 e ++ extra) (omega arith) ∙ omega arith; long = omega arith }

  each : (p : P) (extra : List ℕ) → Fit p → length (grown (written p) extra) ≤ limit
      → Whole (grown (written p) extra)
      × ((own : Bor (List ℕ)) (n : ℕ) → own.now ≡ grown (written p) extra → tells length_of told (entry read length_of told own n) ≡ Entry (meant p extra) (length (grown (written p) extra)) n)
  each p extra f h = (
    whole (written p) extra (four_there p extra f h) h,
    λ own n is.
        let b = back p extra own f is (omega (arith, ap length is)) in
        let l : length_of b.back ≡ length (grown (written p) extra) = long own b.back b.is ∙ ap length is in
        simp (b.is, l, b.tells),
  )

  pub come_back_of : ComeBack Fit written meant (step_at read) cursor_of (tells length_of told)
  come_back_of m gs h = record {
    all = λ spare. all_of read length_of told m Fit written meant each [] gs h spare;
    cut = λ k spare l. cut_of read length_of told m Fit written meant each [] gs h k spare;
  }
