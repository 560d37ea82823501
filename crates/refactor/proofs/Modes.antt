-- A refactor record in the two modes, and what is written behind a count: proved.
use Rattle.std.proofs.Common.{◌≡◌, ℕ, ◌+◌, ◌<◌, ◌≤◌, Bool, true, false, List, [], ◌∷◌, ◌++◌, length, drop, length-drop, Ok, Err, Result, refl, sym, ap, ◌∙◌, arith, Bor}
use Rattle.std.proofs.lemmas.Option.{slice_get_past}
use Rattle.std.proofs.lemmas.List.Elements.{All-nil}
use mathlib.Core.List.{append-nil}
use lib.Dec.{ltb}
use borrow.Author.Tests.{le-ltb, lt-ltb}
use Rattle.le.specs.Le.{le2, bytes2}
use Rattle.le.proofs.Laws.{le2_bytes2}
use Rattle.part.specs.Slice.{after}
use Rattle.part.specs.Outcome.{and_then}
use Rattle.refusal.specs.Refusal.{limit}
use Rattle.refusal.specs.EndBytes.{ended}
use Rattle.refusal.specs.declared.Mode.{Mode}
use Rattle.refusal.specs.declared.Mode.TheVariants.{Present, Checked}
use Rattle.refusal.specs.declared.Refusal.{Refusal}
use Rattle.refusal.specs.declared.Refusal.TheVariants.{TooLarge, EndByte}
use Rattle.refusal.proofs.EndsMeant.{first_refused}
use Rattle.writing.specs.Checks.{count_checked}
use Rattle.part.proofs.Outcome.{both_passed}
use Rattle.writing.proofs.Entry.{count_passed, entry_passed}
use Rattle.refactor.specs.declared.AdsRefactorInfo.{AdsRefactorInfo}
use Rattle.refactor.specs.declared.RefactorInfos.{RefactorInfos}
use Rattle.refactor.specs.Refactor.{first_of, alone, chain_alone, infos_of, chain_of, ends, listed}
use Rattle.refactor.specs.Read.{AllEnded}
use Rattle.refactor.specs.Block.{block_checked}
use Rattle.refactor.specs.Writing.{entries_writing}
use Rattle.refactor.specs.Modes.{end_byte, Modes, RefactorsModes, ChainModes, ChainsModes, IsBack, EntriesReadBack}
use Rattle.refactor.proofs.Again.{blocks_read}
use Rattle.refactor.proofs.Turn.{end_passes}
use Rattle.refactor.proofs.Chains.{refused_first, zero_ends, all_pass}

module _ (mode : Mode) (count : ℕ) (block s : Bor (List ℕ)) (pos : 0 < count) where
  pub chain_by : (mode : Mode) (t : Bor (List ℕ)) → length t.now ≤ limit → chain_of t ≡ Ok (count, after t (length block.now)) → ended (ends t 0) ≡ Ok tt
      → chain_alone mode t ≡ Ok (record { bytes = t; count = count }, after t (length block.now))
  chain_by Present t h c e = simp (le-ltb limit (length t.now) h, c)
  chain_by Checked t h c e = simp (le-ltb limit (length t.now) h, c, e)

  back : count ≤ 65535 → block_checked count block ≡ Ok tt → s.now ≡ bytes2 count ++ block.now → length s.now ≤ limit → IsBack mode count block s
  back n b e h =
      let r = blocks_read count block (after s 2) [] b (ap (λ (l : List ℕ). drop 2 l) e ∙ sym (append-nil block.now)) in
      let l : length (after s 2).now ≤ limit = simp length-drop (omega arith) in
      record {
        front = ap (λ (l : List ℕ). le2 l 0) e ∙ le2_bytes2 count block.now (omega arith);
        chain = chain_by mode (after s 2) l (r.chain pos) (r.ended pos 0);
        records = r.tells;
        past = λ k m. simp (slice_get_past (listed (after s 2) count) k (omega (arith, r.long)));
      }

pub entries_read_back : EntriesReadBack
unfolding entries_writing
entries_read_back mode count block s pos h =
    let a = both_passed (count_checked count) h in
    let b = both_passed (block_checked count block) a.1.1 in
    let c = entry_passed (bytes2 count ++ block.now) s.now b.1.1 in
    back mode count block s pos (count_passed count a.1.0) b.1.0 c.1 (omega (arith, ap length c.1, c.0))

passed_end : (e : ℕ × ℕ) {u : Unit} → ended (e ∷ []) ≡ Ok u → e.1 ≡ 0
unfolding ended
passed_end e h = grind arith

-- in both modes a refusal is the same one, and a record is this one
module _ (s : Bor (List ℕ)) (b : AdsRefactorInfo) where
  abbrev end : ℕ × ℕ
  end = (6 + length b.name.now, end_byte s b)

  module _ (present : alone Present s ≡ Ok b) (checked : alone Checked s ≡ and_then (ended (end ∷ [])) (λ _. Ok b)) where
    by_zero : end_byte s b ≡ 0 → alone Checked s ≡ Ok b
    by_zero z = checked ∙ ap (λ (t : Result Unit Refusal). and_then t (λ _. Ok b)) (end_passes end.0 end.1 z)

    by_other : (end_byte s b ≡ 0 → ⊥) → alone Checked s ≡ Err (EndByte end.0 end.1)
    by_other n = checked ∙ ap (λ (t : Result Unit Refusal). and_then t (λ _. Ok b)) (first_refused [] [] end (All-nil (λ (x : ℕ × ℕ). x.1 ≡ 0)) n)

    by_test : (t : Result Unit Refusal) → ended (end ∷ []) ≡ t → (r : AdsRefactorInfo) → and_then t (λ _. Ok b) ≡ Ok r → (alone Present s ≡ Ok r) × (end_byte s r ≡ 0)
    by_test (Err why) e r h = cc
    by_test (Ok u) e r h =
        let same : b ≡ r = cc in
        (present ∙ ap Ok same, ap (end_byte s) (sym same) ∙ passed_end end e)

    accepted : Modes s
    accepted = record {
      ended = λ r h. by_test (ended (end ∷ [])) refl r (sym checked ∙ h);
      agree = λ r p z. let same : b ≡ r = cc (sym present ∙ p) in by_zero (ap (end_byte s) same ∙ z) ∙ ap Ok same;
      refused_alike = λ why p. let z : ◌≡◌ {A = Result AdsRefactorInfo Refusal} (Ok b) (Err why) = sym present ∙ p in cc;
      first = λ r p n.
          let same : b ≡ r = cc (sym present ∙ p) in
          by_other (λ z. n (ap (end_byte s) (sym same) ∙ z)) ∙ ap (λ (x : AdsRefactorInfo). Err (EndByte (6 + length x.name.now) (end_byte s x))) same;
    }

refused : (s : Bor (List ℕ)) (y : Refusal) → alone Present s ≡ Err y → alone Checked s ≡ Err y → Modes s
refused s y present checked = record {
  ended = λ r h. let z : ◌≡◌ {A = Result AdsRefactorInfo Refusal} (Err y) (Ok r) = sym checked ∙ h in cc;
  agree = λ r p e. let z : ◌≡◌ {A = Result AdsRefactorInfo Refusal} (Err y) (Ok r) = sym present ∙ p in cc;
  refused_alike = λ why p. checked ∙ sym present ∙ p;
  first = λ r p n. let z : ◌≡◌ {A = Result AdsRefactorInfo Refusal} (Err y) (Ok r) = sym present ∙ p in cc;
}

by_first : (s : Bor (List ℕ)) (t : Bool) → ltb limit (length s.now) ≡ t → (w : Result (AdsRefactorInfo × Bor (List ℕ)) Refusal) → first_of s ≡ w → Modes s
by_first s true l w f = refused s (TooLarge (length s.now)) (simp l) (simp l)
by_first s false l (Err why) f = refused s why (simp (l, f)) (simp (l, f))
by_first s false l (Ok p) f = accepted s p.0 (simp (l, f)) (simp (l, f))

pub refactors_modes : RefactorsModes
refactors_modes s = by_first s (ltb limit (length s.now)) refl (first_of s) refl

module _ (s : Bor (List ℕ)) where
  checked_by : length s.now ≤ limit → (t : Result Unit Refusal) → ended (ends s 0) ≡ t → chain_alone Checked s ≡ and_then t (λ _. infos_of s)
  checked_by l t e = simp (le-ltb limit (length s.now) l, e)

  by_length : (t : Bool) → ltb limit (length s.now) ≡ t → ChainModes s
  by_length true l = record {
    agree = λ h. simp l;
    ended = λ c h. absurd (let z : ◌≡◌ {A = ℕ} 0 1 = cc (simp l at h) in omega arith);
    large = λ mode h. simp (lt-ltb limit (length s.now) h);
    first = λ at before k st w z n. checked_by k _ (refused_first s at before st w z n);
  }
  by_length false l = record {
    agree = λ h. simp (l, all_pass s h);
    ended = by_ends (ended (ends s 0)) refl;
    large = λ mode h. simp (lt-ltb limit (length s.now) h);
    first = λ at before k st w z n. checked_by k _ (refused_first s at before st w z n);
  }
    where
      by_ends : (e : Result Unit Refusal) → ended (ends s 0) ≡ e → (c : RefactorInfos × Bor (List ℕ)) → chain_alone Checked s ≡ Ok c → (chain_alone Present s ≡ Ok c) × AllEnded s.now 0
      by_ends (Err why) e c h = absurd (let z : ◌≡◌ {A = ℕ} 0 1 = cc (simp (l, e) at h) in omega arith)
      by_ends (Ok u) e c h = (simp l (simp (l, e) at h), zero_ends s e)

pub chains_modes : ChainsModes
chains_modes s = by_length s (ltb limit (length s.now)) refl
