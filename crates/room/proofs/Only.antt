-- No other operation means it: any two that do answer alike.
use Rattle.std.proofs.Common.{ℕ, ◌≤◌, ◌≡◌, refl, sym, ap, ◌∙◌, Bool, true, false, List, length, arith, Bor, Result}
use Rattle.std.specs.Prelude.{ltb, Ok, Err}
use borrow.Author.Tests.{ltb-false, le-ltb}
use Rattle.refusal.specs.declared.Mode.{Mode}
use Rattle.refusal.specs.declared.Mode.TheVariants.{Present}
use Rattle.refusal.specs.declared.Refusal.{Refusal}
use Rattle.refusal.specs.declared.Refusal.TheVariants.{OutputTooSmall}
use Rattle.writing.specs.Writing.{answer, leaves, Writes}
use Rattle.symbol.specs.Symbol.{symbol_of}
use Rattle.index.specs.Index.{indexing}
use Rattle.regrown.specs.Regrown.{lying}
use Rattle.room.specs.Room.{room_for}
use Rattle.room.specs.Meaning.{Unhindered, too_large, zero_claim, done, Meant, RoomMeant}
use Rattle.room.proofs.Bounds.{long, bounds, stored}
use Rattle.room.proofs.Smallest.{behind, length_behind}
use Rattle.room.proofs.Meaning.{meant}

-- an index of an upload somewhere in memory, and what it answers that is lent so many slots
abbrev index : List ℕ → Result (List ℕ) Refusal
index s = indexing (symbol_of Present) (lying (0, 0) s)

abbrev says : List ℕ → ℕ → Result ℕ Refusal
says s k = answer (index s) (length (behind k))

index_of : (s : List ℕ) (k : ℕ) → Writes (index s) (behind k) (leaves (index s) (behind k)) (says s k)
index_of s k = record { said = refl; left = refl }

never_six : (mode : Mode) (s : Bor (List ℕ)) (r : Result ℕ Refusal) (needed lent : ℕ) → Unhindered mode s r → r ≡ Err (OutputTooSmall needed lent) → ⊥
never_six mode s r needed lent (too_large h) e = cc
never_six mode s r needed lent (zero_claim h k) e = cc
never_six mode s r needed lent (done h k) e = cc

module _ (a b : ℕ → Result ℕ Refusal) (m : Meant a) (o : Meant b) (n : ℕ) where
  -- what is enough by one is no less than what is needed by the other
  enough_for : (j k : ℕ) → a n ≡ Ok j → b n ≡ Ok k → k ≤ j
  enough_for j k e f = by (ltb j k) refl
    where
      s : List ℕ
      s = (o.tight n k f).upload

      asked : (slots : ℕ) → a (length s) ≡ Ok slots → j ≡ slots
      asked slots h = let x : ◌≡◌ {A = Result ℕ Refusal} (Ok j) (Ok slots) = sym e ∙ ap a (sym (o.tight n k f).long) ∙ h in cc

      by : (t : Bool) → ltb j k ≡ t → k ≤ j
      by true g = absurd (never_six Present (lying (0, 0) s) (says s j) k (length (behind j)) (m.enough Present (lying (0, 0) s) (behind j) _ _ (λ slots h. omega (arith, asked slots h, length_behind j)) (index_of s j)) ((o.tight n k f).answers Present (lying (0, 0) s) refl (behind j) _ _ (index_of s j) ∙ simp (length_behind j, g)))
      by false g = ltb-false j k g

  not_refused : (why : Refusal) (k : ℕ) → a n ≡ Err why → b n ≡ Ok k → ⊥
  not_refused why k e f =
      let d = o.tight n k f in
      let r = m.refused Present (lying (0, 0) d.upload) (behind k) _ _ why (ap a d.long ∙ e) (index_of d.upload k) in
      let x : says d.upload k ≡ Ok k = d.answers Present (lying (0, 0) d.upload) refl (behind k) _ _ (index_of d.upload k) ∙ simp (le-ltb (length (behind k)) k (omega (arith, length_behind k))) in
      cc

  refused_alike : (why other : Refusal) → a n ≡ Err why → b n ≡ Err other → why ≡ other
  refused_alike why other e f =
      let x = m.refused Present (lying (0, 0) (behind n)) (behind 0) _ _ why (ap a (length_behind n) ∙ e) (index_of (behind n) 0) in
      let y = o.refused Present (lying (0, 0) (behind n)) (behind 0) _ _ other (ap b (length_behind n) ∙ f) (index_of (behind n) 0) in
      cc

alike : (a b : ℕ → Result ℕ Refusal) (m : Meant a) (o : Meant b) (n : ℕ) (x y : Result ℕ Refusal) → a n ≡ x → b n ≡ y → x ≡ y
alike a b m o n (Ok j) (Ok k) e f = let l : j ≡ k = omega (arith, enough_for a b m o n j k e f, enough_for b a o m n k j f e) in cc
alike a b m o n (Ok j) (Err other) e f = absurd (not_refused b a o m n other j f e)
alike a b m o n (Err why) (Ok k) e f = absurd (not_refused a b m o n why k e f)
alike a b m o n (Err why) (Err other) e f = let l = refused_alike a b m o n why other e f in cc

pub room_meant : RoomMeant
room_meant = record {
  long = long;
  bounds = bounds;
  stored = stored;
  meant = meant;
  only = λ room m n. alike room room_for m meant n (room n) (room_for n) refl refl;
}
