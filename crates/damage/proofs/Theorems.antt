-- The theorems, proved.
use Rattle.std.proofs.Common.{ℕ, ◌+◌, ◌-◌, ◌<◌, ◌≡◌, refl, sym, ap, ◌∙◌, List, [], ◌∷◌, ◌++◌, length, arith, Bor, Option, Some, None, Result, Ok, Err, option_map, filter_map, flat_map}
use mathlib.Core.Path.{ap₂}
use Rattle.std.specs.List.{cons_option}
use Rattle.le.specs.Le.{part as part_of}
use Rattle.part.specs.Slice.{part}
use Rattle.refusal.specs.Refusal.{figures_of}
use Rattle.refusal.specs.declared.Refusal.{Refusal}
use Rattle.entry.specs.Alike.{DiffersInside}
use Rattle.entry.proofs.Alike.{walked_alike}
use Rattle.walk.specs.Mapped.{map_ok}
use Rattle.walk.specs.declared.Piece.{Piece}
use Rattle.walk.specs.declared.Stepped.{Stepped}
use Rattle.walk.specs.Step.{parse_of, step_at}
use Rattle.walk.specs.Pieces.{piece_at, pieces}
use Rattle.walk.specs.Theorems.{cursor_of}
use Rattle.walk.proofs.Left.{piece_starts}
use Rattle.index.specs.Steps.{BySteps}
use Rattle.regrown.specs.Regrown.{Tells, Entry, Refused, End, lying}
use Rattle.regrown.specs.Tells.{by_answer, tells}
use Rattle.salvage.specs.Salvage.{kept, dropped, bytes_of, run_of as slots_in}
use Rattle.salvage.proofs.Promise.{salvage_both}
use Rattle.damage.specs.Stays.{StepsStay, ParsesStay, PiecesStay}
use Rattle.damage.specs.Salvaged.{kept_of, run_of, slots_of, SalvageWrites}
use Rattle.damage.specs.Theorems.{StaysInPlace, StaysAnywhere, piece_tells}
use Rattle.damage.proofs.Stays as stays

-- what a salvage writes, piece by piece
module _ {R : Type 0} where
  kept_apart : (a : List ℕ) (ps : List (Piece R)) → kept a ps ≡ flat_map (λ e. e.bytes) (filter_map (λ p. kept_of a p.start p.end p.answer) ps)
  unfolding kept
  kept_apart a [] = refl
  kept_apart a (p ∷ ps) = by p.answer (kept_apart a ps)
    where
      by : (x : Result R Refusal) → kept a ps ≡ flat_map (λ e. e.bytes) (filter_map (λ p. kept_of a p.start p.end p.answer) ps)
          → bytes_of a p.start p.end x ++ kept a ps ≡ flat_map (λ e. e.bytes) (cons_option (kept_of a p.start p.end x) (filter_map (λ p. kept_of a p.start p.end p.answer) ps))
      by (Ok r) on = ap (λ (l : List ℕ). part_of a p.start (p.end - p.start) ++ l) on
      by (Err why) on = on

  dropped_apart : (ps : List (Piece R)) → dropped ps ≡ flat_map slots_of (filter_map (λ p. run_of p.start p.end p.answer) ps)
  unfolding dropped
  dropped_apart [] = refl
  dropped_apart (p ∷ ps) = by p.answer (dropped_apart ps)
    where
      by : (x : Result R Refusal) → dropped ps ≡ flat_map slots_of (filter_map (λ p. run_of p.start p.end p.answer) ps)
          → slots_in p.start p.end x ++ dropped ps ≡ flat_map slots_of (cons_option (run_of p.start p.end x) (filter_map (λ p. run_of p.start p.end p.answer) ps))
      by (Ok r) on = on
      by (Err why) on = ap (λ (l : List ℕ). (p.start ∷ (p.end - p.start) ∷ (figures_of why).number ∷ []) ++ l) on

  pub salvage_writes_of : (read : Bor (List ℕ) → Result R Refusal) → SalvageWrites read
  salvage_writes_of read s small = salvage_both read s small ∙ ap₂ (λ (a b : List ℕ). Ok (a, b)) (kept_apart s.now (pieces read s)) (dropped_apart (pieces read s))

-- in the same place in memory
module _ {R : Type 0} where
  same_ok : (x : Result R Refusal) → map_ok (λ r. r) x ≡ x
  same_ok (Ok r) = refl
  same_ok (Err why) = refl

  same_some : (x : Option (Result R Refusal)) → option_map (map_ok (λ r. r)) x ≡ x
  same_some None = refl
  same_some (Some x) = ap Some (same_ok x)

  same_piece : (p q : Piece R) → p.start ≡ q.start → p.end ≡ q.end → p.answer ≡ q.answer → p ≡ q
  same_piece p q e f g =
      let a : Piece R = record { start = p.start; end = p.end; answer = p.answer } in
      let b : Piece R = record { start = q.start; end = q.end; answer = q.answer } in
      let is : a ≡ b = simp (e, f, g) in
      is

  same_step : (x y : Stepped R) → x.answer ≡ y.answer → x.cursor ≡ y.cursor → x ≡ y
  same_step x y e f =
      let a : Stepped R = record { answer = x.answer; cursor = x.cursor } in
      let b : Stepped R = record { answer = y.answer; cursor = y.cursor } in
      let is : a ≡ b = simp (e, f) in
      is

  module _ (header : ℕ) (four : 4 < header) (read : Bor (List ℕ) → Result R Refusal) (by_steps : BySteps read) where
    module _ (m : ℕ × ℕ) (s t places : List ℕ) (d : DiffersInside s t places) where
      alike : (at size : ℕ) → (part (lying m s) at size).now ≡ (part (lying m t) at size).now → map_ok (λ r. r) (read (part (lying m s) at size)) ≡ map_ok (λ r. r) (read (part (lying m t) at size))
      alike at size h = ap (λ (l : List ℕ). map_ok (λ r. r) (read (record { ref_ptr = (m.0, m.1 + at); now = l }))) h

      steps_in_place : StepsStay (step_at read) cursor_of (λ x. x) (lying m s) (lying m t) places
      steps_in_place =
          let w = walked_alike s t places d in
          record {
            begin = w.begin;
            goes = λ at r. ap (λ c. c.at) (stays.cursor_alike read (λ r. r) (lying m s) (lying m t) places d alike at r);
            other = λ at r off. same_step (step_at read (lying m s) at) (step_at read (lying m t) at)
                (sym (same_some (step_at read (lying m s) at).answer) ∙ stays.answer_alike read (λ r. r) (lying m s) (lying m t) places d alike at r off ∙ same_some (step_at read (lying m t) at).answer)
                (stays.cursor_alike read (λ r. r) (lying m s) (lying m t) places d alike at r);
          }

      parses_in_place : ParsesStay (parse_of header read) (λ x. x) (lying m s) (lying m t) places
      parses_in_place at size n h off c =
          sym (same_ok (parse_of header read (part (lying m s) at n)))
          ∙ stays.parse_alike read (λ r. r) (lying m s) (lying m t) places d alike header four at size n h off c (λ k e. ap (λ (l : List ℕ). map_ok (λ r. r) (read (record { ref_ptr = (m.0, m.1 + at + 0); now = l }))) e)
          ∙ same_ok (parse_of header read (part (lying m t) at n))

      pieces_in_place : PiecesStay (pieces read) (λ p. p) (lying m s) (lying m t) places
      pieces_in_place = stays.pieces_stay read (λ r. r) (lying m s) (lying m t) places d alike (λ p. p) (λ at r off.
          same_piece (piece_at read (lying m s) at) (piece_at read (lying m t) at) (piece_starts read (lying m s) at ∙ sym (piece_starts read (lying m t) at))
          (stays.end_alike read (λ r. r) (lying m s) (lying m t) places d alike at r)
          (sym (same_ok (piece_at read (lying m s) at).answer) ∙ stays.piece_alike read (λ r. r) (lying m s) (lying m t) places d alike at r off ∙ same_ok (piece_at read (lying m t) at).answer))

    pub stays_in_place_of : StaysInPlace header read
    stays_in_place_of = record {
      step = steps_in_place;
      parse = parses_in_place;
      piece = pieces_in_place;
      salvage = λ m s t places d. stays.salvage_stays read (λ r. r) (lying m s) (lying m t) places d (alike m s t places d);
      index = λ m s t places d. stays.index_stays read (λ r. r) (lying m s) (lying m t) places d (alike m s t places d) by_steps;
    }

-- wherever they lie
module _ {R S : Type 0} (length_of : R → ℕ) (told : R → S) where
  -- what is told of a record, with its entry's length
  abbrev sized : R → S × ℕ
  sized r = (told r, length_of r)

  by_sized : ℕ → Option (Result (S × ℕ) Refusal) → Tells S
  by_sized next None = End next
  by_sized next (Some (Ok p)) = Entry p.0 p.1 next
  by_sized next (Some (Err why)) = Refused (figures_of why) next

  sized_is : (next : ℕ) (x : Option (Result R Refusal)) → by_answer length_of told next x ≡ by_sized next (option_map (map_ok sized) x)
  unfolding by_sized
  sized_is next None = refl
  sized_is next (Some (Ok r)) = refl
  sized_is next (Some (Err why)) = refl

  first_of_ok : (x : Result R Refusal) → map_ok (λ p. p.0) (map_ok sized x) ≡ map_ok told x
  first_of_ok (Ok r) = refl
  first_of_ok (Err why) = refl

  module _ (header : ℕ) (four : 4 < header) (read : Bor (List ℕ) → Result R Refusal) (by_steps : BySteps read)
      (long : (e : Bor (List ℕ)) (r : R) → read e ≡ Ok r → length_of r ≡ length e.now)
      (alike : (e f : Bor (List ℕ)) → e.now ≡ f.now → map_ok told (read e) ≡ map_ok told (read f)) where
    sized_by : (e f : Bor (List ℕ)) (x y : Result R Refusal) → read e ≡ x → read f ≡ y → e.now ≡ f.now → map_ok told x ≡ map_ok told y → map_ok sized x ≡ map_ok sized y
    sized_by e f (Ok r) (Ok q) h k same is =
        let a : told r ≡ told q = cc in
        let b : length_of r ≡ length_of q = long e r h ∙ ap length same ∙ sym (long f q k) in
        ap₂ (λ (v : S) (n : ℕ). Ok (v, n)) a b
    sized_by e f (Err why) (Err other) h k same is = let a : why ≡ other = cc in ap Err a
    sized_by e f (Ok r) (Err why) h k same is = absurd (let z : ◌≡◌ {A = ℕ} 0 1 = cc in omega arith)
    sized_by e f (Err why) (Ok r) h k same is = absurd (let z : ◌≡◌ {A = ℕ} 0 1 = cc in omega arith)

    module _ (s t : Bor (List ℕ)) (places : List ℕ) (d : DiffersInside s.now t.now places) where
      both : (at size : ℕ) → (part s at size).now ≡ (part t at size).now → map_ok sized (read (part s at size)) ≡ map_ok sized (read (part t at size))
      both at size h = sized_by (part s at size) (part t at size) (read (part s at size)) (read (part t at size)) refl refl h (alike (part s at size) (part t at size) h)

      steps_anywhere : StepsStay (step_at read) cursor_of (tells length_of told) s t places
      steps_anywhere =
          record {
            begin = (walked_alike s.now t.now places d).begin;
            goes = λ at r. ap (λ c. c.at) (stays.cursor_alike read sized s t places d both at r);
            other = λ at r off.
                sized_is (step_at read s at).cursor.at (step_at read s at).answer
                ∙ ap₂ by_sized (ap (λ c. c.at) (stays.cursor_alike read sized s t places d both at r)) (stays.answer_alike read sized s t places d both at r off)
                ∙ sym (sized_is (step_at read t at).cursor.at (step_at read t at).answer);
          }

      parses_anywhere : ParsesStay (parse_of header read) (map_ok told) s t places
      parses_anywhere at size n h off c =
          stays.parse_alike read told s t places d (λ at' size' e. alike (part s at' size') (part t at' size') e) header four at size n h off c (λ k e. alike (part (part s at n) 0 k) (part (part t at n) 0 k) e)

      pieces_anywhere : PiecesStay (pieces read) (piece_tells header read length_of told) s t places
      pieces_anywhere = stays.pieces_stay read sized s t places d both (piece_tells header read length_of told) (λ at r off.
          sized_is (piece_at read s at).end (Some (piece_at read s at).answer)
          ∙ ap₂ by_sized (stays.end_alike read sized s t places d both at r) (ap Some (stays.piece_alike read sized s t places d both at r off))
          ∙ sym (sized_is (piece_at read t at).end (Some (piece_at read t at).answer)))

    pub stays_anywhere_of : StaysAnywhere header read length_of told
    stays_anywhere_of = record {
      step = steps_anywhere;
      parse = parses_anywhere;
      piece = pieces_anywhere;
      salvage = λ s t places d. stays.salvage_stays read sized s t places d (both s t places d);
      index = λ s t places d. stays.index_stays read sized s t places d (both s t places d) by_steps;
    }
