-- Every step of a walk before the end moves by a byte at least or is the last, and one that gives a record by 33.
use Rattle.std.proofs.Common.{ℕ, zero, suc, ◌+◌, ◌-◌, ◌*◌, ◌/◌, ◌<◌, ◌≤◌, ◌≡◌, refl, sym, ap, ◌∙◌, Bool, true, false, List, [], ◌∷◌, length, arith, Bor, if◌then◌else◌}
use Rattle.std.specs.Prelude.{leb, map, filter, Option, Some, None, Result, Ok, Err}
use Rattle.std.specs.Option.{option_map}
use borrow.Author.Tests.{leb-true, leb-false, eqb-false}
use Rattle.part.specs.Slice.{part}
use Rattle.part.specs.Outcome.{and_then}
use Rattle.refusal.specs.declared.Mode.{Mode}
use Rattle.refusal.specs.declared.Refusal.{Refusal}
use Rattle.entry.specs.Entry.{claim_at}
use Rattle.entry.specs.Walk.{stands, steps_from, steps, walk}
use Rattle.entry.specs.Bounded.{bounded_walk}
use Rattle.entry.proofs.Claims.{meets, moves_on, moves_within}
use Rattle.entry.proofs.Direct.{part_long}
use Rattle.walk.specs.declared.Stepped.{Stepped}
use Rattle.walk.specs.Step.{step_at}
use Rattle.walk.specs.Pieces.{pieces}
use Rattle.walk.specs.Theorems.{cursor_of}
use Rattle.symbol.specs.declared.AdsSymbolInfo.{AdsSymbolInfo}
use Rattle.symbol.specs.Symbol.{symbol_of}
use Rattle.symbol.specs.Kind as kind
use Rattle.index.specs.Index.{starts}
use Rattle.index.specs.Steps.{is_record, gives}
use Rattle.index.proofs.Steps.{by_steps_of}
use Rattle.regrown.proofs.Whole.{claim_end}
use Rattle.room.specs.Room.{least}
use Rattle.room.specs.Meaning.{records, walked_records, Bounds}

module _ (s : List ℕ) where
  made_turn : (at left : ℕ) → ((at : ℕ) → length (steps_from s at left) ≤ length s - at)
      → (end stand : Bool) → leb (length s) at ≡ end → stands s at ≡ stand
      → length (if end then [] else at ∷ (if stand then [] else steps_from s (claim_at s at).next left)) ≤ length s - at
  made_turn at left on true stand e f = omega arith
  made_turn at left on false true e f = omega (arith, leb-false (length s) at e)
  made_turn at left on false false e f =
      let before : at < length s = leb-false (length s) at e in
      omega (arith, before, on (claim_at s at).next, moves_on s at before, moves_within s at before, eqb-false (claim_at s at).next at f)

  made : (at left : ℕ) → length (steps_from s at left) ≤ length s - at
  unfolding steps_from
  made at zero = omega arith
  made at (suc left) = made_turn at left (λ at. made at left) (leb (length s) at) (stands s at) refl refl

strings_long : (mode : Mode) (e : Bor (List ℕ)) (r : AdsSymbolInfo) → symbol_of mode e ≡ Ok r → least ≤ length e.now
unfolding symbol_of
strings_long mode e r h = grind arith

module _ (mode : Mode) (s : Bor (List ℕ)) where
  abbrev step : ℕ → Stepped AdsSymbolInfo
  step at = step_at (symbol_of mode) s at

  cursor_is : (at : ℕ) → (step at).cursor.at ≡ (claim_at s.now at).next
  unfolding step_at
  cursor_is at = refl

  pub long : (at : ℕ) (symbol : AdsSymbolInfo) → (step at).answer ≡ Some (Ok symbol) → at + least ≤ (step at).cursor.at
  unfolding step_at
  long at symbol h = by (claim_at s.now at).size refl h
    where
      by : (c : Option (Result ℕ Refusal)) → (claim_at s.now at).size ≡ c → option_map (λ claim. and_then claim (λ size. symbol_of mode (part s at size))) c ≡ Some (Ok symbol) → at + least ≤ (claim_at s.now at).next
      by None e k = cc
      by (Some (Err why)) e k = cc
      by (Some (Ok size)) e k =
          let m = meets s.now at size e in
          let is : symbol_of mode (part s at size) ≡ Ok symbol = cc in
          omega (arith, m.next, part_long s at size m.room, strings_long mode (part s at size) symbol is)

  -- those of some steps that give a record
  abbrev recorded : List (Stepped AdsSymbolInfo) → List (Stepped AdsSymbolInfo)
  recorded made = filter (λ t. is_record t.answer) made

  records_turn : (at : ℕ) (more : List (Stepped AdsSymbolInfo)) → length (recorded more) * 33 ≤ length s.now - (step at).cursor.at → (end : Bool) → leb (length s.now) at ≡ end
      → (t : Option (Result AdsSymbolInfo Refusal)) → (step at).answer ≡ t
      → length (if is_record t then step at ∷ recorded (if end then [] else more) else recorded (if end then [] else more)) * 33 ≤ length s.now - at
  records_turn at more on true e (Some (Ok symbol)) f =
      let stays : (claim_at s.now at).next ≡ at = ap (λ c. c.next) (claim_end s.now at (leb-true (length s.now) at e)) in
      absurd (omega (arith, long at symbol f, cursor_is at, stays))
  records_turn at more on true e (Some (Err why)) f = omega arith
  records_turn at more on true e None f = omega arith
  records_turn at more on false e (Some (Ok symbol)) f =
      let before : at < length s.now = leb-false (length s.now) at e in
      omega (arith, on, long at symbol f, cursor_is at, moves_within s.now at before)
  records_turn at more on false e (Some (Err why)) f = omega (arith, on, cursor_is at, moves_on s.now at (leb-false (length s.now) at e))
  records_turn at more on false e None f = omega (arith, on, cursor_is at, moves_on s.now at (leb-false (length s.now) at e))

  records_room : (at left : ℕ) → records (walk (step_at (symbol_of mode)) cursor_of s at left) * 33 ≤ length s.now - at
  unfolding walk records
  records_room at zero = omega arith
  records_room at (suc left) = records_turn at (walk (step_at (symbol_of mode)) cursor_of s (step at).cursor.at left) (records_room (step at).cursor.at left) (leb (length s.now) at) refl (step at).answer refl

  pub bounds : (allowed : ℕ) → Bounds mode s allowed
  unfolding bounded_walk
  bounds allowed = record {
    steps = omega (arith, made s.now 0 allowed);
    accepts = omega (arith, records_room 0 allowed);
  }

  -- as many steps as there are places give what the step gives at each
  walked_turn : (at left : ℕ) → ((at : ℕ) → walk (step_at (symbol_of mode)) cursor_of s at (length (steps_from s.now at left)) ≡ map step (steps_from s.now at left))
      → (end stand : Bool) → leb (length s.now) at ≡ end
      → walk (step_at (symbol_of mode)) cursor_of s at (length (if end then [] else at ∷ (if stand then [] else steps_from s.now (claim_at s.now at).next left))) ≡ map step (if end then [] else at ∷ (if stand then [] else steps_from s.now (claim_at s.now at).next left))
  unfolding walk
  walked_turn at left on true stand e = refl
  walked_turn at left on false true e = simp e
  walked_turn at left on false false e = simp (e, cursor_is at) (ap (λ l. step at ∷ l) (on (claim_at s.now at).next))

  walked : (at left : ℕ) → walk (step_at (symbol_of mode)) cursor_of s at (length (steps_from s.now at left)) ≡ map step (steps_from s.now at left)
  unfolding steps_from walk
  walked at zero = refl
  walked at (suc left) = walked_turn at left (λ at. walked at left) (leb (length s.now) at) (stands s.now at) refl

  counted : (places : List ℕ) → length (recorded (map step places)) ≡ length (filter (gives (symbol_of mode) s) places)
  counted [] = refl
  counted (at ∷ more) = turn (gives (symbol_of mode) s at) (counted more)
    where
      turn : (t : Bool) → length (recorded (map step more)) ≡ length (filter (gives (symbol_of mode) s) more)
          → length (if t then step at ∷ recorded (map step more) else recorded (map step more)) ≡ length (if t then at ∷ filter (gives (symbol_of mode) s) more else filter (gives (symbol_of mode) s) more)
      turn true h = ap suc h
      turn false h = h

  pub starts_are : starts (pieces (symbol_of mode) s) ≡ filter (gives (symbol_of mode) s) (steps s.now)
  starts_are = (by_steps_of (symbol_of mode) 30 kind.four (kind.short mode) (kind.never_zero mode)).starts_are s

  pub stored : length (starts (pieces (symbol_of mode) s)) ≡ walked_records mode s (bounded_walk s.now 0 (length s.now)).steps
  unfolding steps bounded_walk records
  stored = ap length starts_are ∙ sym (ap (λ l. length (recorded l)) (walked 0 (length s.now)) ∙ counted (steps_from s.now 0 (length s.now)))

  pub starts_room : length (starts (pieces (symbol_of mode) s)) ≤ length s.now / least
  starts_room = omega (arith, stored, (bounds (bounded_walk s.now 0 (length s.now)).steps).accepts)
