-- The entry of a piece that was read, and the end of a walk over plain entries.
use Rattle.std.proofs.Common.{ℕ, zero, suc, ◌+◌, ◌-◌, ◌<◌, ◌≤◌, ◌≡◌, refl, sym, ap, ◌∙◌, subst, Bool, true, false, List, [], ◌∷◌, length, arith, Bor, Result, Ok, Err}
use Rattle.std.specs.Prelude.{leb, map, if◌then◌else◌}
use Rattle.std.specs.List.{All, list_any}
use Rattle.std.proofs.lemmas.List.Elements.{All-nil, All-cons, All-head, All-rest}
use borrow.Author.Tests.{leb-false}
use Rattle.le.specs.Le.{le4}
use Rattle.part.specs.Slice.{part}
use Rattle.part.specs.Outcome.{and_then}
use Rattle.refusal.specs.Refusal.{limit}
use Rattle.refusal.specs.declared.Mode.{Mode}
use Rattle.refusal.specs.declared.Mode.TheVariants.{Present}
use Rattle.refusal.specs.declared.Refusal.{Refusal}
use Rattle.refusal.specs.declared.Refusal.TheVariants.{ZeroEntryLength, NotPlain}
use Rattle.entry.specs.declared.WalkEnd.{WalkEnd}
use Rattle.entry.specs.declared.WalkEnd.TheVariants.{Finished, OutOfSteps}
use Rattle.entry.specs.declared.Claimed.{Claimed}
use Rattle.entry.specs.Entry.{claim_at}
use Rattle.entry.specs.Walk.{stands, steps, cursor_after}
use Rattle.entry.specs.Bounded.{end_after, bounded_walk}
use Rattle.entry.specs.Claims.{Claims, ended, large, short, beyond, entry}
use Rattle.entry.proofs.Claims.{claims}
use Rattle.entry.proofs.Direct.{part_long}
use Rattle.entry.proofs.Theorems.{all_steps}
use Rattle.walk.specs.declared.Piece.{Piece}
use Rattle.walk.specs.Pieces.{piece_at, pieces_from, pieces, claim_there}
use Rattle.walk.proofs.Theorems.{pieces_are}
use Rattle.symbol.specs.declared.AdsSymbolInfo.{AdsSymbolInfo}
use Rattle.symbol.specs.Symbol.{symbol_of}
use Rattle.symbol.specs.Kind.{room}
use Rattle.symbol.proofs.Refused.{refused_by}
use Rattle.plain.specs.Meaning.{own, IsPlain}

module _ (s : Bor (List ℕ)) where
  -- a piece that was read is a whole entry of the upload
  pub record IsOwn (p : Piece AdsSymbolInfo) (r : AdsSymbolInfo) : Type 0 where
    pub read : symbol_of Present (own s p) ≡ Ok r
    pub claims : p.start + le4 s.now p.start ≡ p.end
    pub room : p.start + 30 ≤ p.end
    pub within : p.end ≤ length s.now
    pub small : length s.now ≤ limit

  -- what a piece is
  pub record IsKnown (p : Piece AdsSymbolInfo) : Type 0 where
    pub own : (r : AdsSymbolInfo) → p.answer ≡ Ok r → IsOwn p r
    pub never : (place : ℕ) → p.answer ≡ Err (NotPlain place) → ⊥

  never_read : (e : Bor (List ℕ)) (place : ℕ) → symbol_of Present e ≡ Err (NotPlain place) → ⊥
  never_read e place h =
      refused_by e (NotPlain place) (λ (mode : Mode) (k : ℕ). k ≡ 19 → ⊥) (λ mode z. absurd (omega arith)) (λ mode z. absurd (omega arith)) (λ z. absurd (omega arith)) Present h refl

  by_claim : (at : ℕ) (c : Claimed) → claim_at s.now at ≡ c → Claims s.now at c → at < length s.now
      → IsKnown (record { start = at; end = c.next; answer = and_then (claim_there c.size) (λ size. symbol_of Present (part s at size)) })
  by_claim at c f (ended a) h = absurd (omega arith)
  by_claim at c f (large a b) h = record { own = λ r z. cc; never = λ place z. cc }
  by_claim at c f (short a b d) h = record { own = λ r z. cc; never = λ place z. cc }
  by_claim at c f (beyond a b d g) h = record { own = λ r z. cc; never = λ place z. cc }
  by_claim at c f (entry a b d g) h =
      let size : at + le4 s.now at - at ≡ le4 s.now at = omega arith in
      record {
        own = λ r z.
            let long = part_long s at (le4 s.now at) (omega arith) in
            let least = room Present (part s at (le4 s.now at)) r z in
            record {
              read = ap (λ (k : ℕ). symbol_of Present (part s at k)) size ∙ z;
              claims = refl;
              room = omega (arith, long, least);
              within = omega arith;
              small = b;
            };
        never = λ place z. never_read (part s at (le4 s.now at)) place z;
      }

  known_at : (at : ℕ) → at < length s.now → (t : Bool) → stands s.now at ≡ t → IsKnown (piece_at (symbol_of Present) s at)
  unfolding piece_at
  known_at at h true e = simp e (record { own = λ r z. cc; never = λ place z. cc })
  known_at at h false e = simp e (by_claim at (claim_at s.now at) refl (claims s.now at) h)

  pub all_known : (n at : ℕ) → All IsKnown (pieces_from (symbol_of Present) s at n)
  unfolding pieces_from
  all_known zero at = All-nil IsKnown
  all_known (suc n) at = by (leb (length s.now) at) refl (all_known n (piece_at (symbol_of Present) s at).end)
    where
      by : (b : Bool) → leb (length s.now) at ≡ b → All IsKnown (pieces_from (symbol_of Present) s (piece_at (symbol_of Present) s at).end n)
          → All IsKnown (if b then [] else piece_at (symbol_of Present) s at ∷ pieces_from (symbol_of Present) s (piece_at (symbol_of Present) s at).end n)
      by true e h = All-nil IsKnown
      by false e h = All-cons IsKnown _ _ (known_at at (leb-false (length s.now) at e) (stands s.now at) refl) h

  -- no step of a walk over plain entries stands
  not_stood : (at : ℕ) → IsPlain s (piece_at (symbol_of Present) s at) → (t : Bool) → stands s.now at ≡ t → t ≡ false
  unfolding piece_at
  not_stood at p true e = absurd (refused p.read (sym (ap (λ (b : Bool). (if◌then◌else◌ {A = Piece AdsSymbolInfo} b (record { start = at; end = length s.now; answer = Err ZeroEntryLength }) (record {
    start = at;
    end = (claim_at s.now at).next;
    answer = and_then (claim_there (claim_at s.now at).size) (λ size. symbol_of Present (part s at size));
  })).answer) e) ∙ p.is))
    where
      refused : (r : AdsSymbolInfo) → ◌≡◌ {A = Result AdsSymbolInfo Refusal} (Err ZeroEntryLength) (Ok r) → ⊥
      refused r z = cc
  not_stood at p false e = refl

  none_stood : (ats : List ℕ) → All (IsPlain s) (map (piece_at (symbol_of Present) s) ats) → list_any (stands s.now) ats ≡ false
  none_stood [] h = refl
  none_stood (at ∷ ats) h =
      let first : stands s.now at ≡ false = not_stood at (All-head (IsPlain s) _ _ h) (stands s.now at) refl in
      let more = none_stood ats (All-rest (IsPlain s) _ _ _ refl h) in
      simp (first, more)

  ends_by : (last stood : Bool) → stood ≡ false → ((if last then Ok Finished else if stood then Err ZeroEntryLength else Ok OutOfSteps) ≡ Ok OutOfSteps → ⊥)
      → ◌≡◌ {A = Result WalkEnd Refusal} (if last then Ok Finished else if stood then Err ZeroEntryLength else Ok OutOfSteps) (Ok Finished)
  ends_by true stood h not = refl
  ends_by false true h not = cc
  ends_by false false h not = absurd (not refl)

  pub finishes : All (IsPlain s) (pieces (symbol_of Present) s) → (bounded_walk s.now 0 (length s.now)).end ≡ Ok Finished
  unfolding bounded_walk end_after steps
  finishes all =
      let plain = subst (λ (ps : List (Piece AdsSymbolInfo)). All (IsPlain s) ps) (pieces_are (symbol_of Present) s) all in
      ends_by (leb (length s.now) (cursor_after s.now 0 (steps s.now))) (list_any (stands s.now) (steps s.now)) (none_stood (steps s.now) plain) (all_steps.whole s.now)
