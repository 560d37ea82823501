-- Room means what it is for.
use Rattle.std.proofs.Common.{ℕ, ◌/◌, ◌%◌, ◌<◌, ◌≤◌, ◌≡◌, refl, sym, ap, subst, ◌∙◌, Bool, true, false, List, [], length, arith, Bor, Result, if◌then◌else◌}
use Rattle.std.specs.Prelude.{ltb, leb, Ok, Err}
use Rattle.std.specs.List.{list_any}
use borrow.Author.Tests.{ltb-true, ltb-false, le-ltb}
use Rattle.refusal.specs.Refusal.{limit}
use Rattle.refusal.specs.declared.Mode.{Mode}
use Rattle.refusal.specs.declared.Mode.TheVariants.{Present}
use Rattle.refusal.specs.declared.Refusal.{Refusal}
use Rattle.refusal.specs.declared.Refusal.TheVariants.{TooLarge, ZeroEntryLength}
use Rattle.entry.specs.declared.WalkEnd.TheVariants.{Finished}
use Rattle.entry.specs.Walk.{stands, steps, steps_from, cursor_after}
use Rattle.entry.specs.Bounded.{end_after, bounded_walk}
use Rattle.entry.proofs.Theorems.{all_steps}
use Rattle.writing.specs.Writing.{answer, Writes}
use Rattle.walk.specs.Pieces.{pieces}
use Rattle.symbol.specs.Symbol.{symbol_of}
use Rattle.symbol.specs.Kind as kind
use Rattle.index.specs.Index.{starts, stopped, indexing}
use Rattle.index.proofs.Steps.{by_steps_of}
use Rattle.index.proofs.Laws.{index_large, index_starts}
use Rattle.regrown.specs.Regrown.{lying}
use Rattle.room.specs.Room.{least, room_for}
use Rattle.room.specs.Meaning.{Unhindered, too_large, zero_claim, done, Needs, Meant}
use Rattle.room.proofs.Laws.{room_large, room_within}
use Rattle.room.proofs.Bounds.{starts_are, starts_room}
use Rattle.room.proofs.Smallest.{upload, length_upload, upload_bytes, Gives, gives_upload}

-- within the limit or above it
data Size (n : ℕ) : Type 0 where
  within : n ≤ limit → Size n
  above : limit < n → Size n

size_of : (n : ℕ) → Size n
size_of n = by (ltb limit n) refl
  where
    by : (p : Bool) → ltb limit n ≡ p → Size n
    by true e = above (ltb-true limit n e)
    by false e = within (ltb-false limit n e)

answered : (n slots : ℕ) → room_for n ≡ Ok slots → Size n → (n ≤ limit) × (n / least ≡ slots)
answered n slots h (within l) = let e = room_within n l in (l, cc)
answered n slots h (above l) = let e = room_large n l in absurd (let z : ◌≡◌ {A = ℕ} 0 1 = cc in omega arith)

not_answered : (n : ℕ) (why : Refusal) → room_for n ≡ Err why → Size n → (limit < n) × (TooLarge n ≡ why)
not_answered n why h (within l) = let e = room_within n l in absurd (let z : ◌≡◌ {A = ℕ} 0 1 = cc in omega arith)
not_answered n why h (above l) = let e = room_large n l in (l, cc)

stopped_is : (mode : Mode) (s : Bor (List ℕ)) → stopped (pieces (symbol_of mode) s) ≡ list_any (stands s.now) (steps s.now)
stopped_is mode s = (by_steps_of (symbol_of mode) 30 kind.four (kind.short mode) (kind.never_zero mode)).stopped_is s

module _ (mode : Mode) (s : Bor (List ℕ)) (old new : List ℕ) (r : Result ℕ Refusal) (w : Writes (indexing (symbol_of mode) s) old new r) where
  -- with a slot for every entry of the least length that there is room for
  unhindered : (length s.now ≤ limit → length s.now / least ≤ length old) → Unhindered mode s r
  unfolding indexing
  unhindered room = by (ltb limit (length s.now)) (stopped (pieces (symbol_of mode) s)) refl refl w.said
    where
      by : (p q : Bool) → ltb limit (length s.now) ≡ p → stopped (pieces (symbol_of mode) s) ≡ q
          → r ≡ answer (if p then Err (TooLarge (length s.now)) else if q then Err ZeroEntryLength else Ok (starts (pieces (symbol_of mode) s))) (length old) → Unhindered mode s r
      by true q e f h = subst (λ (r : Result ℕ Refusal). Unhindered mode s r) (sym h) (too_large (ltb-true limit (length s.now) e))
      by false true e f h = subst (λ (r : Result ℕ Refusal). Unhindered mode s r) (sym h) (zero_claim (ltb-false limit (length s.now) e) (sym (stopped_is mode s) ∙ f))
      by false false e f h =
          let fits : ltb (length old) (length (starts (pieces (symbol_of mode) s))) ≡ false = le-ltb (length old) (length (starts (pieces (symbol_of mode) s))) (omega (arith, starts_room mode s, room (ltb-false limit (length s.now) e))) in
          subst (λ (r : Result ℕ Refusal). Unhindered mode s r) (sym (h ∙ simp fits)) (done (ltb-false limit (length s.now) e) (sym (stopped_is mode s) ∙ f))

  -- an upload above the limit
  large : limit < length s.now → r ≡ Err (TooLarge (length s.now))
  large h = w.said ∙ ap (λ x. answer x (length old)) (index_large (symbol_of mode) s h)

-- a walk that meets no zero claim ends finished
ends : (s : List ℕ) → list_any (stands s) (steps s) ≡ false → end_after s 0 (steps s) ≡ Ok Finished
unfolding end_after
ends s h = by (leb (length s) (cursor_after s 0 (steps s))) refl
  where
    by : (t : Bool) → leb (length s) (cursor_after s 0 (steps s)) ≡ t → end_after s 0 (steps s) ≡ Ok Finished
    by true e = simp e
    by false e = absurd (all_steps.whole s (simp (e, h)))

-- an upload that needs all its room
module _ (n : ℕ) (small : n ≤ limit) where
  abbrev full : List ℕ
  full = upload (n / least) (n % least)

  long : length full ≡ n
  long = omega (arith, length_upload (n / least) (n % least))

  given : (mode : Mode) (m : ℕ × ℕ) → Gives mode (lying m full) 0 (length full) (n / least)
  given mode m = gives_upload mode m (n / least) (n % least) (length full) [] (omega arith) (omega (arith, long)) (omega (arith, length_upload (n / least) (n % least)))

  none_stands : list_any (stands full) (steps full) ≡ false
  unfolding steps
  none_stands = (given Present (0, 0)).moves

  stored : (mode : Mode) (m : ℕ × ℕ) → length (starts (pieces (symbol_of mode) (lying m full))) ≡ n / least
  unfolding steps
  stored mode m = ap length (starts_are mode (lying m full)) ∙ (given mode m).records

  says : (mode : Mode) (m : ℕ × ℕ) → indexing (symbol_of mode) (lying m full) ≡ Ok (starts (pieces (symbol_of mode) (lying m full)))
  says mode m = index_starts (symbol_of mode) (lying m full) (omega (arith, long)) (stopped_is mode (lying m full) ∙ none_stands)

  answers : (mode : Mode) (s : Bor (List ℕ)) → s.now ≡ full → (old new : List ℕ) (r : Result ℕ Refusal) → Writes (indexing (symbol_of mode) s) old new r
      → r ≡ answer (Ok (starts (pieces (symbol_of mode) (lying s.ref_ptr full)))) (length old)
  answers mode s e old new r w = w.said ∙ ap (λ (l : List ℕ). answer (indexing (symbol_of mode) (lying s.ref_ptr l)) (length old)) e ∙ ap (λ x. answer x (length old)) (says mode s.ref_ptr)

  needs : Needs n (n / least)
  unfolding bounded_walk steps
  needs = record {
    upload = full;
    long = long;
    bytes = upload_bytes (n / least) (n % least);
    finished = ap (λ (k : ℕ). end_after full 0 (steps_from full 0 k)) (sym long) ∙ ends full none_stands;
    answers = λ mode s e old new r w. answers mode s e old new r w ∙ simp (stored mode s.ref_ptr);
  }

pub meant : Meant room_for
meant = record {
  enough = λ mode s old new r room w. unhindered mode s old new r w (λ h. omega (arith, room (length s.now / least) (room_within (length s.now) h)));
  tight = λ n slots h. let a = answered n slots h (size_of n) in subst (Needs n) a.1 (needs n a.0);
  refused = λ mode s old new r why h w. let a = not_answered (length s.now) why h (size_of (length s.now)) in large mode s old new r w a.0 ∙ ap (λ (why : Refusal). Err why) a.1;
}
