-- The search over pieces, a turn at a time, and what it finds by the steps of the walk.
use Rattle.std.proofs.Common.{ℕ, zero, suc, add-one, ◌+◌, ◌<◌, ◌≤◌, ◌≡◌, refl, sym, ap, ◌∙◌, Bool, true, false, List, [], ◌∷◌, length, drop, get_or, arith, Bor, if◌then◌else◌}
use Rattle.std.specs.Prelude.{ltb, leb, map, Some, None, Result, Ok, Err, ok_or}
use Rattle.std.specs.List.{find as first_of, list_any}
use Rattle.std.proofs.Math.Seq.{drop-cons}
use Rattle.std.proofs.Math.ListN.{drop_of_length-le}
use borrow.Author.Tests.{le-ltb, lt-ltb, ltb-true, leb-false, eqb-true}
use Rattle.le.specs.Le.{le4}
use Rattle.part.specs.Slice.{part}
use Rattle.refusal.specs.Refusal.{limit}
use Rattle.refusal.specs.declared.Mode.{Mode}
use Rattle.refusal.specs.declared.Refusal.{Refusal}
use Rattle.refusal.specs.declared.Refusal.TheVariants.{TooLarge, TooShort, ZeroEntryLength, NameNotFound}
use Rattle.entry.specs.declared.Claimed.{Claimed}
use Rattle.entry.specs.Entry.{claim_at}
use Rattle.entry.specs.Walk.{stands, steps_from, steps}
use Rattle.entry.specs.Claims.{Claims, ended, large, short, beyond, entry}
use Rattle.entry.proofs.Claims.{claims}
use Rattle.walk.specs.Zero.{is_zero}
use Rattle.walk.specs.Step.{step_at}
use Rattle.walk.specs.declared.Piece.{Piece}
use Rattle.walk.specs.Pieces.{piece_at, pieces}
use Rattle.walk.proofs.Left.{piece_starts}
use Rattle.walk.proofs.Theorems.{pieces_are}
use Rattle.walk.specs.declared.unread.Unread.{Unread}
use Rattle.walk.specs.Unread.{unread_of}
use Rattle.name_find.specs.Find.{has_name, is_named, find, find_indexed}

-- the search from slot to slot
module _ (test : ℕ → Bool) (slots : List ℕ) where
  module _ (i : ℕ) (h : i < length slots) where
    pub looked_on : test (get_or slots i 0) ≡ false → first_of test (drop (i + 1) slots) ≡ first_of test (drop i slots)
    looked_on e = rw (drop-cons slots i 0 h, add-one) (simp e refl)

    pub looked_at : test (get_or slots i 0) ≡ true → first_of test (drop i slots) ≡ Some (get_or slots i 0)
    looked_at e = rw (drop-cons slots i 0 h) (simp e refl)

-- of a kind of entry, in a mode
module _ {R : Type 0} (name_of : R → List ℕ) (read : Bor (List ℕ) → Result R Refusal) where
  -- an entry's own bytes give a record of that name
  abbrev gives_name : List ℕ → Unread → Bool
  gives_name name unread = has_name name_of name (Some (read unread.bytes))

  abbrev by_answer : List ℕ → ℕ → Result Unread Refusal → Result ℕ Refusal → Result ℕ Refusal
  by_answer name start (Ok unread) later = if gives_name name unread then Ok start else later
  by_answer name start (Err why) later = if is_zero why then Err ZeroEntryLength else later

  unfoldable pub search_in : List ℕ → List (Piece Unread) → Result ℕ Refusal
  search_in name [] = Err NameNotFound
  search_in name (p ∷ more) = by_answer name p.start p.answer (search_in name more)

  module _ (name : List ℕ) (left : List (Piece Unread)) where
    pub search_end : left ≡ [] → search_in name left ≡ Err NameNotFound
    unfolding search_in
    search_end e = simp e

    module _ (rest : List (Piece Unread)) (p : Piece Unread) (turn : left ≡ p ∷ rest) where
      pub search_found : (unread : Unread) → p.answer ≡ Ok unread → has_name name_of name (Some (read unread.bytes)) ≡ true → search_in name left ≡ Ok p.start
      unfolding search_in
      search_found unread e n = simp turn (simp e (simp n))

      pub search_on : (unread : Unread) → p.answer ≡ Ok unread → has_name name_of name (Some (read unread.bytes)) ≡ false → search_in name left ≡ search_in name rest
      unfolding search_in
      search_on unread e n = simp turn (simp e (simp n))

      pub search_stops : (why : Refusal) → p.answer ≡ Err why → why ≡ ZeroEntryLength → search_in name left ≡ Err ZeroEntryLength
      unfolding search_in
      search_stops why e z = simp turn (simp e (simp z))

      pub search_refused : (why : Refusal) → p.answer ≡ Err why → is_zero why ≡ false → search_in name left ≡ search_in name rest
      unfolding search_in
      search_refused why e z = simp turn (simp e (simp z))

  module _ (s : Bor (List ℕ)) (name : List ℕ) where
    -- of the entry that is met at a place
    pub named_at : (at size : ℕ) → (claim_at s.now at).size ≡ Some (Ok size) → is_named name_of read s name at ≡ has_name name_of name (Some (read (part s at size)))
    unfolding is_named step_at
    named_at at size e = simp e

    pub find_large : limit < length s.now → find name_of read s name ≡ Err (TooLarge (length s.now))
    unfolding find
    find_large h = simp (lt-ltb limit (length s.now) h)

    module _ (slots : List ℕ) where
      pub find_indexed_large : limit < length s.now → find_indexed name_of read s slots name ≡ Err (TooLarge (length s.now))
      unfolding find_indexed
      find_indexed_large h = simp (lt-ltb limit (length s.now) h)

      pub find_indexed_within : length s.now ≤ limit → find_indexed name_of read s slots name ≡ ok_or (first_of (is_named name_of read s name) slots) NameNotFound
      unfolding find_indexed
      find_indexed_within h = simp (le-ltb limit (length s.now) h)

  -- and of a kind whose header is not shorter than a symbol's
  module _ (header : ℕ) (shortest : 30 ≤ header) (too_short : (e : Bor (List ℕ)) → length e.now < header → read e ≡ Err (TooShort header (length e.now)))
      (mode : Mode) (s : Bor (List ℕ)) (name : List ℕ) where
    -- what is found among the steps that begin at some places
    abbrev among : List ℕ → Result ℕ Refusal
    among places = ok_or (first_of (is_named name_of read s name) places) (if list_any (stands s.now) places then ZeroEntryLength else NameNotFound)

    -- where the walk stands no entry has a name, since a claim of 0 is too short
    stood : (at : ℕ) → at < length s.now → stands s.now at ≡ true → (c : Claimed) → claim_at s.now at ≡ c → Claims s.now at c → is_named name_of read s name at ≡ false
    unfolding is_named step_at
    stood at h f c e (ended a) = absurd (omega arith)
    stood at h f c e (large a b) = simp e
    stood at h f c e (short a b d) = simp e
    stood at h f c e (beyond a b d g) = simp e
    stood at h f c e (entry a b d g) =
        let z : le4 s.now at ≡ 0 = omega (arith, eqb-true (claim_at s.now at).next at f, ap (λ c. c.next) e) in
        let n = too_short (part s at 0) (omega (arith, shortest)) in
        simp (e, z, n)

    own_by : (own : Bor (List ℕ)) (start : ℕ) (later : Result ℕ Refusal) (few : Bool) → ltb (length own.now) 30 ≡ few
        → by_answer name start (unread_of mode own) later ≡ (if has_name name_of name (Some (read own)) then Ok start else later)
    unfolding unread_of
    own_by own start later true e = let n = too_short own (omega (arith, shortest, ltb-true (length own.now) 30 e)) in simp (e, n)
    own_by own start later false e = simp e

    moved : (at : ℕ) (later : Result ℕ Refusal) → at < length s.now → stands s.now at ≡ false → (c : Claimed) → claim_at s.now at ≡ c → Claims s.now at c
        → by_answer name at (piece_at (unread_of mode) s at).answer later ≡ (if is_named name_of read s name at then Ok at else later)
    unfolding piece_at is_named step_at
    moved at later h f c e (ended a) = absurd (omega arith)
    moved at later h f c e (large a b) = simp f (simp e)
    moved at later h f c e (short a b d) = simp f (simp e)
    moved at later h f c e (beyond a b d g) = simp f (simp e)
    moved at later h f c e (entry a b d g) = simp f (simp e (own_by (part s at (le4 s.now at)) at later (ltb (length (part s at (le4 s.now at)).now) 30) refl))

    zero_piece : (at : ℕ) → stands s.now at ≡ true → (piece_at (unread_of mode) s at).answer ≡ Err ZeroEntryLength
    unfolding piece_at
    zero_piece at f = simp f

    -- one turn of the walk
    turn : (at : ℕ) (more : List ℕ) → search_in name (map (piece_at (unread_of mode) s) more) ≡ among more
        → (end stand : Bool) → leb (length s.now) at ≡ end → stands s.now at ≡ stand
        → search_in name (map (piece_at (unread_of mode) s) (if end then [] else at ∷ (if stand then [] else more)))
        ≡ among (if end then [] else at ∷ (if stand then [] else more))
    unfolding search_in
    turn at more on true stand e f = refl
    turn at more on false true e f = simp (zero_piece at f, stood at (leb-false (length s.now) at e) f (claim_at s.now at) refl (claims s.now at), f)
    turn at more on false false e f =
        let found_in : Result ℕ Refusal = search_in name (map (piece_at (unread_of mode) s) more) in
        let m = moved at found_in (leb-false (length s.now) at e) f (claim_at s.now at) refl (claims s.now at) in
        simp f (ap (λ (k : ℕ). by_answer name k (piece_at (unread_of mode) s at).answer found_in) (piece_starts (unread_of mode) s at) ∙ m ∙ ap (λ (r : Result ℕ Refusal). if is_named name_of read s name at then Ok at else r) on ∙ found (is_named name_of read s name at))
      where
        found : (t : Bool) → (if t then Ok at else among more) ≡ ok_or (if t then Some at else first_of (is_named name_of read s name) more) (if list_any (stands s.now) more then ZeroEntryLength else NameNotFound)
        found true = refl
        found false = refl

    from : (at most : ℕ) → search_in name (map (piece_at (unread_of mode) s) (steps_from s.now at most)) ≡ among (steps_from s.now at most)
    unfolding steps_from search_in
    from at zero = refl
    from at (suc most) = turn at (steps_from s.now (claim_at s.now at).next most) (from (claim_at s.now at).next most) (leb (length s.now) at) (stands s.now at) refl refl

    pub find_within : length s.now ≤ limit → find name_of read s name ≡ search_in name (pieces (unread_of mode) s)
    unfolding find steps
    find_within h = simp (le-ltb limit (length s.now) h) (sym (ap (search_in name) (pieces_are (unread_of mode) s) ∙ from 0 (length s.now)))

    -- what the search gives from where it has come to
    pub find_ends : (all left : List (Piece Unread)) (r : Result ℕ Refusal) → length s.now ≤ limit → all ≡ pieces (unread_of mode) s → search_in name left ≡ search_in name all → search_in name left ≡ r → r ≡ find name_of read s name
    find_ends all left r h is going ends = sym (find_within h ∙ ap (search_in name) (sym is) ∙ sym going ∙ ends)
