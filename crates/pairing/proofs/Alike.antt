-- Two uploads are alike exactly where they have the same bytes.
use Rattle.std.proofs.Common.{ℕ, zero, suc, ◌+◌, ◌-◌, ◌<◌, ◌≤◌, ◌≡◌, refl, sym, ap, subst, ◌∙◌, Bool, true, false, ◌&&◌, eqb-true, List, [], ◌∷◌, ◌++◌, length, take, drop, map, min, arith, Bor}
use Rattle.std.specs.Prelude.{Option, Some, None, All, leb, nat_lt, if◌then◌else◌}
use Rattle.std.specs.List.{filter_map, cons_option, list_all}
use Rattle.std.specs.Cmp.Lexicographic.{same_text}
use Rattle.std.proofs.lemmas.Bool.{ltb-false}
use Rattle.std.proofs.lemmas.List.{take_all, length-take, length-take-le, length-drop, drop_all, drop-drop, take-append-drop}
use Rattle.std.proofs.Math.Seq.{take-add}
use Rattle.std.proofs.lemmas.List.Elements.{All-nil, All-cons, All-head, All-tail}
use Rattle.std.proofs.lemmas.List.Sorted.{All-permutation, IsPermutation-sym}
use borrow.Author.Tests.{leb-true, leb-false}
use Rattle.symbol.specs.Symbol.{symbol_of}
use Rattle.symbol.specs.declared.AdsSymbolInfo.{AdsSymbolInfo}
use Rattle.refusal.specs.declared.Mode.{Mode}
use Rattle.report.specs.declared.Upload.{Upload}
use Rattle.walk.specs.declared.Piece as walk
use Rattle.walk.specs.Pieces.{piece_at, pieces_from}
use Rattle.walk.proofs.Left.{piece_starts, piece_ends}
use Rattle.pairing.specs.declared.pieces.Piece.{Piece}
use Rattle.pairing.specs.declared.pieces.Shift.TheVariants.{Later, Earlier}
use Rattle.pairing.specs.declared.rows.Row.{Row}
use Rattle.pairing.specs.Pieces.{piece_of, pieces_of, shift}
use Rattle.pairing.specs.Rows.{rows_of, stays, are_alike, is_same_shift}
use Rattle.pairing.proofs.Once.{ours, theirs}

both : (a b : Bool) → (a && b) ≡ true → (a ≡ true) × (b ≡ true)
both true b h = (refl, h)
both false b h = cc

unshifted : (a b : ℕ) → is_same_shift (shift a b) (Later 0) ≡ true → a ≡ b
unshifted a b h = by (nat_lt b a) refl h
  where
    by : (c : Bool) → nat_lt b a ≡ c → is_same_shift (if c then Earlier (a - b) else Later (b - a)) (Later 0) ≡ true → a ≡ b
    by true e h = cc
    by false e h = omega (arith, ltb-false b a e, eqb-true (b - a) 0 h)

-- a piece has the bytes that stand at its place
abbrev Holds : List ℕ → Piece → Type 0
Holds s p = p.bytes.now ≡ take (length p.bytes.now) (drop p.place s)

taken : (n : ℕ) (s : List ℕ) → take n s ≡ take (length (take n s)) s
taken zero s = refl
taken (suc n) [] = refl
taken (suc n) (x ∷ s) = ap (λ (l : List ℕ). x ∷ l) (taken n s)

all_hold : (s : Bor (List ℕ)) (ws : List (walk.Piece AdsSymbolInfo)) → All (Holds s.now) (map (piece_of s) ws)
unfolding piece_of
all_hold s [] = All-nil (Holds s.now)
all_hold s (w ∷ ws) = All-cons (Holds s.now) (piece_of s w) (map (piece_of s) ws) (taken _ _) (all_hold s ws)

-- what stays has the bytes of the other upload, too
record Stay (p q : Piece) : Type 0 where
  place : p.place ≡ q.place
  bytes : p.bytes.now ≡ q.bytes.now

stay : (p q : Piece) → stays (record { a = Some p; b = Some q }) ≡ true → Stay p q
stay p q h =
    let b = both _ _ h in
    record { place = unshifted p.place q.place b.0; bytes = same_text p.bytes.now q.bytes.now (sym b.1) }

hold_ours : (s : List ℕ) (p q : Piece) → Stay p q → Holds s q → Holds s p
hold_ours s p q t h = t.bytes ∙ h ∙ (λ i. take (length (sym t.bytes i)) (drop (sym t.place i) s))

hold_theirs : (s : List ℕ) (p q : Piece) → Stay p q → Holds s p → Holds s q
hold_theirs s p q t h = sym t.bytes ∙ h ∙ (λ i. take (length (t.bytes i)) (drop (t.place i) s))

module _ (s : List ℕ) where
  to_ours : (rows : List Row) → list_all stays rows ≡ true → All (Holds s) (filter_map (λ r. r.b) rows) → All (Holds s) (filter_map (λ r. r.a) rows)
  to_ours [] h all = All-nil (Holds s)
  to_ours (r ∷ rows) h all = let c = both (stays r) (list_all stays rows) h in by r.a r.b c.0 all (to_ours rows c.1)
    where
      by : (a b : Option Piece) → stays (record { a = a; b = b }) ≡ true → All (Holds s) (cons_option b (filter_map (λ r. r.b) rows))
          → (All (Holds s) (filter_map (λ r. r.b) rows) → All (Holds s) (filter_map (λ r. r.a) rows)) → All (Holds s) (cons_option a (filter_map (λ r. r.a) rows))
      by None b h all on = cc
      by (Some p) None h all on = cc
      by (Some p) (Some q) h all on = All-cons (Holds s) p (filter_map (λ r. r.a) rows) (hold_ours s p q (stay p q h) (All-head (Holds s) q (filter_map (λ r. r.b) rows) all)) (on (All-tail (Holds s) q (filter_map (λ r. r.b) rows) all))

  to_theirs : (rows : List Row) → list_all stays rows ≡ true → All (Holds s) (filter_map (λ r. r.a) rows) → All (Holds s) (filter_map (λ r. r.b) rows)
  to_theirs [] h all = All-nil (Holds s)
  to_theirs (r ∷ rows) h all = let c = both (stays r) (list_all stays rows) h in by r.a r.b c.0 all (to_theirs rows c.1)
    where
      by : (a b : Option Piece) → stays (record { a = a; b = b }) ≡ true → All (Holds s) (cons_option a (filter_map (λ r. r.a) rows))
          → (All (Holds s) (filter_map (λ r. r.a) rows) → All (Holds s) (filter_map (λ r. r.b) rows)) → All (Holds s) (cons_option b (filter_map (λ r. r.b) rows))
      by None b h all on = cc
      by (Some p) None h all on = cc
      by (Some p) (Some q) h all on = All-cons (Holds s) q (filter_map (λ r. r.b) rows) (hold_theirs s p q (stay p q h) (All-head (Holds s) p (filter_map (λ r. r.a) rows) all)) (on (All-tail (Holds s) p (filter_map (λ r. r.a) rows) all))

-- an upload whose pieces stand in another one
module _ (mode : Mode) (s : Bor (List ℕ)) (t : List ℕ) where
  abbrev at_from : ℕ → ℕ → List Piece
  at_from at n = map (piece_of s) (pieces_from (symbol_of mode) s at n)

  one : (at : ℕ) → at < length s.now → Holds t (piece_of s (piece_at (symbol_of mode) s at))
      → take ((piece_at (symbol_of mode) s at).end - at) (drop at s.now) ≡ take ((piece_at (symbol_of mode) s at).end - at) (drop at t)
  unfolding piece_of
  one at h holds =
      let w = piece_at (symbol_of mode) s at in
      let e = piece_ends (symbol_of mode) s at h in
      let b : w.start ≡ at = piece_starts (symbol_of mode) s at in
      let start : min w.start (min w.end (length s.now)) ≡ at = omega (arith, b, e.0, e.1) in
      let long : min w.end (length s.now) - min w.start (min w.end (length s.now)) ≡ w.end - at = omega (arith, b, e.0, e.1) in
      let m : length (take (w.end - at) (drop at s.now)) ≡ w.end - at = length-take-le (w.end - at) (drop at s.now) (omega (arith, e.1, length-drop at s.now)) in
      let is : take (w.end - at) (drop at s.now) ≡ take (length (take (w.end - at) (drop at s.now))) (drop at t) = subst (λ (x : ℕ × ℕ). take x.1 (drop x.0 s.now) ≡ take (length (take x.1 (drop x.0 s.now))) (drop x.0 t)) (λ i. (start i, long i)) holds in
      is ∙ ap (λ (n : ℕ). take n (drop at t)) m

  turn : (at n : ℕ) → length s.now - at ≤ suc n
      → ((at : ℕ) → length s.now - at ≤ n → All (Holds t) (at_from at n) → drop at s.now ≡ take (length s.now - at) (drop at t))
      → (b : Bool) → leb (length s.now) at ≡ b → All (Holds t) (map (piece_of s) (if b then [] else piece_at (symbol_of mode) s at ∷ pieces_from (symbol_of mode) s (piece_at (symbol_of mode) s at).end n))
      → drop at s.now ≡ take (length s.now - at) (drop at t)
  turn at n l on true e all =
      let h = leb-true (length s.now) at e in
      let z : length s.now - at ≡ 0 = omega (arith, h) in
      drop_all at s.now h ∙ ap (λ (k : ℕ). take k (drop at t)) (sym z)
  turn at n l on false e all =
      let h = leb-false (length s.now) at e in
      let w = piece_at (symbol_of mode) s at in
      let c = piece_ends (symbol_of mode) s at h in
      let first = one at h (All-head (Holds t) (piece_of s w) (at_from w.end n) all) in
      let rest = on w.end (omega (arith, l, c.0)) (All-tail (Holds t) (piece_of s w) (at_from w.end n) all) in
      let there : at + (w.end - at) ≡ w.end = omega (arith, c.0) in
      let sum : (w.end - at) + (length s.now - w.end) ≡ length s.now - at = omega (arith, c.0, c.1) in
      sym (take-append-drop (w.end - at) (drop at s.now))
      ∙ ap (λ (x : List ℕ). take (w.end - at) (drop at s.now) ++ x) (drop-drop (w.end - at) at s.now ∙ ap (λ (k : ℕ). drop k s.now) there ∙ rest)
      ∙ ap (λ (x : List ℕ). x ++ take (length s.now - w.end) (drop w.end t)) first
      ∙ ap (λ (k : ℕ). take (w.end - at) (drop at t) ++ take (length s.now - w.end) (drop k t)) (sym there)
      ∙ ap (λ (x : List ℕ). take (w.end - at) (drop at t) ++ take (length s.now - w.end) x) (sym (drop-drop (w.end - at) at t))
      ∙ sym (take-add (w.end - at) (length s.now - w.end) (drop at t))
      ∙ ap (λ (k : ℕ). take k (drop at t)) sum

  from : (n at : ℕ) → length s.now - at ≤ n → All (Holds t) (at_from at n) → drop at s.now ≡ take (length s.now - at) (drop at t)
  unfolding pieces_from
  from zero at l all =
      let z : length s.now - at ≡ 0 = omega (arith, l) in
      drop_all at s.now (omega (arith, l)) ∙ ap (λ (k : ℕ). take k (drop at t)) (sym z)
  from (suc n) at l all = turn at n l (from n) (leb (length s.now) at) refl all

begins : (u : Upload) (t : List ℕ) → All (Holds t) (pieces_of u) → u.bytes.now ≡ take (length u.bytes.now) t
unfolding pieces_of
begins u t all =
    let z : length u.bytes.now - 0 ≡ length u.bytes.now = omega arith in
    from u.mode u.bytes t (length u.bytes.now) 0 (omega arith) all ∙ ap (λ (k : ℕ). take k t) z

one_text : (s t : List ℕ) → s ≡ take (length s) t → t ≡ take (length t) s → s ≡ t
one_text s t a b =
    let m = ap (λ (l : List ℕ). length l) a ∙ length-take (length s) t in
    let n = ap (λ (l : List ℕ). length l) b ∙ length-take (length t) s in
    a ∙ take_all (length s) t (omega (arith, m, n))

pub same_bytes : (u v : Upload) → are_alike u v ≡ true → u.bytes.now ≡ v.bytes.now
unfolding pieces_of
same_bytes u v h =
    let ps : List Piece = pieces_of u in
    let qs : List Piece = pieces_of v in
    let rows : List Row = rows_of ps qs in
    let theirs_hold : All (Holds v.bytes.now) qs = all_hold v.bytes _ in
    let ours_hold : All (Holds u.bytes.now) ps = all_hold u.bytes _ in
    let perm = theirs ps qs in
    let ours_there : All (Holds v.bytes.now) ps = subst (All (Holds v.bytes.now)) (ours ps qs) (to_ours v.bytes.now rows h (All-permutation (Holds v.bytes.now) qs (filter_map (λ r. r.b) rows) perm theirs_hold)) in
    let theirs_there : All (Holds u.bytes.now) qs = All-permutation (Holds u.bytes.now) (filter_map (λ r. r.b) rows) qs (IsPermutation-sym _ _ perm) (to_theirs u.bytes.now rows h (subst (All (Holds u.bytes.now)) (sym (ours ps qs)) ours_hold)) in
    one_text u.bytes.now v.bytes.now (begins u v.bytes.now ours_there) (begins v u.bytes.now theirs_there)
