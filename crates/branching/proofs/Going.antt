-- What is written and counted of some starts, and what is still to be.
use Rattle.std.proofs.Common.{ℕ, ◌+◌, ◌-◌, ◌<◌, ◌≤◌, ◌≡◌, refl, sym, ap, ◌∙◌, Bool, true, false, List, [], ◌∷◌, ◌++◌, length, drop, get_or, Bor, Result, if◌then◌else◌, append_assoc, append-nil, add-one, drop_of_length-le}
use Rattle.std.specs.Prelude.{Option, Some, None, MatchOption, Ok, Err, leb, is_ok, is_err, not}
use Rattle.std.proofs.Math.Seq.{drop-cons}
use borrow.Author.Tests.{leb-true, leb-false}
use Rattle.refusal.specs.declared.Mode.{Mode}
use Rattle.refusal.specs.declared.Refusal.{Refusal}
use Rattle.walk.specs.declared.Piece.{Piece}
use Rattle.walk.specs.Pieces.{piece_at, pieces_from}
use Rattle.walk.proofs.Left.{none_left, one_left}
use Rattle.symbol.specs.declared.AdsSymbolInfo.{AdsSymbolInfo}
use Rattle.symbol.specs.Symbol.{symbol_of}
use Rattle.report.specs.declared.Upload.{Upload}
use Rattle.branching.specs.Ordered.{refused_of}
use Rattle.branching.specs.Lines.{entry_at, entries_at}

-- what a walker gives first that begins at a place
pub first_left : (u : Upload) (at : ℕ) (bytes : Bor (List ℕ)) (mode : Mode) → bytes ≡ u.bytes → mode ≡ u.mode → (r : Option (Piece AdsSymbolInfo)) (rest : List (Piece AdsSymbolInfo))
    → MatchOption r ((pieces_from (symbol_of mode) bytes at (length bytes.now - at) ≡ []) × (rest ≡ [])) (λ p. pieces_from (symbol_of mode) bytes at (length bytes.now - at) ≡ p ∷ rest)
    → r ≡ entry_at u at
unfolding entry_at
first_left u at bytes mode b m r rest h = by (leb (length u.bytes.now) at) refl r (rw (b, m) at h)
  where
    by : (end : Bool) → leb (length u.bytes.now) at ≡ end → (r : Option (Piece AdsSymbolInfo))
        → MatchOption r ((pieces_from (symbol_of u.mode) u.bytes at (length u.bytes.now - at) ≡ []) × (rest ≡ [])) (λ p. pieces_from (symbol_of u.mode) u.bytes at (length u.bytes.now - at) ≡ p ∷ rest)
        → r ≡ (if end then None else Some (piece_at (symbol_of u.mode) u.bytes at))
    by true e None h = refl
    by true e (Some p) h = let n = none_left (symbol_of u.mode) u.bytes at (length u.bytes.now - at) (leb-true (length u.bytes.now) at e) in cc
    by false e None h = let n = one_left (symbol_of u.mode) u.bytes at (leb-false (length u.bytes.now) at e) in let m = h.0 in cc
    by false e (Some p) h = let n = one_left (symbol_of u.mode) u.bytes at (leb-false (length u.bytes.now) at e) in cc

-- what is left behind a start of which there is nothing, and behind one of which there is something
module _ (u : Upload) (xs : List ℕ) (i : ℕ) (inside : i < length xs) where
  abbrev left : List (Piece AdsSymbolInfo)
  left = entries_at u (drop i xs)

  abbrev rest : List (Piece AdsSymbolInfo)
  rest = entries_at u (drop (i + 1) xs)

  abbrev here : Option (Piece AdsSymbolInfo)
  here = entry_at u (get_or xs i 0)

  turn : drop i xs ≡ get_or xs i 0 ∷ drop (i + 1) xs
  turn = rw add-one (drop-cons xs i 0 inside)

  pub something_here : (p : Piece AdsSymbolInfo) → Some p ≡ here → left ≡ p ∷ rest
  something_here p e = ap (entries_at u) turn ∙ simp (sym e)

pub nothing_left : (u : Upload) (xs : List ℕ) (i : ℕ) → length xs ≤ i → entries_at u (drop i xs) ≡ []
nothing_left u xs i h = ap (entries_at u) (drop_of_length-le xs {i = i} h)

-- refused starts that are added, and those still to be
err_of : (a : Result AdsSymbolInfo Refusal) (b : Bool) → is_ok a ≡ b → is_err a ≡ not b
err_of (Ok r) b e = ap not e
err_of (Err why) b e = ap not e

pub not_added : {left rest : List (Piece AdsSymbolInfo)} {p : Piece AdsSymbolInfo} (now : List ℕ) {all : List ℕ} → left ≡ p ∷ rest → is_ok p.answer ≡ true → now ++ refused_of left ≡ all → now ++ refused_of rest ≡ all
unfolding refused_of
not_added {p = p} now step e adds = let no = err_of p.answer true e in ap (λ (l : List ℕ). now ++ l) (sym (simp (step, no))) ∙ adds

pub added : {left rest : List (Piece AdsSymbolInfo)} {p : Piece AdsSymbolInfo} (now : List ℕ) {next all : List ℕ} → left ≡ p ∷ rest → is_ok p.answer ≡ false → next ≡ now ++ p.start ∷ [] → now ++ refused_of left ≡ all → next ++ refused_of rest ≡ all
unfolding refused_of
added {rest = rest} {p = p} now {next} step e n adds =
    let yes = err_of p.answer false e in
    ap (λ (l : List ℕ). l ++ refused_of rest) n ∙ append_assoc now (p.start ∷ []) (refused_of rest) ∙ ap (λ (l : List ℕ). now ++ l) (sym (simp (step, yes))) ∙ adds

pub all_added : {left : List (Piece AdsSymbolInfo)} (now : List ℕ) {all : List ℕ} → left ≡ [] → now ++ refused_of left ≡ all → now ≡ all
unfolding refused_of
all_added now e h = sym (append-nil now) ∙ ap (λ (l : List (Piece AdsSymbolInfo)). now ++ refused_of l) (sym e) ∙ h
