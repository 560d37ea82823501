-- Which strings are there, which bytes end them, and what a GUID is: proved.
use Rattle.std.proofs.Common.{ℕ, suc, ◌+◌, ◌<◌, ◌≤◌, ◌≡◌, refl, ap, ◌∙◌, true, List, [], ◌∷◌, ◌++◌, length, take, get_or, arith, Bor}
use Rattle.std.specs.Prelude.{Some, None}
use Rattle.std.proofs.lemmas.List.{get_or-append-add}
use borrow.Author.Tests.{le-ltb, lt-ltb, le-leb, lt-leb}
use Rattle.part.specs.Slice.{after}
use Rattle.layout.specs.Layout.{string_ends, guid_of}
use Rattle.layout.specs.Meant.{strings_in, LayoutMeant}

-- the byte behind some bytes
behind : (p : List ℕ) (b : ℕ) (q : List ℕ) → get_or (p ++ (b ∷ q)) (length p) 0 ≡ b
behind p b q = ap (λ (i : ℕ). get_or (p ++ (b ∷ q)) i 0) (omega arith) ∙ get_or-append-add p (b ∷ q) 0 0

-- and one further on, behind a byte and more
further : (p : List ℕ) (b : ℕ) (q : List ℕ) (i k : ℕ) → i ≡ length p + 1 + k → get_or (p ++ (b ∷ q)) i 0 ≡ get_or q k 0
further p b q i k h = ap (λ (i : ℕ). get_or (p ++ (b ∷ q)) i 0) (omega (arith, h)) ∙ get_or-append-add p (b ∷ q) (suc k) 0

ends : (before name type comment more : List ℕ) (x y z : ℕ)
    → string_ends (strings_in before name x type y comment z more) (length before) (length name) (length type) (length comment)
    ≡ (length before + length name, x)
    ∷ (length before + length name + 1 + length type, y)
    ∷ (length before + length name + 1 + length type + 1 + length comment, z)
    ∷ []
ends before name type comment more x y z =
    let third : List ℕ = comment ++ (z ∷ more) in
    let second : List ℕ = type ++ (y ∷ third) in
    let first : List ℕ = name ++ (x ∷ second) in
    let at : (i k : ℕ) → i ≡ length before + k → get_or (before ++ first) i 0 ≡ get_or first k 0 =
    λ i k h. ap (λ (i : ℕ). get_or (before ++ first) i 0) h ∙ get_or-append-add before first k 0 in
    let a : get_or (before ++ first) (length before + length name) 0 ≡ x = at _ (length name) refl ∙ behind name x second in
    let b : get_or (before ++ first) (length before + length name + 1 + length type) 0 ≡ y =
    at _ (length name + 1 + length type) (omega arith) ∙ further name x second _ (length type) refl ∙ behind type y third in
    let c : get_or (before ++ first) (length before + length name + 1 + length type + 1 + length comment) 0 ≡ z =
    at _ (length name + 1 + (length type + 1 + length comment)) (omega arith)
    ∙ further name x second _ (length type + 1 + length comment) refl
    ∙ further type y third _ (length comment) refl
    ∙ behind comment z more in
    simp (a, b, c)

guid : (s : Bor (List ℕ)) → 16 ≤ length s.now → guid_of s true ≡ (Some (take 16 s.now), after s 16)
unfolding guid_of
guid s h = simp (le-leb 16 (length s.now) h)

no_room : (s : Bor (List ℕ)) → length s.now < 16 → guid_of s true ≡ (None, s)
unfolding guid_of
no_room s h = simp (lt-leb 16 (length s.now) h)

pub layout_meant : LayoutMeant
unfolding guid_of
layout_meant = record {
  there = λ needed available h. simp (le-ltb available needed h);
  not_there = λ needed available h. simp (lt-ltb available needed h);
  ends = ends;
  guid = guid;
  no_room = no_room;
  not_flagged = λ s. refl;
}
