-- Where the entries on the way stand: proved.
use Rattle.std.proofs.Common.{ℕ, zero, suc, ◌+◌, ◌-◌, ◌*◌, min, ◌≤◌, ◌≡◌, refl, sym, ap, subst, ◌∙◌, List, [], ◌∷◌, ◌++◌, length, length-append, length-take, length-drop, take, drop, take-append-drop, arith, Bor}
use Rattle.std.proofs.lemmas.List.{append_assoc}
use mathlib.Core.List.{append-nil}
use Rattle.le.specs.Le.{le2, le4}
use Rattle.bind.specs.declared.reading.Place.TheVariants.{DataType}
use Rattle.bind.specs.Reading.{behind, own_of, strings_end, type_entry}
use Rattle.bind.specs.Adding.{items_of}
use Rattle.bindings_meant.specs.Places.{Stands, PlacesMeant}

-- the end of some bytes, and their front
stands_behind : (types s : List ℕ) (at end k : ℕ) → Stands types s at end → k ≤ length s → Stands types (drop k s) (at + k) end
stands_behind types s at end k x h =
    let front : length (take k s) ≡ min k (length s) = length-take k s in
    let back : length (drop k s) ≡ length s - k = length-drop k s in
    let all : length (x.ahead ++ take k s) ≡ length x.ahead + length (take k s) = length-append x.ahead (take k s) in
    record {
      ahead = x.ahead ++ take k s;
      rest = x.rest;
      is =
          x.is ∙ ap (λ (l : List ℕ). x.ahead ++ (l ++ x.rest)) (sym (take-append-drop k s)) ∙ ap (λ (l : List ℕ). x.ahead ++ l) (append_assoc (take k s) (drop k s) x.rest)
          ∙ sym (append_assoc x.ahead (take k s) (drop k s ++ x.rest));
      begins = omega (arith, x.begins, front, all, h);
      ends = omega (arith, x.ends, front, back, all, h);
    }

stands_front : (types s : List ℕ) (at end n : ℕ) → Stands types s at end → Stands types (take n s) at (at + min n (length s))
stands_front types s at end n x =
    let front : length (take n s) ≡ min n (length s) = length-take n s in
    record {
      ahead = x.ahead;
      rest = drop n s ++ x.rest;
      is = x.is ∙ ap (λ (l : List ℕ). x.ahead ++ (l ++ x.rest)) (sym (take-append-drop n s)) ∙ ap (λ (l : List ℕ). x.ahead ++ l) (append_assoc (take n s) (drop n s) x.rest);
      begins = x.begins;
      ends = omega (arith, x.begins, front);
    }

stands_past : (types : List ℕ) (s : Bor (List ℕ)) (at end k : ℕ) → Stands types s.now at end → Stands types (behind s k).now (at + min k (length s.now)) end
stands_past types s at end k x = stands_behind types s.now at end (min k (length s.now)) x (omega arith)

items_stand : (types : List ℕ) (n : ℕ) (s : Bor (List ℕ)) (at end : ℕ) (before : List (Bor (List ℕ))) (item : Bor (List ℕ)) (later : List (Bor (List ℕ)))
    → Stands types s.now at end → items_of n s ≡ before ++ (item ∷ later) → (k : ℕ) × Stands types item.now k end
unfolding items_of
items_stand types zero s at end before item later x e =
    let long : 0 ≡ length (before ++ (item ∷ later)) = ap (λ (l : List (Bor (List ℕ))). length l) e in
    absurd (omega (arith, long, length-append before (item ∷ later)))
items_stand types (suc n) s at end [] item later x e =
    let is : s ≡ item = cc in
    (at, subst (λ (b : Bor (List ℕ)). Stands types b.now at end) is x)
items_stand types (suc n) s at end (b ∷ before) item later x e =
    let on : items_of n (behind s (le4 s.now 0)) ≡ before ++ (item ∷ later) = cc in
    items_stand types n (behind s (le4 s.now 0)) (at + min (le4 s.now 0) (length s.now)) end before item later (stands_past types s at end (le4 s.now 0) x) on

found : (types : Bor (List ℕ)) (start : ℕ) → start ≤ length types.now → Stands types.now (behind types start).now start (length types.now)
found types start h =
    let whole : Stands types.now types.now 0 (length types.now) = record { ahead = []; rest = []; is = sym (append-nil types.now); begins = refl; ends = omega arith } in
    let there : 0 + min start (length types.now) ≡ start = omega (arith, h) in
    subst (λ (k : ℕ). Stands types.now (behind types start).now k (length types.now)) there (stands_past types.now types 0 (length types.now) start whole)

told : (types : List ℕ) (s : Bor (List ℕ)) (at end : ℕ) → Stands types s.now at end → (type_entry s end).place ≡ DataType at
unfolding type_entry
told types s at end x = let there : end - length s.now ≡ at = omega (arith, x.begins, x.ends) in ap (λ (k : ℕ). DataType k) there

members : (types : List ℕ) (s : Bor (List ℕ)) (at end : ℕ) (before : List (Bor (List ℕ))) (item : Bor (List ℕ)) (later : List (Bor (List ℕ)))
    → Stands types s.now at end → items_of (type_entry s end).items.count (type_entry s end).items.bytes ≡ before ++ (item ∷ later) → (k : ℕ) × Stands types item.now k (type_entry s end).end
unfolding type_entry
members types s at end before item later x e =
    let claim : ℕ = le4 s.now 0 in
    let own : Bor (List ℕ) = own_of s in
    let first : ℕ = strings_end own.now + 8 * le2 own.now 38 in
    let back : length (behind s claim).now ≡ length s.now - min claim (length s.now) = length-drop (min claim (length s.now)) s.now in
    let last : at + min claim (length s.now) ≡ end - length (behind s claim).now = omega (arith, x.begins, x.ends, back) in
    let inside : Stands types own.now at (end - length (behind s claim).now) = subst (Stands types own.now at) last (stands_front types s.now at end claim x) in
    items_stand types (le2 own.now 40) (behind own first) (at + min first (length own.now)) (end - length (behind s claim).now) before item later
    (stands_past types own at (end - length (behind s claim).now) first inside) e

pub places_meant : PlacesMeant
places_meant = record { data_type = found; told = told; members = members }
