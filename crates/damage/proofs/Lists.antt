-- Lists by place: those of two functions that agree at all places but some.
use Rattle.std.proofs.Common.{ℕ, ◌≡◌, refl, sym, ap, ◌∙◌, Bool, true, false, List, [], ◌∷◌, map, filter, filter_map, Option, Some, None}
use Rattle.std.specs.List.{cons_option}
use Rattle.entry.specs.Alike.{among}
use Rattle.entry.proofs.Alike.{among_first, among_rest}
use Rattle.damage.specs.Others.{others}

module _ (places : List ℕ) where
  -- lists of what stands at each of some places
  module _ {X S : Type 0} (begins : X → ℕ) (told : X → S) (f g : ℕ → X) (begins_f : (x : ℕ) → begins (f x) ≡ x) (begins_g : (x : ℕ) → begins (g x) ≡ x) where
    turn : (x : ℕ) (l : List ℕ) (b : Bool) → among places x ≡ b → (among places x ≡ false → told (f x) ≡ told (g x)) → map told (others begins places (map f l)) ≡ map told (others begins places (map g l))
        → map told (others begins places (f x ∷ map f l)) ≡ map told (others begins places (g x ∷ map g l))
    turn x l true e h on = rw (begins_f, begins_g, e) on
    turn x l false e h on = rw (begins_f, begins_g, e) (rw (h e, on) refl)

    pub others_map : (l : List ℕ) → ((x : ℕ) → among l x ≡ true → among places x ≡ false → told (f x) ≡ told (g x)) → map told (others begins places (map f l)) ≡ map told (others begins places (map g l))
    others_map [] h = refl
    others_map (x ∷ l) h = turn x l (among places x) refl (h x (among_first x l)) (others_map l (λ y k. h y (among_rest x l y k)))

  -- lists of what some of the places bring
  module _ {X : Type 0} (begins : X → ℕ) (f g : ℕ → Option X) (begins_f : (x : ℕ) (y : X) → f x ≡ Some y → begins y ≡ x) (begins_g : (x : ℕ) (y : X) → g x ≡ Some y → begins y ≡ x) where
    -- what one of those places brings is left out
    out : (h : ℕ → Option X) (x : ℕ) (l : List ℕ) (o : Option X) → h x ≡ o → (begins_h : (y : X) → h x ≡ Some y → begins y ≡ x) → among places x ≡ true → others begins places (filter_map h (x ∷ l)) ≡ others begins places (filter_map h l)
    out h x l None e b k = rw e refl
    out h x l (Some y) e b k = rw e (rw (b y e, k) refl)

    same : (x : ℕ) (l : List ℕ) (o : Option X) → f x ≡ o → g x ≡ o → among places x ≡ false → others begins places (filter_map f l) ≡ others begins places (filter_map g l)
        → others begins places (filter_map f (x ∷ l)) ≡ others begins places (filter_map g (x ∷ l))
    same x l None e d k on = rw (e, d) on
    same x l (Some y) e d k on = rw (e, d) (rw (begins_f x y e, k) (ap (λ ys. y ∷ ys) on))

    by : (x : ℕ) (l : List ℕ) (b : Bool) → among places x ≡ b → (among places x ≡ false → f x ≡ g x) → others begins places (filter_map f l) ≡ others begins places (filter_map g l)
        → others begins places (filter_map f (x ∷ l)) ≡ others begins places (filter_map g (x ∷ l))
    by x l true e h on = out f x l (f x) refl (begins_f x) e ∙ on ∙ sym (out g x l (g x) refl (begins_g x) e)
    by x l false e h on = same x l (g x) (h e) refl e on

    pub others_some : (l : List ℕ) → ((x : ℕ) → among l x ≡ true → among places x ≡ false → f x ≡ g x) → others begins places (filter_map f l) ≡ others begins places (filter_map g l)
    others_some [] h = refl
    others_some (x ∷ l) h = by x l (among places x) refl (h x (among_first x l)) (others_some l (λ y k. h y (among_rest x l y k)))

  -- the places that pass two tests
  module _ (f g : ℕ → Bool) where
    outside : (h : ℕ → Bool) (x : ℕ) (l : List ℕ) (b : Bool) → h x ≡ b → among places x ≡ true → others (λ y. y) places (filter h (x ∷ l)) ≡ others (λ y. y) places (filter h l)
    outside h x l true e k = rw e (rw k refl)
    outside h x l false e k = rw e refl

    passes : (x : ℕ) (l : List ℕ) (b : Bool) → f x ≡ b → g x ≡ b → among places x ≡ false → others (λ y. y) places (filter f l) ≡ others (λ y. y) places (filter g l)
        → others (λ y. y) places (filter f (x ∷ l)) ≡ others (λ y. y) places (filter g (x ∷ l))
    passes x l true e d k on = rw (e, d) (rw k (ap (λ (ys : List ℕ). x ∷ ys) on))
    passes x l false e d k on = rw (e, d) on

    either : (x : ℕ) (l : List ℕ) (b : Bool) → among places x ≡ b → (among places x ≡ false → f x ≡ g x) → others (λ y. y) places (filter f l) ≡ others (λ y. y) places (filter g l)
        → others (λ y. y) places (filter f (x ∷ l)) ≡ others (λ y. y) places (filter g (x ∷ l))
    either x l true e h on = outside f x l (f x) refl e ∙ on ∙ sym (outside g x l (g x) refl e)
    either x l false e h on = passes x l (g x) (h e) refl e on

    pub others_filter : (l : List ℕ) → ((x : ℕ) → among l x ≡ true → among places x ≡ false → f x ≡ g x) → others (λ y. y) places (filter f l) ≡ others (λ y. y) places (filter g l)
    others_filter [] h = refl
    others_filter (x ∷ l) h = either x l (among places x) refl (h x (among_first x l)) (others_filter l (λ y k. h y (among_rest x l y k)))

-- two functions that agree at each of some places
pub map_alike : {X : Type 0} (f g : ℕ → X) (l : List ℕ) → ((x : ℕ) → among l x ≡ true → f x ≡ g x) → map f l ≡ map g l
map_alike f g [] h = refl
map_alike f g (x ∷ l) h = rw (h x (among_first x l), map_alike f g l (λ y k. h y (among_rest x l y k))) refl

pub map-map : {X Y : Type 0} (f : X → Y) (g : ℕ → X) (l : List ℕ) → map f (map g l) ≡ map (λ x. f (g x)) l
map-map f g [] = refl
map-map f g (x ∷ l) = ap (λ ys. f (g x) ∷ ys) (map-map f g l)

pub filter_map-map : {X Y : Type 0} (f : X → Option Y) (g : ℕ → X) (l : List ℕ) → filter_map f (map g l) ≡ filter_map (λ x. f (g x)) l
filter_map-map f g [] = refl
filter_map-map f g (x ∷ l) = ap (cons_option (f (g x))) (filter_map-map f g l)
