-- What is still to be written, after what was.
use Rattle.std.proofs.Common.{◌≡◌, ℕ, List, [], ◌∷◌, ◌++◌, refl, sym, ap, ◌∙◌, append_assoc, append-nil, subst}
use Rattle.std.specs.List.{flat_map}
use Rattle.std.specs.declared.option.Option.{Option}
use Rattle.std.specs.Io.KnownBytes.{Appends}
use Rattle.std.proofs.KnownBytes.{Appends-nil, Appends-trans}

-- of all that is to be written, something is written and the rest is left
pub record Going (before now : Option (List ℕ)) (rest all : List ℕ) : Type 0 where
  pub said : List ℕ
  pub written : Appends before now said
  pub adds : said ++ rest ≡ all

pub begins : (a : Option (List ℕ)) (all : List ℕ) → Going a a all all
begins a all = record { said = []; written = Appends-nil a; adds = refl }

-- one thing more, behind some text
pub more : {X : Type 0} (f : X → List ℕ) {left rest : List X} {x : X} {all : List ℕ} (said : List ℕ)
    → left ≡ x ∷ rest → said ++ flat_map f left ≡ all → (said ++ f x) ++ flat_map f rest ≡ all
more {X = X} f {left} {rest} {x} said e h = append_assoc said (f x) (flat_map f rest) ∙ ap (λ (l : List X). said ++ flat_map f l) (sym e) ∙ h

pub no_more : {X : Type 0} (f : X → List ℕ) {left : List X} {all : List ℕ} (said : List ℕ) → left ≡ [] → said ++ flat_map f left ≡ all → said ≡ all
no_more {X = X} f {left} said e h = sym (append-nil said) ∙ ap (λ (l : List X). said ++ flat_map f l) (sym e) ∙ h

pub goes : {X : Type 0} (f : X → List ℕ) {a b c : Option (List ℕ)} {left rest : List X} {x : X} {all : List ℕ}
    → left ≡ x ∷ rest → Going a b (flat_map f left) all → Appends b c (f x) → Going a c (flat_map f rest) all
goes f {a} {b} {c} {x = x} e g w = record {
  said = g.said ++ f x;
  written = Appends-trans a b c g.said (f x) g.written w;
  adds = more f g.said e g.adds;
}

pub ends : {X : Type 0} (f : X → List ℕ) {a b : Option (List ℕ)} {left : List X} {all : List ℕ} → left ≡ [] → Going a b (flat_map f left) all → Appends a b all
ends f {a} {b} e g = subst (Appends a b) (no_more f g.said e g.adds) g.written

-- two texts, one behind the other, and three
pub two : (a b c : Option (List ℕ)) (x y : List ℕ) → Appends a b x → Appends b c y → Appends a c (x ++ y)
two a b c x y p q = Appends-trans a b c x y p q

pub three : (a b c d : Option (List ℕ)) (x y z t : List ℕ) → Appends a b x → Appends b c y → Appends c d z → x ++ (y ++ z) ≡ t → Appends a d t
three a b c d x y z t p q r e = subst (Appends a d) e (Appends-trans a b d x (y ++ z) p (Appends-trans b c d y z q r))

-- the same text otherwise
pub of_text : (a b : Option (List ℕ)) (x y : List ℕ) → Appends a b x → x ≡ y → Appends a b y
of_text a b x y p e = subst (Appends a b) e p
