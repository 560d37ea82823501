-- Where two values tell the same: proved.
use Rattle.std.proofs.Common.{ℕ, ◌≡◌, Bool, true, false, List, refl, sym, ap, ap₂, subst, ◌∙◌, eqb-true, eq-eqb}
use Rattle.std.specs.Prelude.{◌&&◌, ◌==◌}
use Rattle.std.specs.Cmp.Lexicographic.{same_text}
use Rattle.std.proofs.lemmas.Cmp.{nat_list_eq_equiv}
use Rattle.flags.specs.declared.symbol_flags.AdsSymbol2Flags.{AdsSymbol2Flags}
use Rattle.flags.specs.declared.symbol_flags.AdsSymbolFlags.{AdsSymbolFlags}
use Rattle.refusal.specs.Refusal.{figures_of}
use Rattle.refusal.specs.declared.Figures.{Figures}
use Rattle.refusal.specs.declared.Refusal.{Refusal}
use Rattle.refusal.proofs.FiguresMeant.{figures_meant}
use Rattle.values.specs.declared.Value.{Value}
use Rattle.values.specs.declared.Value.TheVariants as told
use Rattle.values.specs.Alike.{same_bytes, are_refused_alike, tells_the_same}
use Rattle.values.specs.Meant.{TellTheSame, SameMeant}

both : (a b : Bool) → (a && b) ≡ true → (a ≡ true) × (b ≡ true)
both true b h = (refl, h)
both false b h = cc

and : (a b : Bool) → a ≡ true → b ≡ true → (a && b) ≡ true
and a b p q = ap₂ (λ (x y : Bool). x && y) p q

pub bytes_alike : (s t : List ℕ) → same_bytes s t ≡ true → s ≡ t
bytes_alike s t h = same_text s t (sym h)

pub alike_bytes : (s t : List ℕ) → s ≡ t → same_bytes s t ≡ true
alike_bytes s t h = ap (same_bytes s) (sym h) ∙ nat_list_eq_equiv.refl s

pub refused_alike : (why other : Refusal) → are_refused_alike why other ≡ true → why ≡ other
refused_alike why other h =
    let f : Figures = figures_of why in
    let g : Figures = figures_of other in
    let a = both (f.number == g.number && f.expected == g.expected) (f.got == g.got) h in
    let b = both (f.number == g.number) (f.expected == g.expected) a.0 in
    let n : f.number ≡ g.number = eqb-true f.number g.number b.0 in
    let e : f.expected ≡ g.expected = eqb-true f.expected g.expected b.1 in
    let k : f.got ≡ g.got = eqb-true f.got g.got a.1 in
    figures_meant.apart why other (ap₂ (λ (x : ℕ) (y : ℕ × ℕ). record { number = x; expected = y.0; got = y.1 }) n (ap₂ (λ (x y : ℕ). (x, y)) e k))

pub alike_refused : (why : Refusal) → are_refused_alike why why ≡ true
alike_refused why =
    let f : Figures = figures_of why in
    and (f.number == f.number && f.expected == f.expected) (f.got == f.got)
    (and (f.number == f.number) (f.expected == f.expected) (eq-eqb f.number f.number refl) (eq-eqb f.expected f.expected refl)) (eq-eqb f.got f.got refl)

no : false ≡ true → ⊥
no h = cc

never : {A : Type 0} → false ≡ true → A
never h = absurd (no h)

-- a kind with a number in it
numbered : (f : ℕ → Value) (m n : ℕ) → ((k : ℕ) → TellTheSame (f k) (f k)) → (m == n) ≡ true → TellTheSame (f m) (f n)
numbered f m n same h = subst (λ (k : ℕ). TellTheSame (f m) (f k)) (eqb-true m n h) (same m)

abbrev flag_word : ℕ → AdsSymbolFlags
flag_word n = record { 0 = n }

abbrev extended_word : ℕ → AdsSymbol2Flags
extended_word n = record { 0 = n }

told_alike : (v w : Value) → tells_the_same v w ≡ true → TellTheSame v w
unfolding tells_the_same
told_alike told.Absent told.Absent h = TellTheSame.absent
told_alike (told.Bytes m) (told.Bytes n) h = numbered (λ k. told.Bytes k) m n TellTheSame.bytes h
told_alike (told.Number m) (told.Number n) h = numbered (λ k. told.Number k) m n TellTheSame.number h
told_alike (told.Hexadecimal m) (told.Hexadecimal n) h = numbered (λ k. told.Hexadecimal k) m n TellTheSame.hexadecimal h
told_alike (told.High m) (told.High n) h = numbered (λ k. told.High k) m n TellTheSame.high h
told_alike (told.Flags f) (told.Flags g) h = numbered (λ k. told.Flags (flag_word k)) f.0 g.0 (λ k. TellTheSame.flags (flag_word k)) h
told_alike (told.ExtendedFlags f) (told.ExtendedFlags g) h = numbered (λ k. told.ExtendedFlags (extended_word k)) f.0 g.0 (λ k. TellTheSame.extended_flags (extended_word k)) h
told_alike (told.Text s) (told.Text t) h = TellTheSame.text s t (bytes_alike s.now t.now h)
told_alike (told.Guid s) (told.Guid t) h = subst (λ (id : List ℕ). TellTheSame (told.Guid s) (told.Guid id)) (bytes_alike s t h) (TellTheSame.guid s)
told_alike (told.Attribute a) (told.Attribute b) h =
    let p = both (same_bytes a.name.now b.name.now) (same_bytes a.value.now b.value.now) h in
    TellTheSame.attribute a b (bytes_alike a.name.now b.name.now p.0) (bytes_alike a.value.now b.value.now p.1)
told_alike (told.FormerName s) (told.FormerName t) h = TellTheSame.former_name s t (bytes_alike s.now t.now h)
told_alike (told.Refused why) (told.Refused other) h =
    subst (λ (x : Refusal). TellTheSame (told.Refused why) (told.Refused x)) (refused_alike why other h) (TellTheSame.refused why)
told_alike (told.Byte at b) (told.Byte to c) h =
    let p = both (at == to) (b == c) h in
    subst (λ (k : ℕ). TellTheSame (told.Byte at b) (told.Byte k c)) (eqb-true at to p.0)
    (subst (λ (k : ℕ). TellTheSame (told.Byte at b) (told.Byte at k)) (eqb-true b c p.1) (TellTheSame.byte at b))
told_alike v w h = never h

alike : (v w : Value) → TellTheSame v w → tells_the_same v w ≡ true
unfolding tells_the_same
alike _ _ TellTheSame.absent = refl
alike _ _ (TellTheSame.bytes n) = eq-eqb n n refl
alike _ _ (TellTheSame.number n) = eq-eqb n n refl
alike _ _ (TellTheSame.hexadecimal n) = eq-eqb n n refl
alike _ _ (TellTheSame.high n) = eq-eqb n n refl
alike _ _ (TellTheSame.flags f) = eq-eqb f.0 f.0 refl
alike _ _ (TellTheSame.extended_flags f) = eq-eqb f.0 f.0 refl
alike _ _ (TellTheSame.text s t h) = alike_bytes s.now t.now h
alike _ _ (TellTheSame.guid id) = alike_bytes id id refl
alike _ _ (TellTheSame.attribute a b n v) = and (same_bytes a.name.now b.name.now) (same_bytes a.value.now b.value.now) (alike_bytes a.name.now b.name.now n) (alike_bytes a.value.now b.value.now v)
alike _ _ (TellTheSame.former_name s t h) = alike_bytes s.now t.now h
alike _ _ (TellTheSame.refused why) = alike_refused why
alike _ _ (TellTheSame.byte at b) = and (at == at) (b == b) (eq-eqb at at refl) (eq-eqb b b refl)

pub same_meant : SameMeant
same_meant = record { told_alike = told_alike; alike = alike }
