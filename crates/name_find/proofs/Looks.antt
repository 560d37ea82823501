-- An entry has a name exactly where the first look, its name and its record say so: proved.
use Rattle.std.proofs.Common.{ℕ, ◌+◌, ◌-◌, ◌*◌, ◌≤◌, ◌<◌, ◌≡◌, refl, sym, ap, ◌∙◌, Bool, true, false, List, length, take, drop, get_or, ne_eqb, arith, Bor, Result, if◌then◌else◌}
use Rattle.std.specs.Prelude.{ltb, eqb, is_ok, Option, Some, None, Ok, Err}
use Rattle.std.specs.Option.{option_map}
use lib.ListN.{length-take, length-drop}
use lib.Seq.{drop-drop, get_or-drop}
use borrow.Author.Tests.{le-ltb, lt-ltb, ltb-true, ltb-false, eqb-true, eqb-false, eq-eqb}
use Rattle.le.specs.Le.{le2, part}
use Rattle.le.proofs.Laws.{length_part, le2_part, part_part, not_both}
use Rattle.part.specs.Slice as slice
use Rattle.part.specs.Outcome.{and_then}
use Rattle.refusal.specs.declared.Refusal.{Refusal}
use Rattle.names.specs.Names.{same_name}
use Rattle.names.specs.Near.{low, look_of, ends_near}
use Rattle.names.proofs.Laws.{other_length, ends_differ, ends_none, ends_last, looks_equal, unless}
use Rattle.entry.specs.Entry.{claim_at}
use Rattle.walk.specs.Step.{step_at}
use Rattle.name_order.specs.declared.places.NamePlaces.{NamePlaces}
use Rattle.named.specs.Named.{TellsName}
use Rattle.name_find.specs.Looks.{looks_named}
use Rattle.name_find.specs.Find.{has_name, is_named}

-- a test, and nothing more
alone : (p : Bool) → (if p then true else false) ≡ p
alone true = refl
alone false = refl

module _ (w : NamePlaces) (e name : List ℕ) where
  pub looks_short : length e < w.name + length name → looks_named w e name ≡ false
  unfolding looks_named
  looks_short h = simp (lt-ltb (length e) (w.name + length name) h)

  pub looks_none : w.name + length name ≤ length e → length name ≡ 0 → looks_named w e name ≡ eqb (le2 e w.length) 0
  unfolding looks_named
  looks_none h z = simp (le-ltb (length e) (w.name + length name) h, ends_none e name w.name z) (alone (eqb (le2 e w.length) (length name)) ∙ ap (eqb (le2 e w.length)) z)

  -- by what was looked at
  pub looks_by : (told last own asked : ℕ) → w.name + length name ≤ length e → told < 65536 → told ≡ le2 e w.length → last + 1 ≡ length name → own ≡ look_of told (get_or e (w.name + last) 0) → asked ≡ look_of (length name) (get_or name last 0) → eqb own asked ≡ looks_named w e name
  unfolding looks_named
  looks_by told last own asked h small t l p q =
      simp (p, q, le-ltb (length e) (w.name + length name) h, ends_last e name w.name last l) (looks_equal told (length name) (get_or e (w.name + last) 0) (get_or name last 0) small ∙ simp t)

  pub looked_room : looks_named w e name ≡ true → w.name + length name ≤ length e
  unfolding looks_named
  looked_room h = by (ltb (length e) (w.name + length name)) refl h
    where
      by : (few : Bool) → ltb (length e) (w.name + length name) ≡ few → (if few then false else if eqb (le2 e w.length) (length name) then ends_near (part e w.name (length name)) name else false) ≡ true → w.name + length name ≤ length e
      by true f h = absurd (not_both h refl)
      by false f h = ltb-false (length e) (w.name + length name) f

  module _ (there : w.name + le2 e w.length ≤ length e) where
    other_told : (ends : Bool) → eqb (le2 e w.length) (length name) ≡ false → same_name (part e w.name (le2 e w.length)) name ≡ false
    other_told ends g = other_length (part e w.name (le2 e w.length)) name (λ l. eqb-false (le2 e w.length) (length name) g (sym (length_part e w.name (le2 e w.length) there) ∙ l))

    carried_by : (few long ends : Bool) → ltb (length e) (w.name + length name) ≡ few → eqb (le2 e w.length) (length name) ≡ long → ends_near (part e w.name (length name)) name ≡ ends
        → same_name (part e w.name (le2 e w.length)) name ≡ (if (if few then false else if long then ends else false) then same_name (part e w.name (length name)) name else false)
    carried_by true true ends f g h = absurd (omega (arith, there, ltb-true (length e) (w.name + length name) f, eqb-true (le2 e w.length) (length name) g))
    carried_by true false ends f g h = other_told ends g
    carried_by false false ends f g h = other_told ends g
    carried_by false true true f g h = ap (λ (k : ℕ). same_name (part e w.name k) name) (eqb-true (le2 e w.length) (length name) g)
    carried_by false true false f g h = ap (λ (k : ℕ). same_name (part e w.name k) name) (eqb-true (le2 e w.length) (length name) g) ∙ ends_differ (part e w.name (length name)) name h

    carried : same_name (part e w.name (le2 e w.length)) name ≡ (if looks_named w e name then same_name (part e w.name (length name)) name else false)
    unfolding looks_named
    carried = carried_by (ltb (length e) (w.name + length name)) (eqb (le2 e w.length) (length name)) (ends_near (part e w.name (length name)) name) refl refl refl

-- the bytes from a place on look so where the entry there does
looks_more : (w : NamePlaces) (k : ℕ) (l name : List ℕ) → looks_named w (take k l) name ≡ true → looks_named w l name ≡ true
unfolding looks_named part
looks_more w k l name h =
    let r = looked_room w (take k l) name h in
    let m = length-take k l in
    let u : w.name + length name ≤ k = omega (arith, r, m) in
    let zero_length : 0 + w.length ≡ w.length = omega arith in
    let zero_name : 0 + w.name ≡ w.name = omega arith in
    let e = le2_part l 0 k w.length (omega (arith, w.behind, u)) ∙ ap (le2 l) zero_length in
    let p = part_part l 0 k w.name (length name) u ∙ ap (λ (n : ℕ). part l n (length name)) zero_name in
    simp (le-ltb (length l) (w.name + length name) (omega (arith, r, m))) (simp (le-ltb (length (take k l)) (w.name + length name) r, e, p) at h)

-- the bytes of an upload from a place on
module _ (w : NamePlaces) (s name : List ℕ) (at : ℕ) where
  le2_from : le2 (drop at s) w.length ≡ le2 s (at + w.length)
  unfolding le2
  le2_from =
      let second : at + (w.length + 1) ≡ at + w.length + 1 = omega arith in
      simp (get_or-drop at s w.length 0, get_or-drop at s (w.length + 1) 0) (ap (λ (k : ℕ). get_or s (at + w.length) 0 + get_or s k 0 * 256) second)

  part_from : part (drop at s) w.name (length name) ≡ part s (at + w.name) (length name)
  unfolding part
  part_from = ap (take (length name)) (drop-drop w.name at s)

  pub few_from : length s - at < w.name + length name → looks_named w (drop at s) name ≡ false
  few_from h = looks_short w (drop at s) name (omega (arith, h, length-drop at s))

  pub longer_from : w.name + length name ≤ length s - at → (le2 s (at + w.length) ≡ length name → ⊥) → looks_named w (drop at s) name ≡ false
  unfolding looks_named
  longer_from h n = simp (le-ltb (length (drop at s)) (w.name + length name) (omega (arith, h, length-drop at s)), le2_from, ne_eqb (le2 s (at + w.length)) (length name) n)

  pub ending_from : (told : ℕ) (near : Bool) → w.name + length name ≤ length s - at → told ≡ le2 s (at + w.length) → told ≡ length name → near ≡ ends_near (part s (at + w.name) (length name)) name → near ≡ looks_named w (drop at s) name
  unfolding looks_named
  ending_from told near h t l p = simp (p, le-ltb (length (drop at s)) (w.name + length name) (omega (arith, h, length-drop at s)), le2_from, part_from, eq-eqb (le2 s (at + w.length)) (length name) (sym t ∙ l))

  pub looked_from : looks_named w (drop at s) name ≡ true → at + w.name + length name ≤ length s
  looked_from h = omega (arith, looked_room w (drop at s) name h, length-drop at s, w.behind)

-- of a kind of entry
module _ {R : Type 0} (w : NamePlaces) (name_of : R → List ℕ) (read : Bor (List ℕ) → Result R Refusal)
    (told : (e : Bor (List ℕ)) (r : R) → read e ≡ Ok r → TellsName w e.now (name_of r)) where
  module _ (e : Bor (List ℕ)) (name : List ℕ) where
    pub looks_otherwise : looks_named w e.now name ≡ false → has_name name_of name (Some (read e)) ≡ false
    looks_otherwise h = by (read e) refl
      where
        by : (t : Result R Refusal) → read e ≡ t → has_name name_of name (Some t) ≡ false
        by (Err why) f = refl
        by (Ok r) f = let t = told e r f in simp t.is (carried w e.now name t.room ∙ simp h)

    pub named_otherwise : looks_named w e.now name ≡ true → same_name (part e.now w.name (length name)) name ≡ false → has_name name_of name (Some (read e)) ≡ false
    named_otherwise l h = by (read e) refl
      where
        by : (t : Result R Refusal) → read e ≡ t → has_name name_of name (Some t) ≡ false
        by (Err why) f = refl
        by (Ok r) f = let t = told e r f in simp t.is (carried w e.now name t.room ∙ simp (l, h))

    pub named_is : looks_named w e.now name ≡ true → same_name (part e.now w.name (length name)) name ≡ true → has_name name_of name (Some (read e)) ≡ is_ok (read e)
    named_is l h = by (read e) refl
      where
        by : (t : Result R Refusal) → read e ≡ t → has_name name_of name (Some t) ≡ is_ok t
        by (Err other) f = refl
        by (Ok r) f = let t = told e r f in simp t.is (carried w e.now name t.room ∙ simp l (simp h))

  module _ (s : Bor (List ℕ)) (name : List ℕ) (at : ℕ) where
    own_from : looks_named w (drop at s.now) name ≡ false → (size : ℕ) → has_name name_of name (Some (read (slice.part s at size))) ≡ false
    own_from h size = looks_otherwise (slice.part s at size) name (unless (looks_named w (take size (drop at s.now)) name) (looks_named w (drop at s.now) name) (looks_more w size (drop at s.now) name) h)

    own_named : same_name (part s.now (at + w.name) (length name)) name ≡ false → (size : ℕ) (b : Bool) → looks_named w (take size (drop at s.now)) name ≡ b → has_name name_of name (Some (read (slice.part s at size))) ≡ false
    unfolding part
    own_named h size false e = looks_otherwise (slice.part s at size) name e
    own_named h size true e =
        let r = looked_room w (take size (drop at s.now)) name e in
        let u : w.name + length name ≤ size = omega (arith, r, length-take size (drop at s.now)) in
        let zero_name : 0 + w.name ≡ w.name = omega arith in
        let p = part_part (drop at s.now) 0 size w.name (length name) u ∙ ap (λ (n : ℕ). part (drop at s.now) n (length name)) zero_name ∙ part_from w s.now name at in
        named_otherwise (slice.part s at size) name e (ap (λ (l : List ℕ). same_name l name) p ∙ h)

    -- at a place where an entry that is met has not the name, the step gives no record of the name
    unnamed : ((size : ℕ) → has_name name_of name (Some (read (slice.part s at size))) ≡ false) → is_named name_of read s name at ≡ false
    unfolding is_named step_at
    unnamed own = by (claim_at s.now at).size
      where
        by : (c : Option (Result ℕ Refusal)) → has_name name_of name (option_map (λ claim. and_then claim (λ size. read (slice.part s at size))) c) ≡ false
        by None = refl
        by (Some (Err why)) = refl
        by (Some (Ok size)) = own size

    pub looks_from : looks_named w (drop at s.now) name ≡ false → is_named name_of read s name at ≡ false
    looks_from h = unnamed (own_from h)

    pub named_from : same_name (part s.now (at + w.name) (length name)) name ≡ false → is_named name_of read s name at ≡ false
    named_from h = unnamed (λ size. own_named h size (looks_named w (take size (drop at s.now)) name) refl)
