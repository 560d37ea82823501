-- The reasons of a symbol are true of its bytes: proved.
use Rattle.std.proofs.Common.{◌≡◌, ◌⊎◌, inl, inr, ℕ, ◌+◌, ◌-◌, ◌<◌, ◌≤◌, Bool, true, false, List, length, drop, Ok, Err, Result, refl, sym, ap, ◌∙◌, subst, arith, length-drop, drop-drop, Bor}
use Rattle.std.specs.Prelude.{ltb, leb, if◌then◌else◌}
use Rattle.std.proofs.lemmas.Bool.{leb-false}
use native.Mathlib.Nat.{add-zero}
use borrow.Author.Tests.{le-ltb, lt-ltb, leb-true}
use Rattle.le.specs.Le.{le2, has}
use Rattle.part.specs.Slice.{after}
use Rattle.part.specs.End.{IsEnd, rest_at}
use Rattle.refusal.specs.declared.Refusal.{Refusal}
use Rattle.refusal.specs.declared.Refusal.TheVariants.{TooShort, UnexpectedLength}
use Rattle.attribute.specs.declared.AdsAttribute.{AdsAttribute}
use Rattle.attribute.specs.Laid as attribute
use Rattle.attribute.specs.Attribute.{first_of, listed, after_listed}
use Rattle.attribute.specs.Read.{First, first_short, first_cut, first_whole, IsListed}
use Rattle.attribute.specs.Stopped.{WhyItEnds, all, at_end, refused}
use Rattle.attribute.proofs.Laws.{after_none}
use Rattle.attribute.proofs.Read.{attributes_read}
use Rattle.attribute.proofs.Stopped.{attributes_stopped}
use Rattle.symbol.specs.declared.AdsSymbolInfo.{AdsSymbolInfo}
use Rattle.symbol.specs.Inside.{behind_guid, behind_attributes, IsInside}
use Rattle.symbol.specs.ReadOn.{Shows, all as shows_all, up_to, announced}
use Rattle.why.specs.declared.Reason.{Reason}
use Rattle.why.specs.declared.Reason.TheVariants.{NotFlagged, NoRoom}
use Rattle.why.specs.Reasons.{fixed_reason, list_reason, attributes_reason}
use Rattle.why.specs.Meant.{IsCutAttribute, least, cut, IsFixed, fixed_unflagged, fixed_short, fixed_there, Behind, behind_unflagged, behind_short, behind_there}
use Rattle.why.specs.Meant.{IsFlagged, IsAttributes, attributes_unflagged, attributes_short, attributes_whole, attributes_refused, attributes_owed, BehindAttributes, list_unflagged, list_short, list_there}
use Rattle.why.proofs.Stands.{stand_within, stand_further}
use Rattle.why.specs.Shown.{shown_of}
use Rattle.why.proofs.One.{is_cut, ListEnds, same_end, at_count, at_cut, at_end as at_list_end}

-- a section of one size that is there exactly where it is flagged and has room
module _ (e : List ℕ) (bit size at : ℕ) (there : Bool) (l : at ≤ length e) (some : 0 < size) where
  fixed_by : (b c : Bool) → has (le2 e 20) bit ≡ b → leb size (length e - at) ≡ c → there ≡ (if b then c else false) → IsFixed e bit size at (fixed_reason there b at (length e - at))
  fixed_by false c f g h = rw h (fixed_unflagged f)
  fixed_by true true f g h = rw h (fixed_there f (let m = leb-true size (length e - at) g in omega arith))
  fixed_by true false f g h = rw h (fixed_short {left = length e - at} f (omega arith) (leb-false size (length e - at) g))

  pub fixed_true : there ≡ (if has (le2 e 20) bit then leb size (length e - at) else false) → IsFixed e bit size at (fixed_reason there (has (le2 e 20) bit) at (length e - at))
  fixed_true h = fixed_by (has (le2 e 20) bit) (leb size (length e - at)) refl refl h

  behind_by : (b c : Bool) → has (le2 e 20) bit ≡ b → leb size (length e - at) ≡ c → there ≡ (if b then c else false) → Behind e bit size at (at + (if there then size else 0))
  behind_by false c f g h = rw h (subst (Behind e bit size at) (sym (add-zero at)) (behind_unflagged f))
  behind_by true true f g h = rw h (behind_there f (let m = leb-true size (length e - at) g in omega arith))
  behind_by true false f g h = rw h (subst (Behind e bit size at) (sym (add-zero at)) (behind_short (let m = leb-false size (length e - at) g in omega arith)))

  pub behind_true : there ≡ (if has (le2 e 20) bit then leb size (length e - at) else false) → Behind e bit size at (at + (if there then size else 0))
  behind_true h = behind_by (has (le2 e 20) bit) (leb size (length e - at)) refl refl h

-- an attribute that is refused
cut_of : (q : Bor (List ℕ)) (why : Refusal) → first_of q ≡ Err why → First q → IsCutAttribute q.now why
cut_of q why g (first_short h k) = let same : TooShort 4 (length q.now) ≡ why = (let z : ◌≡◌ {A = Result (AdsAttribute × Bor (List ℕ)) Refusal} (Err (TooShort 4 (length q.now))) (Err why) = sym k ∙ g in cc) in subst (IsCutAttribute q.now) same (least h)
cut_of q why g (first_cut h m k) =
    let same : UnexpectedLength (attribute.size q.now) (length q.now) ≡ why = (let z : ◌≡◌ {A = Result (AdsAttribute × Bor (List ℕ)) Refusal} (Err (UnexpectedLength (attribute.size q.now) (length q.now))) (Err why) = sym k ∙ g in cc) in
    subst (IsCutAttribute q.now) same (cut h m)
cut_of q why g (first_whole h k) = let z : ◌≡◌ {A = Result (AdsAttribute × Bor (List ℕ)) Refusal} (Ok (attribute.parts q, after q (attribute.size q.now))) (Err why) = sym k ∙ g in cc

cut_here : (q : Bor (List ℕ)) (why : Refusal) → first_of q ≡ Err why → IsCutAttribute q.now why
cut_here q why g = cut_of q why g (attributes_read.first q)

-- the attributes behind a place of an entry, in the entry
module _ (e : Bor (List ℕ)) (a k : ℕ) (room : a ≤ length e.now) where
  abbrev q : Bor (List ℕ)
  q = after e a

  pub record Placed : Type 0 where
    pub to : ℕ
    pub stands : attribute.Stands e.now a to (length (listed q k))
    pub within : to ≤ length e.now
    pub is : (after_listed q k).now ≡ drop to e.now
    pub at : rest_at e (after_listed q k) ≡ to

  placed_by : IsListed q k → Placed
  placed_by i =
      let s : attribute.Stands e.now (a + 0) (a + i.end) i.many = stand_further e.now a 0 i.end i.many i.stands in
      let t : attribute.Stands e.now a (a + i.end) i.many = subst (λ (x : ℕ). attribute.Stands e.now x (a + i.end) i.many) (add-zero a) s in
      let w : a + i.end ≤ length e.now = stand_within e.now a (a + i.end) i.many t room in
      let d : (after_listed q k).now ≡ drop (a + i.end) e.now = ap (λ (x : Bor (List ℕ)). x.now) i.rest ∙ drop-drop i.end a e.now in
      record {
        to = a + i.end;
        stands = subst (attribute.Stands e.now a (a + i.end)) (sym i.long) t;
        within = w;
        is = d;
        at = omega (arith, ap (λ (x : List ℕ). length x) d, length-drop (a + i.end) e.now);
      }

  pub placed : Placed
  placed = placed_by (attributes_read.listed q k)

module _ (e : Bor (List ℕ)) (p : ℕ) (f : IsFlagged e.now 0x1000) (room : p + 2 ≤ length e.now) where
  abbrev s : Bor (List ℕ)
  s = after e (p + 2)

  abbrev k : ℕ
  k = le2 e.now p

  listed_by : Placed e (p + 2) k room → WhyItEnds s k → IsAttributes e.now p (list_reason e p s k)
  listed_by i (all l t) =
      let none : ltb (length (listed s k)) k ≡ false = le-ltb (length (listed s k)) k (omega arith) in
      let st : attribute.Stands e.now (p + 2) i.to k = subst (attribute.Stands e.now (p + 2) i.to) l i.stands in
      rw (t, none) (attributes_whole f room st)
  listed_by i (at_end m l z t) =
      let some : ltb (length (listed s k)) k ≡ true = lt-ltb (length (listed s k)) k l in
      let end : i.to ≡ length e.now = (let d = i.is in let w = i.within in omega (arith, ap (λ (x : List ℕ). length x) d, length-drop i.to e.now)) in
      let st : attribute.Stands e.now (p + 2) (length e.now) (length (listed s k)) = subst (λ (x : ℕ). attribute.Stands e.now (p + 2) x (length (listed s k))) end i.stands in
      rw (t, some) (attributes_owed {owed = k - length (listed s k)} f room st m (omega arith) (omega arith))
  listed_by i (refused why l o g t) =
      let c : IsCutAttribute (drop i.to e.now) why = subst (λ (x : List ℕ). IsCutAttribute x why) i.is (cut_here (after_listed s k) why g) in
      rw (t, i.at) (attributes_refused f room i.stands l (by o) c)
    where
      by : (length (listed s k) ≡ 0) ⊎ (0 < length (after_listed s k).now) → (length (listed s k) ≡ 0) ⊎ (i.to < length e.now)
      by (inl h) = inl h
      by (inr h) = inr (omega (arith, ap (λ (x : List ℕ). length x) i.is, length-drop i.to e.now))

  pub listed_true : IsAttributes e.now p (list_reason e p s k)
  listed_true = listed_by (placed e (p + 2) k room) (attributes_stopped s k)

-- by the place where their count would stand
module _ (e q : Bor (List ℕ)) (p : ℕ) (l : p ≤ length e.now) (t : IsEnd e q) where
  from_two : p + 2 ≤ length e.now → rest_at e q ≡ p + 2 → q ≡ after e (p + 2)
  from_two m z = t.is ∙ ap (after e) z

  attributes_by : (b c : Bool) → has (le2 e.now 20) 0x1000 ≡ b → leb 2 (length e.now - p) ≡ c → rest_at e q ≡ p + (if (if b then c else false) then 2 else 0)
      → IsAttributes e.now p (if b then if ltb (length e.now - p) 2 then NoRoom p (length e.now - p) else list_reason e p q (le2 e.now p) else NotFlagged)
  attributes_by false c f g z = attributes_unflagged f
  attributes_by true false f g z =
      let m = leb-false 2 (length e.now - p) g in
      let n : ltb (length e.now - p) 2 ≡ true = lt-ltb (length e.now - p) 2 m in
      rw n (attributes_short {left = length e.now - p} f (omega arith) m)
  attributes_by true true f g z =
      let m = leb-true 2 (length e.now - p) g in
      let n : ltb (length e.now - p) 2 ≡ false = le-ltb (length e.now - p) 2 m in
      let r : p + 2 ≤ length e.now = omega arith in
      rw n (subst (λ (x : Bor (List ℕ)). IsAttributes e.now p (list_reason e p x (le2 e.now p))) (sym (from_two r z)) (listed_true e p f r))

-- where what follows them begins
module _ (e : Bor (List ℕ)) (r : AdsSymbolInfo) (i : IsInside e r) (w : Shows r.attributes.bytes (announced e r) r.attributes.count)
    (counted : length (listed r.attributes.bytes r.attributes.count) ≡ r.attributes.count) (l : behind_guid r ≤ length e.now) where
  abbrev p : ℕ
  p = behind_guid r

  abbrev shown : ℕ
  shown = r.attributes.count

  -- none are announced
  absent : announced e r ≡ 0 → rest_at e r.attributes.bytes ≡ p → behind_attributes e r ≡ p
  absent z h = by w
    where
      at_none : shown ≡ 0 → behind_attributes e r ≡ p
      at_none n = rw n (ap (rest_at e) (after_none r.attributes.bytes) ∙ h)

      by : Shows r.attributes.bytes (announced e r) shown → behind_attributes e r ≡ p
      by (shows_all n) = at_none (n ∙ z)
      by (up_to why n g) = absurd (omega (arith, z))

  -- so many stand in the entry as are shown, and behind them the list stops
  pub record ShownEnds : Type 0 where
    pub to : ℕ
    pub ends : ListEnds e.now p shown to
    pub at : behind_attributes e r ≡ to

  ends_there : p + 2 ≤ length e.now → announced e r ≡ le2 e.now p → rest_at e r.attributes.bytes ≡ p + 2 → ShownEnds
  ends_there room z h =
      let at : r.attributes.bytes ≡ after e (p + 2) = i.attribute_bytes.is ∙ ap (after e) h in
      let q = placed e (p + 2) shown room in
      let c : length (listed (after e (p + 2)) shown) ≡ shown = subst (λ (x : Bor (List ℕ)). length (listed x shown) ≡ shown) at counted in
      let st : attribute.Stands e.now (p + 2) q.to shown = subst (attribute.Stands e.now (p + 2) q.to) c q.stands in
      record { to = q.to; ends = by w at q st; at = ap (λ (x : Bor (List ℕ)). rest_at e (after_listed x shown)) at ∙ q.at }
    where
      by : Shows r.attributes.bytes (announced e r) shown → r.attributes.bytes ≡ after e (p + 2) → (q : Placed e (p + 2) shown room) → attribute.Stands e.now (p + 2) q.to shown → ListEnds e.now p shown q.to
      by (shows_all n) at q st = record { stands = st; few = omega (arith, z, n); stops = inl (n ∙ z) }
      by (up_to why n g) at q st =
          let g' : first_of (after_listed (after e (p + 2)) shown) ≡ Err why = subst (λ (x : Bor (List ℕ)). first_of (after_listed x shown) ≡ Err why) at g in
          let d : IsCutAttribute (drop q.to e.now) why = subst (λ (x : List ℕ). IsCutAttribute x why) q.is (cut_here (after_listed (after e (p + 2)) shown) why g') in
          record { stands = st; few = omega (arith, z); stops = inr (is_cut (drop q.to e.now) why d) }

  there : has (le2 e.now 20) 0x1000 ≡ true → p + 2 ≤ length e.now → ShownEnds → BehindAttributes e.now p (behind_attributes e r)
  there f room s = subst (BehindAttributes e.now p) (sym s.at) (list_there f room s.ends.stands s.ends.few s.ends.stops)

  by_room : (b c : Bool) → has (le2 e.now 20) 0x1000 ≡ b → leb 2 (length e.now - p) ≡ c → rest_at e r.attributes.bytes ≡ p + (if (if b then c else false) then 2 else 0)
      → announced e r ≡ (if (if b then c else false) then le2 e.now p else 0) → BehindAttributes e.now p (behind_attributes e r)
  by_room false c f g h z = subst (BehindAttributes e.now p) (sym (absent z (h ∙ add-zero p))) (list_unflagged f)
  by_room true false f g h z = subst (BehindAttributes e.now p) (sym (absent z (h ∙ add-zero p))) (list_short (let m = leb-false 2 (length e.now - p) g in omega arith))
  by_room true true f g h z = let room : p + 2 ≤ length e.now = (let m = leb-true 2 (length e.now - p) g in omega arith) in there f room (ends_there room z h)

  pub behind_list : BehindAttributes e.now p (behind_attributes e r)
  behind_list = by_room (has (le2 e.now 20) 0x1000) (leb 2 (length e.now - p)) refl refl i.attributes_at refl

  -- what the reason says of how many are shown
  none_shown : announced e r ≡ 0 → shown ≡ 0
  none_shown z = by w
    where
      by : Shows r.attributes.bytes (announced e r) shown → shown ≡ 0
      by (shows_all n) = n ∙ z
      by (up_to why n g) = absurd (omega (arith, z))

  some_shown : p + 2 ≤ length e.now → (x : Reason) → ShownEnds → IsAttributes e.now p x → has (le2 e.now 20) 0x1000 ≡ true → shown_of x ≡ shown
  some_shown room x s (attributes_unflagged f) t = cc
  some_shown room x s (attributes_short f h m) t = absurd (omega arith)
  some_shown room x s (attributes_whole f h st) t = (same_end e.now p (at_count e.now p st) s.ends).0
  some_shown room x s (attributes_refused f h st m o c) t = (same_end e.now p (at_cut e.now p st m c) s.ends).0
  some_shown room x s (attributes_owed f h st m o c) t = omega (arith, (same_end e.now p (at_list_end e.now p _ st c) s.ends).0)

  -- of a section that is absent
  absent_shown : (x : Reason) → IsAttributes e.now p x → (has (le2 e.now 20) 0x1000 ≡ true → p + 2 ≤ length e.now → ⊥) → 0 ≡ shown → shown_of x ≡ shown
  absent_shown x (attributes_unflagged f) not z = z
  absent_shown x (attributes_short f h m) not z = z
  absent_shown x (attributes_whole f h st) not z = absurd (not f h)
  absent_shown x (attributes_refused f h st m o c) not z = absurd (not f h)
  absent_shown x (attributes_owed f h st m o c) not z = absurd (not f h)

  shown_by : (x : Reason) → IsAttributes e.now p x → (b c : Bool) → has (le2 e.now 20) 0x1000 ≡ b → leb 2 (length e.now - p) ≡ c → rest_at e r.attributes.bytes ≡ p + (if (if b then c else false) then 2 else 0)
      → announced e r ≡ (if (if b then c else false) then le2 e.now p else 0) → shown_of x ≡ shown
  shown_by x a false c f g h z = absent_shown x a (λ t room. let y : true ≡ false = sym t ∙ f in cc) (sym (none_shown z))
  shown_by x a true false f g h z = absent_shown x a (λ t room. let m = leb-false 2 (length e.now - p) g in omega arith) (sym (none_shown z))
  shown_by x a true true f g h z = let room : p + 2 ≤ length e.now = (let m = leb-true 2 (length e.now - p) g in omega arith) in some_shown room x (ends_there room z h) a f

  pub attributes_shown : (x : Reason) → IsAttributes e.now p x → shown_of x ≡ shown
  attributes_shown x a = shown_by x a (has (le2 e.now 20) 0x1000) (leb 2 (length e.now - p)) refl refl i.attributes_at refl

pub attributes_true : (e : Bor (List ℕ)) (r : AdsSymbolInfo) → IsInside e r → behind_guid r ≤ length e.now → IsAttributes e.now (behind_guid r) (attributes_reason e r (behind_guid r))
unfolding attributes_reason
attributes_true e r i l =
    rw i.flags (attributes_by e r.attributes.bytes (behind_guid r) l i.attribute_bytes (has (le2 e.now 20) 0x1000) (leb 2 (length e.now - behind_guid r)) refl refl i.attributes_at)
