-- The strings of an accepted entry are among its sections: proved.
use Rattle.std.proofs.Common.{ℕ, ◌+◌, ◌-◌, ◌<◌, ◌≤◌, ◌≡◌, ◌⊎◌, inl, inr, Bool, true, false, List, [], ◌∷◌, ◌++◌, length, refl, ap, lit<, arith, Bor}
use Rattle.std.specs.Prelude.{eqb, leb, min, is_some, Ok, if◌then◌else◌}
use borrow.Author.Tests.{eqb-true}
use Rattle.le.specs.Le.{has}
use Rattle.part.specs.Slice.{part}
use Rattle.refusal.specs.declared.Mode.{Mode}
use Rattle.attribute.specs.Attribute as attribute
use Rattle.refactor.specs.Refactor as refactor
use Rattle.symbol.specs.Symbol.{attributes_flag, symbol_of}
use Rattle.symbol.specs.declared.AdsSymbolInfo.{AdsSymbolInfo}
use Rattle.symbol.proofs.Lies.{symbols_inside}
use Rattle.sections.specs.declared.Part.{Part}
use Rattle.sections.specs.declared.Part.TheVariants.{Length, Group, Offset, Size, TypeId, Flags, High, StringLengths, Name, «Type», Comment, Guid, AttributeCount, ExtendedFlags, Unread}
use Rattle.sections.specs.declared.Section.{Section}
use Rattle.sections.specs.Sections.{Cut, cut, cut_all, header_parts, string_parts, attribute_parts, former_parts, with_count, with_optional, cut_entry, sections_of}

abbrev pub Has : Part → List Section → Type 0
Has p [] = ⊥
Has p (x ∷ xs) = (x.part ≡ p) ⊎ Has p xs

has_more : (p : Part) (xs ys : List Section) → Has p xs → Has p (xs ++ ys)
has_more p [] ys h = absurd h
has_more p (x ∷ xs) ys (inl h) = inl h
has_more p (x ∷ xs) ys (inr h) = inr (has_more p xs ys h)

has_last : (p : Part) (xs : List Section) (x : Section) → x.part ≡ p → Has p (xs ++ (x ∷ []))
has_last p [] x h = inl h
has_last p (y ∷ xs) x h = inr (has_last p xs x h)

-- what was cut off stays
stays_by : (p q : Part) (n : ℕ) (c : Cut) → Has p c.all → (b : Bool)
    → Has p (if◌then◌else◌ {A = Cut} b c (record { own = c.own; all = c.all ++ (record { part = q; at = c.at; bytes = part c.own c.at n } ∷ []); at = c.at + n })).all
stays_by p q n c h true = h
stays_by p q n c h false = has_more p c.all _ h

stays : (p q : Part) (n : ℕ) (c : Cut) → Has p c.all → Has p (cut q n c).all
unfolding cut
stays p q n c h = let m : ℕ = min n (length c.own.now - c.at) in stays_by p q m c h (eqb m 0)

all_stay : (p : Part) (qs : List (Part × ℕ)) (c : Cut) → Has p c.all → Has p (cut_all qs c).all
all_stay p [] c h = h
all_stay p (q ∷ qs) c h = all_stay p qs _ (stays p q.0 q.1 c h)

if_stays : (p : Part) (b : Bool) (c d : Cut) → Has p c.all → Has p d.all → Has p (if◌then◌else◌ {A = Cut} b c d).all
if_stays p true c d h g = h
if_stays p false c d h g = g

-- the next section begins at a place
record At (e : Bor (List ℕ)) (k : ℕ) (c : Cut) : Type 0 where
  own : c.own ≡ e
  at : c.at ≡ k

-- a section with room
record CutOff (e : Bor (List ℕ)) (p : Part) (to : ℕ) (c : Cut) : Type 0 where
  on : At e to c
  has : Has p c.all

cut_by : (e : Bor (List ℕ)) (k to : ℕ) (p : Part) (n : ℕ) (c : Cut) → At e k c → to ≡ k + n → 0 < n → (b : Bool) → eqb n 0 ≡ b
    → CutOff e p to (if b then c else record { own = c.own; all = c.all ++ (record { part = p; at = c.at; bytes = part c.own c.at n } ∷ []); at = c.at + n })
cut_by e k to p n c g h some true z = let none : n ≡ 0 = eqb-true n 0 z in absurd (omega (arith, none))
cut_by e k to p n c g h some false z = record { on = record { own = g.own; at = omega (arith, g.at) }; has = has_last p c.all _ refl }

cut_at : (e : Bor (List ℕ)) (k to : ℕ) (p : Part) (n : ℕ) (c : Cut) → At e k c → to ≡ k + n → 0 < n → to ≤ length e.now → CutOff e p to (cut p n c)
unfolding cut
cut_at e k to p n c g h some room =
    let l : length c.own.now ≡ length e.now = ap (λ (q : Bor (List ℕ)). length q.now) g.own in
    let m : ℕ = min n (length c.own.now - c.at) in
    let is : m ≡ n = omega (arith, g.at) in
    cut_by e k to p m c g (omega arith) (omega arith) (eqb m 0) refl

header_at : (e : Bor (List ℕ)) (c : Cut) → 30 ≤ length e.now → At e 0 c → At e 30 (cut_all header_parts c)
header_at e c room g =
    let a = cut_at e 0 4 Length 4 c g refl (lit< tt) (omega arith) in
    let b = cut_at e 4 8 Group 4 _ a.on refl (lit< tt) (omega arith) in
    let d = cut_at e 8 12 Offset 4 _ b.on refl (lit< tt) (omega arith) in
    let f = cut_at e 12 16 Size 4 _ d.on refl (lit< tt) (omega arith) in
    let h = cut_at e 16 20 TypeId 4 _ f.on refl (lit< tt) (omega arith) in
    let i = cut_at e 20 22 Flags 2 _ h.on refl (lit< tt) (omega arith) in
    let j = cut_at e 22 24 High 2 _ i.on refl (lit< tt) (omega arith) in
    (cut_at e 24 30 StringLengths 6 _ j.on refl (lit< tt) (omega arith)).on

-- all three strings
pub record HasStrings (xs : List Section) : Type 0 where
  pub name : Has Name xs
  pub type_name : Has «Type» xs
  pub comment : Has Comment xs

strings_there : (e : Bor (List ℕ)) (r : AdsSymbolInfo) (c : Cut) → 33 + length r.name.now + length r.type_name.now + length r.comment.now ≤ length e.now → At e 30 c
    → HasStrings (cut_all (string_parts r) c).all
strings_there e r c room g =
    let n : ℕ = length r.name.now in
    let t : ℕ = length r.type_name.now in
    let k : ℕ = length r.comment.now in
    let a = cut_at e 30 (31 + n) Name (n + 1) c g (omega arith) (omega arith) (omega arith) in
    let b = cut_at e (31 + n) (32 + n + t) «Type» (t + 1) _ a.on (omega arith) (omega arith) (omega arith) in
    let d = cut_at e (32 + n + t) (33 + n + t + k) Comment (k + 1) _ b.on (omega arith) (omega arith) (omega arith) in
    record {
      name = stays Name Comment (k + 1) _ (stays Name «Type» (t + 1) _ a.has);
      type_name = stays «Type» Comment (k + 1) _ b.has;
      comment = d.has;
    }

-- behind the strings
pub rest_stays : (p : Part) (r : AdsSymbolInfo) (c : Cut) → Has p c.all
    → let d : Cut = cut_all (former_parts 0 (refactor.left r.refactor_infos)) (with_optional ExtendedFlags 4 (is_some r.extended_flags) (cut_all (attribute_parts 0 (attribute.left r.attributes)) (with_count r (with_optional Guid 16 (is_some r.guid) c)))) in
    Has p (cut Unread (length d.own.now) d).all
rest_stays p r c h =
    let guid = if_stays p (is_some r.guid) _ c (stays p Guid 16 c h) h in
    let g : Cut = with_optional Guid 16 (is_some r.guid) c in
    let there : Bool = leb 2 (length g.own.now - g.at) in
    let two : Cut = cut AttributeCount 2 g in
    let count = if_stays p (has r.flags.0 attributes_flag) (if there then two else g) g (if_stays p there two g (stays p AttributeCount 2 g guid) guid) guid in
    let attributes = all_stay p (attribute_parts 0 (attribute.left r.attributes)) _ count in
    let extended = if_stays p (is_some r.extended_flags) _ _ (stays p ExtendedFlags 4 _ attributes) attributes in
    stays p Unread _ _ (all_stay p (former_parts 0 (refactor.left r.refactor_infos)) _ extended)

pub strings_present : (mode : Mode) (e : Bor (List ℕ)) (r : AdsSymbolInfo) → symbol_of mode e ≡ Ok r → HasStrings (sections_of e r)
unfolding sections_of cut_entry
strings_present mode e r h =
    let i = symbols_inside mode e r h in
    let start : Cut = record { own = e; all = []; at = 0 } in
    let all = strings_there e r (cut_all header_parts start) (omega (arith, i.comment.within)) (header_at e start (omega (arith, i.comment.within)) (record { own = refl; at = refl })) in
    record {
      name = rest_stays Name r _ all.name;
      type_name = rest_stays «Type» r _ all.type_name;
      comment = rest_stays Comment r _ all.comment;
    }
