-- The sections of an entry stand in the order of their parts: proved.
use Rattle.std.proofs.Common.{ℕ, ◌+◌, ◌-◌, ◌≡◌, Bool, true, false, List, [], ◌∷◌, ◌++◌, length, refl, sym, arith, Bor}
use Rattle.std.specs.Prelude.{eqb, min, is_some, if◌then◌else◌}
use Rattle.std.specs.List.{AllByRecursion}
use Rattle.std.specs.Ordering.{nat_cmp}
use Rattle.std.specs.Cmp.{IsTotalOrder, nat_cmp_is}
use Rattle.std.specs.declared.cmp.Ordering.TheVariants.{Less, Equal}
use Rattle.std.proofs.lemmas.Cmp.{then_total, on_total, nat_cmp_total}
use Rattle.part.specs.Slice.{part}
use Rattle.attribute.specs.Attribute as attribute
use Rattle.attribute.specs.declared.AdsAttribute.{AdsAttribute}
use Rattle.refactor.specs.Refactor as refactor
use Rattle.refactor.specs.declared.AdsRefactorInfo.{AdsRefactorInfo}
use Rattle.symbol.specs.declared.AdsSymbolInfo.{AdsSymbolInfo}
use Rattle.sections.specs.declared.Part.{Part}
use Rattle.sections.specs.declared.Part.TheVariants.{Length, Group, Offset, Size, TypeId, Flags, High, StringLengths, Name, «Type», Comment, Guid, AttributeCount, Attribute, ExtendedFlags, FormerName, Unread}
use Rattle.sections.specs.declared.Section.{Section}
use Rattle.sections.specs.Parts.{kind, number, part_order}
use Rattle.sections.specs.Sections.{Cut, cut, cut_all, header_parts, string_parts, attribute_size, attribute_parts, former_parts, with_count, with_optional, cut_entry, sections_of}
use Rattle.differences.specs.Meant.{IsBefore}

pub parts_total : IsTotalOrder part_order
parts_total = then_total (on_total kind nat_cmp_total) (on_total number nat_cmp_total)

pub part_itself : (p : Part) → part_order p p ≡ Equal
part_itself p = rw (sym (nat_cmp_is (kind p) (kind p) Equal refl)) (sym (nat_cmp_is (number p) (number p) Equal refl))

abbrev pub IsBelow : List Section → Part → Type 0
IsBelow xs p = AllByRecursion (λ (x : Section). part_order x.part p ≡ Less) xs

abbrev pub Ascends : List Section → Type 0
Ascends [] = Unit {0}
Ascends (x ∷ xs) = IsBefore x.part xs × Ascends xs

pub before_on : (p q : Part) (xs : List Section) → part_order p q ≡ Less → IsBefore q xs → IsBefore p xs
before_on p q [] h all = tt
before_on p q (x ∷ xs) h all = (parts_total.trans p q x.part h all.0, before_on p q xs h all.1)

below_on : (xs : List Section) (p q : Part) → part_order p q ≡ Less → IsBelow xs p → IsBelow xs q
below_on [] p q h all = tt
below_on (x ∷ xs) p q h all = (parts_total.trans x.part p q all.0 h, below_on xs p q h all.1)

below_more : (xs : List Section) (x : Section) (q : Part) → IsBelow xs q → part_order x.part q ≡ Less → IsBelow (xs ++ (x ∷ [])) q
below_more [] x q all h = (h, tt)
below_more (y ∷ xs) x q all h = (all.0, below_more xs x q all.1 h)

before_more : (p : Part) (xs : List Section) (x : Section) → IsBefore p xs → part_order p x.part ≡ Less → IsBefore p (xs ++ (x ∷ []))
before_more p [] x all h = (h, tt)
before_more p (y ∷ xs) x all h = (all.0, before_more p xs x all.1 h)

ascends_more : (xs : List Section) (x : Section) → Ascends xs → IsBelow xs x.part → Ascends (xs ++ (x ∷ []))
ascends_more [] x up all = (tt, tt)
ascends_more (y ∷ xs) x up all = (before_more y.part xs x up.0 all.0, ascends_more xs x up.1 all.1)

-- what was cut off ascends, and stands before a part
record Up (c : Cut) (p : Part) : Type 0 where
  ascends : Ascends c.all
  below : IsBelow c.all p

later : (c : Cut) (p q : Part) → part_order p q ≡ Less → Up c p → Up c q
later c p q h g = record { ascends = g.ascends; below = below_on c.all p q h g.below }

cut_by : (p q : Part) (n : ℕ) (c : Cut) → part_order p q ≡ Less → Up c p → (b : Bool)
    → Up (if b then c else record { own = c.own; all = c.all ++ (record { part = p; at = c.at; bytes = part c.own c.at n } ∷ []); at = c.at + n }) q
cut_by p q n c h g true = later c p q h g
cut_by p q n c h g false =
    record {
      ascends = ascends_more c.all _ g.ascends g.below;
      below = below_more c.all _ q (below_on c.all p q h g.below) h;
    }

cut_up : (p q : Part) (n : ℕ) (c : Cut) → part_order p q ≡ Less → Up c p → Up (cut p n c) q
unfolding cut
cut_up p q n c h g = let m : ℕ = min n (length c.own.now - c.at) in cut_by p q m c h g (eqb m 0)

if_up : (b : Bool) (c d : Cut) (p : Part) → Up c p → Up d p → Up (if b then c else d) p
if_up true c d p g h = g
if_up false c d p g h = h

ascends_by : (p : Part) (n : ℕ) (c : Cut) → Up c p → (b : Bool)
    → Ascends (if◌then◌else◌ {A = Cut} b c (record { own = c.own; all = c.all ++ (record { part = p; at = c.at; bytes = part c.own c.at n } ∷ []); at = c.at + n })).all
ascends_by p n c g true = g.ascends
ascends_by p n c g false = ascends_more c.all _ g.ascends g.below

cut_ascends : (p : Part) (n : ℕ) (c : Cut) → Up c p → Ascends (cut p n c).all
unfolding cut
cut_ascends p n c g = let m : ℕ = min n (length c.own.now - c.at) in ascends_by p m c g (eqb m 0)

next_number : (k : ℕ) → nat_cmp k (k + 1) ≡ Less
next_number k = sym (nat_cmp_is k (k + 1) Less (omega arith))

header_up : (c : Cut) → Up c Length → Up (cut_all header_parts c) Name
header_up c g =
    cut_up StringLengths Name 6 _ refl (cut_up High StringLengths 2 _ refl (cut_up Flags High 2 _ refl (cut_up TypeId Flags 4 _ refl
    (cut_up Size TypeId 4 _ refl (cut_up Offset Size 4 _ refl (cut_up Group Offset 4 _ refl (cut_up Length Group 4 c refl g)))))))

strings_up : (r : AdsSymbolInfo) (c : Cut) → Up c Name → Up (cut_all (string_parts r) c) Guid
strings_up r c g =
    cut_up Comment Guid (length r.comment.now + 1) _ refl (cut_up «Type» Comment (length r.type_name.now + 1) _ refl (cut_up Name «Type» (length r.name.now + 1) c refl g))

optional_up : (p q : Part) (n : ℕ) (there : Bool) (c : Cut) → part_order p q ≡ Less → Up c p → Up (with_optional p n there c) q
optional_up p q n there c h g = if_up there _ c q (cut_up p q n c h g) (later c p q h g)

count_up : (r : AdsSymbolInfo) (c : Cut) → Up c AttributeCount → Up (with_count r c) (Attribute 0)
count_up r c g =
    let on = later c AttributeCount (Attribute 0) refl g in
    if_up _ _ c (Attribute 0) (if_up _ _ c (Attribute 0) (cut_up AttributeCount (Attribute 0) 2 c refl g) on) on

attributes_up : (k : ℕ) (all : List AdsAttribute) (c : Cut) → Up c (Attribute k) → Up (cut_all (attribute_parts k all) c) ExtendedFlags
attributes_up k [] c g = later c (Attribute k) ExtendedFlags refl g
attributes_up k (a ∷ all) c g = attributes_up (k + 1) all _ (cut_up (Attribute k) (Attribute (k + 1)) (attribute_size a) c (next_number k) g)

names_up : (k : ℕ) (all : List AdsRefactorInfo) (c : Cut) → Up c (FormerName k) → Up (cut_all (former_parts k all) c) Unread
names_up k [] c g = later c (FormerName k) Unread refl g
names_up k (f ∷ all) c g = names_up (k + 1) all _ (cut_up (FormerName k) (FormerName (k + 1)) (length f.name.now + 7) c (next_number k) g)

pub sections_ascend : (e : Bor (List ℕ)) (r : AdsSymbolInfo) → Ascends (sections_of e r)
unfolding sections_of cut_entry
sections_ascend e r =
    let strings = strings_up r _ (header_up (record { own = e; all = []; at = 0 }) (record { ascends = tt; below = tt })) in
    let attributes = attributes_up 0 (attribute.left r.attributes) _ (count_up r _ (optional_up Guid AttributeCount 16 (is_some r.guid) _ refl strings)) in
    let names = names_up 0 (refactor.left r.refactor_infos) _ (optional_up ExtendedFlags (FormerName 0) 4 (is_some r.extended_flags) _ refl attributes) in
    cut_ascends Unread _ _ names
