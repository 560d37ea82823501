-- Of a symbol that was read from the entry each section is what its part is by the bytes: proved.
use Rattle.std.proofs.Common.{ℕ, ◌+◌, ◌-◌, ◌<◌, ◌≤◌, ◌≡◌, Bool, true, false, List, [], ◌∷◌, ◌++◌, length, take, drop, refl, sym, ap, ap₂, subst, ◌∙◌, append_assoc, add-zero, get_or, length-append, length-drop, lit<, arith, Bor, Some, None}
use Rattle.std.specs.Prelude.{eqb, leb, min, is_some, slice_get, if◌then◌else◌}
use Rattle.std.proofs.lemmas.List.{get_or-drop, get_or-take, take_all}
use Rattle.std.proofs.lemmas.Option.{slice_get-get_or}
use Rattle.std.proofs.Math.Seq.{get_or-append_seam}
use borrow.Author.Tests.{leb-true}
use Rattle.le.specs.Le.{le2, le4, has}
use Rattle.part.specs.Slice.{part, after}
use Rattle.part.specs.End.{IsEnd, rest_at}
use Rattle.part.proofs.Slice.{length_part}
use Rattle.attribute.specs.Attribute as attribute
use Rattle.attribute.specs.Inside.{AttributesLie}
use Rattle.attribute.specs.declared.AdsAttribute.{AdsAttribute}
use Rattle.refactor.specs.Refactor as refactor
use Rattle.refactor.specs.Inside.{RefactorsLie}
use Rattle.refactor.specs.declared.AdsRefactorInfo.{AdsRefactorInfo}
use Rattle.symbol.specs.Symbol.{attributes_flag}
use Rattle.symbol.specs.Inside.{IsInside, is_there, behind_guid, behind_attributes}
use Rattle.symbol.specs.Inside as symbol
use Rattle.symbol.specs.declared.AdsSymbolInfo.{AdsSymbolInfo}
use Rattle.symbol.proofs.Lies.{symbols_inside}
use Rattle.sections.specs.declared.Part.{Part}
use Rattle.sections.specs.declared.Part.TheVariants.{Length, Group, Offset, Size, TypeId, Flags, High, StringLengths, Name, «Type», Comment, Guid, AttributeCount, Attribute, ExtendedFlags, FormerName, Unread}
use Rattle.sections.specs.declared.Section.{Section}
use Rattle.sections.specs.Sections.{Cut, cut, cut_off, cut_all, header_parts, string_parts, attribute_parts, former_parts, with_count, with_optional, cut_entry, sections_of}
use Rattle.sections.specs.Laid.{Spans, IsPart, AreParts, SectionsTold}

-- one more section behind those that are
one_more : (e : Bor (List ℕ)) (r : AdsSymbolInfo) (xs : List Section) (x : Section) → AreParts e r xs → IsPart e r x.part x.at x.bytes → AreParts e r (xs ++ (x ∷ []))
one_more e r [] x all h = (h, tt)
one_more e r (y ∷ ys) x all h = (all.0, one_more e r ys x all.1 h)

-- what was cut off is what it is told as, and the next section begins at a place
pub record Stands (e : Bor (List ℕ)) (r : AdsSymbolInfo) (at : ℕ) (c : Cut) : Type 0 where
  pub own : c.own ≡ e
  pub here : c.at ≡ at
  pub parts : AreParts e r c.all

stands_by : (e : Bor (List ℕ)) (r : AdsSymbolInfo) (at to : ℕ) (p : Part) (n : ℕ) (c : Cut) → Stands e r at c → to ≡ at + n → 0 < n → IsPart e r p at (part e at n) → (b : Bool) → eqb n 0 ≡ b
    → Stands e r to (if b then c else record { own = c.own; all = c.all ++ (record { part = p; at = c.at; bytes = part c.own c.at n } ∷ []); at = c.at + n })
stands_by e r at to p n c g is some h true z = absurd (grind arith)
stands_by e r at to p n c g is some h false z =
    let same : part e at n ≡ part c.own c.at n = ap₂ (λ (q : Bor (List ℕ)) (k : ℕ). part q k n) (sym g.own) (sym g.here) in
    record {
      own = g.own;
      here = omega (arith, g.here);
      parts = one_more e r c.all _ g.parts (subst (λ (q : Bor (List ℕ)). IsPart e r p c.at q) same (subst (λ (k : ℕ). IsPart e r p k (part e at n)) (sym g.here) h));
    }

-- a section with room
cut_stands : (e : Bor (List ℕ)) (r : AdsSymbolInfo) (at to : ℕ) (p : Part) (n : ℕ) (c : Cut) → Stands e r at c → to ≡ at + n → 0 < n → at + n ≤ length e.now → IsPart e r p at (part e at n)
    → Stands e r to (cut p n c)
unfolding cut
cut_stands e r at to p n c g is some room h =
    let l : length c.own.now ≡ length e.now = ap (λ (q : Bor (List ℕ)). length q.now) g.own in
    let m : n ≡ min n (length c.own.now - c.at) = omega (arith, g.here) in
    subst (λ (k : ℕ). Stands e r to (cut_off p k c)) m (stands_by e r at to p n c g is some h _ refl)

-- a section whose place is by the header alone
spans : (e : Bor (List ℕ)) (at n : ℕ) → at + n ≤ length e.now → Spans at (part e at n) at n
spans e at n room = (refl, length_part e at n room)

header_stands : (e : Bor (List ℕ)) (r : AdsSymbolInfo) (c : Cut) → 30 ≤ length e.now → Stands e r 0 c → Stands e r 30 (cut_all header_parts c)
header_stands e r c room g =
    let a = cut_stands e r 0 4 Length 4 c g refl (lit< tt) (omega arith) (spans e 0 4 (omega arith)) in
    let b = cut_stands e r 4 8 Group 4 _ a refl (lit< tt) (omega arith) (spans e 4 4 (omega arith)) in
    let d = cut_stands e r 8 12 Offset 4 _ b refl (lit< tt) (omega arith) (spans e 8 4 (omega arith)) in
    let f = cut_stands e r 12 16 Size 4 _ d refl (lit< tt) (omega arith) (spans e 12 4 (omega arith)) in
    let h = cut_stands e r 16 20 TypeId 4 _ f refl (lit< tt) (omega arith) (spans e 16 4 (omega arith)) in
    let i = cut_stands e r 20 22 Flags 2 _ h refl (lit< tt) (omega arith) (spans e 20 2 (omega arith)) in
    let j = cut_stands e r 22 24 High 2 _ i refl (lit< tt) (omega arith) (spans e 22 2 (omega arith)) in
    cut_stands e r 24 30 StringLengths 6 _ j refl (lit< tt) (omega arith) (spans e 24 6 (omega arith))

-- a part that spans so many bytes from a place, however these are counted
spans_at : (e : Bor (List ℕ)) (at n from m : ℕ) → at + n ≤ length e.now → at ≡ from → n ≡ m → Spans at (part e at n) from m
spans_at e at n from m room a b = (a, length_part e at n room ∙ b)

strings_stand : (e : Bor (List ℕ)) (r : AdsSymbolInfo) (c : Cut) → IsInside e r → Stands e r 30 c → Stands e r (symbol.behind_strings r) (cut_all (string_parts r) c)
strings_stand e r c i g =
    let n = length r.name.now in
    let t = length r.type_name.now in
    let k = length r.comment.now in
    let room : 33 + n + t + k ≤ length e.now = omega (arith, i.comment.within) in
    let a = cut_stands e r 30 (31 + n) Name (n + 1) c g (omega arith) (omega arith) (omega arith) (spans_at e 30 (n + 1) 30 (le2 e.now 24 + 1) (omega arith) refl (omega (arith, i.name_length))) in
    let b = cut_stands e r (31 + n) (32 + n + t) «Type» (t + 1) _ a (omega arith) (omega arith) (omega arith)
    (spans_at e (31 + n) (t + 1) (31 + le2 e.now 24) (le2 e.now 26 + 1) (omega arith) (omega (arith, i.name_length)) (omega (arith, i.type_name_length))) in
    cut_stands e r (32 + n + t) (33 + n + t + k) Comment (k + 1) _ b (omega arith) (omega arith) (omega arith)
    (spans_at e (32 + n + t) (k + 1) (32 + le2 e.now 24 + le2 e.now 26) (le2 e.now 28 + 1) (omega arith) (omega (arith, i.name_length, i.type_name_length)) (omega (arith, i.comment_length)))

-- where something is there, its bit is set and there is room
there_room : (e : Bor (List ℕ)) (bit at size : ℕ) → is_there e bit at size ≡ true → 0 < size → at + size ≤ length e.now
there_room e bit at size h some = grind arith

guid_by : (e : Bor (List ℕ)) (r : AdsSymbolInfo) (c : Cut) → IsInside e r → Stands e r (symbol.behind_strings r) c → (b : Bool) → is_there e 0x0008 (symbol.behind_strings r) 16 ≡ b
    → r.guid ≡ (if b then Some (take 16 (drop (symbol.behind_strings r) e.now)) else None)
    → Stands e r (behind_guid r) (with_optional Guid 16 (is_some r.guid) c)
guid_by e r c i g true b h =
    let at : ℕ = symbol.behind_strings r in
    let room = there_room e 0x0008 at 16 b (lit< tt) in
    let some : is_some r.guid ≡ true = rw h refl in
    rw some (cut_stands e r at (at + 16) Guid 16 c g refl (lit< tt) room
    (h, (omega (arith, i.name_length, i.type_name_length, i.comment_length), length_part e at 16 room)))
guid_by e r c i g false b h =
    let none : is_some r.guid ≡ false = rw h refl in
    rw none (record { own = g.own; here = omega (arith, g.here); parts = g.parts })

count_by : (e : Bor (List ℕ)) (r : AdsSymbolInfo) (c : Cut) → IsInside e r → Stands e r (behind_guid r) c
    → (f b : Bool) → has r.flags.0 attributes_flag ≡ f → leb 2 (length e.now - behind_guid r) ≡ b
    → rest_at e r.attributes.bytes ≡ behind_guid r + (if (if f then b else false) then 2 else 0)
    → Stands e r (rest_at e r.attributes.bytes) (if f then if b then cut AttributeCount 2 c else c else c)
count_by e r c i g true true f b h =
    let room : 2 ≤ length e.now - behind_guid r = leb-true 2 (length e.now - behind_guid r) b in
    let l = length_part e (behind_guid r) 2 (omega arith) in
    cut_stands e r (behind_guid r) (rest_at e r.attributes.bytes) AttributeCount 2 c g h (lit< tt) (omega arith) (l, h)
count_by e r c i g true false f b h = record { own = g.own; here = omega (arith, g.here, h); parts = g.parts }
count_by e r c i g false b f z h = record { own = g.own; here = omega (arith, g.here, h); parts = g.parts }

count_stands : (e : Bor (List ℕ)) (r : AdsSymbolInfo) (c : Cut) → IsInside e r → Stands e r (behind_guid r) c → Stands e r (rest_at e r.attributes.bytes) (with_count r c)
count_stands e r c i g =
    let l : length c.own.now ≡ length e.now = ap (λ (q : Bor (List ℕ)). length q.now) g.own in
    let m : length e.now - behind_guid r ≡ length c.own.now - c.at = omega (arith, g.here) in
    let h : rest_at e r.attributes.bytes ≡ behind_guid r + (if (if has r.flags.0 attributes_flag then leb 2 (length e.now - behind_guid r) else false) then 2 else 0) = rw i.flags i.attributes_at in
    subst (λ (k : ℕ). Stands e r (rest_at e r.attributes.bytes) (if has r.flags.0 attributes_flag then if leb 2 k then cut AttributeCount 2 c else c else c)) m
    (count_by e r c i g _ _ refl refl h)

-- the one behind those before it has their number
seam : {X : Type 0} (all before : List X) (a : X) (more : List X) (k : ℕ) → k ≡ length before → all ≡ before ++ (a ∷ more) → slice_get all k ≡ Some a
seam all before a more k e h =
    rw (h, e) (slice_get-get_or (before ++ (a ∷ more)) (length before) a (simp length-append (omega arith)) ∙ ap Some (get_or-append_seam before a more a))

attributes_stand : (e : Bor (List ℕ)) (r : AdsSymbolInfo) (k at : ℕ) (before more : List AdsAttribute) (to : ℕ) (c : Cut) → k ≡ length before → attribute.left r.attributes ≡ before ++ more
    → AttributesLie e at more to → Stands e r at c → Stands e r to (cut_all (attribute_parts k more) c)
attributes_stand e r k at before [] to c z all lie g = subst (λ (q : ℕ). Stands e r q c) lie g
attributes_stand e r k at before (a ∷ more) to c z all lie g =
    let n : ℕ = length a.name.now + length a.value.now + 4 in
    let next : ℕ = at + 2 + length a.name.now + 1 + length a.value.now + 1 in
    let room : at + n ≤ length e.now = omega (arith, lie.1.within) in
    let long : length (part e at n).now ≡ 2 + length a.name.now + 1 + length a.value.now + 1 = length_part e at n room ∙ omega arith in
    let d = cut_stands e r at next (Attribute k) n c g (omega arith) (omega arith) room (a, seam (attribute.left r.attributes) before a more k z all, record { name = lie.0; value = lie.1; long = long }) in
    attributes_stand e r (k + 1) next (before ++ (a ∷ [])) more to _ (simp length-append (omega arith)) (all ∙ sym (append_assoc before (a ∷ []) more)) lie.2 d

former_names_stand : (e : Bor (List ℕ)) (r : AdsSymbolInfo) (k at : ℕ) (before more : List AdsRefactorInfo) (to : ℕ) (c : Cut) → k ≡ length before → refactor.left r.refactor_infos ≡ before ++ more
    → RefactorsLie e at more to → Stands e r at c → Stands e r to (cut_all (former_parts k more) c)
former_names_stand e r k at before [] to c z all lie g = subst (λ (q : ℕ). Stands e r q c) lie g
former_names_stand e r k at before (f ∷ more) to c z all lie g =
    let n : ℕ = length f.name.now + 7 in
    let next : ℕ = at + 6 + length f.name.now + 1 in
    let room : at + n ≤ length e.now = omega (arith, lie.0.within) in
    let long : length (part e at n).now ≡ 6 + length f.name.now + 1 = length_part e at n room ∙ omega arith in
    let d = cut_stands e r at next (FormerName k) n c g (omega arith) (omega arith) room (f, seam (refactor.left r.refactor_infos) before f more k z all, record { name = lie.0; long = long }) in
    former_names_stand e r (k + 1) next (before ++ (f ∷ [])) more to _ (simp length-append (omega arith)) (all ∙ sym (append_assoc before (f ∷ []) more)) lie.1 d

byte_of : (s : List ℕ) (at n k : ℕ) → k < n → get_or (take n (drop at s)) k 0 ≡ get_or s (at + k) 0
byte_of s at n k h = get_or-take n (drop at s) k 0 h ∙ get_or-drop at s k 0

pub le4_of : (s : List ℕ) (at : ℕ) → le4 (take 4 (drop at s)) 0 ≡ le4 s at
unfolding le4
le4_of s at = simp (byte_of s at 4 0 (lit< tt), byte_of s at 4 1 (lit< tt), byte_of s at 4 2 (lit< tt), byte_of s at 4 3 (lit< tt), add-zero)

pub le2_of : (s : List ℕ) (at : ℕ) → le2 (take 2 (drop at s)) 0 ≡ le2 s at
unfolding le2
le2_of s at = simp (byte_of s at 2 0 (lit< tt), byte_of s at 2 1 (lit< tt), add-zero)

extended_by : (e : Bor (List ℕ)) (r : AdsSymbolInfo) (at to : ℕ) (c : Cut) → Stands e r at c → (b : Bool) → is_there e 0x8000 at 4 ≡ b
    → r.extended_flags ≡ (if b then Some (record { 0 = le4 e.now at }) else None) → to ≡ at + (if is_some r.extended_flags then 4 else 0)
    → Stands e r to (with_optional ExtendedFlags 4 (is_some r.extended_flags) c)
extended_by e r at to c g true b h z =
    let room = there_room e 0x8000 at 4 b (lit< tt) in
    let some : is_some r.extended_flags ≡ true = rw h refl in
    let told : r.extended_flags ≡ Some (record { 0 = le4 (part e at 4).now 0 }) = h ∙ ap (λ (w : ℕ). Some (record { 0 = w })) (sym (le4_of e.now at)) in
    rw some (cut_stands e r at to ExtendedFlags 4 c g (rw some at z) (lit< tt) room (length_part e at 4 room, told))
extended_by e r at to c g false b h z =
    let none : is_some r.extended_flags ≡ false = rw h refl in
    let same : to ≡ at + 0 = rw none at z in
    rw none (record { own = g.own; here = omega (arith, g.here, same); parts = g.parts })

-- all that is left is what is unread
rest_is : (e : Bor (List ℕ)) (at n : ℕ) → n ≡ length e.now - at → part e at n ≡ after e at
rest_is e at n h = ap (λ (xs : List ℕ). record { ref_ptr = (e.ref_ptr.0, e.ref_ptr.1 + at); now = xs }) (take_all n (drop at e.now) (simp length-drop (omega arith)))

unread_by : (e : Bor (List ℕ)) (r : AdsSymbolInfo) (c : Cut) → IsEnd e r.unread → Stands e r (rest_at e r.unread) c → (n : ℕ) → n ≡ length e.now - rest_at e r.unread → (b : Bool) → eqb n 0 ≡ b
    → AreParts e r (if b then c else record { own = c.own; all = c.all ++ (record { part = Unread; at = c.at; bytes = part c.own c.at n } ∷ []); at = c.at + n }).all
unread_by e r c u g n is true z = g.parts
unread_by e r c u g n is false z =
    let same : part c.own c.at n ≡ part e (rest_at e r.unread) n = ap₂ (λ (q : Bor (List ℕ)) (k : ℕ). part q k n) g.own g.here in
    one_more e r c.all _ g.parts (same ∙ rest_is e (rest_at e r.unread) n is ∙ sym u.is)

unread_stands : (e : Bor (List ℕ)) (r : AdsSymbolInfo) (c : Cut) → IsEnd e r.unread → Stands e r (rest_at e r.unread) c → AreParts e r (cut Unread (length c.own.now) c).all
unfolding cut
unread_stands e r c u g =
    let l : length c.own.now ≡ length e.now = ap (λ (q : Bor (List ℕ)). length q.now) g.own in
    unread_by e r c u g (min (length c.own.now) (length c.own.now - c.at)) (omega (arith, g.here)) _ refl

from_start : (e : Bor (List ℕ)) (r : AdsSymbolInfo) → Stands e r 0 (record { own = e; all = []; at = 0 })
from_start e r = record { own = refl; here = refl; parts = tt }

pub sections_told : SectionsTold
unfolding sections_of cut_entry
sections_told mode e r h =
    let i = symbols_inside mode e r h in
    let strings = strings_stand e r _ i (header_stands e r _ (omega (arith, i.comment.within)) (from_start e r)) in
    let count = count_stands e r _ i (guid_by e r _ i strings _ refl i.guid) in
    let attributes = attributes_stand e r 0 _ [] _ _ _ refl refl i.attributes count in
    let extended = extended_by e r _ _ _ attributes _ refl i.extended_flags i.chain_at in
    let names = former_names_stand e r 0 _ [] _ _ _ refl refl i.refactor_infos extended in
    unread_stands e r _ i.unread names
