-- Sections that are cut off follow one another without a gap: proved.
use Rattle.std.proofs.Common.{ℕ, ◌+◌, ◌-◌, ◌<◌, ◌≤◌, ◌≡◌, ◌^◌, Bool, true, false, List, [], ◌∷◌, ◌++◌, length, take, drop, refl, sym, ap, ap₂, subst, ◌∙◌, append_assoc, drop-drop, arith, Bor}
use Rattle.std.specs.Prelude.{eqb, min, is_some, if◌then◌else◌}
use Rattle.std.specs.List.{flat_map}
use Rattle.std.proofs.lemmas.List.{append-nil, drop_all, take-append-drop}
use borrow.Author.Tests.{eqb-true, eqb-false}
use Rattle.part.specs.Slice.{part}
use Rattle.part.proofs.Slice.{length_part}
use Rattle.attribute.specs.Attribute as attribute
use Rattle.attribute.specs.declared.AdsAttribute.{AdsAttribute}
use Rattle.refactor.specs.Refactor as refactor
use Rattle.symbol.specs.declared.AdsSymbolInfo.{AdsSymbolInfo}
use Rattle.sections.specs.declared.Part.{Part}
use Rattle.sections.specs.declared.Part.TheVariants.{Attribute, AttributeCount, ExtendedFlags, Guid, Unread}
use Rattle.sections.specs.declared.Section.{Section}
use Rattle.sections.specs.Sections.{own_bytes, Cut, cut, cut_off, cut_all, header_parts, string_parts, attribute_size, attribute_parts, former_parts, with_count, with_optional, cut_entry, sections_of}
use Rattle.sections.specs.Laid.{LaidOut, SectionsLaid}

-- what counts is how many bytes are left
pub cut_same : (p : Part) (n m : ℕ) (c : Cut) → min n (length c.own.now - c.at) ≡ min m (length c.own.now - c.at) → cut p n c ≡ cut p m c
unfolding cut
cut_same p n m c h = ap (λ (k : ℕ). cut_off p k c) h

-- more than a number holds is more than there is
pub cut_most : (p : Part) (n : ℕ) (c : Cut) → length c.own.now < 2 ^ 64 → cut p (min n (2 ^ 64 - 1)) c ≡ cut p n c
cut_most p n c h = cut_same p (min n (2 ^ 64 - 1)) n c (omega arith)

-- a turn of the attributes
pub attribute_turn : (k next : ℕ) (a : AdsAttribute) (more : List AdsAttribute) (c d : Cut) (n : ℕ) → next ≡ k + 1
    → min n (length c.own.now - c.at) ≡ min (attribute_size a) (length c.own.now - c.at) → d ≡ cut (Attribute k) n c
    → cut_all (attribute_parts next more) d ≡ cut_all (attribute_parts k (a ∷ more)) c
attribute_turn k next a more c d n e m h =
    ap₂ (λ (q : ℕ) (u : Cut). cut_all (attribute_parts q more) u) e (h ∙ cut_same (Attribute k) n (attribute_size a) c m)

-- what was cut off reaches to a place: with whatever lies behind that, it lies from the first byte on
pub record Reaches (e : Bor (List ℕ)) (c : Cut) : Type 0 where
  pub own : c.own ≡ e
  pub within : c.at ≤ length e.now
  pub lies : (more : List Section) → LaidOut e c.at more → LaidOut e 0 (c.all ++ more)

cut_one : (e : Bor (List ℕ)) (p : Part) (n : ℕ) (c : Cut) → Reaches e c → 0 < n → n ≤ length e.now - c.at
    → Reaches e (record { own = c.own; all = c.all ++ (record { part = p; at = c.at; bytes = part c.own c.at n } ∷ []); at = c.at + n })
cut_one e p n c g some room =
    let b : Bor (List ℕ) = part c.own c.at n in
    let l : length b.now ≡ n = length_part c.own c.at n (omega (arith, ap (λ (q : Bor (List ℕ)). length q.now) g.own, g.within)) in
    record {
      own = g.own;
      within = omega (arith, g.within);
      lies = λ more h. rw append_assoc (g.lies (record { part = p; at = c.at; bytes = b } ∷ more)
          (refl, omega arith, ap₂ (λ (q : Bor (List ℕ)) (k : ℕ). part q c.at k) g.own (sym l), subst (λ k. LaidOut e (c.at + k) more) (sym l) h));
    }

cut_by : (e : Bor (List ℕ)) (p : Part) (n : ℕ) (c : Cut) → Reaches e c → n ≤ length e.now - c.at → (b : Bool) → eqb n 0 ≡ b
    → Reaches e (if b then c else record { own = c.own; all = c.all ++ (record { part = p; at = c.at; bytes = part c.own c.at n } ∷ []); at = c.at + n })
cut_by e p n c g room true z = g
cut_by e p n c g room false z = let some : n ≡ 0 → ⊥ = eqb-false n 0 z in cut_one e p n c g (omega arith) room

pub cut_reaches : (e : Bor (List ℕ)) (p : Part) (n : ℕ) (c : Cut) → Reaches e c → Reaches e (cut p n c)
unfolding cut
cut_reaches e p n c g =
    let l : length c.own.now ≡ length e.now = ap (λ (q : Bor (List ℕ)). length q.now) g.own in
    cut_by e p (min n (length c.own.now - c.at)) c g (omega arith) _ refl

all_reaches : (e : Bor (List ℕ)) (ps : List (Part × ℕ)) (c : Cut) → Reaches e c → Reaches e (cut_all ps c)
all_reaches e [] c g = g
all_reaches e (p ∷ more) c g = all_reaches e more (cut p.0 p.1 c) (cut_reaches e p.0 p.1 c g)

if_reaches : (e : Bor (List ℕ)) (b : Bool) (c d : Cut) → Reaches e c → Reaches e d → Reaches e (if b then c else d)
if_reaches e true c d g h = g
if_reaches e false c d g h = h

count_reaches : (e : Bor (List ℕ)) (r : AdsSymbolInfo) (c : Cut) → Reaches e c → Reaches e (with_count r c)
count_reaches e r c g = if_reaches e _ _ c (if_reaches e _ _ c (cut_reaches e AttributeCount 2 c g) g) g

optional_reaches : (e : Bor (List ℕ)) (p : Part) (n : ℕ) (there : Bool) (c : Cut) → Reaches e c → Reaches e (with_optional p n there c)
optional_reaches e p n there c g = if_reaches e there _ c (cut_reaches e p n c g) g

-- all that is left reaches to the end
end_by : (e : Bor (List ℕ)) (p : Part) (c : Cut) → Reaches e c → (n : ℕ) → n ≡ length e.now - c.at → (b : Bool) → eqb n 0 ≡ b
    → (if b then c else record { own = c.own; all = c.all ++ (record { part = p; at = c.at; bytes = part c.own c.at n } ∷ []); at = c.at + n }).at ≡ length e.now
end_by e p c g n is true z = let none : n ≡ 0 = eqb-true n 0 z in let w = g.within in omega arith
end_by e p c g n is false z = let w = g.within in omega arith

cut_to_end : (e : Bor (List ℕ)) (p : Part) (c : Cut) → Reaches e c → (cut p (length c.own.now) c).at ≡ length e.now
unfolding cut
cut_to_end e p c g =
    let l : length c.own.now ≡ length e.now = ap (λ (q : Bor (List ℕ)). length q.now) g.own in
    end_by e p c g (min (length c.own.now) (length c.own.now - c.at)) (omega arith) _ refl

bytes_split : (s : List ℕ) (at n : ℕ) → take n (drop at s) ++ drop (at + n) s ≡ drop at s
bytes_split s at n = ap (λ (l : List ℕ). take n (drop at s) ++ l) (sym (drop-drop n at s)) ∙ take-append-drop n (drop at s)

-- sections that lie so have the bytes from there on
laid_whole : (e : Bor (List ℕ)) (at : ℕ) (all : List Section) → LaidOut e at all → flat_map own_bytes all ≡ drop at e.now
laid_whole e at [] h = sym (drop_all at e.now (omega arith))
laid_whole e at (x ∷ more) h =
    ap₂ (λ (p q : List ℕ). p ++ q) (ap (λ (q : Bor (List ℕ)). q.now) h.2) (laid_whole e (at + length x.bytes.now) more h.3) ∙ bytes_split e.now at (length x.bytes.now)

from_start : (e : Bor (List ℕ)) → Reaches e (record { own = e; all = []; at = 0 })
from_start e = record { own = refl; within = omega arith; lies = λ more h. h }

laid : (e : Bor (List ℕ)) (r : AdsSymbolInfo) → LaidOut e 0 (sections_of e r)
unfolding sections_of cut_entry
laid e r =
    let strings = all_reaches e (string_parts r) _ (all_reaches e header_parts _ (from_start e)) in
    let count = count_reaches e r _ (optional_reaches e Guid 16 (is_some r.guid) _ strings) in
    let attributes = all_reaches e (attribute_parts 0 (attribute.left r.attributes)) _ count in
    let names = all_reaches e (former_parts 0 (refactor.left r.refactor_infos)) _ (optional_reaches e ExtendedFlags 4 (is_some r.extended_flags) _ attributes) in
    let g = cut_reaches e Unread _ _ names in
    let P : List Section → Type 0 = λ xs. LaidOut e 0 xs in
    subst P (append-nil _) (g.lies [] (cut_to_end e Unread _ names))

pub sections_whole : (e : Bor (List ℕ)) (r : AdsSymbolInfo) → flat_map own_bytes (sections_of e r) ≡ e.now
sections_whole e r = laid_whole e 0 (sections_of e r) (laid e r)

pub sections_laid : SectionsLaid
sections_laid e r = record { laid = laid e r; whole = sections_whole e r }
