-- What the members of a data type are, and that all ways to ask for them tell the same.
use Rattle.std.proofs.Common.{ℕ, zero, suc, ◌+◌, ◌-◌, ◌*◌, ◌≤◌, ◌≡◌, refl, sym, ap, subst, ◌∙◌, List, [], ◌∷◌, length, take, drop, arith}
use Rattle.std.specs.Prelude.{Some, None, slice_get}
use Rattle.le.specs.Le.{le4}
use Rattle.part.specs.Slice.{part}
use Rattle.data_type.specs.declared.members.Member.{Member}
use Rattle.data_type.specs.DataType.{type_of}
use Rattle.data_type.specs.Kind.{at_long}
use Rattle.data_type.specs.Members.{root, place_of, members_of}
use Rattle.data_type.specs.List.{slots_of}
use Rattle.data_type.specs.Meaning.{offsets_at, IsAt, Between, TypesMeant}
use Rattle.part.proofs.Slice.{length_part}
use Rattle.data_type.proofs.Parsed.{meets, parsed}
use Rattle.data_type.proofs.Inside.{holds, all_of, counted}
use Rattle.data_type.proofs.Listed.{three_each}
use Rattle.data_type.proofs.Numbers.{le2_part}
use Rattle.data_type.proofs.Each.{each_get, sooner}
use Rattle.data_type.proofs.Paths.{PathsIn, paths_none, paths_more}
use Rattle.data_type.proofs.Laid as Laid
use Rattle.data_type.proofs.Laid.{behind_arrays, within_own, LaidIn, laid_none, laid_more}

root_at : (s : List ℕ) → IsAt s root
unfolding offsets_at
root_at s = record { long = refl; least = omega arith; zeros = refl; sum = refl }

-- the slots of a member, by its number
slots_at : (ms : List Member) (k : ℕ) (m : Member) → slice_get ms k ≡ Some m → take 3 (drop (3 * k) (slots_of ms)) ≡ place_of m.position ∷ m.position.depth ∷ m.position.offset ∷ []
unfolding slots_of
slots_at [] k m h = cc h
slots_at (x ∷ ms) zero m h = let s : x ≡ m = cc h in ap (λ (y : Member). place_of y.position ∷ y.position.depth ∷ y.position.offset ∷ []) s
slots_at (x ∷ ms) (suc k) m h = let n : 3 * suc k ≡ suc (suc (suc (3 * k))) = omega arith in simp n (slots_at ms k m h)

past_all : (ms : List Member) (k : ℕ) → length ms ≤ k → slice_get ms k ≡ None
past_all [] k h = refl
past_all (m ∷ ms) zero h = absurd (omega arith)
past_all (m ∷ ms) (suc k) h = past_all ms k (omega arith)

pub types_meant : TypesMeant
types_meant mode s r h =
    let p = parsed (type_of mode) s r h in
    let w = meets s.now p.size p.claims in
    let ws = w.small in
    let wr = w.room in
    let wc = w.claims in
    let n : length (part s 0 p.size).now ≡ p.size = length_part s 0 p.size (omega arith) in
    let long : r.field.length ≡ p.size = at_long mode 15 (part s 0 p.size) r p.entry ∙ n in
    let b = behind_arrays mode 15 (part s 0 p.size) r p.entry in
    let bs = b.some in
    let br = b.room in
    let o = holds mode 15 (part s 0 p.size) r p.entry in
    let whole : le4 s.now 0 ≤ length s.now = omega arith in
    let z : 0 + p.size ≡ r.field.length = omega arith in
    let inside = within_own mode s ws whole 0 p.size b.from (part s 0 p.size) r.sub_items.bytes refl (omega arith) (omega arith) b.is in
    let l = all_of mode (LaidIn mode s ws whole) (laid_none mode s ws whole) (laid_more mode s ws whole) 15 r.sub_items.count root r.field.length r.sub_items.bytes o.items refl o.read (root_at s.now)
    (subst (λ (e : ℕ). Laid.Within mode s ws whole r.sub_items.bytes e) z inside.0) in
    let il = inside.1 in
    let c : r.member_count ≡ length (members_of r) = sym (counted mode (part s 0 p.size) r p.entry) in
    let size : r.field.length ≡ le4 s.now 0 = omega arith in
    record {
      arrays = b.arrays ∙ le2_part s.now 0 p.size 38 (omega (arith, w.least));
      items = b.items ∙ le2_part s.now 0 p.size 40 (omega (arith, w.least));
      among = l.counts ∙ b.items ∙ le2_part s.now 0 p.size 40 (omega (arith, w.least));
      counted = c;
      order = subst (λ (e : ℕ). Between 1 e (members_of r)) size (sooner (r.field.length - length r.sub_items.bytes.now) 1 r.field.length (members_of r) (omega arith) l.order);
      stands = each_get l.each;
      path = λ k m x i y.
          let q = all_of mode PathsIn paths_none (paths_more mode) 15 r.sub_items.count root r.field.length r.sub_items.bytes o.items refl o.read (omega (arith, il)) refl (omega arith) k m x in
          q.lies i (omega arith) y;
      slots = slots_of (members_of r);
      written = simp h;
      all = three_each mode s r h;
      asked = λ k m x. record { answer = simp x; listed = slots_at (members_of r) k m x };
      past = λ k x. let e : slice_get (members_of r) k ≡ None = past_all (members_of r) k (omega arith) in simp e;
    }
