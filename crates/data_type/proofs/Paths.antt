-- What a member lies in, depth by depth, and that its path tells the places of these.
use Rattle.std.proofs.Common.{ℕ, zero, suc, ◌+◌, ◌-◌, ◌<◌, ◌≤◌, ◌≡◌, refl, sym, ap, subst, ◌∙◌, Bool, true, false, List, [], ◌∷◌, ◌++◌, length, set, get_or, arith, Bor, length-drop, length-set}
use Rattle.std.specs.Prelude.{ltb, Some, slice_get, Ok}
use borrow.Author.Tests.{ltb-true, ltb-false}
use Rattle.refusal.specs.declared.Mode.{Mode}
use Rattle.le.specs.Le.{le4}
use Rattle.data_type.specs.declared.members.Member.{Member}
use Rattle.data_type.specs.declared.members.Position.{Position}
use Rattle.data_type.specs.declared.reader.SubItemsRead.{SubItemsRead}
use Rattle.data_type.specs.DataType.{items_from, item_at}
use Rattle.data_type.specs.Members.{place_of}
use Rattle.data_type.specs.Meaning.{LiesIn}
use Rattle.data_type.specs.Stand.{under}
use Rattle.part.proofs.Slice.{length_part}
use Rattle.data_type.proofs.Fronts.{below_is}
use Rattle.data_type.proofs.Stands.{took}
use Rattle.data_type.proofs.Inside.{Turn, here}
use Rattle.data_type.proofs.Laid.{behind_arrays}
use Rattle.data_type.proofs.Each.{get_set}

-- numbers in two lists, one behind the other
get_right : (xs ys : List Member) (j : ℕ) → slice_get (xs ++ ys) (length xs + j) ≡ slice_get ys j
get_right [] ys j = ap (slice_get ys) (omega arith)
get_right (x ∷ xs) ys j = let n : suc (length xs) + j ≡ suc (length xs + j) = omega arith in ap (slice_get (x ∷ (xs ++ ys))) n ∙ get_right xs ys j

get_left : (xs ys : List Member) (j : ℕ) → j < length xs → slice_get (xs ++ ys) j ≡ slice_get xs j
get_left [] ys j h = absurd (omega arith)
get_left (x ∷ xs) ys zero h = refl
get_left (x ∷ xs) ys (suc j) h = get_left xs ys j (omega arith)

get_short : (xs : List Member) (k : ℕ) (m : Member) → slice_get xs k ≡ Some m → k < length xs
get_short [] k m h = cc h
get_short (x ∷ xs) zero m h = omega arith
get_short (x ∷ xs) (suc k) m h = let l = get_short xs k m h in omega arith

get_past : (xs : List ℕ) (i j x : ℕ) → i < j → get_or (set xs j x) i 0 ≡ get_or xs i 0
get_past [] i j x h = refl
get_past (y ∷ xs) zero zero x h = absurd (omega arith)
get_past (y ∷ xs) zero (suc j) x h = refl
get_past (y ∷ xs) (suc i) zero x h = absurd (omega arith)
get_past (y ∷ xs) (suc i) (suc j) x h = get_past xs i j x (omega arith)

-- of one member of some that stand below a position and between two places
pub record Below (above : Position) (from end : ℕ) (ms : List Member) (k : ℕ) (m : Member) : Type 0 where
  pub deep : above.depth < m.position.depth
  pub begins : from ≤ place_of m.position
  pub ends : place_of m.position + length m.own.now ≤ end
  pub agree : (i : ℕ) → i + 1 < above.depth → get_or m.position.path i 0 ≡ get_or above.path i 0
  pub lies : (i : ℕ) → above.depth ≤ i + 1 → i + 2 ≤ m.position.depth → LiesIn ms k m i

abbrev pub PathsIn : Position → ℕ → Bor (List ℕ) → ℕ → SubItemsRead → List Member → Type 0
PathsIn above end s n items ms = length s.now ≤ end → length above.path ≡ 15 → 1 ≤ above.depth → (k : ℕ) (m : Member) → slice_get ms k ≡ Some m → Below above (end - length s.now) end ms k m

pub paths_none : (above : Position) (end : ℕ) (s : Bor (List ℕ)) → PathsIn above end s 0 (record { rest = s; members = 0 }) []
paths_none above end s h l d k m g = cc g

-- what holds in a part of a list
module _ (sub ms : List Member) (c : ℕ) (same : (j : ℕ) → j < length sub → slice_get ms (c + j) ≡ slice_get sub j) (k : ℕ) (m : Member) (short : k < length sub) (i : ℕ) (x : LiesIn sub k m i) where
  shifted : LiesIn ms (c + k) m i
  shifted =
      let met = x.met in
      record {
        number = c + x.number;
        member = x.member;
        is = same x.number (omega arith) ∙ x.is;
        depth = x.depth;
        met = omega arith;
        last = λ j a h l g.
            let n : c + (j - c) ≡ j = omega arith in
            x.last (j - c) a (omega arith) (omega arith) (sym (same (j - c) (omega arith)) ∙ ap (slice_get ms) n ∙ g);
        place = x.place;
        begins = x.begins;
        ends = x.ends;
      }

-- one, what it holds and what stands behind it
module _ (x : Member) (held rest : List Member) (above : Position) (from middle end : ℕ)
    (deep : x.position.depth ≡ above.depth + 1) (least : 1 ≤ above.depth) (path : x.position.path ≡ set above.path (above.depth - 1) (place_of x.position)) (starts : place_of x.position ≡ from)
    (stops : from + length x.own.now ≡ middle) (fits : middle ≤ end)
    (in_held : (k : ℕ) (m : Member) → slice_get held k ≡ Some m → Below x.position from middle held k m) (in_rest : (k : ℕ) (m : Member) → slice_get rest k ≡ Some m → Below above middle end rest k m) where
  abbrev all : List Member
  all = x ∷ (held ++ rest)

  of_held : (j : ℕ) → j < length held → slice_get all (1 + j) ≡ slice_get held j
  of_held j h = get_right (x ∷ []) (held ++ rest) j ∙ get_left held rest j h

  of_rest : (j : ℕ) → j < length rest → slice_get all (suc (length held) + j) ≡ slice_get rest j
  of_rest j h = get_right (x ∷ held) rest j

  itself : Below above from end all 0 x
  itself =
      record {
        deep = omega (arith, deep);
        begins = omega (arith, starts);
        ends = omega (arith, starts, stops, fits);
        agree = λ i h. ap (λ (p : List ℕ). get_or p i 0) path ∙ get_past above.path i (above.depth - 1) (place_of x.position) (omega arith);
        lies = λ i h l.
            let n : i ≡ x.position.depth - 2 = omega (arith, deep, h, l) in
            record {
              number = 0;
              member = x;
              is = refl;
              depth = omega (arith, deep, h, l);
              met = omega arith;
              last = λ j a b c g. absurd (omega (arith, b, c));
              place = ap (λ (i : ℕ). get_or x.position.path i 0) n;
              begins = omega arith;
              ends = omega arith;
            };
      }

  one_held : (k : ℕ) (m : Member) → slice_get held k ≡ Some m → Below above from end all (1 + k) m
  one_held k m g =
      let b = in_held k m g in
      let s = get_short held k m g in
      let bb = b.begins in
      let be = b.ends in
      record {
        deep = omega (arith, b.deep, deep);
        begins = omega arith;
        ends = omega (arith, fits);
        agree = λ i h. b.agree i (omega (arith, deep)) ∙ ap (λ (p : List ℕ). get_or p i 0) path ∙ get_past above.path i (above.depth - 1) (place_of x.position) (omega arith);
        lies = λ i h l. by b s i h l (ltb above.depth (i + 1)) refl;
      }
    where
      by : Below x.position from middle held k m → k < length held → (i : ℕ) → above.depth ≤ i + 1 → i + 2 ≤ m.position.depth → (c : Bool) → ltb above.depth (i + 1) ≡ c → LiesIn all (1 + k) m i
      by b s i h l true c = let z = ltb-true above.depth (i + 1) c in shifted held all 1 of_held k m s i (b.lies i (omega (arith, deep)) l)
      by b s i h l false c =
          let z = ltb-false above.depth (i + 1) c in
          let n : i ≡ x.position.depth - 2 = omega (arith, deep) in
          record {
            number = 0;
            member = x;
            is = refl;
            depth = omega (arith, deep);
            met = omega arith;
            last = λ j a u v w.
                let q : 1 + (j - 1) ≡ j = omega arith in
                let y : slice_get held (j - 1) ≡ Some a = sym (of_held (j - 1) (omega arith)) ∙ ap (slice_get all) q ∙ w in
                omega (arith, deep, (in_held (j - 1) a y).deep);
            place = b.agree i (omega (arith, deep)) ∙ ap (λ (i : ℕ). get_or x.position.path i 0) n;
            begins = omega (arith, b.begins, starts);
            ends = omega (arith, b.ends, starts, stops);
          }

  one_rest : (k : ℕ) (m : Member) → slice_get rest k ≡ Some m → Below above from end all (suc (length held) + k) m
  one_rest k m g =
      let b = in_rest k m g in
      let s = get_short rest k m g in
      record {
        deep = b.deep;
        begins = omega (arith, b.begins, stops);
        ends = b.ends;
        agree = b.agree;
        lies = λ i h l. shifted rest all (suc (length held)) of_rest k m s i (b.lies i h l);
      }

  one : (k : ℕ) (m : Member) → slice_get all k ≡ Some m → Below above from end all k m
  one zero m g = let z : x ≡ m = cc g in subst (Below above from end all 0) z itself
  one (suc k) m g = by (ltb k (length held)) refl
    where
      by : (b : Bool) → ltb k (length held) ≡ b → Below above from end all (suc k) m
      by true b =
          let l = ltb-true k (length held) b in
          let n : 1 + k ≡ suc k = omega arith in
          subst (λ (j : ℕ). Below above from end all j m) n (one_held k m (sym (of_held k l) ∙ ap (slice_get all) n ∙ g))
      by false b =
          let l = ltb-false k (length held) b in
          let n : suc (length held) + (k - length held) ≡ suc k = omega arith in
          subst (λ (j : ℕ). Below above from end all j m) n (one_rest (k - length held) m (sym (get_right (x ∷ held) rest (k - length held)) ∙ ap (slice_get all) n ∙ g))

module _ (mode : Mode) where
  pub paths_more : (left : ℕ) (s : Bor (List ℕ)) (n : ℕ) (i : SubItemsRead) (t : Turn mode left s n i) (above : Position) (end : ℕ) (inner : SubItemsRead) (held rest : List Member)
      → above.depth + left ≡ 16 → inner.members ≡ t.info.member_count → items_from (item_at mode t.deeper) t.info.sub_items.bytes t.info.sub_items.count ≡ Ok inner
      → PathsIn (here mode left s n i t above end) (end - length s.now + length t.own.now) t.info.sub_items.bytes t.info.sub_items.count inner held
      → PathsIn above end t.behind n t.more rest
      → PathsIn above end s (suc n) i (record { position = here mode left s n i t above end; own = t.own } ∷ (held ++ rest))
  paths_more left s n i t above end inner held rest d c o p q room long least =
      let k = took s t.own t.behind t.takes in
      let kr = k.room in
      let size : ℕ = le4 s.now 0 in
      let place : ℕ = end - length s.now in
      let own : length t.own.now ≡ size = ap (λ (x : Bor (List ℕ)). length x.now) k.own_is ∙ length_part s 0 size (omega arith) in
      let behind : length t.behind.now ≡ length s.now - size = ap (λ (x : Bor (List ℕ)). length x.now) k.behind_is ∙ length-drop size s.now in
      let h : Position = here mode left s n i t above end in
      let is : h ≡ under above place t.info.field.offset = below_is above place t.info.field.offset (omega (arith, t.some)) in
      let deep : h.depth ≡ above.depth + 1 = ap (λ (x : Position). x.depth) is in
      let path : h.path ≡ set above.path (above.depth - 1) place = ap (λ (x : Position). x.path) is in
      let last : above.depth + 1 - 2 ≡ above.depth - 1 = omega (arith, least) in
      let at : place_of h ≡ place =
      ap place_of is ∙ ap (λ (i : ℕ). get_or (set above.path (above.depth - 1) place) i 0) last ∙ get_set above.path (above.depth - 1) place 0 (omega (arith, long, least, t.some)) in
      let b = behind_arrays mode t.deeper t.own t.info t.entry in
      let inner_long : length t.info.sub_items.bytes.now ≤ length t.own.now = omega (arith, ap (λ (x : Bor (List ℕ)). length x.now) b.is, length-drop b.from t.own.now) in
      let paths : length h.path ≡ 15 = ap length path ∙ length-set above.path (above.depth - 1) place ∙ long in
      let first = p (omega arith) paths (omega (arith, deep)) in
      let more = q (omega arith) long least in
      let e : end - length t.behind.now ≡ place + length t.own.now = omega arith in
      one (record { position = h; own = t.own }) held rest above place (place + length t.own.now) end deep least (path ∙ ap (set above.path (above.depth - 1)) (sym at)) at refl (omega arith)
      (λ k m g. let y = first k m g in record { deep = y.deep; begins = omega (arith, y.begins, inner_long); ends = y.ends; agree = y.agree; lies = y.lies })
      (λ k m g. subst (λ (x : ℕ). Below above x end rest k m) e (more k m g))
