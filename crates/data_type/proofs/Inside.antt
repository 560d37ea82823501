-- Sub-items that were read, one by one, and the members that they bring.
use Rattle.std.proofs.Common.{ℕ, zero, suc, ◌+◌, ◌-◌, ◌<◌, ◌≤◌, ◌≡◌, refl, sym, ap, subst, ◌∙◌, List, [], ◌∷◌, ◌++◌, length, arith, Bor, length-append}
use Rattle.std.specs.Prelude.{Ok}
use borrow.Author.Tests.{lt-ltb}
use Rattle.refusal.specs.declared.Mode.{Mode}
use Rattle.refusal.specs.declared.Mode.TheVariants.{Present, Checked}
use Rattle.field.specs.declared.front.Front.{Front}
use Rattle.field.specs.Front.{front_of}
use Rattle.data_type.specs.declared.AdsDataTypeInfo.{AdsDataTypeInfo}
use Rattle.data_type.specs.declared.members.Member.{Member}
use Rattle.data_type.specs.declared.members.Position.{Position}
use Rattle.data_type.specs.declared.reader.SubItemsRead.{SubItemsRead}
use Rattle.data_type.specs.DataType.{taken, items_from, item_at, type_at, type_of}
use Rattle.part.proofs.Outcome.{both_passed}
use Rattle.data_type.specs.Accepted.{Accepted, accepted}
use Rattle.data_type.specs.Members.{root, below, item_in, members_below, members_of}
use Rattle.data_type.proofs.Turns.{type_step, taken_fits}
use Rattle.data_type.proofs.Entry.{fits, arrays_fit}
use Rattle.data_type.proofs.Steps.{none_left, one_left}

-- the first of some sub-items, and those behind it
pub record Turn (mode : Mode) (left : ℕ) (s : Bor (List ℕ)) (n : ℕ) (items : SubItemsRead) : Type 0 where
  pub deeper : ℕ
  pub some : left ≡ suc deeper
  pub own : Bor (List ℕ)
  pub behind : Bor (List ℕ)
  pub info : AdsDataTypeInfo
  pub more : SubItemsRead
  pub takes : taken s ≡ Ok (own, behind)
  pub entry : type_at mode deeper own ≡ Ok info
  pub rest : items_from (item_at mode left) behind n ≡ Ok more
  pub is : record { rest = more.rest; members = 1 + info.member_count + more.members } ≡ items

pub turn : (mode : Mode) (left : ℕ) (s : Bor (List ℕ)) (n : ℕ) (items : SubItemsRead) → items_from (item_at mode left) s (suc n) ≡ Ok items → Turn mode left s n items
unfolding items_from item_at
turn mode zero s n items h = cc
turn mode (suc left) s n items h =
    let p = both_passed (item_at mode (suc left) s) h in
    let t = both_passed (taken s) p.1.0 in
    let i = both_passed (type_at mode left t.0.0) t.1.1 in
    let m = both_passed (items_from (item_at mode (suc left)) p.0.1 n) p.1.1 in
    let e : (i.0, t.0.1) ≡ p.0 = cc i.1.1 in
    record {
      deeper = left;
      some = refl;
      own = t.0.0;
      behind = t.0.1;
      info = i.0;
      more = m.0;
      takes = t.1.0;
      entry = i.1.0;
      rest = ap (λ (x : AdsDataTypeInfo × Bor (List ℕ)). items_from (item_at mode (suc left)) x.1 n) e ∙ m.1.0;
      is = ap (λ (x : AdsDataTypeInfo × Bor (List ℕ)). record { rest = m.0.rest; members = 1 + x.0.member_count + m.0.members }) e ∙ cc m.1.1;
    }

pub accepted_at : (mode : Mode) (left : ℕ) (e : Bor (List ℕ)) (r : AdsDataTypeInfo) → type_at mode left e ≡ Ok r → Accepted mode (item_at mode left) e r
accepted_at mode left e r h = accepted mode (item_at mode left) e r (sym (type_step mode left e) ∙ h)

-- the sub-items of an entry that was read were read
pub record Holds (mode : Mode) (left : ℕ) (r : AdsDataTypeInfo) : Type 0 where
  pub items : SubItemsRead
  pub read : items_from (item_at mode left) r.sub_items.bytes r.sub_items.count ≡ Ok items
  pub count : r.member_count ≡ items.members

pub holds : (mode : Mode) (left : ℕ) (e : Bor (List ℕ)) (r : AdsDataTypeInfo) → type_at mode left e ≡ Ok r → Holds mode left r
holds mode left e r h =
    let a = accepted_at mode left e r h in
    record {
      items = a.items;
      read = subst (λ (x : AdsDataTypeInfo). items_from (item_at mode left) x.sub_items.bytes x.sub_items.count ≡ Ok a.items) a.is a.items_are;
      count = sym (ap (λ (x : AdsDataTypeInfo). x.member_count) a.is);
    }

pub front_present : (mode : Mode) (e : Bor (List ℕ)) (f : Front) → front_of mode e ≡ Ok f → front_of Present e ≡ Ok f
unfolding front_of
front_present Present e f h = h
front_present Checked e f h = grind arith

-- the iterator meets a sub-item that was read as its record says
pub item_is : (mode : Mode) (left : ℕ) (s own behind : Bor (List ℕ)) (info : AdsDataTypeInfo) → taken s ≡ Ok (own, behind) → type_at mode left own ≡ Ok info
    → item_in s ≡ Ok (record { own = own; offset = info.field.offset; sub_items = info.sub_items; behind = behind })
unfolding item_in
item_is mode left s own behind info t h =
    let a = accepted_at mode left own info h in
    let f = front_present mode own a.front a.front_is in
    simp (t, f, a.arrays_are) (ap (λ (x : AdsDataTypeInfo). Ok (record { own = own; offset = x.field.offset; sub_items = x.sub_items; behind = behind })) a.is)

pub below_depth : (p : Position) (place offset : ℕ) → p.depth < 16 → (below p place offset).depth ≡ p.depth + 1
unfolding below
below_depth p place offset h = simp (lt-ltb p.depth 16 h)

-- a sub-item, then its members, then those behind it
module _ (mode : Mode) (left : ℕ) (s : Bor (List ℕ)) (n : ℕ) (items : SubItemsRead) (t : Turn mode left s n items) (above : Position) (end : ℕ) where
  abbrev pub here : Position
  here = below above (end - length s.now) t.info.field.offset

  pub brings : (k : ℕ) → members_below (suc k) above end s (suc n)
      ≡ record { position = here; own = t.own } ∷ (members_below k here (end - length s.now + length t.own.now) t.info.sub_items.bytes t.info.sub_items.count ++ members_below (suc k) above end t.behind n)
  brings k =
      let z : suc n - 1 ≡ n = omega arith in
      one_left above end s k (suc n) _ (λ e. omega (arith, e)) (item_is mode t.deeper s t.own t.behind t.info t.takes t.entry)
      ∙ ap (λ (m : ℕ). record { position = here; own = t.own } ∷ (members_below k here (end - length s.now + length t.own.now) t.info.sub_items.bytes t.info.sub_items.count ++ members_below (suc k) above end t.behind m)) z

-- what holds of no sub-item, and of a sub-item, what it holds and those behind it where it holds of these, holds of all that were read
module _ (mode : Mode) (P : Position → ℕ → Bor (List ℕ) → ℕ → SubItemsRead → List Member → Type 0)
    (none : (above : Position) (end : ℕ) (s : Bor (List ℕ)) → P above end s 0 (record { rest = s; members = 0 }) [])
    (more : (left : ℕ) (s : Bor (List ℕ)) (n : ℕ) (items : SubItemsRead) (t : Turn mode left s n items) (above : Position) (end : ℕ) (inner : SubItemsRead) (held rest : List Member)
    → above.depth + left ≡ 16 → inner.members ≡ t.info.member_count → items_from (item_at mode t.deeper) t.info.sub_items.bytes t.info.sub_items.count ≡ Ok inner
    → P (here mode left s n items t above end) (end - length s.now + length t.own.now) t.info.sub_items.bytes t.info.sub_items.count inner held
    → P above end t.behind n t.more rest
    → P above end s (suc n) items (record { position = here mode left s n items t above end; own = t.own } ∷ (held ++ rest))) where
  below_deeper : (p : Position) (place offset left deeper : ℕ) → left ≡ suc deeper → p.depth + left ≡ 16 → (below p place offset).depth + deeper ≡ 16
  below_deeper p place offset left deeper e h = let d = below_depth p place offset (omega arith) in omega arith

  items_all : (left : ℕ)
      → ((deeper : ℕ) → left ≡ suc deeper → (p : Position) (e : ℕ) (n : ℕ) (s : Bor (List ℕ)) (items : SubItemsRead) → p.depth + deeper ≡ 16 → items_from (item_at mode deeper) s n ≡ Ok items → P p e s n items (members_below deeper p e s n))
      → (n : ℕ) (above : Position) (end : ℕ) (s : Bor (List ℕ)) (items : SubItemsRead) → above.depth + left ≡ 16 → items_from (item_at mode left) s n ≡ Ok items → P above end s n items (members_below left above end s n)
  unfolding items_from
  items_all left each zero above end s items h i =
      let e : record { rest = s; members = 0 } ≡ items = cc i in
      subst (λ (x : SubItemsRead). P above end s 0 x (members_below left above end s 0)) e (subst (λ (ms : List Member). P above end s 0 (record { rest = s; members = 0 }) ms) (sym (none_left above end s left 0 refl)) (none above end s))
  items_all left each (suc n) above end s items h i =
      let t = turn mode left s n items i in
      let o = holds mode t.deeper t.own t.info t.entry in
      let p : Position = here mode left s n items t above end in
      let inner = each t.deeper t.some p (end - length s.now + length t.own.now) t.info.sub_items.count t.info.sub_items.bytes o.items (below_deeper above (end - length s.now) t.info.field.offset left t.deeper t.some h) o.read in
      let rest = items_all left each n above end t.behind t.more h t.rest in
      let m = more left s n items t above end o.items (members_below t.deeper p (end - length s.now + length t.own.now) t.info.sub_items.bytes t.info.sub_items.count) (members_below left above end t.behind n) h (sym o.count) o.read inner rest in
      subst (P above end s (suc n) items) (sym (brings_at left t.deeper t.some s n items t above end)) m
    where
      brings_at : (left k : ℕ) → left ≡ suc k → (s : Bor (List ℕ)) (n : ℕ) (items : SubItemsRead) (t : Turn mode left s n items) (above : Position) (end : ℕ) → members_below left above end s (suc n)
          ≡ record { position = here mode left s n items t above end; own = t.own } ∷ (members_below k (here mode left s n items t above end) (end - length s.now + length t.own.now) t.info.sub_items.bytes t.info.sub_items.count ++ members_below left above end t.behind n)
      brings_at left k e s n items t above end = rw e (brings mode left s n items t above end k)

  pub all_of : (left n : ℕ) (above : Position) (end : ℕ) (s : Bor (List ℕ)) (items : SubItemsRead) → above.depth + left ≡ 16 → items_from (item_at mode left) s n ≡ Ok items → P above end s n items (members_below left above end s n)
  all_of zero n above end s items h i = items_all zero (λ deeper e p f m d r k l. absurd (omega (arith, e))) n above end s items h i
  all_of (suc left) n above end s items h i =
      items_all (suc left) (λ deeper e p f m d r k l.
      let z : deeper ≡ left = omega (arith, e) in
      subst (λ (x : ℕ). P p f d m r (members_below x p f d m)) (sym z) (all_of left m p f d r (ap (λ (x : ℕ). p.depth + x) (sym z) ∙ k) (subst (λ (x : ℕ). items_from (item_at mode x) d m ≡ Ok r) z l))) n above end s items h i

-- as many members as the reading counted
pub counted : (mode : Mode) (e : Bor (List ℕ)) (r : AdsDataTypeInfo) → type_of mode e ≡ Ok r → length (members_of r) ≡ r.member_count
counted mode e r h =
    let o = holds mode 15 e r h in
    all_of mode (λ above end s n items ms. length ms ≡ items.members) (λ above end s. refl)
    (λ left s n items t above end inner held rest d c o p q.
    let l = length-append held rest in
    let i : 1 + t.info.member_count + t.more.members ≡ items.members = ap (λ (x : SubItemsRead). x.members) t.is in
    omega arith)
    15 r.sub_items.count root r.field.length r.sub_items.bytes o.items refl o.read
    ∙ sym o.count

-- fewer than bytes
few_items : (mode : Mode) (left : ℕ) → ((deeper : ℕ) (own : Bor (List ℕ)) (info : AdsDataTypeInfo) → left ≡ suc deeper → type_at mode deeper own ≡ Ok info → info.member_count < length own.now)
    → (n : ℕ) (s : Bor (List ℕ)) (items : SubItemsRead) → items_from (item_at mode left) s n ≡ Ok items → items.members + length items.rest.now ≤ length s.now
unfolding items_from
few_items mode left each zero s items h = let e : record { rest = s; members = 0 } ≡ items = cc h in simp (← e) (omega arith)
few_items mode left each (suc n) s items h =
    let t = turn mode left s n items h in
    let x = few_items mode left each n t.behind t.more t.rest in
    let y = each t.deeper t.own t.info t.some t.entry in
    let z = taken_fits s t.own t.behind t.takes in
    simp (← t.is) (omega arith)

few_by : (mode : Mode) (left : ℕ) (e : Bor (List ℕ)) (r : AdsDataTypeInfo) → ((n : ℕ) (s : Bor (List ℕ)) (items : SubItemsRead) → items_from (item_at mode left) s n ≡ Ok items → items.members + length items.rest.now ≤ length s.now)
    → type_at mode left e ≡ Ok r → r.member_count < length e.now
few_by mode left e r each h =
    let a = accepted_at mode left e r h in
    let f = fits mode e a.front a.front_is in
    let b = arrays_fit a.front (a.arrays, a.first) a.arrays_are in
    let c = each a.front.sub_item_count a.first a.items a.items_are in
    let m = ap (λ (x : AdsDataTypeInfo). x.member_count) a.is in
    omega (arith, f.rest, b, c, m)

pub few : (mode : Mode) (left : ℕ) (e : Bor (List ℕ)) (r : AdsDataTypeInfo) → type_at mode left e ≡ Ok r → r.member_count < length e.now
few mode zero e r h = few_by mode zero e r (few_items mode zero (λ deeper own info k i. absurd (omega (arith, k)))) h
few mode (suc left) e r h =
    few_by mode (suc left) e r (few_items mode (suc left) (λ deeper own info k i.
    let z : deeper ≡ left = omega (arith, k) in few mode left own info (subst (λ (x : ℕ). type_at mode x own ≡ Ok info) z i))) h
