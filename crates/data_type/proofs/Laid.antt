-- The members of an entry that was read lie in its bytes.
use Rattle.std.proofs.Common.{ℕ, suc, ◌+◌, ◌-◌, ◌*◌, ◌<◌, ◌≤◌, ◌≡◌, refl, sym, ap, ap₂, subst, ◌∙◌, List, [], ◌∷◌, ◌++◌, length, drop, arith, Bor, length-drop}
use native.Mathlib.Nat.{add-zero}
use Rattle.std.specs.Prelude.{Ok}
use borrow.Author.Tests.{le-ltb}
use Rattle.le.specs.Le.{le2, le4}
use Rattle.part.specs.Slice.{part, after}
use Rattle.refusal.specs.Refusal.{limit}
use Rattle.refusal.specs.declared.Mode.{Mode}
use Rattle.entry.specs.Entry.{claim_of}
use Rattle.walk.specs.Step.{parse_of}
use Rattle.data_type.specs.declared.AdsDataTypeInfo.{AdsDataTypeInfo}
use Rattle.data_type.specs.declared.array.ArrayInfos.{ArrayInfos}
use Rattle.data_type.specs.declared.members.Member.{Member}
use Rattle.data_type.specs.declared.members.Position.{Position}
use Rattle.data_type.specs.declared.reader.SubItemsRead.{SubItemsRead}
use Rattle.data_type.specs.DataType.{items_from, item_at, type_at, type_of}
use Rattle.data_type.specs.Members.{place_of}
use Rattle.data_type.specs.Meaning.{among, IsAt, IsMember, Between}
use Rattle.part.proofs.Slice.{after_after, length_part}
use Rattle.data_type.proofs.Parts.{bor, part_in, after_is}
use Rattle.data_type.proofs.Inside.{Turn, here, accepted_at}
use Rattle.data_type.proofs.More.{deeper}
use Rattle.data_type.proofs.Numbers.{le4_part, le4_drop, heads, fills}
use Rattle.data_type.proofs.Stands.{took}
use Rattle.data_type.proofs.Each.{Each, none, more, each_append, each_map, at_below, depth_below, place_below, sooner, both, among_append, none_among, one_among}

-- what stands behind the array records of an entry that was read, and its offset
pub record Behind (e : Bor (List ℕ)) (r : AdsDataTypeInfo) : Type 0 where
  pub from : ℕ
  pub some : 45 ≤ from
  pub room : from ≤ length e.now
  pub is : r.sub_items.bytes ≡ after e from
  pub offset : r.field.offset ≡ le4 e.now 20
  pub arrays : r.arrays.count ≡ le2 e.now 38
  pub items : r.sub_items.count ≡ le2 e.now 40

pub behind_arrays : (mode : Mode) (left : ℕ) (e : Bor (List ℕ)) (r : AdsDataTypeInfo) → type_at mode left e ≡ Ok r → Behind e r
behind_arrays mode left e r h =
    let a = accepted_at mode left e r h in
    let d = heads mode e a.front a.front_is in
    let f = fills a.front (a.arrays, a.first) a.arrays_are in
    let end : ℕ = 45 + le2 e.now 32 + le2 e.now 34 + le2 e.now 36 in
    let rest : length a.front.rest.now ≡ length e.now - end = ap (λ (x : Bor (List ℕ)). length x.now) d.rest ∙ length-drop end e.now in
    let x = d.room in
    let y = f.room in
    record {
      from = end + 8 * a.front.array_count;
      some = omega arith;
      room = omega arith;
      is = sym (ap (λ (x : AdsDataTypeInfo). x.sub_items.bytes) a.is) ∙ f.first ∙ ap (λ (x : Bor (List ℕ)). after x (8 * a.front.array_count)) d.rest ∙ after_after e end (8 * a.front.array_count);
      offset = sym (ap (λ (x : AdsDataTypeInfo). x.field.offset) a.is) ∙ d.offset;
      arrays = sym (ap (λ (x : AdsDataTypeInfo). x.arrays.count) a.is) ∙ ap (λ (x : ArrayInfos). x.count) f.arrays ∙ d.arrays;
      items = sym (ap (λ (x : AdsDataTypeInfo). x.sub_items.count) a.is) ∙ d.items;
    }

module _ (mode : Mode) (s : Bor (List ℕ)) (small : length s.now ≤ limit) (whole : le4 s.now 0 ≤ length s.now) where
  -- bytes that end at a place of the entry
  pub record Within (c : Bor (List ℕ)) (end : ℕ) : Type 0 where
    pub is : c ≡ part s (end - length c.now) (length c.now)
    pub long : length c.now ≤ end
    pub room : end ≤ le4 s.now 0

  pub within_own : (place size from : ℕ) (own bytes : Bor (List ℕ)) → own ≡ part s place size → place + size ≤ le4 s.now 0 → from ≤ size → bytes ≡ after own from → Within bytes (place + size) × (length bytes.now ≡ size - from)
  within_own place size from own bytes o r f b =
      let n : length own.now ≡ size = ap (λ (x : Bor (List ℕ)). length x.now) o ∙ length_part s place size (omega arith) in
      let l : length bytes.now ≡ size - from = ap (λ (x : Bor (List ℕ)). length x.now) b ∙ length-drop from own.now ∙ ap (λ (k : ℕ). k - from) n in
      let k : place + size - length bytes.now ≡ place + from = omega arith in (
        record {
          is = b ∙ after_is own from ∙ ap (λ (m : ℕ). part own from (m - from)) n ∙ ap (λ (x : Bor (List ℕ)). part x from (size - from)) o ∙ part_in s place size from (size - from) (omega arith) ∙ ap₂ (part s) (sym k) (sym l);
          long = omega arith;
          room = r;
        },
        l,
      )

  pub record Laid (above : Position) (end : ℕ) (c : Bor (List ℕ)) (n : ℕ) (ms : List Member) : Type 0 where
    pub each : Each (IsMember mode s) ms
    pub deep : Each (λ m. above.depth < m.position.depth) ms
    pub order : Between (end - length c.now) end ms
    pub counts : among (above.depth + 1) ms ≡ n

  abbrev pub LaidIn : Position → ℕ → Bor (List ℕ) → ℕ → SubItemsRead → List Member → Type 0
  LaidIn above end c n i ms = IsAt s.now above → Within c end → Laid above end c n ms

  pub laid_none : (above : Position) (end : ℕ) (c : Bor (List ℕ)) → LaidIn above end c 0 (record { rest = c; members = 0 }) []
  unfolding Between among
  laid_none above end c a w = record { each = none; deep = none; order = omega arith; counts = refl }

  -- a sub-item at a place, whose own bytes are so many
  module _ (left : ℕ) (place size : ℕ) (own : Bor (List ℕ)) (info : AdsDataTypeInfo) (own_is : own ≡ part s place size) (room : place + size ≤ le4 s.now 0) (least : 42 ≤ size) (claims : le4 s.now place ≡ size)
      (fits : left ≤ 15) (entry : type_at mode left own ≡ Ok info) where
    own_long : length own.now ≡ size
    own_long = ap (λ (x : Bor (List ℕ)). length x.now) own_is ∙ length_part s place size (omega arith)

    pub offset_is : info.field.offset ≡ le4 s.now (place + 20)
    offset_is = (behind_arrays mode left own info entry).offset ∙ ap (λ (x : Bor (List ℕ)). le4 x.now 20) own_is ∙ le4_part s.now place size 20 (omega arith)

    as_root : type_of mode own ≡ Ok info
    as_root = let n : 15 - left + left ≡ 15 = omega arith in subst (λ (k : ℕ). type_at mode k own ≡ Ok info) n (deeper mode (15 - left) left own info entry)

    own_there : part (after s place) 0 size ≡ own
    own_there = bor _ _ _ _ (ap (λ (x : ℕ). (s.ref_ptr.0, x)) (add-zero (s.ref_ptr.1 + place))) refl ∙ sym own_is

    read_there : parse_of 42 (type_of mode) (after s place) ≡ Ok info
    unfolding claim_of
    read_there =
        let c : le4 (drop place s.now) 0 ≡ size = le4_drop s.now place 0 ∙ ap (le4 s.now) (add-zero place) ∙ claims in
        let l : length (drop place s.now) ≡ length s.now - place = length-drop place s.now in
        simp (
          c,
          l,
          le-ltb limit (length s.now - place) (omega arith),
          le-ltb (length s.now - place) 42 (omega arith),
          le-ltb (length s.now - place) size (omega arith),
          le-ltb size 42 least,
        ) (ap (type_of mode) own_there ∙ as_root)

    pub is_member : (p : Position) → IsAt s.now p → 2 ≤ p.depth → p.depth ≤ 16 → place_of p ≡ place → IsMember mode s (record { position = p; own = own })
    is_member p a b d e =
        record {
          at = a;
          below = b;
          deep = d;
          inside = omega (arith, e, own_long);
          own = own_is ∙ ap₂ (part s) (sym e) (sym own_long);
          info = info;
          read = as_root;
          there = ap (λ (k : ℕ). parse_of 42 (type_of mode) (after s k)) e ∙ read_there;
        }

  pub laid_more : (left : ℕ) (c : Bor (List ℕ)) (n : ℕ) (i : SubItemsRead) (t : Turn mode left c n i) (above : Position) (end : ℕ) (inner : SubItemsRead) (held rest : List Member)
      → above.depth + left ≡ 16 → inner.members ≡ t.info.member_count → items_from (item_at mode t.deeper) t.info.sub_items.bytes t.info.sub_items.count ≡ Ok inner
      → LaidIn (here mode left c n i t above end) (end - length c.now + length t.own.now) t.info.sub_items.bytes t.info.sub_items.count inner held
      → LaidIn above end t.behind n t.more rest
      → LaidIn above end c (suc n) i (record { position = here mode left c n i t above end; own = t.own } ∷ (held ++ rest))
  unfolding Between
  laid_more left c n i t above end inner held rest d cnt o p q a w =
      let k = took c t.own t.behind t.takes in
      let place : ℕ = end - length c.now in
      let size : ℕ = le4 c.now 0 in
      let wr = w.room in
      let wl = w.long in
      let kr = k.room in
      let kl = k.least in
      let deep : above.depth ≤ 15 = omega (arith, t.some) in
      let own_is : t.own ≡ part s place size = k.own_is ∙ ap (λ (x : Bor (List ℕ)). part x 0 size) w.is ∙ part_in s place (length c.now) 0 size (omega arith) ∙ ap (λ (x : ℕ). part s x size) (add-zero place) in
      let claims : le4 s.now place ≡ size = sym (ap (λ (x : Bor (List ℕ)). le4 x.now 0) w.is ∙ le4_part s.now place (length c.now) 0 (omega arith) ∙ ap (le4 s.now) (add-zero place)) in
      let room : place + size ≤ le4 s.now 0 = omega arith in
      let fits : t.deeper ≤ 15 = omega (arith, t.some, a.least) in
      let long : length t.own.now ≡ size = ap (λ (x : Bor (List ℕ)). length x.now) own_is ∙ length_part s place size (omega arith) in
      let off = offset_is t.deeper place size t.own t.info own_is room kl claims fits t.entry in
      let h : Position = here mode left c n i t above end in
      let at = at_below s.now above a deep place t.info.field.offset off in
      let hd : h.depth ≡ above.depth + 1 = depth_below s.now above a deep place t.info.field.offset in
      let hp : place_of h ≡ place = place_below s.now above a deep place t.info.field.offset in
      let b = behind_arrays mode t.deeper t.own t.info t.entry in
      let bs = b.some in
      let br : b.from ≤ size = omega (arith, b.room, long) in
      let in_held = within_own place size b.from t.own t.info.sub_items.bytes own_is room br b.is in
      let held_laid = p at (subst (λ (m : ℕ). Within t.info.sub_items.bytes (place + m)) (sym long) in_held.0) in
      let bl : length t.behind.now ≡ length c.now - size = ap (λ (x : Bor (List ℕ)). length x.now) k.behind_is ∙ length-drop size c.now in
      let be : end - length t.behind.now ≡ place + size = omega arith in
      let behind_within : Within t.behind end =
      record {
        is = k.behind_is ∙ after_is c size ∙ ap (λ (x : Bor (List ℕ)). part x size (length c.now - size)) w.is ∙ part_in s place (length c.now) size (length c.now - size) (omega arith) ∙ ap₂ (part s) (sym be) (sym bl);
        long = omega arith;
        room = wr;
      } in
      let rest_laid = q a behind_within in
      let hb : place + length t.own.now - length t.info.sub_items.bytes.now ≡ place + b.from = omega (arith, long, in_held.1) in
      let e1 : Between (place + b.from) (place + size) held = subst (λ (m : ℕ). Between (place + b.from) (place + m) held) long (subst (λ (m : ℕ). Between m (place + length t.own.now) held) hb held_laid.order) in
      let e2 : Between (place + size) end rest = subst (λ (m : ℕ). Between m end rest) be rest_laid.order in
      let m = is_member t.deeper place size t.own t.info own_is room kl claims fits t.entry h at (omega (arith, hd, a.least)) (omega (arith, hd)) hp in
      let z : among (above.depth + 1) held ≡ 0 = none_among (above.depth + 1) (each_map (λ x y. omega (arith, hd, y)) held_laid.deep) in
      record {
        each = more m (each_append held_laid.each rest_laid.each);
        deep = more (omega (arith, hd)) (each_append (each_map (λ x y. omega (arith, hd, y)) held_laid.deep) rest_laid.deep);
        order = (omega (arith, hp), sooner (place + b.from) (place_of h + 1) end (held ++ rest) (omega (arith, hp)) (both (place + b.from) (place + size) end held rest e1 e2));
        counts = one_among (above.depth + 1) _ (held ++ rest) hd ∙ ap (λ (x : ℕ). 1 + x) (among_append (above.depth + 1) held rest ∙ ap₂ (λ (x y : ℕ). x + y) z rest_laid.counts) ∙ omega arith;
      }
