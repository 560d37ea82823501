-- Exactly what stands as the layout says is read.
use Rattle.std.proofs.Common.{ℕ, suc, ◌+◌, ◌-◌, ◌*◌, ◌≤◌, ◌≡◌, refl, sym, ap, ap₂, subst, ◌∙◌, List, ◌∷◌, ◌++◌, length, arith, Bor, length-append, length-drop}
use Rattle.std.specs.Prelude.{Ok}
use borrow.Author.Tests.{le-ltb}
use Rattle.le.specs.Le.{le2, le4}
use Rattle.part.specs.Slice.{part, after}
use Rattle.refusal.specs.Refusal.{limit}
use Rattle.refusal.specs.declared.Mode.{Mode}
use Rattle.entry.specs.Entry.{claim_of}
use Rattle.walk.specs.Step.{parse_of}
use Rattle.field.specs.declared.front.Front.{Front}
use Rattle.field.specs.declared.tail.Tail.{Tail}
use Rattle.field.specs.Front.{with_strings}
use Rattle.field.specs.Tail.{tail_of}
use Rattle.data_type.specs.declared.AdsDataTypeInfo.{AdsDataTypeInfo}
use Rattle.data_type.specs.declared.array.ArrayInfos.{ArrayInfos}
use Rattle.data_type.specs.Kind.{at_long}
use Rattle.data_type.specs.declared.members.Member.{Member}
use Rattle.data_type.specs.declared.members.Position.{Position}
use Rattle.data_type.specs.declared.reader.SubItemsRead as items
use Rattle.field.specs.Field.{joined}
use Rattle.data_type.specs.DataType.{taken, items_from, item_at, arrays_of, sub_items_of, type_at, type_of}
use Rattle.data_type.specs.Members.{root, below, members_below, members_of}
use Rattle.field.specs.Modes.{strings_end}
use Rattle.data_type.specs.Layout.{arrays_end, HasStrings, front, record_of}
use Rattle.data_type.specs.Stand.{under, What, Entry, Items, Stand, entry, none, item, IsRoot, TypesStand}
use Rattle.data_type.proofs.Turns.{item_read}
use Rattle.data_type.proofs.Entry.{is_read}
use Rattle.data_type.proofs.Steps.{none_left, one_left}
use Rattle.data_type.proofs.Inside.{Turn, here, item_is, accepted_at, holds, all_of}
use Rattle.data_type.proofs.Numbers.{heads, fills, le4_part}
use Rattle.data_type.proofs.Fronts.{front_there, front_was, record_is, below_is}
use Rattle.part.proofs.Slice.{after_after, length_part}
use Rattle.data_type.proofs.Parsed.{meets, parsed}

pub taken_there : (s : Bor (List ℕ)) → 42 ≤ le4 s.now 0 → le4 s.now 0 ≤ length s.now → taken s ≡ Ok (part s 0 (le4 s.now 0), after s (le4 s.now 0))
unfolding taken
taken_there s h k = simp (le-ltb (length s.now) 4 (omega arith), le-ltb (length s.now) (le4 s.now 0) k, le-ltb (le4 s.now 0) 42 h)

pub arrays_there : (f : Front) → 8 * f.array_count ≤ length f.rest.now → arrays_of f ≡ Ok (record { bytes = part f.rest 0 (8 * f.array_count); count = f.array_count }, after f.rest (8 * f.array_count))
unfolding arrays_of
arrays_there f h = simp (le-ltb (length f.rest.now) (8 * f.array_count) h)

-- what is read of what stands
pub record Reads (mode : Mode) (left : ℕ) (p : Position) (end : ℕ) (e : Bor (List ℕ)) (r : AdsDataTypeInfo) (ms : List Member) : Type 0 where
  pub read : type_at mode left e ≡ Ok r
  pub counts : r.member_count ≡ length ms
  pub members : members_below left p end r.sub_items.bytes r.sub_items.count ≡ ms

pub record ReadsItems (mode : Mode) (left : ℕ) (p : Position) (end : ℕ) (s : Bor (List ℕ)) (n : ℕ) (rest : Bor (List ℕ)) (ms : List Member) : Type 0 where
  pub read : items_from (item_at mode left) s n ≡ Ok (record { rest = rest; members = length ms })
  pub members : members_below left p end s n ≡ ms

abbrev pub Goal : Mode → ℕ → Position → ℕ → What → Type 0
Goal mode left p end (Entry e r ms) = Reads mode left p end e r ms
Goal mode left p end (Items s n rest ms) = ReadsItems mode left p end s n rest ms

-- the offset of a sub-item that was read
offset_there : (mode : Mode) (left : ℕ) (s : Bor (List ℕ)) (info : AdsDataTypeInfo) → 42 ≤ le4 s.now 0 → le4 s.now 0 ≤ length s.now → type_at mode left (part s 0 (le4 s.now 0)) ≡ Ok info → info.field.offset ≡ le4 s.now 20
offset_there mode left s info h k r =
    let a = accepted_at mode left (part s 0 (le4 s.now 0)) info r in
    sym (ap (λ (x : AdsDataTypeInfo). x.field.offset) a.is) ∙ (heads mode (part s 0 (le4 s.now 0)) a.front a.front_is).offset ∙ le4_part s.now 0 (le4 s.now 0) 20 (omega arith)

module _ (mode : Mode) where
  item_reads : (l left : ℕ) (p : Position) (end n : ℕ) (s rest : Bor (List ℕ)) (more held : List Member) (info : AdsDataTypeInfo) → left ≡ suc l → 42 ≤ le4 s.now 0 → le4 s.now 0 ≤ length s.now
      → Reads mode l (below p (end - length s.now) info.field.offset) (end - length s.now + le4 s.now 0) (part s 0 (le4 s.now 0)) info held
      → ReadsItems mode left p end (after s (le4 s.now 0)) n rest more
      → ReadsItems mode left p end s (suc n) rest (record { position = below p (end - length s.now) info.field.offset; own = part s 0 (le4 s.now 0) } ∷ (held ++ more))
  unfolding items_from
  item_reads l left p end n s rest more held info z h k x y =
      let t = taken_there s h k in
      let q : left - 1 ≡ l = omega (arith, z) in
      let i : item_at mode left s ≡ Ok (info, after s (le4 s.now 0)) =
      item_read mode s left (part s 0 (le4 s.now 0)) (after s (le4 s.now 0)) info (λ e. omega (arith, z, e)) t (subst (λ (m : ℕ). type_at mode m (part s 0 (le4 s.now 0)) ≡ Ok info) (sym q) x.read) in
      let c : 1 + info.member_count + length more ≡ suc (length (held ++ more)) = omega (arith, x.counts, length-append held more) in
      let o : length (part s 0 (le4 s.now 0)).now ≡ le4 s.now 0 = length_part s 0 (le4 s.now 0) (omega (arith, k)) in
      let b : suc n - 1 ≡ n = omega arith in
      let y' : members_below (suc l) p end (after s (le4 s.now 0)) n ≡ more = subst (λ (m : ℕ). members_below m p end (after s (le4 s.now 0)) n ≡ more) z y.members in
      let w = one_left p end s l (suc n) _ (λ e. omega (arith, e)) (item_is mode l s (part s 0 (le4 s.now 0)) (after s (le4 s.now 0)) info t x.read) in
      let v = ap (λ (m : ℕ). members_below l (below p (end - length s.now) info.field.offset) (end - length s.now + m) info.sub_items.bytes info.sub_items.count) o ∙ x.members in
      let u = ap (λ (m : ℕ). members_below (suc l) p end (after s (le4 s.now 0)) m) b ∙ y' in
      record {
        read = simp (i, y.read) (ap (λ (m : ℕ). Ok (record { rest = rest; members = m })) c);
        members =
            ap (λ (m : ℕ). members_below m p end s (suc n)) z ∙ w
            ∙ ap₂ (λ (a d : List Member). record { position = below p (end - length s.now) info.field.offset; own = part s 0 (le4 s.now 0) } ∷ (a ++ d)) v u;
      }

  -- an entry whose sub-items were read
  entry_reads : (left : ℕ) (e rest : Bor (List ℕ)) (t : Tail) (members : ℕ) → HasStrings mode e → arrays_end e.now ≤ length e.now
      → items_from (item_at mode left) (after e (arrays_end e.now)) (le2 e.now 40) ≡ Ok (record { rest = rest; members = members })
      → tail_of mode (front e) rest ≡ Ok t → type_at mode left e ≡ Ok (record_of e t members)
  unfolding with_strings
  entry_reads left e rest t members h a i l =
      let f : Front = front e in
      let r : length f.rest.now ≡ length e.now - strings_end e.now = length-drop (strings_end e.now) e.now in
      let b : after f.rest (8 * f.array_count) ≡ after e (arrays_end e.now) = after_after e (strings_end e.now) (8 * f.array_count) in
      is_read mode left e f (front_there mode e h) _ (arrays_there f (omega arith)) _ (ap (λ (x : Bor (List ℕ)). items_from (item_at mode left) x f.sub_item_count) b ∙ i) t l
      ∙ ap Ok (record_is e f t members refl)

  pub reads : {p : Position} {end : ℕ} {w : What} → Stand mode p end w → (left : ℕ) → p.depth + left ≡ 16 → Goal mode left p end w
  unfolding items_from
  reads {p} {end} (entry {e = e} {ms = ms} rest t h a s l) left d =
      let i = reads s left d in
      record {
        read = entry_reads left e rest t (length ms) h a i.read l;
        counts = refl;
        members = i.members;
      }
  reads {p} {end} (none {s = s}) left d = record { read = refl; members = none_left p end s left 0 refl }
  reads {p} {end} (item {left = n} {s = s} {rest = rest} {more = more} info held d h k x y) left l =
      let place : ℕ = end - length s.now in
      let i = reads x (left - 1) (omega arith) in
      let o : info.field.offset ≡ le4 s.now 20 = offset_there mode (left - 1) s info h k i.read in
      let q : below p place info.field.offset ≡ under p place (le4 s.now 20) = ap (below p place) o ∙ below_is p place (le4 s.now 20) d in
      subst (λ (x : Position). ReadsItems mode left p end s (suc n) rest (record { position = x; own = part s 0 (le4 s.now 0) } ∷ (held ++ more))) q
      (item_reads (left - 1) left p end n s rest more held info (omega arith) h k
      (subst (λ (x : Position). Reads mode (left - 1) x (place + le4 s.now 0) (part s 0 (le4 s.now 0)) info held) (sym q) i) (reads y left l))

pub record Took (s own behind : Bor (List ℕ)) : Type 0 where
  pub least : 42 ≤ le4 s.now 0
  pub room : le4 s.now 0 ≤ length s.now
  pub own_is : own ≡ part s 0 (le4 s.now 0)
  pub behind_is : behind ≡ after s (le4 s.now 0)

pub took : (s own behind : Bor (List ℕ)) → taken s ≡ Ok (own, behind) → Took s own behind
unfolding taken
took s own behind h = record { least = grind arith; room = grind arith; own_is = grind arith; behind_is = grind arith }

module _ (mode : Mode) where
  -- an entry that was read stands where its sub-items do
  entry_stands : (left : ℕ) (p : Position) (end : ℕ) (e : Bor (List ℕ)) (r : AdsDataTypeInfo) (i : items.SubItemsRead) (ms : List Member) → type_at mode left e ≡ Ok r
      → items_from (item_at mode left) r.sub_items.bytes r.sub_items.count ≡ Ok i → length ms ≡ i.members → Stand mode p end (Items r.sub_items.bytes r.sub_items.count i.rest ms) → Stand mode p end (Entry e r ms)
  unfolding with_strings
  entry_stands left p end e r i ms h k l s =
      let a = accepted_at mode left e r h in
      let f = fills a.front (a.arrays, a.first) a.arrays_are in
      let w = front_was mode e a.front a.front_is in
      let d = heads mode e a.front a.front_is in
      let rest_long : length a.front.rest.now ≡ length e.now - strings_end e.now = ap (λ (x : Bor (List ℕ)). length x.now) d.rest ∙ length-drop (strings_end e.now) e.now in
      let room : arrays_end e.now ≤ length e.now = omega (arith, f.room, d.arrays, d.room, rest_long) in
      let first : after a.front.rest (8 * a.front.array_count) ≡ after e (arrays_end e.now) =
      ap (λ (x : Front). after x.rest (8 * x.array_count)) (sym w.1) ∙ after_after e (strings_end e.now) (8 * le2 e.now 38) in
      let bytes : r.sub_items.bytes ≡ after e (arrays_end e.now) = sym (ap (λ (x : AdsDataTypeInfo). x.sub_items.bytes) a.is) ∙ f.first ∙ first in
      let count : r.sub_items.count ≡ le2 e.now 40 = sym (ap (λ (x : AdsDataTypeInfo). x.sub_items.count) a.is) ∙ d.items in
      let again : items_from (item_at mode left) r.sub_items.bytes r.sub_items.count ≡ Ok a.items = subst (λ (x : AdsDataTypeInfo). items_from (item_at mode left) x.sub_items.bytes x.sub_items.count ≡ Ok a.items) a.is a.items_are in
      let it : a.items ≡ i = cc (sym again ∙ k) in
      let rest : i.rest ≡ a.items.rest = sym (ap (λ (x : items.SubItemsRead). x.rest) it) in
      let long : length ms ≡ a.items.members = l ∙ sym (ap (λ (x : items.SubItemsRead). x.members) it) in
      let there : Stand mode p end (Items (after e (arrays_end e.now)) (le2 e.now 40) a.items.rest ms) =
      subst (λ (x : Bor (List ℕ)). Stand mode p end (Items (after e (arrays_end e.now)) (le2 e.now 40) x ms)) rest
      (subst (λ (x : ℕ). Stand mode p end (Items (after e (arrays_end e.now)) x i.rest ms)) count
      (subst (λ (x : Bor (List ℕ)). Stand mode p end (Items x r.sub_items.count i.rest ms)) bytes s)) in
      let is : record_of e a.tail (length ms) ≡ r =
      sym (record_is e a.front a.tail (length ms) w.1)
      ∙ ap₂ (λ (x : ArrayInfos) (y : Bor (List ℕ)). record { field = joined a.front a.tail; arrays = x; sub_items = sub_items_of a.front y; member_count = length ms }) (sym f.arrays) (sym f.first)
      ∙ ap (λ (n : ℕ). record { field = joined a.front a.tail; arrays = a.arrays; sub_items = sub_items_of a.front a.first; member_count = n }) long ∙ a.is in
      subst (λ (x : AdsDataTypeInfo). Stand mode p end (Entry e x ms)) is
      (entry a.items.rest a.tail w.0 room there (ap (λ (x : Front). tail_of mode x a.items.rest) w.1 ∙ a.tail_is))

  abbrev Stood : Position → ℕ → Bor (List ℕ) → ℕ → items.SubItemsRead → List Member → Type 0
  Stood p end s n i ms = Stand mode p end (Items s n i.rest ms) × (length ms ≡ i.members)

  stood_more : (left : ℕ) (s : Bor (List ℕ)) (n : ℕ) (i : items.SubItemsRead) (t : Turn mode left s n i) (above : Position) (end : ℕ) (inner : items.SubItemsRead) (held rest : List Member)
      → above.depth + left ≡ 16 → inner.members ≡ t.info.member_count → items_from (item_at mode t.deeper) t.info.sub_items.bytes t.info.sub_items.count ≡ Ok inner
      → Stood (here mode left s n i t above end) (end - length s.now + length t.own.now) t.info.sub_items.bytes t.info.sub_items.count inner held
      → Stood above end t.behind n t.more rest
      → Stood above end s (suc n) i (record { position = here mode left s n i t above end; own = t.own } ∷ (held ++ rest))
  stood_more left s n i t above end inner held rest d c o p q =
      let k = took s t.own t.behind t.takes in
      let own : length t.own.now ≡ le4 s.now 0 = ap (λ (x : Bor (List ℕ)). length x.now) k.own_is ∙ length_part s 0 (le4 s.now 0) (omega (arith, k.room)) in
      let e = entry_stands t.deeper (here mode left s n i t above end) (end - length s.now + length t.own.now) t.own t.info inner held t.entry o p.1 p.0 in
      let place : ℕ = end - length s.now in
      let off : t.info.field.offset ≡ le4 s.now 20 = offset_there mode t.deeper s t.info k.least k.room (subst (λ (x : Bor (List ℕ)). type_at mode t.deeper x ≡ Ok t.info) k.own_is t.entry) in
      let at : here mode left s n i t above end ≡ under above place (le4 s.now 20) = ap (below above place) off ∙ below_is above place (le4 s.now 20) (omega (arith, t.some)) in
      let e2 = subst (λ (x : Bor (List ℕ)). Stand mode (here mode left s n i t above end) (place + le4 s.now 0) (Entry x t.info held)) k.own_is
      (subst (λ (m : ℕ). Stand mode (here mode left s n i t above end) (place + m) (Entry t.own t.info held)) own e) in
      let e3 = subst (λ (x : Position). Stand mode x (place + le4 s.now 0) (Entry (part s 0 (le4 s.now 0)) t.info held)) at e2 in
      let r = subst (λ (x : Bor (List ℕ)). Stand mode above end (Items x n t.more.rest rest)) k.behind_is q.0 in
      let it0 = item t.info held (omega (arith, t.some)) k.least k.room e3 r in
      let it = subst (λ (x : Position). Stand mode above end (Items s (suc n) t.more.rest (record { position = x; own = part s 0 (le4 s.now 0) } ∷ (held ++ rest)))) (sym at) it0 in
      let is : t.more.rest ≡ i.rest = ap (λ (x : items.SubItemsRead). x.rest) t.is in
      let count : 1 + t.info.member_count + t.more.members ≡ i.members = ap (λ (x : items.SubItemsRead). x.members) t.is in
      let l = length-append held rest in
      let whole = subst (λ (x : Bor (List ℕ)). Stand mode above end (Items s (suc n) x (record { position = here mode left s n i t above end; own = part s 0 (le4 s.now 0) } ∷ (held ++ rest)))) is it in
      (subst (λ (x : Bor (List ℕ)). Stand mode above end (Items s (suc n) i.rest (record { position = here mode left s n i t above end; own = x } ∷ (held ++ rest)))) (sym k.own_is) whole, omega (arith, p.1, q.1, c))

  pub items_stand : (left : ℕ) (p : Position) (end : ℕ) (s : Bor (List ℕ)) (n : ℕ) (i : items.SubItemsRead) → p.depth + left ≡ 16 → items_from (item_at mode left) s n ≡ Ok i → Stood p end s n i (members_below left p end s n)
  items_stand left p end s n i d h = all_of mode Stood (λ above end s. (none, refl)) stood_more left n p end s i d h

  pub entry_stand : (left : ℕ) (p : Position) (end : ℕ) (e : Bor (List ℕ)) (r : AdsDataTypeInfo) → p.depth + left ≡ 16 → type_at mode left e ≡ Ok r
      → Stand mode p end (Entry e r (members_below left p end r.sub_items.bytes r.sub_items.count))
  entry_stand left p end e r d h =
      let o = holds mode left e r h in
      let x = items_stand left p end r.sub_items.bytes r.sub_items.count o.items d o.read in
      entry_stands left p end e r o.items _ h o.read x.1 x.0

  root_stands : (e : Bor (List ℕ)) (r : AdsDataTypeInfo) → type_of mode e ≡ Ok r → Stand mode root (length e.now) (Entry e r (members_of r))
  root_stands e r h = subst (λ (n : ℕ). Stand mode root n (Entry e r (members_below 15 root r.field.length r.sub_items.bytes r.sub_items.count))) (at_long mode 15 e r h) (entry_stand 15 root r.field.length e r refl h)

root_reads : (mode : Mode) (s : Bor (List ℕ)) (r : AdsDataTypeInfo) (ms : List Member) → IsRoot mode s r ms → (parse_of 42 (type_of mode) s ≡ Ok r) × (members_of r ≡ ms)
unfolding claim_of
root_reads mode s r ms w =
    let x = reads mode w.stands 15 refl in
    let l : length (part s 0 (le4 s.now 0)).now ≡ le4 s.now 0 = length_part s 0 (le4 s.now 0) (omega (arith, w.room)) in
    let n : r.field.length ≡ le4 s.now 0 = at_long mode 15 (part s 0 (le4 s.now 0)) r x.read ∙ l in (
      simp (
        le-ltb limit (length s.now) w.small,
        le-ltb (length s.now) 42 (omega (arith, w.least, w.room)),
        le-ltb (length s.now) (le4 s.now 0) w.room,
        le-ltb (le4 s.now 0) 42 w.least,
      ) x.read,
      ap (λ (m : ℕ). members_below 15 root m r.sub_items.bytes r.sub_items.count) n ∙ x.members,
    )

root_stood : (mode : Mode) (s : Bor (List ℕ)) (r : AdsDataTypeInfo) → parse_of 42 (type_of mode) s ≡ Ok r → IsRoot mode s r (members_of r)
root_stood mode s r h =
    let p = parsed (type_of mode) s r h in
    let w = meets s.now p.size p.claims in
    let z : p.size ≡ le4 s.now 0 = sym w.claims in
    let l : length (part s 0 p.size).now ≡ p.size = length_part s 0 p.size (omega (arith, w.room)) in
    let t = subst (λ (n : ℕ). Stand mode root n (Entry (part s 0 p.size) r (members_of r))) l (root_stands mode (part s 0 p.size) r p.entry) in
    record {
      small = w.small;
      least = omega (arith, w.least, w.claims);
      room = omega (arith, w.room, w.claims);
      stands = subst (λ (k : ℕ). Stand mode root k (Entry (part s 0 k) r (members_of r))) z t;
    }

pub types_stand : TypesStand
types_stand = record { reads = root_reads; stood = root_stood }
