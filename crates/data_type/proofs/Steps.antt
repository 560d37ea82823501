-- What is left of a level's sub-items: none, or the next and what is left behind it.
use Rattle.std.proofs.Common.{ℕ, zero, suc, ◌+◌, ◌-◌, ◌*◌, ◌≤◌, ◌≡◌, refl, sym, ap, ap₂, subst, ◌∙◌, List, [], ◌∷◌, ◌++◌, length, arith, Bor, length-drop}
use native.Mathlib.Nat.{add-zero}
use Rattle.le.specs.Le.{le2, le4}
use Rattle.part.specs.Slice.{part, after}
use Rattle.std.specs.Prelude.{Ok, Err}
use Rattle.refusal.specs.declared.Refusal.{Refusal}
use Rattle.data_type.specs.declared.members.SubItem.{SubItem}
use Rattle.data_type.specs.declared.members.Position.{Position}
use Rattle.refusal.specs.declared.Mode.TheVariants.{Present}
use Rattle.field.specs.declared.front.Front.{Front}
use Rattle.field.specs.Front.{with_strings, front_of}
use Rattle.data_type.specs.declared.array.ArrayInfos.{ArrayInfos}
use Rattle.data_type.specs.Level.{cut}
use Rattle.part.proofs.Slice.{after_after, length_part}
use Rattle.data_type.proofs.Parts.{part_in, after_is, cut_inside}
use Rattle.data_type.specs.DataType.{taken, arrays_of, sub_items_of}
use Rattle.part.proofs.Outcome.{both_passed}
use Rattle.data_type.specs.Members.{below, item_in, members_below, each}

-- a sub-item's own bytes stand first, its own sub-items at their end, and what is behind it behind them
pub record Lies (s : Bor (List ℕ)) (i : SubItem) : Type 0 where
  pub long : length i.own.now + length i.behind.now ≡ length s.now
  pub short : length i.sub_items.bytes.now ≤ length i.own.now
  pub own : i.own ≡ part s 0 (length i.own.now)
  pub behind : i.behind ≡ part s (length i.own.now) (length s.now - length i.own.now)
  pub first : i.sub_items.bytes ≡ part i.own (length i.own.now - length i.sub_items.bytes.now) (length i.sub_items.bytes.now)

record Taken (s own behind : Bor (List ℕ)) : Type 0 where
  size : ℕ
  room : size ≤ length s.now
  own_is : own ≡ part s 0 size
  behind_is : behind ≡ after s size

taken_is : (s own behind : Bor (List ℕ)) → taken s ≡ Ok (own, behind) → Taken s own behind
unfolding taken
taken_is s own behind h = record { size = le4 s.now 0; room = grind arith; own_is = grind arith; behind_is = grind arith }

-- a place at which the bytes end
record Ends (s rest : Bor (List ℕ)) : Type 0 where
  from : ℕ
  room : from ≤ length s.now
  is : rest ≡ after s from

front_ends : (e : Bor (List ℕ)) (f : Front) → front_of Present e ≡ Ok f → Ends e f.rest
unfolding front_of with_strings
front_ends e f h = record { from = 45 + le2 e.now 32 + le2 e.now 34 + le2 e.now 36; room = grind arith; is = grind arith }

arrays_end : (f : Front) (a : ArrayInfos × Bor (List ℕ)) → arrays_of f ≡ Ok a → Ends f.rest a.1
unfolding arrays_of
arrays_end f a h = record { from = 8 * f.array_count; room = grind arith; is = grind arith }

first_is : (own rest first : Bor (List ℕ)) → (e : Ends own rest) (d : Ends rest first) → (length first.now ≤ length own.now) × (first ≡ part own (length own.now - length first.now) (length first.now))
first_is own rest first e d =
    let f : first ≡ after own (e.from + d.from) = d.is ∙ ap (λ (x : Bor (List ℕ)). after x d.from) e.is ∙ after_after own e.from d.from in
    let r : length rest.now ≡ length own.now - e.from = ap (λ (x : Bor (List ℕ)). length x.now) e.is ∙ length-drop e.from own.now in
    let l : length first.now ≡ length own.now - (e.from + d.from) = ap (λ (x : Bor (List ℕ)). length x.now) f ∙ length-drop (e.from + d.from) own.now in
    let x = e.room in
    let y = d.room in
    let k : length own.now - length first.now ≡ e.from + d.from = omega arith in
    (omega arith, f ∙ after_is own (e.from + d.from) ∙ ap₂ (part own) (sym k) (sym l))

lies_by : (s own behind rest first : Bor (List ℕ)) (offset count : ℕ) → Taken s own behind → Ends own rest → Ends rest first → Lies s (record { own = own; offset = offset; sub_items = record { bytes = first; count = count }; behind = behind })
lies_by s own behind rest first offset count t e d =
    let f = first_is own rest first e d in
    let o : length own.now ≡ t.size = ap (λ (x : Bor (List ℕ)). length x.now) t.own_is ∙ length_part s 0 t.size (omega (arith, t.room)) in
    let b : length behind.now ≡ length s.now - t.size = ap (λ (x : Bor (List ℕ)). length x.now) t.behind_is ∙ length-drop t.size s.now in
    record {
      long = omega (arith, o, b, t.room);
      short = f.0;
      own = t.own_is ∙ ap (part s 0) (sym o);
      behind = t.behind_is ∙ after_is s t.size ∙ ap (λ (k : ℕ). part s k (length s.now - k)) (sym o);
      first = f.1;
    }

pub lies : (s : Bor (List ℕ)) (i : SubItem) → item_in s ≡ Ok i → Lies s i
unfolding item_in
lies s i h =
    let p = both_passed (taken s) h in
    let f = both_passed (front_of Present p.0.0) p.1.1 in
    let a = both_passed (arrays_of f.0) f.1.1 in
    let is : record { own = p.0.0; offset = f.0.offset; sub_items = sub_items_of f.0 a.0.1; behind = p.0.1 } ≡ i = cc a.1.1 in
    subst (Lies s) is (lies_by s p.0.0 p.0.1 f.0.rest a.0.1 f.0.offset f.0.sub_item_count (taken_is s p.0.0 p.0.1 p.1.0) (front_ends p.0.0 f.0 f.1.0) (arrays_end f.0 a.0 a.1.0))

module _ (above : Position) (end : ℕ) (s : Bor (List ℕ)) where
  pub none_left : (levels count : ℕ) → count ≡ 0 → members_below levels above end s count ≡ []
  unfolding members_below each
  none_left zero count h = refl
  none_left (suc levels) zero h = refl
  none_left (suc levels) (suc count) h = absurd (omega (arith, h))

  pub refused_left : (levels count : ℕ) (why : Refusal) → item_in s ≡ Err why → members_below levels above end s count ≡ []
  unfolding members_below each
  refused_left zero count why h = refl
  refused_left (suc levels) zero why h = refl
  refused_left (suc levels) (suc count) why h = simp h

  pub one_left : (levels count : ℕ) (i : SubItem) → (count ≡ 0 → ⊥) → item_in s ≡ Ok i
      → members_below (suc levels) above end s count
      ≡ record { position = below above (end - length s.now) i.offset; own = i.own }
      ∷ (members_below levels (below above (end - length s.now) i.offset) (end - length s.now + length i.own.now) i.sub_items.bytes i.sub_items.count ++ members_below (suc levels) above end i.behind (count - 1))
  unfolding members_below each
  one_left levels zero i z h = absurd (z refl)
  one_left levels (suc count) i z h = let n : suc count - 1 ≡ count = omega arith in simp (h, n)

-- the same, by places in bytes that hold the level's
module _ (b : Bor (List ℕ)) (above : Position) (end at stop : ℕ) (fits : at ≤ stop) (room : stop ≤ length b.now) where
  pub step_gives : (levels count : ℕ) (i : SubItem) → (count ≡ 0 → ⊥) → item_in (part b at (stop - at)) ≡ Ok i
      → members_below (suc levels) above end (part b at (stop - at)) count
      ≡ record { position = below above (end - length (part b at (stop - at)).now) i.offset; own = i.own }
      ∷ (members_below levels (below above (end - length (part b at (stop - at)).now) i.offset) (end - length (part b at (stop - at)).now + length i.own.now) (cut b (at + length i.own.now - length i.sub_items.bytes.now) (at + length i.own.now)) i.sub_items.count
      ++ members_below (suc levels) above end (cut b (at + length i.own.now) stop) (count - 1))
  step_gives levels count i z h =
      let r : Bor (List ℕ) = part b at (stop - at) in
      let l = lies r i h in
      let long : length r.now ≡ stop - at = length_part b at (stop - at) (omega arith) in
      let x = l.long in
      let y = l.short in
      let near : length i.own.now ≤ stop - at = omega arith in
      let back : i.behind ≡ cut b (at + length i.own.now) stop =
      let k : length r.now - length i.own.now ≡ stop - (at + length i.own.now) = omega arith in
      l.behind ∙ ap (part r (length i.own.now)) k ∙ part_in b at (stop - at) (length i.own.now) (stop - (at + length i.own.now)) (omega arith) ∙ sym (cut_inside b (at + length i.own.now) stop (omega arith) room) in
      let own : i.own ≡ part b at (length i.own.now) =
      l.own ∙ part_in b at (stop - at) 0 (length i.own.now) (omega arith) ∙ ap (λ (k : ℕ). part b k (length i.own.now)) (add-zero at) in
      let first : i.sub_items.bytes ≡ cut b (at + length i.own.now - length i.sub_items.bytes.now) (at + length i.own.now) =
      let k : at + (length i.own.now - length i.sub_items.bytes.now) ≡ at + length i.own.now - length i.sub_items.bytes.now = omega arith in
      let m : at + length i.own.now - (at + length i.own.now - length i.sub_items.bytes.now) ≡ length i.sub_items.bytes.now = omega arith in
      l.first ∙ ap (λ (e : Bor (List ℕ)). part e (length i.own.now - length i.sub_items.bytes.now) (length i.sub_items.bytes.now)) own
      ∙ part_in b at (length i.own.now) (length i.own.now - length i.sub_items.bytes.now) (length i.sub_items.bytes.now) (omega arith)
      ∙ ap₂ (part b) k (sym m)
      ∙ sym (cut_inside b (at + length i.own.now - length i.sub_items.bytes.now) (at + length i.own.now) (omega arith) (omega arith)) in
      one_left above end r levels count i z h
      ∙ ap₂ (λ (f g : Bor (List ℕ)). record { position = below above (end - length r.now) i.offset; own = i.own } ∷ (members_below levels (below above (end - length r.now) i.offset) (end - length r.now + length i.own.now) f i.sub_items.count ++ members_below (suc levels) above end g (count - 1))) first back
