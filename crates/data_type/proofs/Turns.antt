-- A turn of reading sub-items, by how many are left; what the levels left mean for one.
use Rattle.std.proofs.Common.{ℕ, zero, suc, ◌+◌, ◌-◌, ◌<◌, ◌≤◌, ◌≡◌, refl, ap, ◌∙◌, List, length, arith, Bor, length-take, length-drop}
use Rattle.std.specs.Prelude.{Result, Ok, Err}
use Rattle.part.specs.Outcome.{and_then}
use Rattle.refusal.specs.declared.Mode.{Mode}
use Rattle.refusal.specs.declared.Refusal.{Refusal}
use Rattle.refusal.specs.declared.Refusal.TheVariants.{TooDeep}
use Rattle.data_type.specs.declared.AdsDataTypeInfo.{AdsDataTypeInfo}
use Rattle.data_type.specs.declared.reader.SubItemsRead.{SubItemsRead}
use Rattle.data_type.specs.DataType.{ItemReader, taken, items_from, type_with, type_at, item_at}

-- sub-items with so many members before them
abbrev pub with_before : ℕ → Result SubItemsRead Refusal → Result SubItemsRead Refusal
with_before n (Ok items) = Ok (record { rest = items.rest; members = n + items.members })
with_before n (Err why) = Err why

module _ (item : ItemReader) (n : ℕ) (s : Bor (List ℕ)) where
  pub items_none : (left : ℕ) → left ≤ 0 → with_before n (items_from item s left) ≡ Ok (record { rest = s; members = n })
  unfolding items_from
  items_none zero h = let z : n + 0 ≡ n = omega arith in ap (λ (m : ℕ). Ok (record { rest = s; members = m })) z
  items_none (suc left) h = absurd (omega arith)

  pub items_refused : (left : ℕ) (why : Refusal) → 0 < left → item s ≡ Err why → with_before n (items_from item s left) ≡ Err why
  unfolding items_from
  items_refused zero why h k = absurd (omega arith)
  items_refused (suc left) why h k = simp k

  by_more : (info : AdsDataTypeInfo) (r : Result SubItemsRead Refusal)
      → with_before n (and_then r (λ more. Ok (record { rest = more.rest; members = 1 + info.member_count + more.members }))) ≡ with_before (n + (1 + info.member_count)) r
  by_more info (Ok more) =
      let z : n + (1 + info.member_count + more.members) ≡ n + (1 + info.member_count) + more.members = omega arith in
      ap (λ (m : ℕ). Ok (record { rest = more.rest; members = m })) z
  by_more info (Err why) = refl

  pub items_step : (left : ℕ) (info : AdsDataTypeInfo) (behind : Bor (List ℕ)) → 0 < left → item s ≡ Ok (info, behind)
      → with_before n (items_from item s left) ≡ with_before (n + (1 + info.member_count)) (items_from item behind (left - 1))
  unfolding items_from
  items_step zero info behind h k = absurd (omega arith)
  items_step (suc left) info behind h k =
      let z : suc left - 1 ≡ left = omega arith in
      simp (k, z) (by_more info (items_from item behind left))

module _ (mode : Mode) (s : Bor (List ℕ)) where
  pub item_deep : (left : ℕ) → left ≡ 0 → item_at mode left s ≡ Err TooDeep
  unfolding item_at
  item_deep zero h = refl
  item_deep (suc left) h = absurd (omega (arith, h))

  pub item_untaken : (left : ℕ) (why : Refusal) → (left ≡ 0 → ⊥) → taken s ≡ Err why → item_at mode left s ≡ Err why
  unfolding item_at
  item_untaken zero why h k = absurd (h refl)
  item_untaken (suc left) why h k = simp k

  pub item_unread : (left : ℕ) (own behind : Bor (List ℕ)) (why : Refusal) → (left ≡ 0 → ⊥) → taken s ≡ Ok (own, behind) → type_at mode (left - 1) own ≡ Err why → item_at mode left s ≡ Err why
  unfolding item_at
  item_unread zero own behind why h k l = absurd (h refl)
  item_unread (suc left) own behind why h k l =
      let z : left ≡ suc left - 1 = omega arith in
      let r : type_at mode left own ≡ Err why = ap (λ (n : ℕ). type_at mode n own) z ∙ l in
      simp (k, r)

  pub item_read : (left : ℕ) (own behind : Bor (List ℕ)) (info : AdsDataTypeInfo) → (left ≡ 0 → ⊥) → taken s ≡ Ok (own, behind) → type_at mode (left - 1) own ≡ Ok info → item_at mode left s ≡ Ok (info, behind)
  unfolding item_at
  item_read zero own behind info h k l = absurd (h refl)
  item_read (suc left) own behind info h k l =
      let z : left ≡ suc left - 1 = omega arith in
      let r : type_at mode left own ≡ Ok info = ap (λ (n : ℕ). type_at mode n own) z ∙ l in
      simp (k, r)

-- an entry, by what its sub-items are read as
pub type_step : (mode : Mode) (left : ℕ) (e : Bor (List ℕ)) → type_at mode left e ≡ type_with mode (item_at mode left) e
unfolding type_at item_at
type_step mode zero e = refl
type_step mode (suc left) e = refl

pub taken_fits : (s own behind : Bor (List ℕ)) → taken s ≡ Ok (own, behind) → length own.now + length behind.now ≡ length s.now
unfolding taken
taken_fits s own behind h = grind (arith, length-take, length-drop)
