-- Bytes that are the end of an entry, and the end bytes of attributes in them.
use Rattle.std.proofs.Common.{ℕ, zero, suc, ◌+◌, ◌-◌, ◌≡◌, ap, subst, ◌∙◌, Bool, List, length, Bor}
use Rattle.std.specs.Prelude.{Ok}
use Rattle.le.specs.Le.{has}
use Rattle.part.specs.End.{IsEnd}
use Rattle.attribute.specs.Attribute.{listed, ends}
use Rattle.attribute.specs.Behind.{bytes_behind}
use Rattle.attribute.proofs.Behind.{ends_behind}
use Rattle.field.specs.declared.front.Front.{Front}
use Rattle.layout.specs.Layout.{guid_of}
use Rattle.field.specs.Tail.{sections_of, attribute_ends}
use Rattle.layout.proofs.Guid.{end_guid}
use Rattle.field.proofs.Within.{end_mask, end_methods, is_list}
use Rattle.data_type.specs.declared.AdsDataTypeInfo.{AdsDataTypeInfo}
use Rattle.data_type.specs.declared.reader.SubItemsRead.{SubItemsRead}
use Rattle.data_type.specs.DataType.{ItemReader, items_from}
use Rattle.part.proofs.Outcome.{both_passed}

-- sub-items that were read, where each leaves an end
pub end_rest : {e : Bor (List ℕ)} (item : ItemReader) → ((s : Bor (List ℕ)) (p : AdsDataTypeInfo × Bor (List ℕ)) → item s ≡ Ok p → IsEnd e s → IsEnd e p.1)
    → (n : ℕ) (s : Bor (List ℕ)) (items : SubItemsRead) → items_from item s n ≡ Ok items → IsEnd e s → IsEnd e items.rest
unfolding items_from
end_rest {e} item each zero s items h i = let z : record { rest = s; members = 0 } ≡ items = cc h in subst (λ (x : SubItemsRead). IsEnd e x.rest) z i
end_rest {e} item each (suc n) s items h i =
    let p = both_passed (item s) h in
    let m = both_passed (items_from item p.0.1 n) p.1.1 in
    let w : record { rest = m.0.rest; members = 1 + p.0.0.member_count + m.0.members } ≡ items = cc m.1.1 in
    let z : m.0.rest ≡ items.rest = ap (λ (x : SubItemsRead). x.rest) w in
    subst (IsEnd e) z (end_rest item each n p.0.1 m.0 m.1.0 (each s p.0 p.1.0 i))

module _ (e : Bor (List ℕ)) where
  -- those of the attributes that a tail tells, from an end of the entry on
  pub tail_bytes : (f : Front) (s : Bor (List ℕ)) (flagged : Bool) → f.length ≡ length e.now → IsEnd e s
      → attribute_ends f.length (sections_of f (guid_of s flagged).1).0 ≡ bytes_behind e (listed (sections_of f (guid_of s flagged).1).0.bytes (sections_of f (guid_of s flagged).1).0.count)
  tail_bytes f s flagged l i =
      let a : IsEnd e (sections_of f (guid_of s flagged).1).0.bytes =
      (is_list (has f.flags.0 0x1000) (end_methods (has f.flags.0 0x0800) (end_mask f.size (has f.flags.0 0x0200) (end_guid flagged i)))).place in
      let b : Bor (List ℕ) = (sections_of f (guid_of s flagged).1).0.bytes in
      ap (λ (x : ℕ). ends b (x - length b.now) (sections_of f (guid_of s flagged).1).0.count) l
      ∙ ends_behind e b (sections_of f (guid_of s flagged).1).0.count a
