-- Two fit fields that mean the same are written as the same bytes.
use Rattle.std.proofs.Common.{ℕ, ◌≡◌, refl, sym, ap, ◌∙◌, Bool, true, false, List, length, Ok, Bor}
use Rattle.attribute.specs.Attribute.{listed}
use Rattle.attribute.specs.Block.{block_checked}
use Rattle.attribute.specs.Told as attributes
use Rattle.attribute.specs.Fit.{block_of}
use Rattle.attribute.proofs.Fit.{attribute_blocks_made}
use Rattle.writing.specs.Layout.{attributes_bytes}
use Rattle.field.specs.Tail.{attributes_flag}
use Rattle.field.specs.Told.{Told}
use Rattle.field.specs.Writing.{flagged, numbers_bytes, header_bytes, sections_bytes, field_bytes}
use Rattle.field.proofs.Accepted.{accepted_is}
use Rattle.fields_regrown.specs.Theorems.{FieldsFaithful}

-- blocks that pass and tell the same are the same, with their counts
same_block : (flag : Bool) (c d : ℕ) (a b : Bor (List ℕ)) → (flag ≡ true → block_checked c a ≡ Ok tt) → (flag ≡ true → block_checked d b ≡ Ok tt)
    → attributes.told (listed a c) ≡ attributes.told (listed b d) → attributes_bytes flag c a.now ≡ attributes_bytes flag d b.now
unfolding attributes_bytes
same_block true c d a b g h e =
    let x = attribute_blocks_made c a (g refl) in
    let y = attribute_blocks_made d b (h refl) in
    let count : c ≡ d = sym x.long ∙ ap length e ∙ y.long in
    let bytes : a.now ≡ b.now = x.is ∙ ap block_of e ∙ sym y.is in
    simp (count, bytes)
same_block false c d a b g h e = refl

pub faithful : FieldsFaithful
unfolding field_bytes header_bytes numbers_bytes sections_bytes
faithful p q extra other f g e =
    let a = (accepted_is p (field_bytes p) f.accepted).0 in
    let b = (accepted_is q (field_bytes q) g.accepted).0 in
    let flags : p.flags ≡ q.flags = ap (λ (m : Told). m.flags) e in
    let here : flagged p attributes_flag ≡ flagged q attributes_flag = rw flags refl in
    let block = same_block (flagged q attributes_flag) p.attributes.count q.attributes.count p.attributes.bytes q.attributes.bytes (λ t. a.block (here ∙ t)) b.block (ap (λ (m : Told). m.attributes) e) in
    let version : p.version ≡ q.version = ap (λ (m : Told). m.version) e in
    let hash : p.hash_value ≡ q.hash_value = ap (λ (m : Told). m.hash_value) e in
    let type_hash : p.type_hash_value ≡ q.type_hash_value = ap (λ (m : Told). m.type_hash_value) e in
    let size : p.size ≡ q.size = ap (λ (m : Told). m.size) e in
    let offset : p.offset ≡ q.offset = ap (λ (m : Told). m.offset) e in
    let type_id : p.type_id ≡ q.type_id = ap (λ (m : Told). m.type_id) e in
    let name : p.name.now ≡ q.name.now = ap (λ (m : Told). m.name) e in
    let type_name : p.type_name.now ≡ q.type_name.now = ap (λ (m : Told). m.type_name) e in
    let comment : p.comment.now ≡ q.comment.now = ap (λ (m : Told). m.comment) e in
    let guid : p.guid ≡ q.guid = ap (λ (m : Told). m.guid) e in
    simp (version, hash, type_hash, size, offset, type_id, flags, name, type_name, comment, guid, block)
