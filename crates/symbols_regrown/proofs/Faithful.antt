-- Two fit symbols that mean the same are written as the same bytes.
use Rattle.std.proofs.Common.{ℕ, ◌<◌, ◌≡◌, refl, sym, ap, ◌∙◌, Bool, true, false, List, length, Ok, Some, None, Bor}
use Rattle.std.specs.Prelude.{if◌then◌else◌}
use Rattle.std.specs.List.{All}
use Rattle.flags.specs.declared.symbol_flags.AdsSymbol2Flags.{AdsSymbol2Flags}
use Rattle.attribute.specs.Attribute as attribute
use Rattle.attribute.specs.Block as attribute-block
use Rattle.attribute.specs.Told as attributes
use Rattle.attribute.specs.Fit.{block_of}
use Rattle.attribute.proofs.Fit.{attribute_blocks_made}
use Rattle.refactor.specs.Refactor as refactor
use Rattle.refactor.specs.Block as refactor-block
use Rattle.refactor.specs.Told as refactors
use Rattle.refactor.specs.Fit.{chain_bytes, formers}
use Rattle.refactor.proofs.Fit.{refactor_blocks_made}
use Rattle.writing.specs.Layout.{attributes_bytes}
use Rattle.symbol.specs.Symbol.{attributes_flag, extended_flags_flag}
use Rattle.symbol.specs.Told.{Told}
use Rattle.symbol.specs.Writing.{flagged, extended_bytes, numbers_bytes, header_bytes, sections_bytes, symbol_bytes}
use Rattle.symbol.proofs.Accepted.{accepted_is}
use Rattle.symbols_regrown.specs.Theorems.{SymbolsFaithful}

-- blocks that pass and tell the same are the same, with their counts
same_attributes : (c d : ℕ) (a b : Bor (List ℕ)) → attribute-block.block_checked c a ≡ Ok tt → attribute-block.block_checked d b ≡ Ok tt
    → attributes.told (attribute.listed a c) ≡ attributes.told (attribute.listed b d) → (flag : Bool) → attributes_bytes flag c a.now ≡ attributes_bytes flag d b.now
unfolding attributes_bytes
same_attributes c d a b g h e true =
    let x = attribute_blocks_made c a g in
    let y = attribute_blocks_made d b h in
    let count : c ≡ d = sym x.long ∙ ap length e ∙ y.long in
    let bytes : a.now ≡ b.now = x.is ∙ ap block_of e ∙ sym y.is in
    simp (count, bytes)
same_attributes c d a b g h e false = refl

same_chain : (c d : ℕ) (a b : Bor (List ℕ)) → All (λ x. x < 256) a.now → All (λ x. x < 256) b.now → refactor-block.block_checked c a ≡ Ok tt → refactor-block.block_checked d b ≡ Ok tt
    → refactors.told (refactor.listed a c) ≡ refactors.told (refactor.listed b d) → a.now ≡ b.now
same_chain c d a b x y g h e = (refactor_blocks_made c a x g).is ∙ ap (λ l. chain_bytes (formers l)) e ∙ sym (refactor_blocks_made d b y h).is

same_extended : (flag : Bool) (v w : AdsSymbol2Flags) → (if flag then Some v else None) ≡ (if flag then Some w else None) → extended_bytes flag v.0 ≡ extended_bytes flag w.0
same_extended true v w e = let same : v ≡ w = cc in rw same refl
same_extended false v w e = refl

pub faithful : SymbolsFaithful
unfolding symbol_bytes header_bytes numbers_bytes sections_bytes
faithful n m extra other f g x y e =
    let a = (accepted_is n (symbol_bytes n) f.accepted).0 in
    let b = (accepted_is m (symbol_bytes m) g.accepted).0 in
    let flags : n.flags ≡ m.flags = ap (λ (t : Told). t.flags) e in
    let block = same_attributes n.attributes.count m.attributes.count n.attributes.bytes m.attributes.bytes a.attributes_good b.attributes_good (ap (λ (t : Told). t.attributes) e) (flagged m attributes_flag) in
    let chain = same_chain n.refactor_infos.count m.refactor_infos.count n.refactor_infos.bytes m.refactor_infos.bytes x y a.chain_good b.chain_good (ap (λ (t : Told). t.refactor_infos) e) in
    let more : flagged n extended_flags_flag ≡ flagged m extended_flags_flag = rw flags refl in
    let words = same_extended (flagged m extended_flags_flag) n.extended_flags m.extended_flags (rw more at (ap (λ (t : Told). t.extended_flags) e)) in
    let index_group : n.index_group ≡ m.index_group = ap (λ (t : Told). t.index_group) e in
    let index_offset : n.index_offset ≡ m.index_offset = ap (λ (t : Told). t.index_offset) e in
    let size : n.size ≡ m.size = ap (λ (t : Told). t.size) e in
    let data_type_id : n.data_type_id ≡ m.data_type_id = ap (λ (t : Told). t.data_type_id) e in
    let high : n.high ≡ m.high = ap (λ (t : Told). t.high) e in
    let name : n.name.now ≡ m.name.now = ap (λ (t : Told). t.name) e in
    let type_name : n.type_name.now ≡ m.type_name.now = ap (λ (t : Told). t.type_name) e in
    let comment : n.comment.now ≡ m.comment.now = ap (λ (t : Told). t.comment) e in
    let guid : n.guid ≡ m.guid = ap (λ (t : Told). t.guid) e in
    simp (index_group, index_offset, size, data_type_id, flags, high, name, type_name, comment, guid, block, words, chain)
