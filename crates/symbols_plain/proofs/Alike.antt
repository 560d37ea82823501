-- Symbols that hold the same, wherever their strings and blocks lie, are written alike.
use Rattle.std.proofs.Common.{◌≡◌, ap}
use Rattle.symbol.specs.declared.writer.NewSymbol.{NewSymbol}
use Rattle.symbol.specs.Writing.{numbers_bytes, header_bytes, sections_bytes, symbol_bytes}
use Rattle.symbol.specs.Writable.{IsWritable}
use Rattle.symbol.specs.Again.{Given, given_of}

module _ (m n : NewSymbol) (h : given_of m ≡ given_of n) where
  flags : m.flags ≡ n.flags
  flags = ap (λ (g : Given). g.flags) h

  name : m.name.now ≡ n.name.now
  name = ap (λ (g : Given). g.name) h

  type_name : m.type_name.now ≡ n.type_name.now
  type_name = ap (λ (g : Given). g.type_name) h

  comment : m.comment.now ≡ n.comment.now
  comment = ap (λ (g : Given). g.comment) h

  guid : m.guid ≡ n.guid
  guid = ap (λ (g : Given). g.guid) h

  pub attributes : m.attributes.bytes.now ≡ n.attributes.bytes.now
  attributes = ap (λ (g : Given). g.attributes) h

  attribute_count : m.attributes.count ≡ n.attributes.count
  attribute_count = ap (λ (g : Given). g.attribute_count) h

  extended_flags : m.extended_flags ≡ n.extended_flags
  extended_flags = ap (λ (g : Given). g.extended_flags) h

  pub refactor_infos : m.refactor_infos.bytes.now ≡ n.refactor_infos.bytes.now
  refactor_infos = ap (λ (g : Given). g.refactor_infos) h

  refactor_count : m.refactor_infos.count ≡ n.refactor_infos.count
  refactor_count = ap (λ (g : Given). g.refactor_count) h

  pub writable : IsWritable n → IsWritable m
  writable w = record {
    short = rw (name, type_name, comment) w.short;
    few = rw attribute_count w.few;
    attributes = rw (attribute_count, attributes) w.attributes;
    refactor_infos = rw (refactor_count, refactor_infos) w.refactor_infos;
    guid_flagged = rw (guid, flags) w.guid_flagged;
    attributes_flagged = rw (flags, attributes) w.attributes_flagged;
    extended_flagged = rw (flags, extended_flags) w.extended_flagged;
    chain_flagged = rw (refactor_count, extended_flags) w.chain_flagged;
    within = rw (name, type_name, comment, flags, attributes, refactor_infos) w.within;
  }

  pub same_bytes : symbol_bytes m ≡ symbol_bytes n
  unfolding symbol_bytes header_bytes numbers_bytes sections_bytes
  same_bytes =
      let index_group : m.index_group ≡ n.index_group = ap (λ (g : Given). g.index_group) h in
      let index_offset : m.index_offset ≡ n.index_offset = ap (λ (g : Given). g.index_offset) h in
      let size : m.size ≡ n.size = ap (λ (g : Given). g.size) h in
      let data_type_id : m.data_type_id ≡ n.data_type_id = ap (λ (g : Given). g.data_type_id) h in
      let high : m.high ≡ n.high = ap (λ (g : Given). g.high) h in
      simp (index_group, index_offset, size, data_type_id, flags, high, name, type_name, comment, guid, attributes, attribute_count, extended_flags, refactor_infos)
