-- The numbers of a written entry's header, grown by any bytes, and where its strings stand.
use Rattle.std.proofs.Common.{ℕ, ◌+◌, ◌<◌, ◌≡◌, refl, List, ◌++◌, length, arith}
use mathlib.Core.List.{append_assoc}
use Rattle.le.specs.Le.{le2, le4, bytes4}
use Rattle.writing.specs.Layout.{lengths_bytes, strings_bytes, entry_bytes}
use Rattle.writing.proofs.Laid.{Laid}
use Rattle.symbol.specs.declared.writer.NewSymbol.{NewSymbol}
use Rattle.symbol.specs.Writing.{numbers_bytes, header_bytes, sections_bytes}
use Rattle.symbol.specs.Told.{IsTyped}
use Rattle.symbol.proofs.Accepted.{Accepted}

-- what follows the entry's length
abbrev pub body_of : NewSymbol → List ℕ
body_of n = header_bytes n ++ (strings_bytes n.name.now n.type_name.now n.comment.now ++ sections_bytes n)

module _ (n : NewSymbol) (t : IsTyped n) (a : Accepted n) (extra : List ℕ) (fits : length (body_of n ++ extra) + 4 < 4294967296) where
  abbrev pub e : List ℕ
  e = entry_bytes (body_of n ++ extra)

  pub index_group : le4 e 4 ≡ n.index_group.0
  unfolding entry_bytes header_bytes numbers_bytes le4
  index_group = omega arith

  pub index_offset : le4 e 8 ≡ n.index_offset.0
  unfolding entry_bytes header_bytes numbers_bytes le4
  index_offset = omega arith

  pub size : le4 e 12 ≡ n.size
  unfolding entry_bytes header_bytes numbers_bytes le4
  size = omega arith

  pub data_type_id : le4 e 16 ≡ n.data_type_id
  unfolding entry_bytes header_bytes numbers_bytes le4
  data_type_id = omega arith

  pub flags : le2 e 20 ≡ n.flags.0
  unfolding entry_bytes header_bytes numbers_bytes le2
  flags = omega arith

  pub high : le2 e 22 ≡ n.high
  unfolding entry_bytes header_bytes numbers_bytes le2
  high = omega arith

  pub name_length : le2 e 24 ≡ length n.name.now
  unfolding entry_bytes header_bytes numbers_bytes lengths_bytes le2
  name_length = omega arith

  pub type_length : le2 e 26 ≡ length n.type_name.now
  unfolding entry_bytes header_bytes numbers_bytes lengths_bytes le2
  type_length = omega arith

  pub comment_length : le2 e 28 ≡ length n.comment.now
  unfolding entry_bytes header_bytes numbers_bytes lengths_bytes le2
  comment_length = omega arith

  -- the header with the entry length, and the strings after it
  pub laid : Laid e (bytes4 (length (body_of n ++ extra) + 4) ++ header_bytes n) n.name.now n.type_name.now n.comment.now (sections_bytes n ++ extra) 30
  unfolding entry_bytes header_bytes numbers_bytes lengths_bytes
  laid = record { is = simp append_assoc; long = refl }
