-- What is written of a symbol, part by part, as it is compared.
use Rattle.std.proofs.Common.{◌≡◌, ℕ, Bool, true, false, List, [], ◌∷◌, ◌++◌, length, Ok, Err, Result, refl, sym, ap, ◌∙◌, ◌≤◌, arith}
use Rattle.std.specs.Prelude.{if◌then◌else◌}
use Rattle.le.specs.Le.{bytes2, bytes4}
use Rattle.part.specs.Outcome.{and_then}
use Rattle.writing.specs.Layout.{lengths_bytes, string_bytes, strings_bytes, attributes_bytes, entry_bytes}
use Rattle.symbol.specs.declared.writer.NewSymbol.{NewSymbol}
use Rattle.symbol.specs.Symbol.{attributes_flag, extended_flags_flag}
use Rattle.symbol.specs.Writing.{flagged, numbers_bytes, header_bytes, guid_bytes, extended_bytes, sections_bytes, symbol_bytes, symbol_written}
use Rattle.refusal.specs.declared.Refusal.{Refusal}
use Rattle.walk.specs.Mapped.{map_ok}
use Rattle.writing.specs.Checks.{IsShort}
use Rattle.writing.proofs.Entry.{claimed}
use Rattle.symbol.proofs.Accepted.{accepted_is}
use Rattle.plain.specs.Plain.{along}
use Rattle.plain.proofs.Parts.{along_append}

-- the first part, and those behind it
part_then : (e : List ℕ) (at : ℕ) (xs ys : List ℕ) (more : ℕ → Result ℕ ℕ) → ((next : ℕ) → along e next ys ≡ more next) → along e at (xs ++ ys) ≡ and_then (along e at xs) more
part_then e at xs ys more h = along_append e at xs ys ∙ on (along e at xs)
  where
    on : (t : Result ℕ ℕ) → and_then t (λ next. along e next ys) ≡ and_then t more
    on (Ok next) = h next
    on (Err place) = refl

module _ (e : List ℕ) (at : ℕ) where
  pub string_along : (s : List ℕ) → along e at (string_bytes s) ≡ and_then (along e at s) (λ next. along e next (0 ∷ []))
  string_along s = along_append e at s (0 ∷ [])

  pub strings_along : (name type comment : List ℕ)
      → along e at (strings_bytes name type comment) ≡ and_then (along e at (string_bytes name)) (λ a. and_then (along e a (string_bytes type)) (λ b. along e b (string_bytes comment)))
  unfolding strings_bytes
  strings_along name type comment = part_then e at (string_bytes name) _ _ (λ a. along_append e a (string_bytes type) (string_bytes comment))

  pub lengths_along : (name type comment : List ℕ)
      → along e at (lengths_bytes name type comment) ≡ and_then (along e at (bytes2 (length name))) (λ a. and_then (along e a (bytes2 (length type))) (λ b. along e b (bytes2 (length comment))))
  unfolding lengths_bytes
  lengths_along name type comment = part_then e at (bytes2 (length name)) _ _ (λ a. along_append e a (bytes2 (length type)) (bytes2 (length comment)))

  pub numbers_along : (n : NewSymbol) → along e at (numbers_bytes n) ≡ and_then (along e at (bytes4 n.index_group.0)) (λ a. and_then (along e a (bytes4 n.index_offset.0))
      (λ b. and_then (along e b (bytes4 n.size)) (λ c. and_then (along e c (bytes4 n.data_type_id)) (λ d. and_then (along e d (bytes2 n.flags.0)) (λ f. along e f (bytes2 n.high))))))
  unfolding numbers_bytes
  numbers_along n =
      part_then e at (bytes4 n.index_group.0) _ _
      (λ a. part_then e a (bytes4 n.index_offset.0) _ _
      (λ b. part_then e b (bytes4 n.size) _ _
      (λ c. part_then e c (bytes4 n.data_type_id) _ _
      (λ d. along_append e d (bytes2 n.flags.0) (bytes2 n.high)))))

  pub header_along : (n : NewSymbol) → along e at (header_bytes n) ≡ and_then (along e at (numbers_bytes n)) (λ next. along e next (lengths_bytes n.name.now n.type_name.now n.comment.now))
  unfolding header_bytes
  header_along n = along_append e at (numbers_bytes n) (lengths_bytes n.name.now n.type_name.now n.comment.now)

  pub attributes_along : (flagged : Bool) (count : ℕ) (block : List ℕ)
      → along e at (attributes_bytes flagged count block) ≡ and_then (along e at (if flagged then bytes2 count else [])) (λ next. along e next (if flagged then block else []))
  unfolding attributes_bytes
  attributes_along true count block = along_append e at (bytes2 count) block
  attributes_along false count block = along_append e at [] []

  pub sections_along : (n : NewSymbol) → along e at (sections_bytes n) ≡ and_then (along e at (guid_bytes n.guid)) (λ a. and_then (along e a (attributes_bytes (flagged n attributes_flag) n.attributes.count n.attributes.bytes.now))
      (λ b. and_then (along e b (extended_bytes (flagged n extended_flags_flag) n.extended_flags.0)) (λ c. along e c n.refactor_infos.bytes.now)))
  unfolding sections_bytes
  sections_along n =
      part_then e at (guid_bytes n.guid) _ _
      (λ a. part_then e a (attributes_bytes (flagged n attributes_flag) n.attributes.count n.attributes.bytes.now) _ _
      (λ b. along_append e b (extended_bytes (flagged n extended_flags_flag) n.extended_flags.0) n.refactor_infos.bytes.now))

  pub symbol_along : (n : NewSymbol)
      → along e at (symbol_bytes n) ≡ and_then (along e at (bytes4 (length (symbol_bytes n)))) (λ a. and_then (along e a (header_bytes n))
      (λ b. and_then (along e b (strings_bytes n.name.now n.type_name.now n.comment.now)) (λ c. along e c (sections_bytes n))))
  unfolding symbol_bytes
  symbol_along n =
      let rest : List ℕ = header_bytes n ++ (strings_bytes n.name.now n.type_name.now n.comment.now ++ sections_bytes n) in
      ap (along e at) (sym (claimed rest refl))
      ∙ part_then e at (bytes4 (length (entry_bytes rest))) _ _
      (λ a. part_then e a (header_bytes n) _ _ (λ b. along_append e b (strings_bytes n.name.now n.type_name.now n.comment.now) (sections_bytes n)))

-- what a symbol whose size is told has passed
pub record Sized (n : NewSymbol) (size : ℕ) : Type 0 where
  pub short : IsShort n.name.now n.type_name.now n.comment.now
  pub few : n.attributes.count ≤ 65535
  pub written : symbol_written n ≡ Ok (symbol_bytes n)
  pub long : length (symbol_bytes n) ≡ size
  pub small : size ≤ 16777216

sized_by : (n : NewSymbol) (size : ℕ) (t : Result (List ℕ) Refusal) → symbol_written n ≡ t → map_ok length t ≡ Ok size → Sized n size
sized_by n size (Ok bytes) h e =
    let a = accepted_is n bytes h in
    let l : length bytes ≡ size = cc in
    let s = ap length (sym a.1) ∙ l in
    record { short = a.0.short; few = a.0.count; written = h ∙ ap Ok a.1; long = s; small = omega (arith, a.0.small, s) }
sized_by n size (Err why) h e = cc

pub is_sized : (n : NewSymbol) (size : ℕ) → map_ok length (symbol_written n) ≡ Ok size → Sized n size
is_sized n size h = sized_by n size (symbol_written n) refl h

refused_by : (t : Result (List ℕ) Refusal) (why : Refusal) → map_ok length t ≡ Err why → t ≡ Err why
refused_by (Ok bytes) why h = cc
refused_by (Err w) why h = cc

pub not_sized : (n : NewSymbol) (why : Refusal) → map_ok length (symbol_written n) ≡ Err why → symbol_written n ≡ Err why
not_sized n why h = refused_by (symbol_written n) why h
