use Rattle.std.proofs.Common.{◌≡◌, ◌∙◌, ◌+◌, ◌-◌, ◌++◌, ap, ap₂, length, append_assoc, length-append, List, ℕ, arith}
use Rattle.le.specs.Le.{bytes2, bytes4}
use Rattle.le.proofs.Laws.{after, same_bytes}
use Rattle.writing.specs.Layout.{lengths_bytes, strings_bytes}
use Rattle.writing.proofs.Entry.{claimed}
use Rattle.sheet_import.specs.Strings.{string_of}
use Rattle.sheet_import.specs.Import.{numbers_bytes, entry_of}
use Rattle.sheet_import.proofs.Sizes.{entry_long, numbers_long, lengths_long}
use Rattle.sheet_import.proofs.Putting.{before, string_long}
use Rattle.sheet_import.proofs.put_entry.Goals as goal

pub put_string-type_name-requires-clause-room : goal.put_string-type_name-requires-clause-room
put_string-type_name-requires-clause-room c = omega (arith, entry_long)

pub put_string-comment-requires-clause-room : goal.put_string-comment-requires-clause-room
put_string-comment-requires-clause-room c = omega (arith, entry_long, string_long, c.put_string-type_name.ensures.end, c.put_string-type_name.ensures.long)

pub put_string-end-requires-clause-room : goal.put_string-end-requires-clause-room
put_string-end-requires-clause-room c =
    omega (
      arith,
      entry_long,
      string_long,
      c.put_string-type_name.ensures.end,
      c.put_string-type_name.ensures.long,
      c.put_string-comment.ensures.end,
      c.put_string-comment.ensures.long,
    )

pub put_lengths-requires : goal.put_lengths-requires
put_lengths-requires c =
    omega (
      arith,
      entry_long,
      numbers_long,
      c.put_string-type_name.ensures.long,
      c.put_string-comment.ensures.long,
      c.put_string-end.ensures.long,
      c.put_u32-a.ensures.end,
      c.put_u32-a.ensures.long,
      c.put_numbers-b.ensures.end,
      c.put_numbers-b.ensures.long,
    )

pub returns : goal.returns
unfolding entry_of lengths_bytes strings_bytes
returns c =
    let one : List ℕ = string_of c.args.cells.now.first.now in
    let two : List ℕ = string_of c.args.cells.now.second.now in
    let three : List ℕ = string_of c.args.cells.now.third.now in
    let at_type : c.put_string-type_name.result ≡ c.args.at + 30 + (length one + 1) = omega (arith, c.put_string-type_name.ensures.end, string_long one) in
    let at_comment : c.put_string-comment.result ≡ c.put_string-type_name.result + (length two + 1) = omega (arith, c.put_string-comment.ensures.end, string_long two) in
    let at_end : c.put_string-end.result ≡ c.put_string-comment.result + (length three + 1) = omega (arith, c.put_string-end.ensures.end, string_long three) in
    let name : c.put_string-type_name.result - (c.args.at + 30) - 1 ≡ length one = omega (arith, at_type) in
    let type_name : c.put_string-comment.result - c.put_string-type_name.result - 1 ≡ length two = omega (arith, at_comment) in
    let comment : c.put_string-end.result - c.put_string-comment.result - 1 ≡ length three = omega (arith, at_end) in
    let size : length (entry_of c.args.numbers.now c.args.cells.now) ≡ c.put_string-end.result - c.args.at =
    entry_long c.args.numbers.now c.args.cells.now ∙ omega (arith, at_type, at_comment, at_end) in
    let strings = after c.put_string-type_name.ensures (after c.put_string-comment.ensures c.put_string-end.ensures) in
    let lengths = same_bytes (ap₂ (λ (x y : List ℕ). x ++ y) (ap bytes2 name) (ap₂ (λ (x y : List ℕ). x ++ y) (ap bytes2 type_name) (ap bytes2 comment))) c.put_lengths.ensures in
    let header = after c.put_u32-a.ensures (after c.put_numbers-b.ensures lengths) in
    let thirty : c.args.at + 30 ≡ c.args.at + length (bytes4 (c.put_string-end.result - c.args.at) ++ (numbers_bytes c.args.numbers.now ++ lengths_bytes one two three)) =
    omega (
      arith,
      length-append (bytes4 (c.put_string-end.result - c.args.at)) (numbers_bytes c.args.numbers.now ++ lengths_bytes one two three),
      length-append (numbers_bytes c.args.numbers.now) (lengths_bytes one two three),
      numbers_long c.args.numbers.now,
      lengths_long one two three,
    ) in
    let whole = before thirty strings header in
    same_bytes (
    append_assoc (bytes4 (c.put_string-end.result - c.args.at)) (numbers_bytes c.args.numbers.now ++ lengths_bytes one two three) (strings_bytes one two three)
    ∙ ap (λ (l : List ℕ). bytes4 (c.put_string-end.result - c.args.at) ++ l) (append_assoc (numbers_bytes c.args.numbers.now) (lengths_bytes one two three) (strings_bytes one two three))
    ∙ claimed _ size
    ) whole
