-- docs/FORMAT.md, "The command's text", of `compare`: what is counted, and what is written of a count, of what moved, and of an entry up to its parts.
use Rattle.std.specs.Prelude.{ℕ, ◌≡◌, ◌&&◌, true, List, [], ◌∷◌, ◌++◌, codes, decimal, not, is_some, Some, None, Ok, Err}
use Rattle.std.specs.Borrow.{Bor}
use Rattle.std.specs.List.{count_by, list_all}
use Rattle.refusal.specs.declared.Mode.{Mode}
use Rattle.refusal.specs.declared.Refusal.{Refusal}
use Rattle.refusal.specs.declared.Refusal.TheVariants.{EndByte}
use Rattle.sections.specs.declared.Part.TheVariants.{Attribute, Size}
use Rattle.values.specs.declared.Value.TheVariants.{Absent, Byte, Bytes, Refused}
use Rattle.wording.specs.Text.{quoted}
use Rattle.report.specs.Json.{refused_text}
use Rattle.report.specs.Tallies.{at_most}
use Rattle.pairing.specs.declared.pieces.Piece.{Piece}
use Rattle.pairing.specs.declared.pieces.Shift.TheVariants.{Later}
use Rattle.comparison.specs.declared.counts.Counted.{Counted}
use Rattle.pairing.specs.declared.rows.Row.{Row}
use Rattle.pairing.specs.Rows.{is_alike, is_unmoved, shift_in, stays}
use Rattle.comparison.specs.Moved.{moved_in}
use Rattle.comparison.specs.Counts.{nothing, counted_on, counted_text}
use Rattle.comparison.specs.Json.{moved_line, front_text, json_lines, parts_json}

abbrev pub of_all : List Row → Counted
of_all rows = counted_on nothing rows

-- a number stays at the highest once it is there
pub record CountsMeant : Type 0 where
  pub in_a : (rows : List Row) → (of_all rows).in_a ≡ at_most (count_by (λ r. is_some r.a) rows)
  pub in_b : (rows : List Row) → (of_all rows).in_b ≡ at_most (count_by (λ r. is_some r.b) rows)
  pub alike : (rows : List Row) → (of_all rows).alike ≡ at_most (count_by (λ r. is_alike r.a r.b) rows)
  pub different : (rows : List Row) → (of_all rows).different ≡ at_most (count_by (λ r. is_some r.a && is_some r.b && not (is_alike r.a r.b)) rows)
  pub only_in_a : (rows : List Row) → (of_all rows).only_in_a ≡ at_most (count_by (λ r. is_some r.a && not (is_some r.b)) rows)
  pub only_in_b : (rows : List Row) → (of_all rows).only_in_b ≡ at_most (count_by (λ r. is_some r.b && not (is_some r.a)) rows)
  pub moved : (rows : List Row) → (of_all rows).moved ≡ at_most (count_by (λ r. is_some r.a && is_some r.b && not (is_unmoved (shift_in r.a r.b))) rows)

-- every number another
pub record TextsMeant : Type 0 where
  pub counted : counted_text (record { in_a = 1234; in_b = 567; alike = 89; different = 10; only_in_a = 11; only_in_b = 12; moved = 13 })
      ≡ codes "1,234 entries in A, 567 in B: 89 alike, 10 different, 11 only in A, 12 only in B; at other places: 13"
  pub later : (p q : Piece) → p.place ≡ 20 → q.place ≡ 27 → moved_line (moved_in (Later 0) (Some p) (Some q)) ≡ codes "{\"later_in_b\":7,\"a\":{\"place\":20},\"b\":{\"place\":27}}\n"
  pub earlier : (p q : Piece) → p.place ≡ 27 → q.place ≡ 20 → moved_line (moved_in (Later 7) (Some p) (Some q)) ≡ codes "{\"later_in_b\":-7,\"a\":{\"place\":27},\"b\":{\"place\":20}}\n"
  pub back : (p q : Piece) → p.place ≡ 20 → q.place ≡ 20 → moved_line (moved_in (Later 7) (Some p) (Some q)) ≡ codes "{\"later_in_b\":0,\"a\":{\"place\":20},\"b\":{\"place\":20}}\n"
  pub on : (p q : Piece) → p.place ≡ 20 → q.place ≡ 27 → moved_line (moved_in (Later 7) (Some p) (Some q)) ≡ codes ""
  pub in_both : (p q : Piece) (own other : Bor (List ℕ)) → p.name ≡ Ok own → q.name ≡ Ok other
      → front_text (record { a = Some p; b = Some q }) ≡ codes "{\"name\":" ++ (quoted own.now ++ (codes ",\"a\":" ++ ((codes "{\"place\":" ++ (decimal p.place ++ codes "}")) ++ (codes ",\"b\":" ++ ((codes "{\"place\":" ++ (decimal q.place ++ codes "}")) ++ codes ",\"parts\":[")))))
  pub only_in_b : (q : Piece) (why : Refusal) → q.name ≡ Err why
      → front_text (record { a = None; b = Some q }) ≡ codes "{\"name\":" ++ (codes "null" ++ (codes ",\"a\":" ++ (codes "null" ++ (codes ",\"b\":" ++ (refused_text q.place why ++ codes ",\"parts\":[")))))
  -- the parts of an entry that differs, with a comma between two of them
  pub no_parts : parts_json true [] ≡ codes ""
  pub two_parts : parts_json true (record { part = Some Size; in_a = Bytes 8; in_b = Bytes 4 } ∷ record { part = Some (Attribute 2); in_a = Absent; in_b = Byte 65 10 } ∷ [])
      ≡ codes "{\"part\":\"size\",\"a\":8,\"b\":4},{\"part\":\"attribute 2\",\"a\":null,\"b\":{\"byte\":65,\"value\":10}}"
  pub refusal : parts_json true (record { part = None; in_a = Refused (EndByte 41 0x58); in_b = Absent } ∷ [])
      ≡ codes "{\"part\":\"refusal\",\"a\":\"refusal 16, end byte: byte 41 of the entry is 0x58 and not 0\",\"b\":null}"

-- nothing is written of rows exactly where every entry stays: both uploads have it, in the same bytes and at the same place
pub record JsonMeant : Type 0 where
  pub all_stay : (mode : Mode) (rows : List Row) → json_lines mode (Later 0) rows ≡ [] → list_all stays rows ≡ true
  pub nothing : (mode : Mode) (rows : List Row) → list_all stays rows ≡ true → json_lines mode (Later 0) rows ≡ []
