-- What a symbol holds lies in the bytes that it was read from.
use Rattle.std.proofs.Common.{ℕ, ◌+◌, ◌≤◌, Bool, List, length, arith, Bor, length-drop}
use Rattle.std.proofs.lemmas.Grind.{common_steps}
use Rattle.le.specs.Le.{le2, has}
use Rattle.part.specs.Slice.{after}
use Rattle.attribute.proofs.Laws.{after_within}
use Rattle.layout.specs.Layout.{guid_of}
use Rattle.symbol.specs.Symbol.{type_guid_flag, attributes_flag, extended_flags_flag, refactor_info_flag, extended_word, attributes_of, extended_of, refactor_infos_of, with_strings, IsWithin}

guid_within : (s : Bor (List ℕ)) (b : Bool) → length (guid_of s b).1.now ≤ length s.now
unfolding guid_of
guid_within s b = grind (arith, common_steps)

attributes_within : (s : Bor (List ℕ)) (b : Bool) → (length (attributes_of s b).0.bytes.now ≤ length s.now) × (length (attributes_of s b).1.now ≤ length s.now)
unfolding attributes_of
attributes_within s b = grind (arith, common_steps, after_within)

extended_within : (s : Bor (List ℕ)) (b : Bool) → length (extended_of s b).1.now ≤ length s.now
unfolding extended_of
extended_within s b = grind (arith, common_steps)

refactor_infos_within : (s : Bor (List ℕ)) (b : Bool) → length (refactor_infos_of s b).0.bytes.now ≤ length s.now
unfolding refactor_infos_of
refactor_infos_within s b = grind (arith, common_steps)

pub within : (e : Bor (List ℕ)) (n t k : ℕ) → 33 + n + t + k ≤ length e.now → IsWithin e (with_strings e n t k)
unfolding with_strings
within e n t k h =
    let w : ℕ = le2 e.now 20 in
    let s : Bor (List ℕ) = after e (33 + n + t + k) in
    let l : length s.now ≤ length e.now = omega (arith, length-drop (33 + n + t + k) e.now) in
    let g = guid_of s (has w type_guid_flag) in
    let lg = guid_within s (has w type_guid_flag) in
    let la = attributes_within g.1 (has w attributes_flag) in
    let a = attributes_of g.1 (has w attributes_flag) in
    let x = extended_of a.1 (has w extended_flags_flag) in
    let lx = extended_within a.1 (has w extended_flags_flag) in
    let lf = refactor_infos_within x.1 (has (extended_word x.0) refactor_info_flag) in
    record {
      strings = grind (arith, common_steps);
      attributes = omega (arith, l, lg, la.0);
      refactor_infos = omega (arith, l, lg, la.1, lx, lf);
    }
