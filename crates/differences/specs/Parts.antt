-- docs/FORMAT.md, "The command's text", of `compare`: the parts in which two accepted entries differ, by their sections.
use Rattle.std.specs.Prelude.{◌||◌, Bool, true, false, List, [], ◌∷◌, Option, Some, None, drop, if◌then◌else◌}
use Rattle.std.specs.List.{cons_option, filter_map}
use Rattle.std.specs.declared.cmp.Ordering.{Ordering}
use Rattle.std.specs.declared.cmp.Ordering.TheVariants.{Less, Equal, Greater}
use Rattle.symbol.specs.declared.AdsSymbolInfo.{AdsSymbolInfo}
use Rattle.sections.specs.Parts.{part_order}
use Rattle.sections.specs.declared.Part.{Part}
use Rattle.sections.specs.declared.Part.TheVariants.{StringLengths}
use Rattle.sections.specs.declared.Section.{Section}
use Rattle.values.specs.Alike.{same_bytes, tells_the_same}
use Rattle.values.specs.Values.{value_of}
use Rattle.values.specs.declared.Value.{Value}
use Rattle.values.specs.declared.Value.TheVariants.{Absent}
use Rattle.differences.specs.declared.Difference.{Difference}
use Rattle.differences.specs.First.{first_byte}

-- where a part stands before another, is the same, or stands behind it
abbrev pub by_order : {A : Type 0} → Ordering → A → A → A → A
by_order Less before same after = before
by_order Equal before same after = same
by_order Greater before same after = after

-- of the next section of each: both where they are the same part, else the one that stands before
abbrev pub next : Option Section → Option Section → Option Section × Option Section
next None other = (None, other)
next (Some x) None = (Some x, None)
next (Some x) (Some y) = by_order (part_order x.part y.part) (Some x, None) (Some x, Some y) (None, Some y)

abbrev pub behind : Option Section → List Section → List Section
behind None xs = xs
behind (Some x) xs = drop 1 xs

abbrev pub is_lengths : Part → Bool
is_lengths StringLengths = true
is_lengths p = false

-- nothing is told of the lengths of the strings, and of a part that has the same bytes in both
abbrev pub are_told_alike : Section → Section → Bool
are_told_alike x y = is_lengths x.part || same_bytes x.bytes.now y.bytes.now

-- what both tell, or where that is the same, the first byte that differs
abbrev pub told_apart : Section → Section → Value → Value → Value × Value
told_apart x y v w = if tells_the_same v w then first_byte x.at x.bytes.now y.at y.bytes.now else (v, w)

abbrev pub told_in : Part → Value × Value → Difference
told_in p v = record { part = Some p; in_a = v.0; in_b = v.1 }

module _ (r s : AdsSymbolInfo) where
  abbrev pub in_both : Section → Section → Option Difference
  in_both x y =
      if are_told_alike x y then None
      else Some (told_in x.part (told_apart x y (value_of r x.part x.bytes) (value_of s y.part y.bytes)))

  -- what is told of a part that both have, or one of them alone
  abbrev pub in_part : Option Section → Option Section → Option Difference
  in_part None None = None
  in_part None (Some y) = Some (told_in y.part (Absent, value_of s y.part y.bytes))
  in_part (Some x) None = Some (told_in x.part (value_of r x.part x.bytes, Absent))
  in_part (Some x) (Some y) = in_both x y

  -- a section of A and those behind it, beside some of B
  unfoldable pub in_front : Section → (List Section → List Difference) → List Section → List Difference
  in_front x more [] = cons_option (in_part (Some x) None) (more [])
  in_front x more (y ∷ ys) =
      by_order (part_order x.part y.part)
      (cons_option (in_part (Some x) None) (more (y ∷ ys)))
      (cons_option (in_part (Some x) (Some y)) (more ys))
      (cons_option (in_part None (Some y)) (in_front x more ys))

  unfoldable pub in_parts : List Section → List Section → List Difference
  in_parts [] ys = filter_map (λ y. in_part None (Some y)) ys
  in_parts (x ∷ xs) ys = in_front x (in_parts xs) ys
