-- docs/FORMAT.md, "The command's text", of `compare`: how many entries there are, and how they compare.
use Rattle.std.specs.Prelude.{ℕ, ◌&&◌, Bool, List, [], ◌∷◌, ◌++◌, codes, not, is_some, if◌then◌else◌}
use Rattle.wording.specs.Wording.{grouped}
use Rattle.report.specs.Report.{plus, entries}
use Rattle.comparison.specs.declared.counts.Counted.{Counted}
use Rattle.pairing.specs.declared.rows.Row.{Row}
use Rattle.pairing.specs.Rows.{is_alike, is_unmoved, shift_in}

abbrev pub nothing : Counted
nothing = record { in_a = 0; in_b = 0; alike = 0; different = 0; only_in_a = 0; only_in_b = 0; moved = 0 }

abbrev pub added : ℕ → Bool → ℕ
added n is_one = if is_one then plus n 1 else n

unfoldable pub counted : Counted → Row → Counted
counted c r = record {
  in_a = added c.in_a (is_some r.a);
  in_b = added c.in_b (is_some r.b);
  alike = added c.alike (is_alike r.a r.b);
  different = added c.different (is_some r.a && is_some r.b && not (is_alike r.a r.b));
  only_in_a = added c.only_in_a (is_some r.a && not (is_some r.b));
  only_in_b = added c.only_in_b (is_some r.b && not (is_some r.a));
  moved = added c.moved (is_some r.a && is_some r.b && not (is_unmoved (shift_in r.a r.b)));
}

unfoldable pub counted_on : Counted → List Row → Counted
counted_on c [] = c
counted_on c (r ∷ rows) = counted_on (counted c r) rows

unfoldable pub counted_text : Counted → List ℕ
counted_text c =
    entries c.in_a ++ (codes " in A, " ++ (grouped c.in_b ++ (codes " in B: " ++ (grouped c.alike ++ (codes " alike, " ++ (grouped c.different ++ (codes " different, "
    ++ (grouped c.only_in_a ++ (codes " only in A, " ++ (grouped c.only_in_b ++ (codes " only in B; at other places: " ++ grouped c.moved)))))))))))
