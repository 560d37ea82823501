use Rattle.std.proofs.Common.{take, codes, ◌++◌}
use Rattle.std.specs.List.{flat_map}
use Rattle.std.specs.Fmt.{HasWritten, IsPlainFormatter}
use Rattle.picture.specs.Rows.{name_text}
use Rattle.picture.proofs.rows.MoreNamesDisplay.fmt.Given as goal

abbrev pub invariant-loop-section : goal.invariant-loop-section
invariant-loop-section g l =
    IsPlainFormatter l.fn.f → HasWritten g.W.Write.write_str_gives l.fn.f (flat_map (λ x. codes " | " ++ name_text l.self.coloured l.self.start x) (take l.section-index l.section-items)) l.f
