use Rattle.std.proofs.Common.{take}
use Rattle.std.specs.List.{flat_map}
use Rattle.std.specs.Fmt.{HasWritten, IsPlainFormatter}
use Rattle.picture.specs.Rows.{section_text}
use Rattle.picture.proofs.rows.DrawnDisplay.fmt.Given as goal

abbrev pub invariant-loop-section : goal.invariant-loop-section
invariant-loop-section g l =
    IsPlainFormatter l.fn.f → HasWritten g.W.Write.write_str_gives l.fn.f (flat_map (section_text l.self.0.coloured l.self.0.start l.self.0.end) (take l.section-index l.section-items)) l.f
