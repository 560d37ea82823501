use Rattle.std.proofs.Common.{ℕ, ◌≡◌, ◌≤◌, ◌*◌}
use Rattle.std.specs.List.{flat_map, range_with_len}
use Rattle.std.specs.Fmt.{HasWritten, IsPlainFormatter}
use Rattle.picture.specs.Rows.{behind, row_of}
use Rattle.picture.proofs.rows.PictureDisplay.fmt.Given as goal

abbrev pub invariant-loop-number : goal.invariant-loop-number
invariant-loop-number g l = record {
  left : (s : ℕ) → 16 * l.number ≤ s → behind s l.left ≡ behind s l.self.sections.now;
  going : IsPlainFormatter l.fn.f → HasWritten g.W.Write.write_str_gives l.fn.f (flat_map (row_of l.self.coloured l.self.length l.self.sections.now) (range_with_len 0 l.number)) l.f;
}
