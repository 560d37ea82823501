use Rattle.std.proofs.Common.{take}
use Rattle.std.specs.List.{flat_map}
use Rattle.std.specs.Int.RustNames.{bit_and}
use Rattle.std.specs.Fmt.{HasWritten, IsPlainFormatter}
use Rattle.values.specs.Names.{named_text}
use Rattle.values.proofs.names.ExtendedBitsDisplay.fmt.Given as goal

abbrev pub invariant-loop-flag : goal.invariant-loop-flag
invariant-loop-flag g l =
    IsPlainFormatter l.fn.f → HasWritten g.W.Write.write_str_gives l.fn.f (flat_map (λ f. named_text f.name.now (bit_and l.self.0 f.value.0)) (take l.flag-index l.flag-items)) l.f
