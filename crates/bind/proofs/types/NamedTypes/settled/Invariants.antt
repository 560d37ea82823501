use Rattle.std.proofs.Common.{◌≡◌}
use Rattle.bind.specs.Found.{type_found}
use Rattle.bind.specs.Binding.{settled}
use Rattle.bind.proofs.types.NamedTypes.settled.Given as goal

abbrev pub invariant-loop-here : goal.invariant-loop-here
invariant-loop-here l = settled (type_found l.self.mode l.self.upload) l.self.upload.bytes l.more l.here l.at ≡ settled (type_found l.self.mode l.self.upload) l.self.upload.bytes 16 l.fn.start l.at

abbrev pub decreases-loop-here : goal.decreases-loop-here
decreases-loop-here l = l.more
