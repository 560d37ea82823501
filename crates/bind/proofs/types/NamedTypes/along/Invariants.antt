use Rattle.std.proofs.Common.{◌≡◌, length}
use Rattle.bind.specs.Found.{type_found}
use Rattle.bind.specs.Binding.{along}
use Rattle.bind.proofs.types.NamedTypes.along.Given as goal

abbrev pub invariant-loop-at : goal.invariant-loop-at
invariant-loop-at l =
    along (type_found l.self.mode l.self.upload) l.self.upload.bytes l.long (length l.way.rest.now) l.way.here l.way.rest
    ≡ along (type_found l.self.mode l.self.upload) l.self.upload.bytes l.long (length l.fn.start.rest.now) l.fn.start.here l.fn.start.rest

abbrev pub decreases-loop-at : goal.decreases-loop-at
decreases-loop-at l = length l.way.rest.now
