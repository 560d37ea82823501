use Rattle.std.proofs.Common.{length}
use Rattle.captures.proofs.Lines.{Left}
use Rattle.captures.proofs.put_upload.Given as goal

abbrev pub invariant-loop-end : goal.invariant-loop-end
invariant-loop-end l = Left l.text l.rest l.initial.upload l.upload l.at

abbrev pub decreases-loop-end : goal.decreases-loop-end
decreases-loop-end l = length l.rest
