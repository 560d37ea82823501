use Rattle.std.proofs.Common.{◌≡◌, ◌+◌, ◌-◌, ◌≤◌, length}
use Rattle.refactor.specs.Refactor.{chained}
use Rattle.refactor.proofs.chain.Given as goal

abbrev pub invariant-loop-info : goal.invariant-loop-info
invariant-loop-info l =
    record {
      room : l.rest.count + length l.rest.bytes.now ≤ length l.initial.rest.bytes.now;
      same : chained l.rest.bytes l.rest.count (length l.initial.rest.bytes.now - l.rest.count) ≡ chained l.initial.rest.bytes 0 (length l.initial.rest.bytes.now);
    }

abbrev pub decreases-loop-info : goal.decreases-loop-info
decreases-loop-info l = length l.rest.bytes.now
