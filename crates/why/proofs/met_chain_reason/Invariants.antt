use Rattle.std.proofs.Common.{◌≡◌, ◌+◌, ◌-◌, ◌≤◌, length}
use Rattle.why.specs.Reasons.{chain_from, met_chain_reason}
use Rattle.why.proofs.met_chain_reason.Given as goal

abbrev pub invariant-loop-why : goal.invariant-loop-why
invariant-loop-why l =
    record {
      room : l.rest.count + length l.rest.bytes.now ≤ length l.initial.rest.bytes.now;
      same : chain_from l.whole l.place l.rest.bytes l.rest.count (length l.initial.rest.bytes.now - l.rest.count) ≡ met_chain_reason l.whole l.initial.rest.bytes;
    }

abbrev pub decreases-loop-why : goal.decreases-loop-why
decreases-loop-why l = length l.rest.bytes.now
