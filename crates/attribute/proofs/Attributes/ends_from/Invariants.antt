use Rattle.std.proofs.Common.{◌≡◌, ◌+◌, length}
use Rattle.refusal.specs.EndBytes.{ended}
use Rattle.attribute.specs.Attribute.{ends}
use Rattle.attribute.proofs.Attributes.ends_from.Given as goal

abbrev pub invariant-loop-rest : goal.invariant-loop-rest
invariant-loop-rest l =
    record {
      place : l.at + length l.rest.bytes.now ≡ l.place + length l.initial.rest.bytes.now;
      ended : ended (ends l.rest.bytes l.at l.rest.count) ≡ ended (ends l.initial.rest.bytes l.place l.initial.rest.count);
    }

abbrev pub decreases-loop-rest : goal.decreases-loop-rest
decreases-loop-rest l = l.rest.count
