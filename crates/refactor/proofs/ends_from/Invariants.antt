use Rattle.std.proofs.Common.{◌≡◌, ◌+◌, ◌-◌, ◌≤◌, length}
use Rattle.refusal.specs.EndBytes.{ended}
use Rattle.refactor.specs.Refactor.{ends, ends_from}
use Rattle.refactor.proofs.ends_from.Given as goal

abbrev pub invariant-loop-next : goal.invariant-loop-next
invariant-loop-next l =
    record {
      room : l.rest.count + length l.rest.bytes.now ≤ length l.initial.rest.bytes.now;
      place : l.at + length l.rest.bytes.now ≡ l.place + length l.initial.rest.bytes.now;
      same : ended (ends_from l.rest.bytes l.at (length l.initial.rest.bytes.now - l.rest.count)) ≡ ended (ends l.initial.rest.bytes l.place);
    }

abbrev pub decreases-loop-next : goal.decreases-loop-next
decreases-loop-next l = length l.rest.bytes.now
