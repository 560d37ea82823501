use Rattle.std.proofs.Common.{◌≡◌, ◌≤◌, length, drop}
use Rattle.plain.specs.Plain.{along}
use Rattle.plain.proofs.along.Given as goal

abbrev pub invariant-loop-byte : goal.invariant-loop-byte
invariant-loop-byte l = record {
  left : along l.own l.at (drop l.byte-index l.bytes) ≡ along l.own l.at-2 l.bytes;
  there : l.at ≤ length l.own;
}
