use Rattle.std.proofs.Common.{take}
use Rattle.le.specs.Put.{Wrote}
use Rattle.hex.specs.Hex.{encode_upper}
use Rattle.captures.proofs.digits.put_digits.Given as goal

abbrev pub invariant-loop-byte : goal.invariant-loop-byte
invariant-loop-byte l = Wrote l.initial.text l.at (encode_upper (take l.byte-index l.bytes)) l.text l.next
