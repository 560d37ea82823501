use Rattle.std.proofs.Common.{◌≡◌, ◌+◌, ◌-◌, length}
use Rattle.pairing.specs.Pairs.{seen, matched}
use Rattle.pairing.proofs.pairs.Pairing.join_alike.Given as goal

abbrev pub invariant-loop-turn : goal.invariant-loop-turn
invariant-loop-turn l = matched l.rule l.a l.b (l.turns - l._turn) l.ours l.theirs (seen l.self) ≡ matched l.rule l.a l.b (length l.initial.ours + length l.initial.theirs) l.initial.ours l.initial.theirs (seen l.fn.self)
