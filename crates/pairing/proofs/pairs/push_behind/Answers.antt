use Rattle.pairing.proofs.Turns.{behind_none}
use Rattle.pairing.proofs.pairs.push_behind.Goals as goal

pub returns : goal.returns
returns c = behind_none c.args.of_b.now _ c.args.partner _ c.in-Some.is c.if-other-of_b.false
