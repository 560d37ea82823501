use Rattle.std.specs.Prelude.{Some}
use Rattle.pairing.specs.Pairs.{behind}
use Rattle.pairing.proofs.Turns.{one_told}
use Rattle.pairing.proofs.pairs.push_one.Goals as goal

pub returns : goal.returns
returns c = one_told c.args.all.now.items (record { a = Some c.args.number; b = c.args.partner }) (behind c.args.partner c.args.of_b.now) c.in_ok-push.ensures.items c.in_ok-push_behind.ensures
