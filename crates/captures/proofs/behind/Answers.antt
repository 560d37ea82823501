use Rattle.std.proofs.Common.{◌+◌, ◌-◌, length, drop, arith, length-drop}
use Rattle.std.proofs.lemmas.List.{take_all}
use Rattle.captures.proofs.behind.Goals as goal

pub returns : goal.returns
returns c = take_all (length c.args.text.now - (c.args.end + 1)) (drop (c.args.end + 1) c.args.text.now) (omega (arith, length-drop (c.args.end + 1) c.args.text.now))
