use Rattle.std.proofs.Common.{◌+◌, ◌-◌, ◌≤◌, length, arith}
use Rattle.name_find.proofs.Looks.{ending_from}
use Rattle.name_find.proofs.looks_named.Goals as goal

pub returns : goal.returns
returns c =
    let room : c.args.places.name + length c.args.name.now ≤ length c.args.bytes.now - c.args.at = omega arith in
    ending_from c.args.places c.args.bytes.now c.args.name.now c.args.at c.u16_at.result _ room c.u16_at.ensures c.if-u16_at-length.false c.ends_near.ensures
