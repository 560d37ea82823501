use Rattle.std.proofs.Common.{◌-◌, length, arith}
use Rattle.name_find.proofs.Looks.{looks_by}
use Rattle.name_find.proofs.looks_named_at_once.Goals as goal

pub returns : goal.returns
returns c = looks_by c.args.places c.args.own.now c.args.name.now c.u16_at-told.result (length c.args.name.now - 1) _ _ (omega (arith, c.if-present-places.false, c.if-present-places-2.false)) c.u16_at-told.type_inv c.u16_at-told.ensures (omega (arith, c.if-length-eq0.false)) c.look.ensures c.look-2.ensures
