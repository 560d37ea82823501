use Rattle.std.proofs.Common.{arith, length-append, ◌∷◌, []}
use Rattle.hex.specs.Hex.{upper_digits, encode_upper}
use Rattle.hex.proofs.HexLemmas.{length-encode_with}
use Rattle.le.proofs.Laws.{after}
use Rattle.captures.proofs.put_line.Goals as goal

pub put_digits-end-requires : goal.put_digits-end-requires
put_digits-end-requires c = omega (arith, c.requires, length-append (encode_upper c.args.bytes.now) (10 ∷ []), length-encode_with upper_digits c.args.bytes.now)

pub put_u8-requires : goal.put_u8-requires
put_u8-requires c = omega (arith, c.requires, length-append (encode_upper c.args.bytes.now) (10 ∷ []), c.put_digits-end.ensures.end, c.put_digits-end.ensures.long)

pub returns : goal.returns
returns c = after c.put_digits-end.ensures c.put_u8.ensures
