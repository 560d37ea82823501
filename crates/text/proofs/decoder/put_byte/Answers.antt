use Rattle.std.proofs.Common.{ℕ, sym, ap, arith, length}
use Rattle.le.proofs.Laws.{same_bytes}
use Rattle.text.proofs.Byte.{looked}
use Rattle.std.specs.Char.{encode_utf8}
use Rattle.text.proofs.Laws.{byte_low, point_high}
use Rattle.text.proofs.decoder.put_byte.Goals as goal

pub put_u8-requires : goal.put_u8-requires
put_u8-requires c = omega (arith, ap length (byte_low c.if-b-lt128.true))

pub returns-then-b-lt128 : goal.returns-then-b-lt128
returns-then-b-lt128 c = same_bytes (sym (byte_low c.if-b-lt128.true)) c.put_u8.ensures

pub put_point-requires-clause-p_in_bounds : goal.put_point-requires-clause-p_in_bounds
put_point-requires-clause-p_in_bounds c = omega (arith, ap (λ (p : ℕ). length (encode_utf8 p)) (point_high c.if-b-ge160.true))

pub returns-then-b-ge160 : goal.returns-then-b-ge160
returns-then-b-ge160 c = same_bytes (sym (ap encode_utf8 (point_high c.if-b-ge160.true))) c.put_point.ensures

pub put_point-requires-2-clause-le_p : goal.put_point-requires-2-clause-le_p
put_point-requires-2-clause-le_p c = (looked c.requires.table_value c.args.b (omega arith) (omega arith)).high

pub put_point-requires-2-clause-p_in_bounds : goal.put_point-requires-2-clause-p_in_bounds
put_point-requires-2-clause-p_in_bounds c =
    let k = looked c.requires.table_value c.args.b (omega arith) (omega arith) in
    omega (arith, ap (λ (p : ℕ). length (encode_utf8 p)) k.is)

pub returns : goal.returns
returns c =
    let k = looked c.requires.table_value c.args.b (omega arith) (omega arith) in
    same_bytes (ap encode_utf8 k.is) c.put_point-2.ensures
