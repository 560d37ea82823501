use Rattle.std.proofs.Common.{arith, rules}
use Rattle.symbol.proofs.theorems.symbols_typed.Goals as goal

pub returns : goal.returns
returns c =
    let r = c.ranges.symbol in
    record {
      index_group = omega (arith, r);
      index_offset = omega (arith, r);
      size = omega (arith, r);
      data_type_id = omega (arith, r);
      flags = omega (arith, r);
      high = omega (arith, r);
      extended_flags = omega (arith, r);
      guid = search rules;
    }
