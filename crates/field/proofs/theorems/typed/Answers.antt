use Rattle.std.proofs.Common.{arith, rules}
use Rattle.field.proofs.theorems.typed.Goals as goal

pub returns : goal.returns
returns c =
    let r = c.ranges.field in
    record {
      version = omega (arith, r);
      hash_value = omega (arith, r);
      type_hash_value = omega (arith, r);
      size = omega (arith, r);
      offset = omega (arith, r);
      type_id = omega (arith, r);
      flags = omega (arith, r);
      guid = search rules;
    }
