use Rattle.std.proofs.Common.{◌≡◌, refl, length, arith}
use Rattle.std.proofs.lemmas.Iterator.Consumers.{nth_from_yields_List, YieldsList-from_first}
use Rattle.std.proofs.lemmas.Iterator.Adapters.{option_map_id}
use Rattle.data_type.specs.Array.{left}
use Rattle.data_type.proofs.Arrays.{length_left}
use Rattle.data_type.proofs.array.ArrayInfos.get.Goals as goal

pub returns : goal.returns
returns c =
    let road = nth_from_yields_List _ _ _ c.nth.ensures.ran (YieldsList-from_first (λ x. x) left _ refl) in
    let count : c.min-count.result ≡ length (left c.args.self) = omega (arith, c.min-count.ensures, length_left c.args.self) in
    rw (c.ok_or.ensures.value, ← road, option_map_id, count) refl
