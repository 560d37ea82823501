use Rattle.std.proofs.Common.{refl}
use Rattle.std.proofs.lemmas.Iterator.Consumers.{nth_from_yields_List, YieldsList-from_first}
use Rattle.std.proofs.lemmas.Iterator.Adapters.{option_map_id}
use Rattle.data_type.specs.Left.{members_left}
use Rattle.data_type.proofs.AdsDataTypeInfo.member.Goals as goal

pub returns : goal.returns
returns c =
    let road = nth_from_yields_List _ _ _ c.nth.ensures.ran (YieldsList-from_first (λ x. x) members_left _ refl) in
    rw (c.ok_or.ensures.value, ← c.members.ensures, ← road, option_map_id) refl
