use Rattle.std.proofs.Common.{refl}
use Rattle.std.proofs.lemmas.Iterator.Consumers.{nth_from_yields_List, count_from_yields_List}
use Rattle.std.proofs.lemmas.Iterator.Adapters.{option_map_id}
use Rattle.refactor.proofs.Left.{all_given}
use Rattle.refactor.proofs.RefactorInfos.get.Goals as goal

pub returns-in-Some : goal.returns-in-Some
returns-in-Some c =
    let road = nth_from_yields_List _ _ _ c.nth.ensures.ran (all_given c.args.self) in
    rw (← road, option_map_id, c.in-Some.is) refl

pub returns-in-None : goal.returns-in-None
returns-in-None c =
    let road = nth_from_yields_List _ _ _ c.nth.ensures.ran (all_given c.args.self) in
    rw (← road, option_map_id, c.in-None.is, count_from_yields_List _ _ c.count.ensures.ran (all_given c.args.self)) refl
