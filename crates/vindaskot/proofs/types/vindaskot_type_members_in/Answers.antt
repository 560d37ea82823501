use Rattle.std.proofs.Common.{ap}
use Rattle.refusal.specs.declared.Mode.{Mode}
use Rattle.data_type.specs.List.{members_written}
use Rattle.vindaskot.proofs.Told.{told_one}
use Rattle.vindaskot.proofs.types.vindaskot_type_members_in.Goals as goal

pub returns : goal.returns
returns c = told_one (ap (λ (m : Mode). members_written m c.args.bytes) c.mode.ensures) c.number.ensures c.list.ensures
