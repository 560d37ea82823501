use Rattle.std.proofs.Common.{◌≡◌, subst}
use Rattle.refusal.specs.declared.Mode.{Mode}
use Rattle.walk.specs.Step.{parse_of}
use Rattle.data_type.specs.DataType.{type_of}
use Rattle.told.specs.Told.{Tells, record_told}
use Rattle.told.specs.Slots.{slots_after}
use Rattle.told.specs.TypeSlots.{type_slots, type_guid}
use Rattle.vindaskot.proofs.types.vindaskot_type_read_in.Goals as goal

pub returns-clause-tells : goal.returns-clause-tells
returns-clause-tells c = subst (λ (m : Mode). Tells (record_told (parse_of 42 (type_of m) c.args.bytes)) c.read.result c.read.new.answer) c.mode.ensures c.read.ensures.tells

pub returns-clause-slots_after : goal.returns-clause-slots_after
returns-clause-slots_after c = subst (λ (m : Mode). c.read.new.slots ≡ slots_after type_slots (parse_of 42 (type_of m) c.args.bytes) c.args.slots.now) c.mode.ensures c.read.ensures.slots_after

pub returns-clause-guid_after : goal.returns-clause-guid_after
returns-clause-guid_after c = subst (λ (m : Mode). c.read.new.guid ≡ slots_after type_guid (parse_of 42 (type_of m) c.args.bytes) c.args.guid.now) c.mode.ensures c.read.ensures.guid_after
