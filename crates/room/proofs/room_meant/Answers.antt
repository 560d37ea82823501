use Rattle.room.proofs.Only.{room_meant}
use Rattle.room.proofs.room_meant.Goals as goal

pub returns : goal.returns
returns c = room_meant
