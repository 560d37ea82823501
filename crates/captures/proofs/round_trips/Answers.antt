use Rattle.captures.proofs.Trips.{round_trips}
use Rattle.captures.proofs.round_trips.Goals as goal

pub returns : goal.returns
returns c = round_trips
