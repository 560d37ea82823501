use Rattle.walk.specs.Theorems.{cursor_of}
use Rattle.regrown.specs.Tells.{tells}
use Rattle.regrown.proofs.ShutsOut as proved
use Rattle.regrown.proofs.shuts_out.Goals as goal

pub returns : goal.returns
returns g c = proved.shuts_out g.K.Fits.Fit g.K.Fits.written g.K.Fits.meant cursor_of (tells g.K.Record.Entry.length_of g.K.Fits.told)
