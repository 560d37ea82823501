use Rattle.upload.proofs.Forms.{forms_meant}
use Rattle.upload.proofs.forms_meant.Goals as goal

pub returns : goal.returns
returns c = forms_meant
