use Rattle.upload.proofs.Meaning.{uploads_meant}
use Rattle.upload.proofs.uploads_meant.Goals as goal

pub returns : goal.returns
returns c = uploads_meant
