use Rattle.name_find.proofs.Meaning.{any_case_of}
use Rattle.name_find.proofs.any_case.Goals as goal

pub returns : goal.returns
returns g c = any_case_of g.E.Entry.read g.E.Named.name_of
