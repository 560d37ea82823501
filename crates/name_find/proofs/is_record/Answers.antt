use Rattle.std.proofs.Common.{ap, ◌∙◌}
use Rattle.std.specs.Prelude.{is_ok}
use Rattle.walk.proofs.Mapped.{ok_mapped}
use Rattle.name_find.proofs.is_record.Goals as goal

pub returns : goal.returns
returns g c = c.is_ok.ensures.value ∙ ap is_ok c.accepts.ensures ∙ ok_mapped _ _
