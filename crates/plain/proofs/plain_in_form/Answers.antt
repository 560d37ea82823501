use Rattle.plain.proofs.Form.{form_written}
use Rattle.plain.proofs.Read.{written_form}
use Rattle.plain.proofs.plain_in_form.Goals as goal

pub returns : goal.returns
returns c = λ e r h read. (written_form e r h read, form_written e r h read)
