use Rattle.refusal_text.proofs.Meant as proved
use Rattle.refusal_text.proofs.texts_meant.Goals as goal

pub returns : goal.returns
returns c = proved.texts_meant
