use Rattle.refusal_text.proofs.Words as proved
use Rattle.refusal_text.proofs.texts_told.Goals as goal

pub returns : goal.returns
returns c = proved.texts_told
