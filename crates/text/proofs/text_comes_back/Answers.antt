use Rattle.text.proofs.Theory.{text_comes_back}
use Rattle.text.proofs.text_comes_back.Goals as goal

pub returns : goal.returns
returns c = text_comes_back
