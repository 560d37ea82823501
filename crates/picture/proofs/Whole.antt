-- What is shown of a symbol that was found.
use Rattle.std.proofs.Common.{◌++◌, codes, length, [], ap}
use Rattle.std.specs.Prelude.{Result}
use Rattle.part.specs.Outcome.{outcome}
use Rattle.refusal.specs.declared.Refusal.{Refusal}
use Rattle.sections.specs.Sections.{sections_of}
use Rattle.why.specs.declared.Reasons.{Reasons}
use Rattle.why.proofs.Explained.{reasons_true}
use Rattle.facts.specs.Facts.{facts_text}
use Rattle.picture.specs.Rows.{picture_text}
use Rattle.picture.specs.Show.{show_text}
use Rattle.picture.specs.Whole.{ShowMeant}

pub show_meant : ShowMeant
unfolding show_text
show_meant mode at own s h =
    let e = reasons_true mode own s h in
    record {
      reasons = e.reasons;
      are_true = e.are_true;
      text = λ coloured.
          ap (λ (x : Result Reasons Refusal). outcome x (λ why. facts_text at s why ++ (codes "\n" ++ picture_text coloured (length own.now) (sections_of own s))) (λ why. [])) e.answered;
    }
