use Rattle.std.proofs.Common.{refl, sym, ◌∙◌}
use Rattle.listing.proofs.is_interrupted.Goals as goal

pub returns-in-Interrupted : goal.returns-in-Interrupted
returns-in-Interrupted c = (λ e. sym c.kind.ensures ∙ c.in-Interrupted.is, λ e. refl)
