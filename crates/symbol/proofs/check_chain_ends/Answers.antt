use Rattle.std.proofs.Common.{sym, ◌∙◌}
use Rattle.symbol.proofs.check_chain_ends.Goals as goal

pub returns : goal.returns
returns c = simp (sym c.has_refactor_infos.ensures ∙ c.if-not-has_refactor_infos.false) c.check_ends.ensures
