use Rattle.std.proofs.Common.{sym, ◌∙◌}
use Rattle.places.specs.Kind.{refactor_infos_end}
use Rattle.places.proofs.of_entry.symbol_refactor_info.Goals as goal

pub refactor_numbered-requires : goal.refactor_numbered-requires
refactor_numbered-requires c = refactor_infos_end c.args.mode _ c.in_ok-symbol.symbol (sym c.read.ensures ∙ c.in_ok-symbol.was)
