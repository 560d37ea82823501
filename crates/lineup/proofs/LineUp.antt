-- The line-up table holds: antt computes what the definitions say of its bytes.
use Rattle.std.proofs.Common.{refl}
use Rattle.le.specs.Le.{le2, le4}
use Rattle.refusal.specs.EndBytes.{ended}
use Rattle.entry.specs.Entry.{claim_at, claim_of}
use Rattle.walk.specs.Step.{step_at}
use Rattle.attribute.specs.Attribute as attribute
use Rattle.refactor.specs.Refactor as refactor
use Rattle.layout.specs.Layout.{guid_of}
use Rattle.symbol.specs.Symbol.{attributes_of, extended_of, refactor_infos_of, with_strings, ended_symbol, symbol_of}
use Rattle.lineup.specs.LineUp.{LineUp}

pub line_up : LineUp
unfolding le2 le4 ended claim_at claim_of step_at attribute.first_of attribute.listed attribute.after_listed refactor.first_of refactor.listed refactor.chained guid_of attributes_of extended_of refactor_infos_of with_strings ended_symbol symbol_of
line_up m =
    record {
      l1 = refl;
      l2 = λ b. refl;
      l3 = refl;
      l4 = refl;
      l5 = refl;
      l6 = refl;
      l7 = refl;
      l7_name = refl;
      l7_type_name = refl;
      l7_comment = refl;
      l7_unread = refl;
      l8 = refl;
      l8_takes = refl;
      l8_name = refl;
      l8_value = refl;
      l9 = refl;
      l10 = refl;
      l10_takes = refl;
      l10_name = refl;
      l11 = refl;
      l11_takes = refl;
      l12 = refl;
    }
