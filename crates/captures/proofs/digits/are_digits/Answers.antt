use Rattle.std.proofs.Common.{Bool, sym, ap, ap₂, ◌∙◌, ◌&&◌, arith}
use Rattle.std.specs.List.{list_all}
use Rattle.std.proofs.lemmas.List.{take_all}
use Rattle.std.proofs.lemmas.List.Folds.{list_all_more}
use Rattle.hex.specs.Hex.{is_hex_digit}
use Rattle.captures.proofs.digits.are_digits.Goals as goal

pub loop-c-preserved : goal.loop-c-preserved
loop-c-preserved c =
    ap₂ (λ (a b : Bool). a && b) c.loop-c.invariant c.is_digit-all.ensures ∙ sym (list_all_more is_hex_digit c.args.text.now c.loop-c.c-index 0 (omega arith))

pub returns : goal.returns
returns c = c.loop-c.invariant ∙ ap (list_all is_hex_digit) (take_all c.loop-c.c-index c.args.text.now (omega arith))
