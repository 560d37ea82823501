use Rattle.std.proofs.Common.{Bool, ◌+◌, ◌++◌, sym, ap, ◌∙◌, drop}
use Rattle.std.specs.Prelude.{not}
use Rattle.arguments.proofs.OperandLaws.{seen, list_past, list_later, list_ends}
use Rattle.arguments.proofs.operands.Operands.to_vec.Goals as goal

pub loop-word-preserved-then-is_passed : goal.loop-word-preserved-then-is_passed
loop-word-preserved-then-is_passed c =
    ap (λ (e : Bool). c.loop-word.operands.items ++ drop c.loop-word.before (seen (not e) (drop (c.loop-word.word-index + 1) c.args.self.line.now))) c.ends_options-has_options.ensures
    ∙ list_past c.loop-word.has_options c.args.self.line.now c.loop-word.word-index c.loop-word.before _ c.loop-word.operands.items c.loop-word-test.true (sym c.is_passed.ensures ∙ c.if-is_passed.true)
    ∙ c.loop-word.invariant

pub loop-word-preserved-then-before-gt0 : goal.loop-word-preserved-then-before-gt0
loop-word-preserved-then-before-gt0 c =
    list_later c.loop-word.has_options c.args.self.line.now c.loop-word.word-index c.loop-word.before _ c.loop-word.operands.items c.loop-word-test.true (sym c.is_passed.ensures ∙ c.if-is_passed.false)
    c.if-before-gt0.true
    ∙ c.loop-word.invariant

pub returns : goal.returns
returns c =
    sym (list_ends c.loop-word.has_options c.args.self.line.now c.loop-word.word-index c.loop-word.before c.loop-word.operands.items c.loop-word-test.false) ∙ c.loop-word.invariant
