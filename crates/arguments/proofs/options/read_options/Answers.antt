use Rattle.std.proofs.Common.{sym, ◌∙◌}
use Rattle.arguments.proofs.OptionLaws.{refused}
use Rattle.arguments.proofs.options.read_options.Goals as goal

pub returns-in-Err : goal.returns-in-Err
returns-in-Err c =
    sym (refused c.loop-word.options c.args.line.now c.loop-word.word-index _ c.in-Err.why c.loop-word-test.true
    (sym c.is_option.ensures ∙ c.if-is_option.true) (sym c.ends_options.ensures ∙ c.if-ends_options.false) (sym c.taken.ensures ∙ c.in-Err.is))
    ∙ c.loop-word.invariant
