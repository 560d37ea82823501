use Rattle.std.proofs.Common.{◌∙◌, sym, arith}
use Rattle.le.proofs.Laws.{wrote}
use Rattle.writing.proofs.Laws.{refuses, too_small, done}
use Rattle.refusal_text.proofs.Meant.{written, not_written}
use Rattle.refusal_text.proofs.write_text.Goals as goal

pub returns-in_default : goal.returns-in_default
returns-in_default c = refuses (not_written c.args.number c.args.expected c.args.got (sym c.refusal_of.ensures ∙ c.in_default.is))

pub returns-then-lent-needed : goal.returns-then-lent-needed
returns-then-lent-needed c = too_small (written c.args.number c.args.expected c.args.got c.in-Some.why (sym c.refusal_of.ensures ∙ c.in-Some.is)) (sym c.text_size-needed.ensures) c.if-lent-needed.true

pub returns : goal.returns
returns c =
    done
    (written c.args.number c.args.expected c.args.got c.in-Some.why (sym c.refusal_of.ensures ∙ c.in-Some.is))
    (wrote c.put_text.ensures.is (omega (arith, c.text_size-needed.ensures)) c.put_text.ensures.room)
