use Rattle.std.proofs.Common.{sym, subst, drop}
use Rattle.text.proofs.Back.{looks_short, looks_alone, looks_low, looks_other, looks_cut, looks_broken, looks_two, looks_three}
use Rattle.text.specs.Text.{Leads}
use Rattle.text.proofs.encoder.byte_at.Goals as goal

pub returns-then-left-lt2 : goal.returns-then-left-lt2
returns-then-left-lt2 c = looks_short c.args.s.now c.args.at c.requires.0 c.requires.1 c.if-left-lt2.true

pub returns-then-second-ne2 : goal.returns-then-second-ne2
returns-then-second-ne2 c = looks_alone c.args.s.now c.args.at c.requires.0 c.requires.1 c.if-second-ne2.true

pub returns-then-first-lt194 : goal.returns-then-first-lt194
returns-then-first-lt194 c = looks_low c.args.s.now c.args.at c.requires.0 c.requires.1 c.if-first-lt194.true

pub returns-then-first-lt224 : goal.returns-then-first-lt224
returns-then-first-lt224 c =
    subst (Leads (drop c.args.at c.args.s.now)) (sym c.byte_of.ensures)
    (looks_two c.args.s.now c.args.at c.requires.0 c.requires.1 c.if-left-lt2.false c.if-second-ne2.false c.if-first-lt194.false c.if-first-lt224.true)

pub returns-then-first : goal.returns-then-first
returns-then-first c = looks_other c.args.s.now c.args.at c.requires.0 c.requires.1 c.if-first-lt224.false c.if-first.true

pub returns-then-left-lt3 : goal.returns-then-left-lt3
returns-then-left-lt3 c = looks_cut c.args.s.now c.args.at c.requires.0 c.requires.1 c.if-first-lt224.false c.if-left-lt3.true

pub returns-then-third-ne2 : goal.returns-then-third-ne2
returns-then-third-ne2 c = looks_broken c.args.s.now c.args.at c.requires.0 c.requires.1 c.if-first-lt224.false c.if-third-ne2.true

pub returns : goal.returns
returns c =
    subst (Leads (drop c.args.at c.args.s.now)) (sym c.byte_of-2.ensures)
    (looks_three c.args.s.now c.args.at c.requires.0 c.requires.1 c.if-left-lt3.false c.if-second-ne2.false c.if-first.false c.if-third-ne2.false)
