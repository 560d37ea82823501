use Rattle.std.proofs.Common.{◌++◌, rules}
use Rattle.std.proofs.Output.{has_written_append, has_written_of_eq}
use Rattle.refactor.specs.declared.AdsRefactorInfo.{AdsRefactorInfo}
use Rattle.values.specs.Names.{former_text}
use Rattle.facts.specs.Facts.{below, more_names}
use Rattle.report.proofs.Going.{more, no_more}
use Rattle.facts.proofs.MoreNamesDisplay.fmt.Goals as goal

pub loop-one-preserved : goal.loop-one-preserved
loop-one-preserved g c = record {
  can = tt;
  ends = tt;
  going = λ plain.
      let i = c.loop-one.invariant.going plain in (
        i.0 ++ below (former_text c.in-Some.one.name.now),
        more (λ (x : AdsRefactorInfo). below (former_text x.name.now)) i.0 c.in-Some.ensures.steps.0 i.1,
        has_written_append _ _ _ _ _ _ i.2 (c.write.ensures.writes i.2.plain (search rules)),
      );
}

pub returns-clause-writes : goal.returns-clause-writes
unfolding more_names
returns-clause-writes g c = λ plain ok.
    let i = c.loop-one.invariant.going plain in
    has_written_of_eq _ _ _ _ _ (no_more (λ (x : AdsRefactorInfo). below (former_text x.name.now)) i.0 c.in-None.ensures.steps.0.0 i.1) i.2
