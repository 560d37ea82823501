use Rattle.std.proofs.Common.{[], ◌++◌, codes, refl, rules}
use Rattle.std.proofs.Output.{has_written_append, has_written_of_eq}
use Rattle.data_type.specs.declared.array.AdsArrayInfo.{AdsArrayInfo}
use Rattle.type_tree.specs.Joined as texts
use Rattle.type_report.specs.Json.{array_text}
use Rattle.report.proofs.Going.{more, no_more}
use Rattle.type_report.proofs.json.MoreArraysDisplay.fmt.Goals as goal

pub loop-one-init : goal.loop-one-init
loop-one-init g c = simp c.into_iter-one-iterator.ensures.into_iter_gives (record { can = tt; ends = tt; going = λ plain. ([], refl, search rules) })

pub loop-one-preserved : goal.loop-one-preserved
loop-one-preserved g c = record {
  can = tt;
  ends = tt;
  going = λ plain.
      let i = c.loop-one.invariant.going plain in (
        i.0 ++ (codes "," ++ array_text c.in-Some.one),
        more (λ (x : AdsArrayInfo). codes "," ++ array_text x) i.0 c.in-Some.ensures.steps i.1,
        has_written_append _ _ _ _ _ _ i.2 (c.write.ensures.writes i.2.plain (search rules)),
      );
}

pub returns-clause-writes : goal.returns-clause-writes
unfolding texts.more
returns-clause-writes g c = λ plain ok.
    let i = c.loop-one.invariant.going plain in
    has_written_of_eq _ _ _ _ _ (no_more (λ (x : AdsArrayInfo). codes "," ++ array_text x) i.0 c.in-None.ensures.steps.0 i.1) i.2
