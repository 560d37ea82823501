use Rattle.std.proofs.Common.{◌≡◌, ◌+◌, ◌*◌, ap, ◌∙◌, arith, rules}
use Rattle.std.specs.List.{flat_map, range_with_len}
use Rattle.std.proofs.Output.{has_written_append, has_written_of_eq}
use Rattle.picture.specs.Rows.{behind, picture_text, row_of}
use Rattle.picture.proofs.Passing.{behind_behind, row_more}
use Rattle.picture.proofs.rows.PictureDisplay.fmt.Goals as goal

pub loop-number-preserved : goal.loop-number-preserved
loop-number-preserved g c = record {
  left = λ s later.
      ap (λ xs. behind s xs) c.behind-left.ensures ∙ behind_behind (16 * c.loop-number.number) s c.loop-number.left.now (omega arith) ∙ c.loop-number.invariant.left s (omega arith);
  going = λ plain.
      let i = c.loop-number.invariant.going plain in
      has_written_of_eq _ _ _ _ _
      (row_more c.args.self.now.coloured c.args.self.now.length c.args.self.now.sections.now c.loop-number.left.now c.behind-left.result.now c.within.result.now c.loop-number.number (16 * c.loop-number.number + c.min.result) (omega arith) (omega arith)
      c.behind-left.ensures (c.loop-number.invariant.left _ (omega arith)) c.within.ensures)
      (has_written_append _ _ _ _ _ _ i (c.write.ensures.writes i.plain (search rules)));
}

pub returns-clause-writes : goal.returns-clause-writes
unfolding picture_text
returns-clause-writes g c = λ plain ok.
    let all : c.loop-number.number ≡ c.div_ceil-number-end.result = omega arith in
    has_written_of_eq _ _ _ _ _ (ap (λ k. flat_map (row_of c.args.self.now.coloured c.args.self.now.length c.args.self.now.sections.now) (range_with_len 0 k)) (all ∙ c.div_ceil-number-end.ensures))
    (c.loop-number.invariant.going plain)
