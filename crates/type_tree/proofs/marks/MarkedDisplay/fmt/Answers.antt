use Rattle.std.proofs.Output.{has_written_of_eq}
use Rattle.type_tree.proofs.Marked.{both}
use Rattle.type_tree.proofs.marks.MarkedDisplay.fmt.Goals as goal

pub returns-clause-writes : goal.returns-clause-writes
returns-clause-writes g c = λ plain ok.
    let m = c.args.self.now in
    has_written_of_eq _ _ _ _ _ (both m.style.between.now m.style.quote.now m.marks _ c.is_any.ensures) (c.write.ensures.writes plain ok)
