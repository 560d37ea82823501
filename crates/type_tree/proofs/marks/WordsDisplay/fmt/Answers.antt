use Rattle.std.proofs.Output.{has_written_of_eq}
use Rattle.type_tree.proofs.Marked.{words}
use Rattle.type_tree.proofs.marks.WordsDisplay.fmt.Goals as goal

pub returns-clause-writes : goal.returns-clause-writes
returns-clause-writes g c = λ plain ok.
    let w = c.args.self.now in
    has_written_of_eq _ _ _ _ _
    (words w.style.between.now w.style.quote.now w.prefix.now w.flags.0 w.follows _ _ _ _ c.is_bit_values-is_bits.ensures c.is_static-is_static.ensures c.is_reference_to-is_reference.ensures c.is_prop_item.ensures)
    (c.write.ensures.writes plain ok)
