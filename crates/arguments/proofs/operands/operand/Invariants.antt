use Rattle.std.proofs.Common.{◌≡◌, drop, slice_get}
use Rattle.arguments.specs.Words.{operands_of}
use Rattle.arguments.proofs.OperandLaws.{seen}
use Rattle.arguments.proofs.operands.operand.Given as goal

abbrev pub invariant-loop-word : goal.invariant-loop-word
invariant-loop-word l = slice_get (seen l.has_options (drop l.word-index l.line)) l.left ≡ slice_get (operands_of l.line) l.number
