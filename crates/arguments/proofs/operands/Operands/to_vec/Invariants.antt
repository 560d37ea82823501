use Rattle.std.proofs.Common.{◌≡◌, ◌++◌, drop}
use Rattle.arguments.specs.Words.{operands_of}
use Rattle.arguments.proofs.OperandLaws.{seen}
use Rattle.arguments.proofs.operands.Operands.to_vec.Given as goal

abbrev pub invariant-loop-word : goal.invariant-loop-word
invariant-loop-word l = l.operands.items ++ drop l.before (seen l.has_options (drop l.word-index l.self.line.now)) ≡ drop l.self.first (operands_of l.self.line.now)
