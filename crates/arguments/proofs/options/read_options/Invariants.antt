use Rattle.std.proofs.Common.{◌≡◌, drop}
use Rattle.arguments.specs.Options.{options_from, options_of}
use Rattle.arguments.proofs.options.read_options.Given as goal

abbrev pub invariant-loop-word : goal.invariant-loop-word
invariant-loop-word l = options_from l.options (drop l.word-index l.line) ≡ options_of l.line
