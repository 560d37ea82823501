use Rattle.std.proofs.Common.{length}
use Rattle.sheet_import.proofs.Written.{Writing}
use Rattle.sheet_import.proofs.strings.put_string.Given as goal

abbrev pub invariant-loop-quote : goal.invariant-loop-quote
invariant-loop-quote l = Writing l.initial.out l.out l.at l.next l.text l.left

abbrev pub decreases-loop-quote : goal.decreases-loop-quote
decreases-loop-quote l = length l.left
