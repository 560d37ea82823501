use Rattle.std.proofs.Common.{◌≤◌, ◌≡◌, drop}
use Rattle.sheet_rows.specs.Numbers.{number_from}
use Rattle.sheet_rows.proofs.numbers.number.Given as goal

abbrev pub invariant-loop-digit : goal.invariant-loop-digit
invariant-loop-digit l = record { within : l.number ≤ l.most; left : number_from l.most l.number (drop l.digit-index l.text) ≡ number_from l.most 0 l.text }
