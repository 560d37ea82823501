use Rattle.std.proofs.Common.{◌+◌, ◌≤◌, ◌≡◌, drop}
use Rattle.sheet_rows.specs.Extent.{quotes}
use Rattle.sheet_rows.proofs.extent.count_quotes.Given as goal

abbrev pub invariant-loop-byte : goal.invariant-loop-byte
invariant-loop-byte l = record { few : l.count ≤ l.byte-index; left : l.count + quotes (drop l.byte-index l.text) ≡ quotes l.text }
