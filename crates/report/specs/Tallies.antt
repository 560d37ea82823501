-- docs/FORMAT.md, "The command's text": how many entries of an upload were accepted and refused, and what was left unread of them.
use Rattle.std.specs.Prelude.{ℕ, ◌-◌, ◌^◌, ◌≡◌, nat_lt, min, List, Result, Ok, Err, is_ok, is_err, length}
use Rattle.std.specs.List.{count_by, sum_by}
use Rattle.refusal.specs.declared.Refusal.{Refusal}
use Rattle.symbol.specs.declared.AdsSymbolInfo.{AdsSymbolInfo}
use Rattle.walk.specs.declared.Piece.{Piece}
use Rattle.report.specs.Report.{tally_of}

-- how many bytes of an entry are left behind its sections: none of a refused one
abbrev pub left_of : Result AdsSymbolInfo Refusal → ℕ
left_of (Ok s) = length s.unread.now
left_of (Err why) = 0

-- a number stays at the highest once it is there
abbrev pub at_most : ℕ → ℕ
at_most n = min n (2 ^ 64 - 1)

pub record TalliesMeant : Type 0 where
  pub accepted : (ps : List (Piece AdsSymbolInfo)) → (tally_of ps).accepted ≡ at_most (count_by (λ p. is_ok p.answer) ps)
  pub refused : (ps : List (Piece AdsSymbolInfo)) → (tally_of ps).refused ≡ at_most (count_by (λ p. is_err p.answer) ps)
  pub grown : (ps : List (Piece AdsSymbolInfo)) → (tally_of ps).grown ≡ at_most (count_by (λ p. nat_lt 0 (left_of p.answer)) ps)
  pub unread : (ps : List (Piece AdsSymbolInfo)) → (tally_of ps).unread ≡ at_most (sum_by (λ p. left_of p.answer) ps)
