-- docs/FORMAT.md, "The command's text" and "Name index". Where the entries start that `branch` and `list --sorted` write, in the order in which they stand there.
use Rattle.std.specs.Prelude.{ℕ, List, ◌++◌, map, filter, is_err, Result}
use Rattle.walk.specs.declared.Piece.{Piece}
use Rattle.walk.specs.Mapped.{map_ok}
use Rattle.walk.specs.Pieces.{pieces}
use Rattle.refusal.specs.declared.Refusal.{Refusal}
use Rattle.symbol.specs.declared.AdsSymbolInfo.{AdsSymbolInfo}
use Rattle.symbol.specs.Symbol.{symbol_of}
use Rattle.named.specs.Kinds.{symbol_places}
use Rattle.name_index.specs.Index.{name_indexing}
use Rattle.name_index.specs.Branching.{in_branch}
use Rattle.report.specs.declared.Upload.{Upload}
use Rattle.branching.specs.declared.NoOrder.{NoOrder}
use Rattle.branching.specs.declared.NoOrder.TheVariants.{Refused, Memory}

-- so of the refusal, where it is one
abbrev pub IfRefused : NoOrder → (Refusal → Type 0) → Type 0
IfRefused (Refused why) P = P why
IfRefused Memory P = Unit {0}

-- the accepted entries in the order of their names: 5, 10
unfoldable pub by_name : Upload → Result (List ℕ) Refusal
by_name u = name_indexing symbol_places (symbol_of u.mode) u.bytes

-- those whose names begin with a text
unfoldable pub branch : Upload → List ℕ → Result (List ℕ) Refusal
branch u text = map_ok (filter (in_branch symbol_places (symbol_of u.mode) u.bytes text)) (by_name u)

-- the starts of those pieces that were refused, in their order
unfoldable pub refused_of : List (Piece AdsSymbolInfo) → List ℕ
refused_of ps = map (λ p. p.start) (filter (λ p. is_err p.answer) ps)

-- the refused entries in the upload's order
abbrev pub refused : Upload → List ℕ
refused u = refused_of (pieces (symbol_of u.mode) u.bytes)

-- all entries, the refused ones behind the accepted ones
unfoldable pub sorted : Upload → Result (List ℕ) Refusal
sorted u = map_ok (λ starts. starts ++ refused u) (by_name u)
