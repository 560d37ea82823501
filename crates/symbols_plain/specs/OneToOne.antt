-- docs/FORMAT.md, "Plain form": plain uploads and lists of fit symbols match one to one.
use Rattle.std.specs.Prelude.{ℕ, ◌<◌, ◌≤◌, ◌≡◌, List, [], ◌∷◌, map, length, Ok}
use Rattle.std.specs.List.{All, flat_map}
use Rattle.std.specs.Borrow.{Bor}
use Rattle.part.specs.Outcome.{outcome}
use Rattle.refusal.specs.Refusal.{limit}
use Rattle.refusal.specs.declared.Mode.TheVariants.{Present}
use Rattle.walk.specs.declared.Piece.{Piece}
use Rattle.walk.specs.Pieces.{pieces}
use Rattle.symbol.specs.declared.AdsSymbolInfo.{AdsSymbolInfo}
use Rattle.symbol.specs.declared.writer.NewSymbol.{NewSymbol}
use Rattle.symbol.specs.Symbol.{symbol_of}
use Rattle.symbol.specs.Writing.{symbol_bytes}
use Rattle.symbol.specs.Again.{new_of, given_of}
use Rattle.symbols_regrown.specs.Kind.{IsFit}
use Rattle.plain.specs.Plain.{plain_of}
use Rattle.plain.specs.Form.{HoldsBytes}

-- of symbols the upload: what is written of each, one behind another
abbrev pub upload_of : List NewSymbol → List ℕ
upload_of = flat_map symbol_bytes

-- of an upload the symbols: its records, to be written again
abbrev pub again : Piece AdsSymbolInfo → List NewSymbol
again p = outcome p.answer (λ r. new_of r ∷ []) (λ why. [])

abbrev pub symbols_of : Bor (List ℕ) → List NewSymbol
symbols_of s = flat_map again (pieces (symbol_of Present) s)

-- symbols that the writer accepts, whose upload is bytes within the limit
pub record AreFit (ns : List NewSymbol) : Type 0 where
  pub fit : All IsFit ns
  pub bytes : All (λ b. b < 256) (upload_of ns)
  pub within : length (upload_of ns) ≤ limit

pub record IsPlainUpload (s : Bor (List ℕ)) : Type 0 where
  pub bytes : HoldsBytes s
  pub plain : plain_of s ≡ Ok tt

-- the one gives plain uploads and the other fit symbols, and they undo each other: symbols are the same by what they hold, wherever their strings and blocks lie
pub record PlainOneToOne : Type 0 where
  pub there : (ns : List NewSymbol) (s : Bor (List ℕ)) → AreFit ns → s.now ≡ upload_of ns → IsPlainUpload s × (map given_of (symbols_of s) ≡ map given_of ns)
  pub back : (s : Bor (List ℕ)) → IsPlainUpload s → AreFit (symbols_of s) × (upload_of (symbols_of s) ≡ s.now)
