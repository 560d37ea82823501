-- The rows of a listing where another upload differs inside some entries: proved.
use Rattle.std.proofs.Common.{ℕ, suc, ◌+◌, ◌≤◌, ◌≡◌, refl, sym, ap, ap₂, map-id, ◌∙◌, Bool, true, not, if◌then◌else◌, List, [], ◌∷◌, ◌++◌, map, length, flat_map, arith, Ok, append_assoc}
use Rattle.std.specs.Prelude.{ltb, false}
use borrow.Author.Tests.{le-ltb}
use Rattle.hex.specs.Hex.{decode_of}
use Rattle.hex.specs.declared.error.FromHexError.{FromHexError}
use Rattle.std.specs.declared.result.Result.{Result}
use Rattle.refusal.specs.declared.Mode.{Mode}
use Rattle.walk.specs.declared.Piece.{Piece}
use Rattle.walk.specs.Pieces.{pieces}
use Rattle.symbol.specs.declared.AdsSymbolInfo.{AdsSymbolInfo}
use Rattle.symbol.specs.Symbol.{symbol_of}
use Rattle.symbol_find.proofs.Meaning.{symbols_by_steps}
use Rattle.damage.proofs.Theorems.{stays_in_place_of}
use Rattle.listing.specs.Listing.{row, rows, ok_of, lying, longest, line_text, header, lines_text, listing}
use Rattle.entry.specs.Alike.{among}
use Rattle.damage.specs.Others.{others}
use Rattle.symbols_damaged.specs.Listed.{row_of, rows_of, ListingStays, ListedByRows}

map-starts : (line : ℕ) (ps : List (Piece AdsSymbolInfo)) → map (λ r. r.start) (map (row_of line) ps) ≡ map (λ p. p.start) ps
map-starts line [] = refl
map-starts line (p ∷ ps) = ap (λ (l : List ℕ). p.start ∷ l) (map-starts line ps)

others-rows : (line : ℕ) (places : List ℕ) (ps : List (Piece AdsSymbolInfo)) → others (λ r. r.start) places (map (row_of line) ps) ≡ map (row_of line) (others (λ p. p.start) places ps)
others-rows line places [] = refl
others-rows line places (p ∷ ps) = by (among places p.start) (others-rows line places ps)
  where
    by : (b : Bool) → others (λ r. r.start) places (map (row_of line) ps) ≡ map (row_of line) (others (λ p. p.start) places ps)
        → (if not b then row_of line p ∷ others (λ r. r.start) places (map (row_of line) ps) else others (λ r. r.start) places (map (row_of line) ps))
        ≡ map (row_of line) (if not b then p ∷ others (λ p. p.start) places ps else others (λ p. p.start) places ps)
    by true on = on
    by false on = ap (λ l. row_of line p ∷ l) on

flat_map-rows : (line : ℕ) (ps : List (Piece AdsSymbolInfo)) → flat_map (λ r. r.text) (map (row_of line) ps) ≡ flat_map (row line) ps
flat_map-rows line [] = refl
flat_map-rows line (p ∷ ps) = ap (λ (l : List ℕ). row line p ++ l) (flat_map-rows line ps)

pub listing_stays : ListingStays rows_of
listing_stays mode line s t places d =
    let p = (stays_in_place_of 30 (omega arith) (symbol_of mode) (symbols_by_steps mode)).piece (0, 0) s t places d in
    let same : others (λ p. p.start) places (pieces (symbol_of mode) (lying s)) ≡ others (λ p. p.start) places (pieces (symbol_of mode) (lying t)) = sym (map-id _) ∙ p.other ∙ map-id _ in
    record {
      starts = map-starts line (pieces (symbol_of mode) (lying s)) ∙ p.starts ∙ sym (map-starts line (pieces (symbol_of mode) (lying t)));
      other = others-rows line places (pieces (symbol_of mode) (lying s)) ∙ ap (λ l. map (row_of line) l) same ∙ sym (others-rows line places (pieces (symbol_of mode) (lying t)));
    }

-- lines after one another
lines-append : (mode : Mode) (first : ℕ) (before : List (List ℕ)) (digits : List ℕ) (behind : List (List ℕ))
    → lines_text mode first (before ++ (digits ∷ behind)) ≡ lines_text mode first before ++ (line_text mode (first + length before) digits ++ lines_text mode (first + 1 + length before) behind)
lines-append mode first [] digits behind =
    let n : first + 0 ≡ first = omega arith in
    let m : first + 1 + 0 ≡ first + 1 = omega arith in
    rw (n, m) refl
lines-append mode first (l ∷ before) digits behind =
    let n : first + 1 + length before ≡ first + suc (length before) = omega arith in
    let m : first + 1 + 1 + length before ≡ first + 1 + suc (length before) = omega arith in
    ap (λ (x : List ℕ). line_text mode first l ++ x) (
    lines-append mode (first + 1) before digits behind
    ∙ ap₂ (λ (i j : ℕ). lines_text mode (first + 1) before ++ (line_text mode i digits ++ lines_text mode j behind)) n m)
    ∙ sym (append_assoc (line_text mode first l) (lines_text mode (first + 1) before) (line_text mode (first + suc (length before)) digits ++ lines_text mode (first + 1 + suc (length before)) behind))

-- a line that spells an upload
spelt_text : (mode : Mode) (line : ℕ) (digits s : List ℕ) → length digits ≤ longest → decode_of digits ≡ Ok s → line_text mode line digits ≡ flat_map (row line) (pieces (symbol_of mode) (lying s))
unfolding line_text
spelt_text mode line digits s short spelt =
    let e : ltb longest (length digits) ≡ false = le-ltb longest (length digits) short in
    simp e (ap (λ (r : Result (List ℕ) FromHexError). rows mode line (ok_of r)) spelt)

pub listed_by_rows : ListedByRows
unfolding listing
listed_by_rows mode input digits s before behind is short spelt =
    let text : line_text mode (1 + length before) digits ≡ flat_map (λ r. r.text) (rows_of mode (1 + length before) s) =
    spelt_text mode (1 + length before) digits s short spelt ∙ sym (flat_map-rows (1 + length before) (pieces (symbol_of mode) (lying s))) in
    ap (λ (l : List ℕ). header ++ l) (
    ap (λ (ls : List (List ℕ)). lines_text mode 1 ls) is ∙ lines-append mode 1 before digits behind
    ∙ ap (λ (x : List ℕ). lines_text mode 1 before ++ (x ++ lines_text mode (2 + length before) behind)) text)
