-- What is listed of six lines, computed; and of bad lines.
use Rattle.std.proofs.Common.{ℕ, ◌≡◌, refl, Bool, true, false, List, length, None, Err, append_assoc}
use Rattle.std.specs.Prelude.{ltb, codes, decimal}
use Rattle.std.specs.Fmt.{digits}
use borrow.Author.Tests.{lt-ltb, le-ltb}
use Rattle.hex.specs.Hex.{decode_pairs, decode_of, encode_with}
use Rattle.hex.specs.declared.error.FromHexError.{FromHexError}
use Rattle.le.specs.Le.{le2, le4}
use Rattle.refusal.specs.declared.Mode.{Mode}
use Rattle.refusal.specs.declared.Mode.TheVariants.{Present}
use Rattle.attribute.specs.Attribute as attribute
use Rattle.refactor.specs.Refactor as refactor
use Rattle.entry.specs.Entry.{claim_at}
use Rattle.walk.specs.Pieces.{piece_at, pieces_from}
use Rattle.layout.specs.Layout.{guid_of}
use Rattle.symbol.specs.Symbol.{attributes_of, extended_of, refactor_infos_of, with_strings, ended_symbol, symbol_of}
use Rattle.listing.specs.Row.{hex, entry_row, refusal_row}
use Rattle.listing.specs.Listing.{longest, row, rows, line_text, listing}
use Rattle.listing.specs.Meaning.{six_lines, six_listed, bad_row, ListingMeant}

letters : listing Present six_lines ≡ six_listed
unfolding digits decode_pairs encode_with le2 le4 claim_at piece_at pieces_from attribute.first_of attribute.listed attribute.after_listed refactor.first_of refactor.listed refactor.chained guid_of attributes_of extended_of refactor_infos_of with_strings ended_symbol symbol_of hex entry_row refusal_row row line_text listing
letters = refl

bad_is : (mode : Mode) (line : ℕ) → rows mode line None ≡ bad_row line
unfolding digits refusal_row
bad_is mode line = append_assoc (decimal line) (codes " 0 refused 12 0 0") (codes "\n")

bad_by : (mode : Mode) (line : ℕ) (digits : List ℕ) (why : FromHexError) → decode_of digits ≡ Err why → (b : Bool) → ltb longest (length digits) ≡ b → line_text mode line digits ≡ bad_row line
unfolding line_text
bad_by mode line digits why is true long = simp long (bad_is mode line)
bad_by mode line digits why is false short = simp (short, is) (bad_is mode line)

pub listing_meant : ListingMeant
unfolding line_text
listing_meant = record {
  letters = letters;
  good = λ mode line digits frame short is. simp (le-ltb longest (length digits) short, is) refl;
  bad = λ mode line digits why is. bad_by mode line digits why is (ltb longest (length digits)) refl;
  long = λ mode line digits more. simp (lt-ltb longest (length digits) more) (bad_is mode line);
}
