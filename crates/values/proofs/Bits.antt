-- The names of a word's bits, by the tables of crate flags.
use Rattle.std.proofs.Common.{ℕ, ◌≡◌, List, map, sym, ap, ◌∙◌}
use Rattle.std.specs.Int.RustNames.{bit_and}
use Rattle.std.specs.List.{flat_map}
use Rattle.std.proofs.lemmas.List.Folds.{flat_map-map}
use Rattle.bitflags.specs.declared.traits.Flag.{Flag}
use Rattle.flags.specs.declared.symbol_flags.AdsSymbolFlags.{AdsSymbolFlags}
use Rattle.flags.specs.declared.symbol_flags.AdsSymbol2Flags.{AdsSymbol2Flags}
use Rattle.values.specs.Names.{named_text, bits_text, symbol_names, extended_names, symbol_bits_text, extended_bits_text}

abbrev pub symbol_flags : ℕ → List (Flag AdsSymbolFlags) → List ℕ
symbol_flags w fs = flat_map (λ f. named_text f.name.now (bit_and w f.value.0)) fs

abbrev pub extended_flags : ℕ → List (Flag AdsSymbol2Flags) → List ℕ
extended_flags w fs = flat_map (λ f. named_text f.name.now (bit_and w f.value.0)) fs

pub symbol_named : (w : ℕ) (fs : List (Flag AdsSymbolFlags)) → map (λ f. (f.name.now, f.value.0)) fs ≡ symbol_names → symbol_flags w fs ≡ symbol_bits_text w
unfolding symbol_bits_text
symbol_named w fs h =
    sym (flat_map-map (λ (n : List ℕ × ℕ). named_text n.0 (bit_and w n.1)) (λ (f : Flag AdsSymbolFlags). (f.name.now, f.value.0)) fs) ∙ ap (bits_text w) h

pub extended_named : (w : ℕ) (fs : List (Flag AdsSymbol2Flags)) → map (λ f. (f.name.now, f.value.0)) fs ≡ extended_names → extended_flags w fs ≡ extended_bits_text w
unfolding extended_bits_text
extended_named w fs h =
    sym (flat_map-map (λ (n : List ℕ × ℕ). named_text n.0 (bit_and w n.1)) (λ (f : Flag AdsSymbol2Flags). (f.name.now, f.value.0)) fs) ∙ ap (bits_text w) h
