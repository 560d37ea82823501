-- The theorems around the one that written symbols come back, proved.
use Rattle.std.proofs.Common.{ℕ, ◌≡◌, refl, ap, ◌∙◌, List, [], arith, Bor, Ok, None}
use Rattle.walk.specs.Theorems.{cursor_of}
use Rattle.writing.specs.Layout.{lengths_bytes, strings_bytes, attributes_bytes, entry_bytes}
use Rattle.writing.specs.Checks.{strings_checked, entry_checked}
use Rattle.writing.proofs.Done.{done_by}
use Rattle.regrown.specs.Regrown.{grown, Grown}
use Rattle.regrown.specs.Tells.{tells}
use Rattle.regrown.proofs.ShutsOut.{shuts_out}
use Rattle.attribute.specs.Attribute.{listed}
use Rattle.attribute.specs.Block as attribute-block
use Rattle.attribute.specs.Told as attributes
use Rattle.attribute.specs.Named.{named_told}
use Rattle.attribute.proofs.Named.{named_tells}
use Rattle.refactor.specs.Block as refactor-block
use Rattle.symbol.specs.declared.AdsSymbolInfo.{AdsSymbolInfo}
use Rattle.symbol.specs.declared.writer.NewSymbol.{NewSymbol}
use Rattle.symbol.specs.Told as symbol
use Rattle.symbol.specs.Told.{told_of, meant, IsTyped, IsSixteen}
use Rattle.symbol.specs.Writing.{numbers_bytes, header_bytes, sections_bytes, symbol_bytes, sections_checked, symbol_checked, symbol_written}
use Rattle.symbol.proofs.Accepted.{accepted_is}
use Rattle.symbols_regrown.specs.Kind.{IsFit, reads_back}
use Rattle.symbols_regrown.specs.Theorems.{SymbolsShutOut, WrittenSymbolsFit, SymbolsByName}

-- every number 0, no flag set, no name
abbrev nothing : Bor (List ℕ)
nothing = record { ref_ptr = (0, 0); now = [] }

abbrev smallest : NewSymbol
smallest =
    record {
      index_group = record { 0 = 0 };
      index_offset = record { 0 = 0 };
      size = 0;
      data_type_id = 0;
      flags = record { 0 = 0 };
      high = 0;
      name = nothing;
      type_name = nothing;
      comment = nothing;
      guid = None;
      attributes = record { bytes = nothing; count = 0 };
      extended_flags = record { 0 = 0 };
      refactor_infos = record { bytes = nothing; count = 0 };
    }

typed : IsTyped smallest
typed = record { index_group = omega arith; index_offset = omega arith; size = omega arith; data_type_id = omega arith; flags = omega arith; high = omega arith; extended_flags = omega arith; guid = tt }

accepted : symbol_written smallest ≡ Ok (symbol_bytes smallest)
unfolding symbol_written symbol_checked sections_checked strings_checked attribute-block.exact refactor-block.exact entry_checked symbol_bytes entry_bytes header_bytes numbers_bytes lengths_bytes strings_bytes sections_bytes attributes_bytes
accepted = refl

fit : Grown IsFit
fit = record { parts = smallest; extra = []; fit = record { typed = typed; accepted = accepted } }

pub shut : SymbolsShutOut
unfolding fit grown symbol_bytes entry_bytes header_bytes numbers_bytes lengths_bytes strings_bytes sections_bytes attributes_bytes
shut = shuts_out IsFit symbol_bytes meant cursor_of (tells (λ (r : AdsSymbolInfo). r.length) told_of) fit (omega arith)

pub reached : WrittenSymbolsFit
reached n old new count t w =
    let d = done_by (symbol_written n) old new count w in
    let i = (accepted_is n d.bytes d.given).1 in
    record { fit = record { typed = t; accepted = d.given ∙ ap Ok i }; bytes = d.first ∙ i }

pub by_name : SymbolsByName
by_name mode n extra name e f is h =
    let b = reads_back mode n extra e f is h in
    let same : attributes.told (listed b.back.attributes.bytes b.back.attributes.count) ≡ attributes.told (listed n.attributes.bytes n.attributes.count) = ap (λ (t : symbol.Told). t.attributes) b.tells in
    record { back = b.back; is = b.is; tells = named_tells (listed b.back.attributes.bytes b.back.attributes.count) name ∙ ap (λ all. named_told all name) same }
