-- The symbol in which every number is another: antt computes what the definitions say of its bytes.
use Rattle.std.proofs.Common.{refl}
use Rattle.le.specs.Le.{le2, le4}
use Rattle.refusal.specs.EndBytes.{ended}
use Rattle.refusal.specs.declared.Mode.TheVariants.{Present, Checked}
use Rattle.entry.specs.Entry.{claim_of}
use Rattle.attribute.specs.Attribute as attribute
use Rattle.attribute.specs.Block as attribute-block
use Rattle.refactor.specs.Refactor as refactor
use Rattle.refactor.specs.Block as refactor-block
use Rattle.writing.specs.Layout.{lengths_bytes, strings_bytes, attributes_bytes, entry_bytes}
use Rattle.writing.specs.Checks.{strings_checked, entry_checked}
use Rattle.layout.specs.Layout.{guid_of}
use Rattle.symbol.specs.Symbol.{attributes_of, extended_of, refactor_infos_of, with_strings, symbol_ended, ended_symbol, symbol_of}
use Rattle.symbol.specs.Writing.{numbers_bytes, header_bytes, sections_bytes, symbol_bytes, sections_checked, symbol_checked, symbol_written}
use Rattle.lineup.specs.Symbols.{SymbolsLineUp}

pub symbols : SymbolsLineUp
unfolding le2 le4 ended claim_of attribute.first_of attribute.listed attribute.after_listed attribute.ends attribute-block.good_of attribute-block.exact refactor.first_of refactor.listed refactor.chained refactor.ends_from refactor-block.good_of refactor-block.exact lengths_bytes strings_bytes attributes_bytes entry_bytes strings_checked entry_checked guid_of attributes_of extended_of refactor_infos_of with_strings symbol_ended ended_symbol symbol_of numbers_bytes header_bytes sections_bytes symbol_bytes sections_checked symbol_checked symbol_written
symbols m Present =
    record {
      written = refl;
      written_read = refl;
      masked = refl;
      guid_flagged = refl;
      attributes_flagged = refl;
      extended_flagged = refl;
      others_flagged = refl;
      chain_flagged = refl;
      no_chain_flagged = refl;
    }
symbols m Checked =
    record {
      written = refl;
      written_read = refl;
      masked = refl;
      guid_flagged = refl;
      attributes_flagged = refl;
      extended_flagged = refl;
      others_flagged = refl;
      chain_flagged = refl;
      no_chain_flagged = refl;
    }
