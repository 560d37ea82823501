-- What the symbol writer has checked of a symbol that it accepts.
use Rattle.std.proofs.Common.{ℕ, ◌≤◌, ◌≡◌, refl, Bool, true, false, List, length, Ok}
use Rattle.std.specs.Prelude.{is_some, ltb, eqb, if◌then◌else◌}
use Rattle.std.specs.Bool.{beq}
use Rattle.le.specs.Le.{has}
use Rattle.refusal.specs.Refusal.{limit}
use Rattle.attribute.specs.Block as attribute
use Rattle.refactor.specs.Block as refactor
use Rattle.writing.specs.Checks.{IsShort}
use Rattle.part.proofs.Outcome.{both_passed}
use Rattle.writing.proofs.Entry.{strings_passed, count_passed, entry_passed}
use Rattle.symbol.specs.declared.writer.NewSymbol.{NewSymbol}
use Rattle.symbol.specs.Symbol.{type_guid_flag, attributes_flag, extended_flags_flag, refactor_info_flag}
use Rattle.symbol.specs.Writing.{flagged, agree, sections_checked, symbol_bytes, symbol_checked, symbol_written}

pub record Accepted (n : NewSymbol) : Type 0 where
  pub short : IsShort n.name.now n.type_name.now n.comment.now
  pub count : n.attributes.count ≤ 65535
  pub attributes_good : attribute.block_checked n.attributes.count n.attributes.bytes ≡ Ok tt
  pub chain_good : refactor.block_checked n.refactor_infos.count n.refactor_infos.bytes ≡ Ok tt
  pub guid_agrees : beq (is_some n.guid) (flagged n type_guid_flag) ≡ true
  pub attributes_agree : (if flagged n attributes_flag then true else eqb (length n.attributes.bytes.now) 0) ≡ true
  pub extended_agree : (if flagged n extended_flags_flag then true else eqb n.extended_flags.0 0) ≡ true
  pub chain_agrees : beq (ltb 0 n.refactor_infos.count) (has n.extended_flags.0 refactor_info_flag) ≡ true
  pub small : length (symbol_bytes n) ≤ limit

pub agreed : (b : Bool) (section : ℕ) → agree b section ≡ Ok tt → b ≡ true
agreed true section h = refl
agreed false section h = cc

pub accepted_is : (n : NewSymbol) (bs : List ℕ) → symbol_written n ≡ Ok bs → Accepted n × (bs ≡ symbol_bytes n)
unfolding symbol_written symbol_checked sections_checked
accepted_is n bs h =
    let w = both_passed _ h in
    let a = both_passed _ w.1.0 in
    let b = both_passed _ a.1.1 in
    let c = both_passed _ b.1.1 in
    let d = both_passed _ c.1.1 in
    let e = both_passed _ d.1.1 in
    let f = both_passed _ e.1.1 in
    let g = both_passed _ f.1.1 in
    let s = entry_passed _ bs w.1.1 in (
      record {
        short = strings_passed _ _ _ a.1.0;
        count = count_passed _ b.1.0;
        attributes_good = c.1.0;
        chain_good = d.1.0;
        guid_agrees = agreed _ _ e.1.0;
        attributes_agree = agreed _ _ f.1.0;
        extended_agree = agreed _ _ g.1.0;
        chain_agrees = agreed _ _ g.1.1;
        small = s.0;
      },
      s.1,
    )
