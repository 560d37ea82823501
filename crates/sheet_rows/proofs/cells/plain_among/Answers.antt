use Rattle.std.proofs.Common.{ℕ, ◌≡◌, Bool, true, false, List, sym, ap, ◌∙◌, cond, eqb, arith}
use Rattle.std.proofs.lemmas.Bool.{eq-eqb, ne_eqb}
use Rattle.std.proofs.lemmas.Simd.{length-chunk, first_set_mask_l}
use lib.Count.{count_trailing_zeros}
use lib.Lanes.{chunk}
use Rattle.sheet.specs.Cells.{is_special}
use Rattle.sheet_rows.proofs.cells.plain_among.Goals as goal

pub returns-then-special-eq0 : goal.returns-then-special-eq0
returns-then-special-eq0 c =
    let v : List ℕ = chunk c.args.at 16 c.args.bytes.now in
    let first = first_set_mask_l is_special v 16 (length-chunk c.args.at 16 c.args.bytes.now c.requires) (omega arith) in
    let is : eqb c.specials-special.result 0 ≡ true = eq-eqb _ _ c.if-special-eq0.true in
    sym (ap (λ (b : Bool). cond b 16 (count_trailing_zeros 64 c.specials-special.result)) is)
    ∙ ap (λ (m : ℕ). cond (eqb m 0) 16 (count_trailing_zeros 64 m)) c.specials-special.ensures ∙ first

pub returns-else-special-eq0 : goal.returns-else-special-eq0
returns-else-special-eq0 c =
    let v : List ℕ = chunk c.args.at 16 c.args.bytes.now in
    let first = first_set_mask_l is_special v 16 (length-chunk c.args.at 16 c.args.bytes.now c.requires) (omega arith) in
    let is : eqb c.specials-special.result 0 ≡ false = ne_eqb _ _ c.if-special-eq0.false in
    sym (ap (λ (b : Bool). cond b 16 (count_trailing_zeros 64 c.specials-special.result)) is)
    ∙ ap (λ (m : ℕ). cond (eqb m 0) 16 (count_trailing_zeros 64 m)) c.specials-special.ensures ∙ first
