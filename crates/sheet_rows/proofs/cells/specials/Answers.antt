use Rattle.std.proofs.Common.{ℕ, eqb, cond, bit_or, refl, arith}
use Rattle.std.proofs.lemmas.Simd.{zip2_splat, zip2_of_maps}
use Rattle.sheet.specs.Cells.{is_special}
use Rattle.sheet_rows.proofs.Lanes.{masked}
use Rattle.sheet_rows.proofs.cells.specials.Goals as goal

pub returns : goal.returns
returns c =
    let v = c.args.bytes in
    let long = c.fits-bytes.0 in
    let hit = λ (a b : ℕ). cond (eqb a b) 255 0 in
    masked _ is_special v _ (omega arith) c.fits-bytes.1
    (zip2_of_maps bit_or _ _ v (zip2_of_maps bit_or _ _ v (zip2_of_maps bit_or _ _ v (zip2_splat hit v 16 44 long) (zip2_splat hit v 16 34 long)) (zip2_splat hit v 16 13 long)) (zip2_splat hit v 16 10 long)) refl
