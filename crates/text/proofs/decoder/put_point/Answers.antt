use Rattle.std.proofs.Common.{refl, sym, ap, arith, length}
use Rattle.std.proofs.Math.ListN.{length-set}
use Rattle.le.proofs.Laws.{put_two, put_three, wrote, same_bytes}
use Rattle.text.proofs.Utf8.{utf8_2, utf8_3}
use Rattle.text.proofs.decoder.put_point.Goals as goal

pub bounds-out-at : goal.bounds-out-at
bounds-out-at c = omega (arith, ap length (utf8_2 c.requires.le_p c.if-p-lt2048.true))

pub bounds-out-at-then-p-lt2048 : goal.bounds-out-at-then-p-lt2048
bounds-out-at-then-p-lt2048 c = simp length-set (omega (arith, ap length (utf8_2 c.requires.le_p c.if-p-lt2048.true)))

pub returns-then-p-lt2048 : goal.returns-then-p-lt2048
returns-then-p-lt2048 c =
    let e = utf8_2 c.requires.le_p c.if-p-lt2048.true in
    same_bytes (sym e) (wrote (put_two _ _ _ _ (omega (arith, ap length e))) refl (omega (arith, ap length e)))

pub bounds-out-at-2 : goal.bounds-out-at-2
bounds-out-at-2 c = omega (arith, ap length (utf8_3 {p = c.args.p} c.if-p-lt2048.false (omega arith)))

pub bounds-out-at-3 : goal.bounds-out-at-3
bounds-out-at-3 c = simp length-set (omega (arith, ap length (utf8_3 {p = c.args.p} c.if-p-lt2048.false (omega arith))))

pub bounds-out-at-4 : goal.bounds-out-at-4
bounds-out-at-4 c = simp length-set (omega (arith, ap length (utf8_3 {p = c.args.p} c.if-p-lt2048.false (omega arith))))

pub returns : goal.returns
returns c =
    let e = utf8_3 {p = c.args.p} c.if-p-lt2048.false (omega arith) in
    same_bytes (sym e) (wrote (put_three _ _ _ _ _ (omega (arith, ap length e))) refl (omega (arith, ap length e)))
