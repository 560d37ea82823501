use Rattle.std.proofs.Common.{◌+◌, ◌-◌, ◌≡◌, sym, ap, ◌∙◌, length, take, drop, length-drop, arith}
use lib.Seq.{length-take-le}
use Rattle.le.proofs.Over.{wrote_over}
use Rattle.field.specs.Writing.{zeros}
use Rattle.field.proofs.Sizes.{length_zeros}
use Rattle.field.proofs.writer.put_zeros.Goals as goal

pub returns : goal.returns
returns c =
    let count = c.args.count in
    let next = c.args.at + count in
    let long : length (take (next - c.args.at) (drop c.args.at c.args.out.now)) ≡ count =
    length-take-le (next - c.args.at) (drop c.args.at c.args.out.now) (simp length-drop (omega (arith, c.requires))) ∙ omega arith in
    let is : c.fill.new.self ≡ zeros count = c.fill.ensures.after (λ y same. same) ∙ ap zeros long in
    wrote_over is (ap (λ n. c.args.at + n) (sym (length_zeros count))) c.requires
