use Rattle.std.proofs.Common.{◌≡◌, ◌∙◌, sym, ap, arith}
use Rattle.bind.specs.Found.{symbol_found}
use Rattle.bind.specs.Binding.{longest}
use Rattle.bind.proofs.Prefixes.{none_left}
use Rattle.bind.proofs.longest.Goals as goal

pub returns-clause-value : goal.returns-clause-value
returns-clause-value c =
    let find = symbol_found c.args.mode c.args.symbols in
    let zero : c.loop-left.left ≡ 0 = omega arith in
    sym (none_left find c.args.path.now) ∙ ap (longest find c.args.path.now) (sym zero) ∙ c.loop-left.invariant.less
