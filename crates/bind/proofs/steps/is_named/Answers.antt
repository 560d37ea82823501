use Rattle.std.proofs.Common.{ℕ, ◌≡◌, ◌∙◌, sym, ap, List, length, take, Bor}
use Rattle.std.proofs.Math.Seq.{take-length}
use Rattle.le.specs.Le.{part}
use Rattle.names.specs.Names.{same_name}
use Rattle.bind.proofs.Letters.{other_long}
use Rattle.bind.proofs.steps.is_named.Goals as goal

pub returns-then-own-name : goal.returns-then-own-name
returns-then-own-name c =
    sym (other_long c.name_of-own.result.now c.args.name.now c.if-own-name.true) ∙ ap (λ (q : Bor (List ℕ)). same_name q.now c.args.name.now) c.name_of-own.ensures

pub returns : goal.returns
unfolding part
returns c =
    let whole : take (length c.args.name.now) c.name_of-own.result.now ≡ c.name_of-own.result.now =
    ap (λ (n : ℕ). take n c.name_of-own.result.now) (sym c.if-own-name.false) ∙ take-length c.name_of-own.result.now in
    c.same_name.ensures ∙ ap (λ (t : List ℕ). same_name t c.args.name.now) whole ∙ ap (λ (q : Bor (List ℕ)). same_name q.now c.args.name.now) c.name_of-own.ensures
