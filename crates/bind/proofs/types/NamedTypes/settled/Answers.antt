use Rattle.std.proofs.Common.{ℕ, ◌≡◌, ◌≢◌, false, Err, sym, ap, ◌∙◌}
use Rattle.refusal.specs.declared.Refusal.TheVariants.{NoOffset}
use Rattle.bind.specs.Found.{type_found}
use Rattle.bind.specs.Binding.{rests, settled}
use Rattle.bind.proofs.Along.{rests_here, below_pointer, no_more}
use Rattle.bind.proofs.types.NamedTypes.settled.Goals as goal

pub returns-then-flag-ne0 : goal.returns-then-flag-ne0
returns-then-flag-ne0 c =
    let passed : rests c.loop-here.here ≡ false = sym c.rests.ensures ∙ c.loop-here-test.true in
    let pointer : c.loop-here.here.entry.pointer ≢ 0 = λ none. c.if-flag-ne0.true (c.pointer_of-flag.ensures ∙ none) in
    ap (λ (flag : ℕ). Err (NoOffset c.args.at flag)) c.pointer_of-flag.ensures
    ∙ sym (below_pointer (type_found c.args.self.mode c.args.self.upload) c.args.self.upload.bytes c.loop-here.more c.loop-here.here c.args.at passed pointer)
    ∙ c.loop-here.invariant

pub returns-then-more-eq0 : goal.returns-then-more-eq0
returns-then-more-eq0 c =
    let find = type_found c.args.self.mode c.args.self.upload in
    let passed : rests c.loop-here.here ≡ false = sym c.rests.ensures ∙ c.loop-here-test.true in
    let none : c.loop-here.here.entry.pointer ≡ 0 = sym c.pointer_of-flag.ensures ∙ c.if-flag-ne0.false in
    sym (no_more find c.args.self.upload.bytes c.loop-here.here c.args.at passed none)
    ∙ ap (λ (n : ℕ). settled find c.args.self.upload.bytes n c.loop-here.here c.args.at) (sym c.if-more-eq0.true)
    ∙ c.loop-here.invariant

pub returns : goal.returns
returns c =
    sym (rests_here (type_found c.args.self.mode c.args.self.upload) c.args.self.upload.bytes c.loop-here.more c.loop-here.here c.args.at (sym c.rests.ensures ∙ c.loop-here-test.false))
    ∙ c.loop-here.invariant
