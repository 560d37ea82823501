use Rattle.std.proofs.Common.{ℕ, ◌≡◌, ◌∙◌, ap, List, take, drop}
use Rattle.name_order.specs.declared.places.NamePlaces.{NamePlaces}
use Rattle.name_order.specs.Order.{named_before}
use Rattle.name_order.specs.Halving.{halved}
use Rattle.name_find.specs.Find.{find_indexed}
use Rattle.name_index.proofs.Halving.{one_slot}
use Rattle.bind.proofs.Upload.find.Goals as goal

pub returns : goal.returns
returns g c =
    let slots = c.args.self.slots.now in
    let asked = λ (l : List ℕ). find_indexed g.E.Named.name_of (g.E.Entry.read c.args.mode) c.args.self.bytes l c.args.name.now in
    let before : c.starts_before-before.result ≡ halved (named_before g.E.Named.places c.args.self.bytes.now c.args.name.now) slots =
    c.starts_before-before.ensures.value ∙ ap (λ (w : NamePlaces). halved (named_before w c.args.self.bytes.now c.args.name.now) slots) c.places.ensures in
    c.find_indexed.ensures ∙ ap asked (one_slot slots c.starts_before-before.result c.min-one.result c.min-one.ensures) ∙ ap (λ (k : ℕ). asked (take 1 (drop k slots))) before
