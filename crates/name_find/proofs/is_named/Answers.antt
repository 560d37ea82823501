use Rattle.std.proofs.Common.{rules, sym, ap, ◌∙◌, ◌≡◌, ◌+◌, Ok, drop, List, ℕ, length}
use Rattle.std.specs.Prelude.{Some}
use Rattle.le.specs.Le as le
use Rattle.part.specs.Slice.{part}
use Rattle.names.specs.Names.{same_name}
use Rattle.name_order.specs.declared.places.NamePlaces.{NamePlaces}
use Rattle.name_find.specs.Looks.{looks_named}
use Rattle.name_find.specs.Find.{has_name}
use Rattle.name_find.proofs.Looks.{looks_from, named_from}
use Rattle.name_find.proofs.Search.{named_at}
use Rattle.name_find.proofs.is_named.Goals as goal

pub returns-in-Some-Ok : goal.returns-in-Some-Ok
returns-in-Some-Ok g c =
    let inner : c.in-Some-Ok.field-0 ≡ Ok c.in-Some-Ok.size = search rules in
    let met = sym (ap (λ claimed. claimed.size) c.claim_at.ensures) ∙ c.in-Some-Ok.is ∙ ap (λ claim. Some claim) inner in
    let own : c.has_name.result ≡ has_name g.E.Named.name_of c.args.name.now (Some (g.E.Entry.read c.args.mode (part c.args.bytes c.args.at c.in-Some-Ok.size))) = search rules in
    own ∙ sym (named_at g.E.Named.name_of (g.E.Entry.read c.args.mode) c.args.bytes c.args.name.now c.args.at c.in-Some-Ok.size met)

pub returns-then-not-looks_named : goal.returns-then-not-looks_named
returns-then-not-looks_named g c =
    let named = g.met.E.Named c.lifetimes (assumption c) in
    let looks = ap (λ (w : NamePlaces). looks_named w (drop c.args.at c.args.bytes.now) c.args.name.now) c.places-places.ensures in
    sym (looks_from g.E.Named.places g.E.Named.name_of (g.E.Entry.read c.args.mode) (named.told c.args.mode) c.args.bytes c.args.name.now c.args.at (sym looks ∙ sym c.looks_named.ensures ∙ c.if-not-looks_named.true))

pub returns-then-not-same_name : goal.returns-then-not-same_name
returns-then-not-same_name g c =
    let named = g.met.E.Named c.lifetimes (assumption c) in
    let same = ap (λ (w : NamePlaces). same_name (le.part c.args.bytes.now (c.args.at + w.name) (length c.args.name.now)) c.args.name.now) c.places-places.ensures in
    sym (named_from g.E.Named.places g.E.Named.name_of (g.E.Entry.read c.args.mode) (named.told c.args.mode) c.args.bytes c.args.name.now c.args.at (sym same ∙ sym c.same_name.ensures ∙ c.if-not-same_name.true))
