use Rattle.std.proofs.Common.{ap, sym, ◌∙◌, ◌≡◌, refl, true, false, List, ℕ, length}
use Rattle.std.specs.Prelude.{is_ok}
use Rattle.le.specs.Le.{part}
use Rattle.names.specs.Names.{same_name}
use Rattle.name_order.specs.declared.places.NamePlaces.{NamePlaces}
use Rattle.name_find.specs.Looks.{looks_named}
use Rattle.name_find.proofs.Looks.{looks_otherwise, named_otherwise, named_is, looked_room}
use Rattle.name_find.proofs.has_name.Goals as goal

pub same_name-requires : goal.same_name-requires
same_name-requires g c = looked_room c.places-places.result c.args.own.now c.args.name.now (sym c.looks_named_at_once.ensures ∙ c.if-not-looks_named_at_once.false)

pub returns-then-not-looks_named_at_once : goal.returns-then-not-looks_named_at_once
returns-then-not-looks_named_at_once g c =
    let named = g.met.E.Named c.lifetimes (assumption c) in
    let looks = ap (λ (w : NamePlaces). looks_named w c.args.own.now c.args.name.now) c.places-places.ensures in
    sym (looks_otherwise g.E.Named.places g.E.Named.name_of (g.E.Entry.read c.args.mode) (named.told c.args.mode) c.args.own c.args.name.now (sym looks ∙ sym c.looks_named_at_once.ensures ∙ c.if-not-looks_named_at_once.true))

pub returns-then-not-same_name : goal.returns-then-not-same_name
returns-then-not-same_name g c =
    let named = g.met.E.Named c.lifetimes (assumption c) in
    let looks = ap (λ (w : NamePlaces). looks_named w c.args.own.now c.args.name.now) c.places-places.ensures in
    let same = ap (λ (w : NamePlaces). same_name (part c.args.own.now w.name (length c.args.name.now)) c.args.name.now) c.places-places.ensures in
    sym (named_otherwise g.E.Named.places g.E.Named.name_of (g.E.Entry.read c.args.mode) (named.told c.args.mode) c.args.own c.args.name.now (sym looks ∙ sym c.looks_named_at_once.ensures ∙ c.if-not-looks_named_at_once.false) (sym same ∙ sym c.same_name.ensures ∙ c.if-not-same_name.true))

pub returns : goal.returns
returns g c =
    let named = g.met.E.Named c.lifetimes (assumption c) in
    let looks = ap (λ (w : NamePlaces). looks_named w c.args.own.now c.args.name.now) c.places-places.ensures in
    let same = ap (λ (w : NamePlaces). same_name (part c.args.own.now w.name (length c.args.name.now)) c.args.name.now) c.places-places.ensures in
    c.is_record.ensures ∙ sym (named_is g.E.Named.places g.E.Named.name_of (g.E.Entry.read c.args.mode) (named.told c.args.mode) c.args.own c.args.name.now (sym looks ∙ sym c.looks_named_at_once.ensures ∙ c.if-not-looks_named_at_once.false) (sym same ∙ sym c.same_name.ensures ∙ c.if-not-same_name.false))
