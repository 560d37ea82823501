use Rattle.std.proofs.Common.{rules, refl, sym, ◌∙◌, ◌≡◌, List, Result, ℕ}
use Rattle.refusal.specs.declared.Refusal.{Refusal}
use Rattle.refusal.specs.declared.Refusal.TheVariants.{ZeroEntryLength}
use Rattle.walk.specs.Pieces.{pieces, walker_left}
use Rattle.walk.specs.Unread.{unread_of}
use Rattle.name_find.proofs.Search.{search_found, search_on, search_refused, search_end, search_stops, find_large, find_ends}
use Rattle.name_find.proofs.find.Goals as goal

pub returns-then-has_name : goal.returns-then-has_name
returns-then-has_name g c =
    let e = g.met.E.Entry c.lifetimes (assumption c) in
    let named = g.met.E.Named c.lifetimes (assumption c) in
    let is : walker_left unread_of c.into_iter-piece-iterator.result ≡ pieces (unread_of c.args.mode) c.args.bytes = simp c.into_iter-piece-iterator.ensures.into_iter_gives c.new-piece-items.ensures.all in
    let found = search_found g.E.Named.name_of (g.E.Entry.read c.args.mode) c.args.name.now _ _ c.in-Some.piece c.in-Some.ensures.steps.0 c.in-Ok.entry c.in-Ok.is (sym c.has_name.ensures ∙ c.if-has_name.true) in
    find_ends g.E.Named.name_of (g.E.Entry.read c.args.mode) g.E.Entry.HEADER named.shortest (e.short c.args.mode) c.args.mode c.args.bytes c.args.name.now _ _ _ c.if-length-gt-LIMIT.false is c.loop-piece.invariant.going found

pub returns-in-Err-ZeroEntryLength : goal.returns-in-Err-ZeroEntryLength
returns-in-Err-ZeroEntryLength g c =
    let e = g.met.E.Entry c.lifetimes (assumption c) in
    let named = g.met.E.Named c.lifetimes (assumption c) in
    let is : walker_left unread_of c.into_iter-piece-iterator.result ≡ pieces (unread_of c.args.mode) c.args.bytes = simp c.into_iter-piece-iterator.ensures.into_iter_gives c.new-piece-items.ensures.all in
    let stops = search_stops g.E.Named.name_of (g.E.Entry.read c.args.mode) c.args.name.now _ _ c.in-Some.piece c.in-Some.ensures.steps.0 ZeroEntryLength (search rules) refl in
    find_ends g.E.Named.name_of (g.E.Entry.read c.args.mode) g.E.Entry.HEADER named.shortest (e.short c.args.mode) c.args.mode c.args.bytes c.args.name.now _ _ _ c.if-length-gt-LIMIT.false is c.loop-piece.invariant.going stops

pub returns : goal.returns
returns g c =
    let e = g.met.E.Entry c.lifetimes (assumption c) in
    let named = g.met.E.Named c.lifetimes (assumption c) in
    let is : walker_left unread_of c.into_iter-piece-iterator.result ≡ pieces (unread_of c.args.mode) c.args.bytes = simp c.into_iter-piece-iterator.ensures.into_iter_gives c.new-piece-items.ensures.all in
    find_ends g.E.Named.name_of (g.E.Entry.read c.args.mode) g.E.Entry.HEADER named.shortest (e.short c.args.mode) c.args.mode c.args.bytes c.args.name.now _ _ _ c.if-length-gt-LIMIT.false is c.loop-piece.invariant.going (search_end g.E.Named.name_of (g.E.Entry.read c.args.mode) c.args.name.now _ (search rules))

pub loop-piece-preserved : goal.loop-piece-preserved
loop-piece-preserved g c =
    let on = search_refused g.E.Named.name_of (g.E.Entry.read c.args.mode) c.args.name.now _ _ c.in-Some.piece c.in-Some.ensures.steps.0 _ c.in-Err.is (search rules) in
    record { can = tt; ends = tt; going = sym on ∙ c.loop-piece.invariant.going }
