-- The name that an entry's own bytes tell is the one that stands in the upload.
use Rattle.std.proofs.Common.{ℕ, ◌+◌, ◌≤◌, ◌≡◌, ap, ◌∙◌, List, length, drop, arith, Bor}
use Rattle.std.proofs.Math.ListN.{length-take}
use Rattle.le.specs.Le.{le2, part}
use Rattle.le.proofs.Laws.{le2_part, part_part}
use Rattle.part.specs.Slice as slice
use Rattle.name_order.specs.declared.places.NamePlaces.{NamePlaces}
use Rattle.name_order.specs.Order.{name_at}
use Rattle.named.specs.Named.{TellsName}

pub told_there : (w : NamePlaces) (s : Bor (List ℕ)) (at size : ℕ) (name : List ℕ) → TellsName w (slice.part s at size).now name → name ≡ name_at w s.now at
unfolding name_at part
told_there w s at size name t =
    let e = slice.part s at size in
    let l : length e.now ≤ size = omega (arith, length-take size (drop at s.now)) in
    let m : le2 e.now w.length ≡ le2 s.now (at + w.length) = le2_part s.now at size w.length (omega (arith, w.behind, t.room, l)) in
    t.is ∙ part_part s.now at size w.name (le2 e.now w.length) (omega (arith, t.room, l)) ∙ ap (part s.now (at + w.name)) m
