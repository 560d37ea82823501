use Rattle.std.proofs.Common.{◌≡◌, ◌≤◌, ap, length, arith}
use Rattle.refusal.specs.declared.Mode.TheVariants.{Present}
use Rattle.walk.specs.Pieces.{pieces, walker_left}
use Rattle.walk.specs.Unread.{unread_of}
use Rattle.captures.proofs.Pieces.{count_is}
use Rattle.captures.proofs.count_pieces.Goals as goal

pub overflow_add-count : goal.overflow_add-count
overflow_add-count c =
    let few : length (walker_left unread_of c.into_iter-piece-iterator.result) ≤ length c.args.upload.now = simp c.into_iter-piece-iterator.ensures.into_iter_gives c.new-piece-items.ensures.few in
    omega (arith, few, c.loop-piece.invariant.counted, ap length c.in-Some.ensures.steps.0)

pub returns : goal.returns
returns c =
    let is : walker_left unread_of c.into_iter-piece-iterator.result ≡ pieces (unread_of Present) c.args.upload = simp c.into_iter-piece-iterator.ensures.into_iter_gives c.new-piece-items.ensures.all in
    omega (arith, c.loop-piece.invariant.counted, ap length c.in-None.ensures.steps.0.0, ap length is, count_is (unread_of Present) c.args.upload)
