use Rattle.std.proofs.Common.{rules, ◌≡◌, Err, sym, ◌∙◌, arith}
use Rattle.le.proofs.Laws.{after}
use Rattle.writing.proofs.Laws.{refuses}
use Rattle.writing.proofs.Entry.{room_passed, no_room, written_whole}
use Rattle.refactor.proofs.Written.{count_refused, block_refused, both_pass}
use Rattle.refactor.proofs.writer.write_entries.Goals as goal

pub returns-in_err-check_count : goal.returns-in_err-check_count
returns-in_err-check_count c =
    let e : c.from_residual.result ≡ Err c.in_err-check_count.field-0.0 = search rules in
    simp e (refuses (count_refused _ _ (sym c.check_count.ensures ∙ c.in_err-check_count.was)))

pub returns-in_err-check_block : goal.returns-in_err-check_block
returns-in_err-check_block c =
    let e : c.from_residual-in_err-check_block.result ≡ Err c.in_err-check_block.field-0.0 = search rules in
    simp e (refuses (block_refused _ _ (sym c.check_count.ensures ∙ c.in_ok-check_count.was) (sym c.check_block.ensures ∙ c.in_err-check_block.was)))

pub returns-in_err-check_room : goal.returns-in_err-check_room
returns-in_err-check_room c =
    let e : c.from_residual-in_err-check_room.result ≡ Err c.in_err-check_room.field-0.0 = search rules in
    simp e (no_room _ (both_pass _ _ (sym c.check_count.ensures ∙ c.in_ok-check_count.was) (sym c.check_block.ensures ∙ c.in_ok-check_block.was)) (omega arith) (sym c.check_room.ensures ∙ c.in_err-check_room.was))

pub put_u16-a-requires : goal.put_u16-a-requires
put_u16-a-requires c = let r = room_passed _ _ (sym c.check_room.ensures ∙ c.in_ok-check_room.was) in omega (arith, r.1)

pub put_bytes-requires : goal.put_bytes-requires
put_bytes-requires c = let r = room_passed _ _ (sym c.check_room.ensures ∙ c.in_ok-check_room.was) in omega (arith, r.1, c.put_u16-a.ensures.end, c.put_u16-a.ensures.long)

pub returns : goal.returns
returns c =
    let r = room_passed _ _ (sym c.check_room.ensures ∙ c.in_ok-check_room.was) in
    written_whole _ (both_pass _ _ (sym c.check_count.ensures ∙ c.in_ok-check_count.was) (sym c.check_block.ensures ∙ c.in_ok-check_block.was)) (omega (arith, r.0))
    (after c.put_u16-a.ensures c.put_bytes.ensures)
