use Rattle.std.proofs.Common.{sym, ap, ◌∙◌, ◌+◌, length, take, arith}
use Rattle.std.proofs.Math.Seq.{take_all}
use Rattle.le.proofs.Laws.{after, same_bytes, wrote_none}
use Rattle.sheet.specs.Cells.{escaped_all}
use Rattle.sheet.proofs.Escapes.{escaped_more, escaped_room}
use Rattle.sheet.proofs.cells.put_all_escaped.Goals as goal

pub loop-byte-init : goal.loop-byte-init
unfolding escaped_all
loop-byte-init c = wrote_none (omega arith)

pub put_escaped-next-requires : goal.put_escaped-next-requires
put_escaped-next-requires c = omega (arith, c.requires, c.loop-byte.invariant.end, c.loop-byte.invariant.long, escaped_room c.args.bytes.now c.loop-byte.byte-index (omega arith))

pub loop-byte-preserved : goal.loop-byte-preserved
loop-byte-preserved c = same_bytes (escaped_more c.args.bytes.now c.loop-byte.byte-index (omega arith)) (after c.loop-byte.invariant c.put_escaped-next.ensures)

pub returns : goal.returns
returns c = same_bytes (ap escaped_all (take_all c.loop-byte.byte-index c.args.bytes.now (omega arith))) c.loop-byte.invariant
