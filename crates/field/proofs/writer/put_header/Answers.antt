use Rattle.std.proofs.Common.{arith}
use Rattle.le.proofs.Laws.{after}
use Rattle.writing.specs.Layout.{lengths_bytes}
use Rattle.field.specs.Writing.{header_bytes, numbers_bytes}
use Rattle.field.proofs.writer.put_header.Goals as goal

pub put_u16-c-requires : goal.put_u16-c-requires
unfolding numbers_bytes lengths_bytes
put_u16-c-requires c = omega arith

pub put_u16-requires : goal.put_u16-requires
unfolding numbers_bytes lengths_bytes
put_u16-requires c = omega arith

pub returns : goal.returns
unfolding header_bytes
returns c = after c.put_numbers-a.ensures (after c.put_lengths-b.ensures (after c.put_u16-c.ensures c.put_u16.ensures))
