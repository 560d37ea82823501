use Rattle.std.proofs.Common.{◌≡◌, ◌+◌, ◌≤◌, length}
use Rattle.data_type.specs.DataType.{items_from, item_at}
use Rattle.data_type.proofs.Turns.{with_before}
use Rattle.data_type.proofs.reader.+read_entry_read_items.Given as goal

abbrev pub decreases-read_entry : goal.decreases-read_entry
decreases-read_entry l = l.left + l.left + 1

abbrev pub decreases-read_items : goal.decreases-read_items
decreases-read_items l = l.left + l.left

abbrev pub invariant-read_items-loop-todo : goal.invariant-read_items-loop-todo
invariant-read_items-loop-todo l = record {
  told : with_before l.done.members (items_from (item_at l.mode l.left) l.done.rest l.todo) ≡ items_from (item_at l.mode l.left) l.initial.done.rest l.count;
  inside : l.done.members + length l.done.rest.now ≤ length l.initial.done.rest.now;
}

abbrev pub decreases-read_items-loop-todo : goal.decreases-read_items-loop-todo
decreases-read_items-loop-todo l = l.todo
