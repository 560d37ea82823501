use Rattle.std.proofs.Common.{◌≡◌, sym, ◌∙◌, arith, rules}
use Rattle.std.specs.Prelude.{Err}
use Rattle.data_type.specs.DataType.{item_at}
use Rattle.data_type.proofs.Entry.{fits, arrays_fit, front_refused, arrays_refused, items_refused, tail_refused, is_read}
use Rattle.data_type.proofs.Turns as turns
use Rattle.data_type.proofs.reader.+read_entry_read_items.Goals as goal

pub read_entry-returns-in_err-front-clause-value : goal.read_entry-returns-in_err-front-clause-value
read_entry-returns-in_err-front-clause-value t c =
    let e : c.from_residual.result ≡ Err c.in_err-front.field-0.0 = search rules in
    simp e (sym (front_refused c.args.mode c.args.left c.args.own _ (sym c.read.ensures ∙ c.in_err-front.was)))

pub read_entry-returns-in_err-arrays-clause-value : goal.read_entry-returns-in_err-arrays-clause-value
read_entry-returns-in_err-arrays-clause-value t c =
    let e : c.from_residual-in_err-arrays.result ≡ Err c.in_err-arrays.field-0.0 = search rules in
    let f = sym c.read.ensures ∙ c.in_ok-front.was in
    simp e (sym (arrays_refused c.args.mode c.args.left c.args.own _ f _ (sym c.read_arrays.ensures ∙ c.in_err-arrays.was)))

pub read_entry-returns-in_err-items-clause-value : goal.read_entry-returns-in_err-items-clause-value
read_entry-returns-in_err-items-clause-value t c =
    let e : c.from_residual-in_err-items.result ≡ Err c.in_err-items.field-0.0 = search rules in
    let f = sym c.read.ensures ∙ c.in_ok-front.was in
    let a = sym c.read_arrays.ensures ∙ c.in_ok-arrays.was in
    simp e (sym (items_refused c.args.mode c.args.left c.args.own _ f _ a _ (sym c.read_items.ensures.value ∙ c.in_err-items.was)))

pub read_entry-returns-in_err-tail-clause-value : goal.read_entry-returns-in_err-tail-clause-value
read_entry-returns-in_err-tail-clause-value t c =
    let e : c.from_residual-in_err-tail.result ≡ Err c.in_err-tail.field-0.0 = search rules in
    let f = sym c.read.ensures ∙ c.in_ok-front.was in
    let a = sym c.read_arrays.ensures ∙ c.in_ok-arrays.was in
    let i = sym c.read_items.ensures.value ∙ c.in_ok-items.was in
    simp e (sym (tail_refused c.args.mode c.args.left c.args.own _ f _ a _ i _ (sym c.read-2.ensures ∙ c.in_err-tail.was)))

pub read_entry-returns-clause-value : goal.read_entry-returns-clause-value
read_entry-returns-clause-value t c =
    let f = sym c.read.ensures ∙ c.in_ok-front.was in
    let a = sym c.read_arrays.ensures ∙ c.in_ok-arrays.was in
    let i = sym c.read_items.ensures.value ∙ c.in_ok-items.was in
    simp c.joined.ensures (sym (is_read c.args.mode c.args.left c.args.own _ f _ a _ i _ (sym c.read-2.ensures ∙ c.in_ok-tail.was)))

pub read_entry-returns-clause-few : goal.read_entry-returns-clause-few
read_entry-returns-clause-few t c =
    let f = fits c.args.mode c.args.own c.in_ok-front.front (sym c.read.ensures ∙ c.in_ok-front.was) in
    let a = arrays_fit c.in_ok-front.front _ (sym c.read_arrays.ensures ∙ c.in_ok-arrays.was) in
    omega (arith, f.rest, a, c.in_ok-items.ensures.few)

pub read_items-returns-then-deepest-clause-value : goal.read_items-returns-then-deepest-clause-value
read_items-returns-then-deepest-clause-value t c =
    let d = turns.item_deep c.args.mode c.loop-todo.done.rest c.args.left c.if-deepest.true in
    sym (turns.items_refused (item_at c.args.mode c.args.left) c.loop-todo.done.members c.loop-todo.done.rest c.loop-todo.todo _ c.loop-todo-test.true d) ∙ c.loop-todo.invariant.told

pub read_items-returns-in_err-own-clause-value : goal.read_items-returns-in_err-own-clause-value
read_items-returns-in_err-own-clause-value t c =
    let e : c.from_residual.result ≡ Err c.in_err-own.field-0.0 = search rules in
    let d = turns.item_untaken c.args.mode c.loop-todo.done.rest c.args.left c.in_err-own.field-0.0 c.if-deepest.false (sym c.taken.ensures ∙ c.in_err-own.was) in
    simp e (sym (turns.items_refused (item_at c.args.mode c.args.left) c.loop-todo.done.members c.loop-todo.done.rest c.loop-todo.todo _ c.loop-todo-test.true d) ∙ c.loop-todo.invariant.told)

pub read_items-returns-in_err-item-clause-value : goal.read_items-returns-in_err-item-clause-value
read_items-returns-in_err-item-clause-value t c =
    let e : c.from_residual-in_err-item.result ≡ Err c.in_err-item.field-0.0 = search rules in
    let k = sym c.taken.ensures ∙ c.in_ok-own.was in
    let d = turns.item_unread c.args.mode c.loop-todo.done.rest c.args.left c.in_ok-own.own c.in_ok-own.behind c.in_err-item.field-0.0 c.if-deepest.false k (sym c.read_entry.ensures.value ∙ c.in_err-item.was) in
    simp e (sym (turns.items_refused (item_at c.args.mode c.args.left) c.loop-todo.done.members c.loop-todo.done.rest c.loop-todo.todo _ c.loop-todo-test.true d) ∙ c.loop-todo.invariant.told)

pub read_items-loop-todo-preserved : goal.read_items-loop-todo-preserved
read_items-loop-todo-preserved t c =
    let k = sym c.taken.ensures ∙ c.in_ok-own.was in
    let d = turns.item_read c.args.mode c.loop-todo.done.rest c.args.left c.in_ok-own.own c.in_ok-own.behind c.in_ok-item.item c.if-deepest.false k (sym c.read_entry.ensures.value ∙ c.in_ok-item.was) in
    let l = turns.taken_fits c.loop-todo.done.rest c.in_ok-own.own c.in_ok-own.behind k in
    record {
      told = sym (turns.items_step (item_at c.args.mode c.args.left) c.loop-todo.done.members c.loop-todo.done.rest c.loop-todo.todo c.in_ok-item.item c.in_ok-own.behind c.loop-todo-test.true d) ∙ c.loop-todo.invariant.told;
      inside = omega (arith, l, c.in_ok-item.ensures.few, c.loop-todo.invariant.inside);
    }

pub read_items-returns-clause-value : goal.read_items-returns-clause-value
read_items-returns-clause-value t c =
    sym (turns.items_none (item_at c.args.mode c.args.left) c.loop-todo.done.members c.loop-todo.done.rest c.loop-todo.todo c.loop-todo-test.false) ∙ c.loop-todo.invariant.told
