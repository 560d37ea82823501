use Rattle.std.proofs.Common.{List, ℕ, ◌+◌, sym, subst, arith}
use Rattle.listing.specs.Listing.{Reading}
use Rattle.listing.proofs.Lines.{holds, turns, on_ok, on_err, front_so_far, front_of_line, after_line}
use Rattle.listing.proofs.Rows.{behind_less}
use Rattle.listing.proofs.Line.take.Goals as goal

pub loop-end-smaller : goal.loop-end-smaller
loop-end-smaller g c = behind_less c.loop-end.rest.now (c.in-Some.end + 1) (omega arith) (omega (arith, c.in-Some.ensures.0.high))

pub loop-end-preserved : goal.loop-end-preserved
loop-end-preserved g c = (
  omega (arith, c.loop-end.invariant.0, behind_less c.loop-end.rest.now (c.in-Some.end + 1) (omega arith) (omega (arith, c.in-Some.ensures.0.high))),
  omega (
    arith,
    c.loop-end.invariant.1,
    c.in_ok-end.ensures.number,
    c.hold.ensures.number,
    behind_less c.loop-end.rest.now (c.in-Some.end + 1) (omega arith) (omega (arith, c.in-Some.ensures.0.high)),
  ),
  λ read before r.
      subst (λ (x : List ℕ). Reading c.args.mode read x before (g.W.Write.contents c.end.new.output) c.end.new.self)
      (sym (after_line c.loop-end.rest.now c.in-Some.end))
      (turns read c.loop-end.rest.now c.in-Some.end c.hold.new.self c.end.new.self (g.W.Write.contents c.end.new.output) (c.loop-end.invariant.2 read before r)
      c.in-Some.ensures.0.high c.in-Some.ensures.0.before c.in-Some.ensures.1 c.hold.ensures.number c.in_ok-hold.ensures.digits
      c.in_ok-end.ensures.all c.in_ok-end.ensures.number c.in_ok-end.ensures.digits),
)

pub returns-clause-all : goal.returns-clause-all
returns-clause-all g c =
    on_ok c.hold-2.result
    (λ d read before r. holds read c.loop-end.rest.now c.hold-2.new.self (c.loop-end.invariant.2 read before r) c.in_default.ensures c.hold-2.ensures.number d)
    c.hold-2.ensures.digits

pub returns-in_err-hold-clause-front : goal.returns-in_err-hold-clause-front
returns-in_err-hold-clause-front g c = on_err c.from_residual.result (λ read more before r. front_so_far read c.loop-end.rest.now more (c.loop-end.invariant.2 read before r))

pub returns-in_err-end-clause-front : goal.returns-in_err-end-clause-front
returns-in_err-end-clause-front g c =
    on_err c.from_residual-in_err-end.result
    (λ read more before r.
    front_of_line read c.loop-end.rest.now more c.in-Some.end c.hold.new.self (g.W.Write.contents c.end.new.output) (c.loop-end.invariant.2 read before r)
    c.in-Some.ensures.0.high c.in-Some.ensures.0.before c.in-Some.ensures.1 c.hold.ensures.number c.in_ok-hold.ensures.digits
    c.in_err-end.ensures.front)

pub returns-clause-front : goal.returns-clause-front
returns-clause-front g c = on_err c.hold-2.result (λ read more before r. front_so_far read c.loop-end.rest.now more (c.loop-end.invariant.2 read before r))
