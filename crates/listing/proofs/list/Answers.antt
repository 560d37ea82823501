use Rattle.std.proofs.Common.{ℕ, ◌<◌, ◌≤◌, ◌≡◌, List, [], ◌++◌, length, take, refl, sym, arith, rules}
use Rattle.std.proofs.Math.ListN.{length-append}
use Rattle.std.proofs.KnownBytes.{Consumes-nil, Consumes-trans, Consumes-kept}
use Rattle.listing.proofs.Lines.{begins, comes, flushes, number_fits, at_end, all_kept, so_far, on_err, front_so_far, front_ended, front_listed, front_of_input, front_any, header_front}
use Rattle.listing.proofs.list.Goals as goal

pub loop-taken-init : goal.loop-taken-init
loop-taken-init g c = ([], Consumes-nil _, begins c.in_ok-put.ensures.all refl c.new.ensures.items, refl)

pub take-requires : goal.take-requires
take-requires g c =
    let long : length c.read_on.new.part ≡ 8192 = search rules in
    let part : length (take c.in-Ok.n c.read_on.new.part) ≡ c.in-Ok.n = sym c.in-Ok.ensures.bound.1 in
    let few : c.in-Ok.n ≤ 8192 = omega (arith, c.in-Ok.ensures.bound, long) in
    omega (arith, number_fits c.loop-taken.invariant.0 c.loop-taken.invariant.2, c.loop-taken.invariant.3, c.loop-taken-test.true, part, few)

pub returns-in-Ok-eq0-clause-whole : goal.returns-in-Ok-eq0-clause-whole
returns-in-Ok-eq0-clause-whole g c =
    let room : 0 < length c.loop-taken.part = search rules in
    let i = flushes c.loop-taken.invariant.0 [] (g.W.Write.contents c.flush.new.self) c.loop-taken.invariant.2 c.flush.ensures.bytes in
    all_kept c.args.mode (g.R.Read.remaining c.args.input.now) (g.W.Write.contents c.args.output.now) (g.W.Write.contents c.write.new.output) (g.W.Write.contents c.flush-in-Ok-eq0.new.self)
    (at_end c.args.mode _ _ _ _ _ _ c.loop-taken.line c.loop-taken.invariant.0 c.read_on.new.part c.in-Ok-eq0.field-0 c.in-Ok-eq0.field-0-test c.loop-taken.invariant.1
    c.in-Ok-eq0.ensures.ok (c.in-Ok-eq0.ensures.end c.in-Ok-eq0.field-0-test room) i c.in_ok-write-in-Ok-eq0.ensures.all)
    c.flush-in-Ok-eq0.ensures.bytes

pub returns-in-Err-clause-stopped : goal.returns-in-Err-clause-stopped
returns-in-Err-clause-stopped g c =
    let read : List ℕ = c.loop-taken.invariant.0 in
    let i = flushes read [] (g.W.Write.contents c.flush.new.self) c.loop-taken.invariant.2 c.flush.ensures.bytes in
    ((read, Consumes-kept _ _ _ read c.loop-taken.invariant.1 c.in-Err.ensures.err, so_far read i, omega arith), c.in-Err.ensures.retried)

pub returns-clause-stopped : goal.returns-clause-stopped
returns-clause-stopped g c =
    let read : List ℕ = c.loop-taken.invariant.0 in
    (read, c.loop-taken.invariant.1, so_far read c.loop-taken.invariant.2, omega (arith, c.loop-taken.invariant.3))

pub loop-taken-preserved : goal.loop-taken-preserved
loop-taken-preserved g c =
    let read : List ℕ = c.loop-taken.invariant.0 in
    let i = flushes read [] (g.W.Write.contents c.flush.new.self) c.loop-taken.invariant.2 c.flush.ensures.bytes in
    let part : length (take c.in-Ok.n c.read_on.new.part) ≡ c.in-Ok.n = sym c.in-Ok.ensures.bound.1 in (
      read ++ (take c.in-Ok.n c.read_on.new.part),
      Consumes-trans _ _ _ read (take c.in-Ok.n c.read_on.new.part) c.loop-taken.invariant.1
          c.in-Ok.ensures.ok,
      c.in_ok-take-in-Ok.ensures.all (read ++ (take c.in-Ok.n c.read_on.new.part)) (g.W.Write.contents c.args.output.now) (comes read (take c.in-Ok.n c.read_on.new.part) i),
      omega (arith, c.loop-taken.invariant.3, part, length-append read (take c.in-Ok.n c.read_on.new.part)),
    )

pub returns-in_err-put-clause-front : goal.returns-in_err-put-clause-front
returns-in_err-put-clause-front g c = on_err c.from_residual.result (front_any (g.R.Read.remaining c.args.input.now) (λ s. header_front c.args.mode s c.in_err-put.ensures.front))

pub returns-in_err-flush-clause-front : goal.returns-in_err-flush-clause-front
returns-in_err-flush-clause-front g c =
    let read : List ℕ = c.loop-taken.invariant.0 in
    let i = flushes read [] (g.W.Write.contents c.flush.new.self) c.loop-taken.invariant.2 c.flush.ensures.bytes in
    on_err c.from_residual-in_err-flush.result
    (front_of_input c.args.mode (g.W.Write.contents c.args.output.now) (g.W.Write.contents c.flush.new.self) (g.R.Read.remaining c.args.input.now) (g.R.Read.remaining c.loop-taken.input) read
    c.loop-taken.invariant.1 (λ more. front_so_far read [] more i))

pub returns-in_err-write-in-Ok-eq0-clause-front : goal.returns-in_err-write-in-Ok-eq0-clause-front
returns-in_err-write-in-Ok-eq0-clause-front g c =
    let room : 0 < length c.loop-taken.part = search rules in
    let i = flushes c.loop-taken.invariant.0 [] (g.W.Write.contents c.flush.new.self) c.loop-taken.invariant.2 c.flush.ensures.bytes in
    on_err c.from_residual-in_err-write-in-Ok-eq0.result
    (front_ended c.args.mode (g.W.Write.contents c.args.output.now) (g.W.Write.contents c.flush.new.self) (g.W.Write.contents c.write.new.output) (g.R.Read.remaining c.args.input.now) (g.R.Read.remaining c.loop-taken.input) (g.R.Read.remaining c.read_on.new.input)
    c.loop-taken.line c.loop-taken.invariant.0 c.read_on.new.part c.in-Ok-eq0.field-0 c.in-Ok-eq0.field-0-test c.loop-taken.invariant.1
    c.in-Ok-eq0.ensures.ok (c.in-Ok-eq0.ensures.end c.in-Ok-eq0.field-0-test room) i c.in_err-write-in-Ok-eq0.ensures.front)

pub returns-in_err-flush-in-Ok-eq0-clause-front : goal.returns-in_err-flush-in-Ok-eq0-clause-front
returns-in_err-flush-in-Ok-eq0-clause-front g c =
    let room : 0 < length c.loop-taken.part = search rules in
    let i = flushes c.loop-taken.invariant.0 [] (g.W.Write.contents c.flush.new.self) c.loop-taken.invariant.2 c.flush.ensures.bytes in
    on_err c.from_residual-in_err-flush-in-Ok-eq0.result
    (front_listed c.args.mode (g.R.Read.remaining c.args.input.now) (g.W.Write.contents c.args.output.now) (g.W.Write.contents c.flush-in-Ok-eq0.new.self)
    (all_kept c.args.mode (g.R.Read.remaining c.args.input.now) (g.W.Write.contents c.args.output.now) (g.W.Write.contents c.write.new.output) (g.W.Write.contents c.flush-in-Ok-eq0.new.self)
    (at_end c.args.mode _ _ _ _ _ _ c.loop-taken.line c.loop-taken.invariant.0 c.read_on.new.part c.in-Ok-eq0.field-0 c.in-Ok-eq0.field-0-test c.loop-taken.invariant.1
    c.in-Ok-eq0.ensures.ok (c.in-Ok-eq0.ensures.end c.in-Ok-eq0.field-0-test room) i c.in_ok-write-in-Ok-eq0.ensures.all)
    c.flush-in-Ok-eq0.ensures.bytes))

pub returns-in_err-take-in-Ok-clause-front : goal.returns-in_err-take-in-Ok-clause-front
returns-in_err-take-in-Ok-clause-front g c =
    let read : List ℕ = c.loop-taken.invariant.0 in
    let i = flushes read [] (g.W.Write.contents c.flush.new.self) c.loop-taken.invariant.2 c.flush.ensures.bytes in
    on_err c.from_residual-in_err-take-in-Ok.result
    (front_of_input c.args.mode (g.W.Write.contents c.args.output.now) (g.W.Write.contents c.take.new.output) (g.R.Read.remaining c.args.input.now) (g.R.Read.remaining c.read_on.new.input) (read ++ (take c.in-Ok.n c.read_on.new.part))
    (Consumes-trans _ _ _ read (take c.in-Ok.n c.read_on.new.part) c.loop-taken.invariant.1
    c.in-Ok.ensures.ok)
    (λ more. c.in_err-take-in-Ok.ensures.front (read ++ (take c.in-Ok.n c.read_on.new.part)) more (g.W.Write.contents c.args.output.now) (comes read (take c.in-Ok.n c.read_on.new.part) i)))

pub returns-in-Err-clause-front : goal.returns-in-Err-clause-front
returns-in-Err-clause-front g c =
    let read : List ℕ = c.loop-taken.invariant.0 in
    let i = flushes read [] (g.W.Write.contents c.flush.new.self) c.loop-taken.invariant.2 c.flush.ensures.bytes in
    front_of_input c.args.mode (g.W.Write.contents c.args.output.now) (g.W.Write.contents c.flush.new.self) (g.R.Read.remaining c.args.input.now) (g.R.Read.remaining c.read_on.new.input) read
    (Consumes-kept _ _ _ read c.loop-taken.invariant.1 c.in-Err.ensures.err) (λ more. front_so_far read [] more i)

pub returns-clause-front : goal.returns-clause-front
returns-clause-front g c =
    let read : List ℕ = c.loop-taken.invariant.0 in
    front_of_input c.args.mode (g.W.Write.contents c.args.output.now) (g.W.Write.contents c.loop-taken.output) (g.R.Read.remaining c.args.input.now) (g.R.Read.remaining c.loop-taken.input) read
    c.loop-taken.invariant.1 (λ more. front_so_far read [] more c.loop-taken.invariant.2)
