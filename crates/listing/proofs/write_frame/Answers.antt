use Rattle.std.proofs.Common.{◌≡◌, ap, subst}
use Rattle.std.specs.List.{flat_map}
use Rattle.std.specs.Io.KnownBytes.{Appends}
use Rattle.symbol.specs.Symbol.{symbol_of}
use Rattle.walk.specs.Pieces.{pieces, walker_left}
use Rattle.listing.specs.Listing.{row, AppendsFront}
use Rattle.listing.proofs.Rows.{begins, goes, ends, front_of_row}
use Rattle.listing.proofs.Lines.{on_err}
use Rattle.listing.proofs.write_frame.Goals as goal

pub loop-piece-init : goal.loop-piece-init
loop-piece-init g c =
    simp (c.into_iter-piece-iterator.ensures.into_iter_gives, c.new-piece-items.ensures.all) (record {
      can = tt;
      ends = tt;
      going = begins _ _;
    })

pub loop-piece-preserved : goal.loop-piece-preserved
loop-piece-preserved g c = record {
  can = tt;
  ends = tt;
  going = goes (row c.args.line) c.in-Some.ensures.steps.0 c.loop-piece.invariant.going c.in_ok-write_row.ensures.all;
}

pub returns-clause-all : goal.returns-clause-all
returns-clause-all g c =
    let is : walker_left symbol_of c.into_iter-piece-iterator.result ≡ pieces (symbol_of c.args.mode) c.args.frame = simp c.into_iter-piece-iterator.ensures.into_iter_gives c.new-piece-items.ensures.all in
    subst (Appends _ _) (ap (flat_map (row c.args.line)) is) (ends (row c.args.line) c.in-None.ensures.steps.0.0 c.loop-piece.invariant.going)

pub returns-in_err-write_row-clause-front : goal.returns-in_err-write_row-clause-front
returns-in_err-write_row-clause-front g c =
    let is : walker_left symbol_of c.into_iter-piece-iterator.result ≡ pieces (symbol_of c.args.mode) c.args.frame = simp c.into_iter-piece-iterator.ensures.into_iter_gives c.new-piece-items.ensures.all in
    on_err c.from_residual.result
    (subst (AppendsFront (g.W.Write.contents c.args.output.now) (g.W.Write.contents c.write_row.new.output)) (ap (flat_map (row c.args.line)) is)
    (front_of_row (row c.args.line) c.in-Some.ensures.steps.0 c.loop-piece.invariant.going c.in_err-write_row.ensures.front))
