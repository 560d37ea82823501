use Rattle.std.proofs.Common.{◌≡◌, ◌∙◌, ◌-◌, ◌++◌, ℕ, List, codes, sym, ap, subst}
use Rattle.std.specs.List.{flat_map}
use Rattle.std.specs.Io.KnownBytes.{Appends}
use Rattle.std.proofs.KnownBytes.{Appends-nil}
use Rattle.report.proofs.Going.{begins, goes, ends, two, of_text}
use Rattle.type_tree.specs.declared.node.Node.{Node}
use Rattle.type_tree.specs.Node.{members_left, members_of}
use Rattle.type_table.specs.Table.{rows_of, row_line, row_text}
use Rattle.type_table.proofs.Rows.{node_rows}
use Rattle.type_table.proofs.table.+write_node.Goals as goal

pub loop-member-init : goal.loop-member-init
loop-member-init g t c = record { can = tt; ends = tt; going = begins _ _ }

pub loop-member-preserved : goal.loop-member-preserved
loop-member-preserved g t c = record {
  can = tt;
  ends = tt;
  going = goes (λ m. flat_map (row_line c.args.columns) (rows_of c.args.mode (c.args.levels - 1) c.saturating_add-indent.result m)) c.in-Some.ensures.steps c.loop-member.invariant.going c.in_ok-write_node.ensures;
}

pub returns-then-levels-eq0 : goal.returns-then-levels-eq0
unfolding rows_of
returns-then-levels-eq0 g t c =
    let o = g.W.Write.contents c.args.out.now in
    subst (λ k. Appends o o (flat_map (row_line c.args.columns) (rows_of c.args.mode k c.args.row.indent c.args.row.node.now))) (sym c.if-levels-eq0.true) (Appends-nil o)

pub returns : goal.returns
unfolding row_line
returns g t c =
    let f : ℕ → Node → List ℕ = λ i m. flat_map (row_line c.args.columns) (rows_of c.args.mode (c.args.levels - 1) i m) in
    let own : List ℕ = row_text c.args.columns c.args.row.indent c.args.row.node.now ++ codes "\n" in
    let is : members_left c.into_iter-member-iterator.result ≡ members_of c.args.mode c.args.row.node.now = ap members_left c.into_iter-member-iterator.ensures.into_iter_gives ∙ c.members-member-items.ensures in
    of_text _ _ _ _ (two _ _ _ _ _ c.in_ok-write_row.ensures (ends (f c.saturating_add-indent.result) c.in-None.ensures.steps.0 c.loop-member.invariant.going))
    (ap (λ (i : ℕ). own ++ flat_map (f i) (members_left c.into_iter-member-iterator.result)) c.saturating_add-indent.ensures
    ∙ node_rows c.args.mode c.args.levels c.args.row.indent c.args.row.node.now (row_line c.args.columns) (members_left c.into_iter-member-iterator.result) c.if-levels-eq0.false is)
