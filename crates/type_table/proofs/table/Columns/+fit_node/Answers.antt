use Rattle.std.proofs.Common.{◌≡◌, ◌∙◌, ◌-◌, ℕ, sym, ap, subst, refl}
use Rattle.std.specs.List.{flat_map}
use Rattle.type_tree.specs.Node.{members_left, members_of}
use Rattle.type_table.specs.Table.{rows_of, fitted_on, widest}
use Rattle.type_table.proofs.Rows.{member_fits, node_fits}
use Rattle.type_table.proofs.table.Columns.+fit_node.Goals as goal

pub loop-member-preserved : goal.loop-member-preserved
loop-member-preserved t c = record {
  can = tt;
  ends = tt;
  fits = member_fits (rows_of c.args.mode (c.args.levels - 1) c.saturating_add-indent.result) c.loop-member.self c.in-Some.ensures.steps c.fit_node.ensures c.loop-member.invariant.fits;
}

pub returns-then-levels-eq0 : goal.returns-then-levels-eq0
unfolding fitted_on rows_of
returns-then-levels-eq0 t c =
    subst (λ (k : ℕ). c.args.self.now ≡ fitted_on c.args.self.now (rows_of c.args.mode k c.args.row.indent c.args.row.node.now)) (sym c.if-levels-eq0.true) refl

pub returns : goal.returns
returns t c =
    let is : members_left c.into_iter-member-iterator.result ≡ members_of c.args.mode c.args.row.node.now = ap members_left c.into_iter-member-iterator.ensures.into_iter_gives ∙ c.members-member-items.ensures in
    node_fits c.args.mode c.args.levels c.args.row.indent c.args.row.node.now c.loop-member.self c.args.self.now c.if-levels-eq0.false c.in-None.ensures.steps.0
    (subst (λ (i : ℕ). fitted_on c.loop-member.self (flat_map (rows_of c.args.mode (c.args.levels - 1) i) (members_left c.loop-member.member-iterator))
    ≡ fitted_on c.widest.result (flat_map (rows_of c.args.mode (c.args.levels - 1) i) (members_left c.into_iter-member-iterator.result)))
    c.saturating_add-indent.ensures c.loop-member.invariant.fits)
    (c.widest.ensures ∙ ap (widest c.args.self.now) c.of.ensures) is
