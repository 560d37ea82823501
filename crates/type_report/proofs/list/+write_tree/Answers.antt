use Rattle.std.proofs.Common.{◌≡◌, List, ◌++◌, codes, sym, subst, arith}
use Rattle.std.specs.List.{flat_map}
use Rattle.std.specs.Io.KnownBytes.{Appends}
use Rattle.std.proofs.KnownBytes.{Appends-nil}
use Rattle.report.proofs.Going.{goes, ends, two, three}
use Rattle.type_tree.specs.declared.node.Node.{Node}
use Rattle.type_tree.specs.declared.node.Members.{Members}
use Rattle.type_tree.specs.Joined.{joined, more}
use Rattle.type_report.specs.Json.{node_text}
use Rattle.type_tree.specs.Node.{members_left}
use Rattle.type_report.proofs.Trees.{levels_in}
use Rattle.type_report.proofs.list.+write_tree.Goals as goal

pub write_members-returns-in-None : goal.write_members-returns-in-None
unfolding joined
write_members-returns-in-None g t c =
    let o = g.W.Write.contents c.args.out.now in
    subst (λ (ms : List Node). Appends o o (joined (codes ",") (node_text c.args.mode c.args.levels) ms)) (sym c.in-None.ensures.steps.0) (Appends-nil o)

pub write_members-returns-in_ok-write_more-in-Some : goal.write_members-returns-in_ok-write_more-in-Some
unfolding joined
write_members-returns-in_ok-write_more-in-Some g t c =
    let a = g.W.Write.contents c.args.out.now in
    let b = g.W.Write.contents c.write_more.new.out in
    subst (λ (ms : List Node). Appends a b (joined (codes ",") (node_text c.args.mode c.args.levels) ms)) (sym c.in-Some.ensures.steps)
    (two _ _ _ _ _ c.in_ok-write_node-in-Some.ensures c.in_ok-write_more-in-Some.ensures)

pub write_more-loop-member-preserved : goal.write_more-loop-member-preserved
write_more-loop-member-preserved g t c = record {
  can = tt;
  ends = tt;
  going = goes (λ x. codes "," ++ node_text c.args.mode c.args.levels x) c.in-Some.ensures.steps c.loop-member.invariant.going (two _ _ _ _ _ c.in_ok-write_text.ensures c.in_ok-write_node.ensures);
}

pub write_more-returns : goal.write_more-returns
unfolding more
write_more-returns g t c =
    let a = g.W.Write.contents c.args.out.now in
    let b = g.W.Write.contents c.loop-member.out in
    let is : c.into_iter-member-iterator.result ≡ c.args.members = c.into_iter-member-iterator.ensures.into_iter_gives in
    subst (λ (m : Members). Appends a b (flat_map (λ x. codes "," ++ node_text c.args.mode c.args.levels x) (members_left m))) is
    (ends (λ x. codes "," ++ node_text c.args.mode c.args.levels x) c.in-None.ensures.steps.0 c.loop-member.invariant.going)

pub write_node-returns-then-levels-eq0 : goal.write_node-returns-then-levels-eq0
unfolding node_text
write_node-returns-then-levels-eq0 g t c =
    let o = g.W.Write.contents c.args.out.now in
    subst (λ k. Appends o o (node_text c.args.mode k c.args.node.now)) (sym c.if-levels-eq0.true) (Appends-nil o)

pub write_node-returns : goal.write_node-returns
write_node-returns g t c =
    three _ _ _ _ _ _ _ _ c.in_ok-write_own.ensures c.in_ok-write_members.ensures c.in_ok-write_text.ensures
    (levels_in c.args.mode c.args.levels c.args.node.now _ (omega (arith, c.if-levels-eq0.false)) c.members.ensures)
