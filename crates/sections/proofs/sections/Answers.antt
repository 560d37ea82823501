use Rattle.std.proofs.Common.{List, ap, ◌∙◌}
use Rattle.std.specs.List.{flat_map}
use Rattle.sections.specs.declared.Section.{Section}
use Rattle.sections.specs.Sections.{own_bytes, Cut, cut_entry, sections_of}
use Rattle.sections.proofs.Cutting.{sections_whole}
use Rattle.sections.proofs.sections.Goals as goal

pub returns-clause-whole : goal.returns-clause-whole
unfolding sections_of
returns-clause-whole c =
    ap (λ (q : Cut). flat_map own_bytes q.all) c.in_ok-cut_entry.ensures
    ∙ ap (λ (xs : List Section). flat_map own_bytes (cut_entry c.args.symbol.now (record { own = c.args.own; all = xs; at = 0 })).all) c.new.ensures.items
    ∙ sections_whole c.args.own c.args.symbol.now
