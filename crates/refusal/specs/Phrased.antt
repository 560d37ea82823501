-- docs/FORMAT.md, "Refusals": the words of a refusal as the code holds them.
use Rattle.std.specs.Prelude.{◌≡◌}
use Rattle.refusal.specs.declared.words.Words.{Words}
use Rattle.refusal.specs.Text.{Phrases}

pub record Phrased (p : Phrases) (w : Words) : Type 0 where
  pub before : w.before.now ≡ p.before
  pub first : w.first ≡ p.first
  pub between : w.between.now ≡ p.between
  pub second : w.second ≡ p.second
  pub after : w.after.now ≡ p.after
