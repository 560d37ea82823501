-- That the objects of a data type which are told are all.
use Rattle.std.proofs.Common.{ℕ, zero, suc, ◌+◌, ◌≡◌, refl, sym, ap, ap₂, ◌∙◌, List, [], ◌∷◌, ◌++◌, codes, arith}
use Rattle.std.specs.Prelude.{All}
use Rattle.std.proofs.lemmas.List.Elements.{All-head, All-tail}
use Rattle.refusal.specs.declared.Mode.{Mode}
use Rattle.type_tree.specs.declared.node.Node.{Node}
use Rattle.type_tree.specs.Joined.{joined, more}
use Rattle.type_tree.specs.Levels.{HasLevels}
use Rattle.type_tree.specs.Node.{root, members_of}
use Rattle.type_tree.proofs.Levels.{levels_meant}
use Rattle.type_report.specs.Json.{own_text, node_text, type_line}
use Rattle.type_report.specs.Levels.{ObjectsMeant}

-- texts that are equal for each of some things are equal one behind another
more_same : {X : Type 0} (between : List ℕ) (f g : X → List ℕ) (P : X → Type 0) → ((x : X) → P x → f x ≡ g x) → (xs : List X) → All P xs → more between f xs ≡ more between g xs
unfolding more
more_same between f g P same [] h = refl
more_same {X} between f g P same (x ∷ xs) h = ap₂ (λ (a b : List ℕ). (between ++ a) ++ b) (same x (All-head P x xs h)) (more_same between f g P same xs (All-tail P x xs h))

joined_same : {X : Type 0} (between : List ℕ) (f g : X → List ℕ) (P : X → Type 0) → ((x : X) → P x → f x ≡ g x) → (xs : List X) → All P xs → joined between f xs ≡ joined between g xs
unfolding joined
joined_same between f g P same [] h = refl
joined_same between f g P same (x ∷ xs) h = ap₂ (λ (a b : List ℕ). a ++ b) (same x (All-head P x xs h)) (more_same between f g P same xs (All-tail P x xs h))

object_same : (mode : Mode) (more levels : ℕ) (n : Node) → ((m : Node) → HasLevels mode levels m → node_text mode more m ≡ node_text mode levels m) → All (HasLevels mode levels) (members_of mode n)
    → node_text mode (suc more) n ≡ node_text mode (suc levels) n
unfolding node_text
object_same mode more levels n same h = ap (λ (t : List ℕ). codes "{" ++ (own_text n ++ (codes ",\"members\":[" ++ (t ++ codes "]}"))))
    (joined_same (codes ",") (node_text mode more) (node_text mode levels) (HasLevels mode levels) same (members_of mode n) h)

objects : (mode : Mode) (levels deeper : ℕ) (n : Node) → HasLevels mode levels n → node_text mode (deeper + levels) n ≡ node_text mode levels n
unfolding HasLevels
objects mode zero deeper n h = absurd h
objects mode (suc levels) deeper n h = ap (λ (k : ℕ). node_text mode k n) (omega arith) ∙ object_same mode (deeper + levels) levels n (objects mode levels deeper) h

pub objects_meant : ObjectsMeant
unfolding type_line
objects_meant = record {
  more = objects;
  whole = λ mode e r place deeper h short. ap (λ (t : List ℕ). t ++ codes "\n") (sym (objects mode 16 deeper (root place r) (levels_meant mode e r place h short)));
}
