-- An object with so many levels below it.
use Rattle.std.proofs.Common.{ℕ, zero, suc, ◌-◌, ◌<◌, ◌≡◌, List, ◌++◌, codes, ap, ◌∙◌, append_assoc, arith}
use Rattle.refusal.specs.declared.Mode.{Mode}
use Rattle.type_tree.specs.declared.node.Node.{Node}
use Rattle.type_tree.specs.Joined.{joined}
use Rattle.type_report.specs.Json.{own_text, node_text}
use Rattle.type_tree.specs.Node.{members_of}

-- what stands before the objects in it
abbrev pub before : Node → List ℕ
before n = codes "{" ++ (own_text n ++ codes ",\"members\":[")

abbrev pub behind : List ℕ
behind = codes "]}"

apart : (a b c d : List ℕ) → (a ++ (b ++ c)) ++ d ≡ a ++ (b ++ (c ++ d))
apart a b c d = append_assoc a (b ++ c) d ∙ ap (λ x. a ++ x) (append_assoc b c d)

pub levels_in : (mode : Mode) (levels : ℕ) (n : Node) (ms : List Node) → 0 < levels → ms ≡ members_of mode n
    → before n ++ (joined (codes ",") (node_text mode (levels - 1)) ms ++ behind) ≡ node_text mode levels n
unfolding node_text
levels_in mode zero n ms some h = absurd (omega (arith, some))
levels_in mode (suc levels) n ms some h =
    ap (λ k. before n ++ (joined (codes ",") (node_text mode k) ms ++ behind)) (omega arith)
    ∙ ap (λ x. before n ++ (joined (codes ",") (node_text mode levels) x ++ behind)) h
    ∙ apart (codes "{") (own_text n) (codes ",\"members\":[") (joined (codes ",") (node_text mode levels) (members_of mode n) ++ behind)
