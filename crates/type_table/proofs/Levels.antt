-- That the rows of a data type are all, and how many.
use Rattle.std.proofs.Common.{ℕ, zero, suc, ◌+◌, ◌≡◌, refl, sym, ap, ap₂, ◌∙◌, List, [], ◌∷◌, ◌++◌, length, length-append, arith}
use Rattle.std.specs.Prelude.{All}
use Rattle.std.specs.List.{flat_map}
use Rattle.std.proofs.lemmas.List.Elements.{All-head, All-tail}
use Rattle.refusal.specs.declared.Mode.{Mode}
use Rattle.report.specs.Report.{plus}
use Rattle.type_tree.specs.declared.node.Node.{Node}
use Rattle.type_tree.specs.Levels.{HasLevels}
use Rattle.type_tree.specs.Node.{members_of}
use Rattle.type_tree.proofs.Levels.{with_members, accepted}
use Rattle.type_table.specs.Table.{rows_of}
use Rattle.type_table.specs.Levels.{RowsMeant}

-- rows that are equal for each of some things are equal one behind another
flat_same : {X Y : Type 0} (f g : X → List Y) (P : X → Type 0) → ((x : X) → P x → f x ≡ g x) → (xs : List X) → All P xs → flat_map f xs ≡ flat_map g xs
flat_same f g P same [] h = refl
flat_same {X} {Y} f g P same (x ∷ xs) h = ap₂ (λ (a b : List Y). a ++ b) (same x (All-head P x xs h)) (flat_same f g P same xs (All-tail P x xs h))

rows_same : (mode : Mode) (more levels indent : ℕ) (n : Node) → ((m : Node) → HasLevels mode levels m → rows_of mode more (plus indent 2) m ≡ rows_of mode levels (plus indent 2) m) → All (HasLevels mode levels) (members_of mode n)
    → rows_of mode (suc more) indent n ≡ rows_of mode (suc levels) indent n
unfolding rows_of
rows_same mode more levels indent n same h = ap (λ (rs : List (ℕ × Node)). (indent, n) ∷ rs)
    (flat_same (rows_of mode more (plus indent 2)) (rows_of mode levels (plus indent 2)) (HasLevels mode levels) same (members_of mode n) h)

rows : (mode : Mode) (levels deeper indent : ℕ) (n : Node) → HasLevels mode levels n → rows_of mode (deeper + levels) indent n ≡ rows_of mode levels indent n
unfolding HasLevels
rows mode zero deeper indent n h = absurd h
rows mode (suc levels) deeper indent n h = ap (λ (k : ℕ). rows_of mode k indent n) (omega arith) ∙ rows_same mode (deeper + levels) levels indent n (rows mode levels deeper (plus indent 2)) h

-- a row for itself and one for each member
abbrev IsCounted : Mode → ℕ → Node → Type 0
IsCounted mode levels n = (indent : ℕ) → length (rows_of mode levels indent n) ≡ 1 + n.info.member_count

of_members : (mode : Mode) (levels indent : ℕ) (ms : List Node) → All (IsCounted mode levels) ms → length (flat_map (rows_of mode levels indent) ms) ≡ with_members ms
of_members mode levels indent [] h = refl
of_members mode levels indent (m ∷ ms) h =
    length-append (rows_of mode levels indent m) (flat_map (rows_of mode levels indent) ms)
    ∙ ap₂ (λ (a b : ℕ). a + b) (All-head (IsCounted mode levels) m ms h indent) (of_members mode levels indent ms (All-tail (IsCounted mode levels) m ms h))

one_more : (mode : Mode) (levels : ℕ) (n : Node) → All (IsCounted mode levels) (members_of mode n) → n.info.member_count ≡ with_members (members_of mode n) → IsCounted mode (suc levels) n
unfolding rows_of
one_more mode levels n h count indent = ap suc (of_members mode levels (plus indent 2) (members_of mode n) h) ∙ ap suc (sym count) ∙ omega arith

pub rows_meant : RowsMeant
rows_meant = record {
  more = rows;
  counted = λ mode e r place h short. accepted mode (IsCounted mode) (one_more mode) e r place h short 0;
}
