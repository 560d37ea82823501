-- What is left to give of the sub-items of a data type, after each step of the walk over them.
use Rattle.std.proofs.Common.{ℕ, zero, suc, ◌-◌, ◌≡◌, ◌≢◌, List, [], ◌∷◌, refl, ap, ◌∙◌, arith}
use Rattle.std.specs.Prelude.{Result, Ok, Err}
use Rattle.part.specs.Outcome.{outcome}
use Rattle.refusal.specs.declared.Refusal.{Refusal}
use Rattle.walk.specs.declared.Piece.{Piece}
use Rattle.data_type.specs.declared.AdsDataTypeInfo.{AdsDataTypeInfo}
use Rattle.type_tree.specs.declared.node.Node.{Node}
use Rattle.type_tree.specs.Node.{member_at, members_from}

pub none_asked : (n : Node) (left : ℕ) (ps : List (Piece AdsDataTypeInfo)) → left ≡ 0 → members_from n left ps ≡ []
unfolding members_from
none_asked n zero ps h = refl
none_asked n (suc left) ps h = absurd (omega (arith, h))

pub none_left : (n : Node) (left : ℕ) (ps : List (Piece AdsDataTypeInfo)) → ps ≡ [] → members_from n left ps ≡ []
unfolding members_from
none_left n zero ps h = refl
none_left n (suc left) [] h = refl
none_left n (suc left) (p ∷ ps) h = cc h

answered : (n : Node) (left : ℕ) (p : Piece AdsDataTypeInfo) (ps : List (Piece AdsDataTypeInfo)) (a : Result AdsDataTypeInfo Refusal) → p.answer ≡ a
    → members_from n (suc left) (p ∷ ps) ≡ outcome a (λ info. member_at n p.start info ∷ members_from n left ps) (λ why. [])
unfolding members_from
answered n left p ps a h = ap (λ x. outcome x (λ info. member_at n p.start info ∷ members_from n left ps) (λ why. [])) h

pub one_left : (n : Node) (left : ℕ) (p : Piece AdsDataTypeInfo) (ps rest : List (Piece AdsDataTypeInfo)) (info : AdsDataTypeInfo)
    → left ≢ 0 → ps ≡ p ∷ rest → p.answer ≡ Ok info → members_from n left ps ≡ member_at n p.start info ∷ members_from n (left - 1) rest
one_left n zero p ps rest info some h ok = absurd (some refl)
one_left n (suc left) p ps rest info some h ok =
    ap (members_from n (suc left)) h ∙ answered n left p rest (Ok info) ok ∙ ap (λ k. member_at n p.start info ∷ members_from n k rest) (omega arith)

pub one_refused : (n : Node) (left : ℕ) (p : Piece AdsDataTypeInfo) (ps rest : List (Piece AdsDataTypeInfo)) (why : Refusal)
    → ps ≡ p ∷ rest → p.answer ≡ Err why → members_from n left ps ≡ []
unfolding members_from
one_refused n zero p ps rest why h err = refl
one_refused n (suc left) p ps rest why h err = ap (members_from n (suc left)) h ∙ answered n left p rest (Err why) err
