-- What a stack of levels has left, by its innermost level.
use Rattle.std.proofs.Common.{ℕ, suc, ◌+◌, ◌-◌, ◌<◌, ◌≤◌, ◌≡◌, refl, sym, ap, ◌∙◌, List, [], ◌∷◌, ◌++◌, append_assoc, append-nil, length, take, set, get_or, arith, Bor, length-take}
use Rattle.std.specs.Prelude.{Some, None, true, eqb}
use Rattle.std.proofs.Math.Seq.{take-suc, take-suc-set}
use borrow.Author.Tests.{eqb-true, lt-ltb}
use Rattle.data_type.specs.declared.level.Level.{Level}
use Rattle.data_type.specs.declared.members.Member.{Member}
use Rattle.data_type.specs.declared.members.Position.{Position}
use Rattle.data_type.specs.Members.{root, below, members_below}
use Rattle.data_type.specs.Level.{cut, level_left, Gives}
use Rattle.data_type.specs.Left.{standing, stack_left}
use Rattle.data_type.proofs.Steps.{none_left}

standing_last : (above : Position) (ls : List Level) (l : Level) → standing above (ls ++ (l ∷ [])) ≡ below (standing above ls) l.place l.offset
unfolding standing
standing_last above [] l = refl
standing_last above (k ∷ ls) l = standing_last (below above k.place k.offset) ls l

left_last : (s : Bor (List ℕ)) (n : ℕ) (above : Position) (ls : List Level) (l : Level)
    → stack_left n above s (ls ++ (l ∷ [])) ≡ level_left (n - length ls) (standing above ls) s l ++ stack_left n above s ls
unfolding stack_left standing
left_last s n above [] l = let z : n - 0 ≡ n = omega arith in simp (z, append-nil)
left_last s n above (k ∷ ls) l =
    let z : n - 1 - length ls ≡ n - suc (length ls) = omega arith in
    let next : Position = below above k.place k.offset in
    ap (λ (ms : List Member). ms ++ level_left n above s k) (left_last s (n - 1) next ls l ∙ ap (λ (m : ℕ). level_left m (standing next ls) s l ++ stack_left (n - 1) next s ls) z)
    ∙ append_assoc (level_left (n - suc (length ls)) (standing next ls) s l) (stack_left (n - 1) next s ls) (level_left n above s k)

-- one further down, part by part
pub standing_next : (ls : List Level) (i : ℕ) (d : Level) (path : List ℕ) (offset : ℕ) → i < length ls → i < 15 → record { path = path; depth = i + 1; offset = offset } ≡ standing root (take i ls)
    → record { path = set path i (get_or ls i d).place; depth = i + 1 + 1; offset = offset + (get_or ls i d).offset } ≡ standing root (take (i + 1) ls)
unfolding below
standing_next ls i d path offset h small k =
    let u : suc i ≡ i + 1 = omega arith in
    let l : Level = get_or ls i d in
    let p : Position = record { path = path; depth = i + 1; offset = offset } in
    let z : i + 1 - 1 ≡ i = omega arith in
    let b : below p l.place l.offset ≡ record { path = set path i l.place; depth = i + 1 + 1; offset = offset + l.offset } = simp (lt-ltb (i + 1) 16 (omega arith), z) in
    sym b ∙ ap (λ (x : Position). below x l.place l.offset) k ∙ sym (standing_last root (take i ls) l) ∙ ap (standing root) (sym (take-suc ls i d h)) ∙ ap (λ (j : ℕ). standing root (take j ls)) u

module _ (s : Bor (List ℕ)) (ls : List Level) where
  abbrev above : ℕ → Position
  above n = standing root (take n ls)

  abbrev left : ℕ → List Member
  left n = stack_left 15 root s (take n ls)

  -- the first so many and one more
  and_one : (used : ℕ) (l : Level) (all : List Level) → used ≤ length ls → all ≡ take used ls ++ (l ∷ []) → stack_left 15 root s all ≡ level_left (15 - used) (above used) s l ++ left used
  and_one used l all h k =
      let e : length (take used ls) ≡ used = simp length-take (omega arith) in
      ap (stack_left 15 root s) k ∙ left_last s 15 root (take used ls) l ∙ ap (λ (i : ℕ). level_left (15 - i) (above used) s l ++ left used) e

  -- the innermost of so many
  popped : (used : ℕ) (d : Level) → 0 < used → used ≤ length ls → used ≤ 15 → left used ≡ level_left (suc (15 - used)) (above (used - 1)) s (get_or ls (used - 1) d) ++ left (used - 1)
  popped used d h k m =
      let u : suc (used - 1) ≡ used = omega arith in
      let n : 15 - (used - 1) ≡ suc (15 - used) = omega arith in
      and_one (used - 1) (get_or ls (used - 1) d) (take used ls) (omega arith) (ap (λ (i : ℕ). take i ls) (sym u) ∙ take-suc ls (used - 1) d (omega arith))
      ∙ ap (λ (i : ℕ). level_left i (above (used - 1)) s (get_or ls (used - 1) d) ++ left (used - 1)) n

  -- with one more, and where there is no room for it
  pub pushed : (used : ℕ) (l : Level) → used < 15 → length ls ≡ 15 → stack_left 15 root s (take (used + 1) (set ls used l)) ≡ level_left (15 - used) (above used) s l ++ left used
  pushed used l h k =
      let u : used + 1 ≡ suc used = omega arith in
      and_one used l (take (used + 1) (set ls used l)) (omega arith) (ap (λ (i : ℕ). take i (set ls used l)) u ∙ take-suc-set ls used l (omega arith))

  pub not_pushed : (used : ℕ) (l : Level) → 15 ≤ used → level_left (15 - used) (above used) s l ++ left used ≡ left used
  unfolding members_below
  not_pushed used l h = let n : 15 - used ≡ 0 = omega arith in simp n

  pub empty_not_pushed : (used : ℕ) (l : Level) → eqb l.count 0 ≡ true → level_left (15 - used) (above used) s l ++ left used ≡ left used
  empty_not_pushed used l h = simp (none_left (above used) l.end (cut s l.at l.stop) (15 - used) l.count (eqb-true l.count 0 h))

  module _ (used : ℕ) (d new : Level) (some : 0 < used) (there : used ≤ length ls) (room : used ≤ 15) where
    abbrev stepped : List Level
    stepped = set ls (used - 1) new

    -- the innermost in its new state
    last_stepped : take used stepped ≡ take (used - 1) ls ++ (new ∷ [])
    last_stepped = let u : suc (used - 1) ≡ used = omega arith in ap (λ (i : ℕ). take i stepped) (sym u) ∙ take-suc-set ls (used - 1) new (omega arith)

    pub step_none : Gives s (get_or ls (used - 1) d) new None → left (used - 1) ≡ left used
    step_none g = sym (popped used d some there room ∙ ap (λ (ms : List Member). ms ++ left (used - 1)) (g (suc (15 - used)) (above (used - 1))))

    pub step_some : (own : Bor (List ℕ)) (held : Level) → Gives s (get_or ls (used - 1) d) new (Some (own, held))
        → left used ≡ record { position = standing root (take used stepped); own = own } ∷ (level_left (15 - used) (standing root (take used stepped)) s held ++ stack_left 15 root s (take used stepped))
    step_some own held g =
        let n : 15 - (used - 1) ≡ suc (15 - used) = omega arith in
        let p : Position = below (above (used - 1)) new.place new.offset in
        let at : standing root (take used stepped) ≡ p = ap (standing root) last_stepped ∙ standing_last root (take (used - 1) ls) new in
        let kept : stack_left 15 root s (take used stepped) ≡ level_left (suc (15 - used)) (above (used - 1)) s new ++ left (used - 1) =
        and_one (used - 1) new (take used stepped) (omega arith) last_stepped ∙ ap (λ (i : ℕ). level_left i (above (used - 1)) s new ++ left (used - 1)) n in
        popped used d some there room
        ∙ ap (λ (ms : List Member). ms ++ left (used - 1)) (g (15 - used) (above (used - 1)))
        ∙ ap (λ (ms : List Member). record { position = p; own = own } ∷ ms) (append_assoc (level_left (15 - used) p s held) (level_left (suc (15 - used)) (above (used - 1)) s new) (left (used - 1))
        ∙ ap (λ (ms : List Member). level_left (15 - used) p s held ++ ms) (sym kept))
        ∙ ap (λ (q : Position). record { position = q; own = own } ∷ (level_left (15 - used) q s held ++ stack_left 15 root s (take used stepped))) (sym at)
