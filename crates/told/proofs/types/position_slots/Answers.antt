use Rattle.std.proofs.Common.{ℕ, ◌≡◌, ◌∷◌, ◌++◌, [], List, length, get_or, refl, ◌∙◌, rules, arith}
use Rattle.std.proofs.lemmas.List.{ext_get_or, append-nil}
use Rattle.told.proofs.types.position_slots.Goals as goal

pub returns : goal.returns
returns c =
    let at = c.args.position.now in
    let same : c.map.result ≡ at.path = ext_get_or 0 c.map.result at.path (omega (arith, c.map.ensures.items.long)) (λ i h. let k = c.map.ensures.items.at i 0 0 (omega (arith, c.map.ensures.items.long)) in search rules) in
    let path : c.copy_from_slice.new.self ++ [] ≡ at.path = append-nil c.copy_from_slice.new.self ∙ c.copy_from_slice.ensures.after ∙ same in
    rw path refl
