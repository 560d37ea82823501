-- An attribute that is read lies inside the bytes that it was read from, with its end bytes.
use Rattle.std.proofs.Common.{◌≡◌, ℕ, ◌+◌, ◌≤◌, List, length, get_or, Ok, arith, Bor}
use Rattle.std.proofs.lemmas.Grind.{common_steps}
use Rattle.attribute.specs.declared.AdsAttribute.{AdsAttribute}
use Rattle.attribute.specs.Attribute.{first_of}

pub room : (s : Bor (List ℕ)) (p : AdsAttribute × Bor (List ℕ)) → first_of s ≡ Ok p → length s.now ≡ length p.0.name.now + length p.0.value.now + 4 + length p.1.now
unfolding first_of
room s p h = grind (arith, common_steps)

-- it is no longer than its two lengths say
pub short : (s : Bor (List ℕ)) (p : AdsAttribute × Bor (List ℕ)) → first_of s ≡ Ok p → length s.now ≤ get_or s.now 0 0 + get_or s.now 1 0 + 4 + length p.1.now
unfolding first_of
short s p h = grind (arith, common_steps)
