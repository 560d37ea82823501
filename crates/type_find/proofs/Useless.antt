-- Useless finding is shut out: by an upload of one data type with no name, and by the empty one.
use Rattle.std.proofs.Common.{ℕ, ◌≡◌, refl, true, List, [], ◌∷◌, arith, Bor}
use Rattle.le.specs.Le.{le2, le4}
use Rattle.refusal.specs.declared.Mode.TheVariants.{Present}
use Rattle.entry.specs.Entry.{claim_at}
use Rattle.entry.specs.Walk.{steps, steps_from}
use Rattle.walk.specs.Step.{step_at}
use Rattle.names.specs.Names.{folded, same_name}
use Rattle.layout.specs.Layout.{guid_of}
use Rattle.field.specs.Front.{with_strings, front_of}
use Rattle.field.specs.Tail.{after_mask, after_methods, attributes_of, tail_of}
use Rattle.data_type.specs.DataType.{items_from, arrays_of, type_with, type_at, type_of}
use Rattle.data_type.specs.Kind as kind
use Rattle.name_find.specs.Find as any
use Rattle.name_find.proofs.Meaning.{has_of}
use Rattle.name_find.proofs.Useless.{lying, useless_shut_out_of}
use Rattle.type_find.specs.Find.{own_name, is_named}
use Rattle.type_find.specs.Meaning.{HasName, UselessShutOut}

-- an entry of the least length: no numbers, no flags, three empty strings
abbrev one : List ℕ
one = 45 ∷ 0 ∷ 0 ∷ 0 ∷ 0 ∷ 0 ∷ 0 ∷ 0 ∷ 0 ∷ 0 ∷ 0 ∷ 0 ∷ 0 ∷ 0 ∷ 0 ∷ 0 ∷ 0 ∷ 0 ∷ 0 ∷ 0 ∷ 0 ∷ 0 ∷ 0 ∷ 0 ∷ 0 ∷ 0 ∷ 0 ∷ 0 ∷ 0 ∷ 0 ∷ 0 ∷ 0 ∷ 0 ∷ 0 ∷ 0 ∷ 0 ∷ 0 ∷ 0 ∷ 0 ∷ 0 ∷ 0 ∷ 0 ∷ 0 ∷ 0 ∷ 0 ∷ []

named_there : is_named Present (lying one) [] 0 ≡ true
unfolding le2 le4 claim_at step_at folded same_name guid_of with_strings front_of after_mask after_methods attributes_of tail_of items_from arrays_of type_with type_at any.is_named
named_there = refl

has_there : HasName Present (lying one) [] 0
has_there = has_of 42 type_of (λ r. r.field.length) own_name kind.four kind.long kind.room Present (lying one) [] 0 named_there

walked_there : steps one ≡ 0 ∷ []
unfolding le4 claim_at steps steps_from
walked_there = refl

pub useless_shut_out : UselessShutOut
useless_shut_out = useless_shut_out_of 42 type_of (λ r. r.field.length) own_name (omega arith) one (omega arith) walked_there has_there
