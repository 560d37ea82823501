-- Useless finding is shut out: by an upload of one symbol with no name, and by the empty one.
use Rattle.std.proofs.Common.{ℕ, ◌≡◌, refl, true, List, [], ◌∷◌, arith, Bor}
use Rattle.le.specs.Le.{le2, le4}
use Rattle.refusal.specs.declared.Mode.TheVariants.{Present}
use Rattle.entry.specs.Entry.{claim_at}
use Rattle.entry.specs.Walk.{steps, steps_from}
use Rattle.walk.specs.Step.{step_at}
use Rattle.names.specs.Names.{folded, same_name}
use Rattle.layout.specs.Layout.{guid_of}
use Rattle.symbol.specs.Symbol.{attributes_of, extended_of, refactor_infos_of, with_strings, ended_symbol, symbol_of}
use Rattle.symbol.specs.Kind as kind
use Rattle.name_find.specs.Find as any
use Rattle.name_find.proofs.Meaning.{has_of}
use Rattle.name_find.proofs.Useless.{lying, useless_shut_out_of}
use Rattle.symbol_find.specs.Find.{own_name, is_named}
use Rattle.symbol_find.specs.Meaning.{HasName, UselessShutOut}

-- an entry of the least length: no numbers, no flags, three empty strings
abbrev one : List ℕ
one = 33 ∷ 0 ∷ 0 ∷ 0 ∷ 0 ∷ 0 ∷ 0 ∷ 0 ∷ 0 ∷ 0 ∷ 0 ∷ 0 ∷ 0 ∷ 0 ∷ 0 ∷ 0 ∷ 0 ∷ 0 ∷ 0 ∷ 0 ∷ 0 ∷ 0 ∷ 0 ∷ 0 ∷ 0 ∷ 0 ∷ 0 ∷ 0 ∷ 0 ∷ 0 ∷ 0 ∷ 0 ∷ 0 ∷ []

named_there : is_named Present (lying one) [] 0 ≡ true
unfolding le2 le4 claim_at step_at folded same_name guid_of attributes_of extended_of refactor_infos_of with_strings ended_symbol symbol_of any.is_named
named_there = refl

has_there : HasName Present (lying one) [] 0
has_there = has_of 30 symbol_of (λ symbol. symbol.length) own_name kind.four kind.long kind.room Present (lying one) [] 0 named_there

walked_there : steps one ≡ 0 ∷ []
unfolding le4 claim_at steps steps_from
walked_there = refl

pub useless_shut_out : UselessShutOut
useless_shut_out = useless_shut_out_of 30 symbol_of (λ symbol. symbol.length) own_name (omega arith) one (omega arith) walked_there has_there
