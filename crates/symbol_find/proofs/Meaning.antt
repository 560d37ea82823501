-- What finding a symbol means: by the laws of any kind of entry.
use Rattle.std.proofs.Common.{arith}
use Rattle.refusal.specs.declared.Mode.{Mode}
use Rattle.symbol.specs.Symbol.{symbol_of}
use Rattle.symbol.specs.Kind as kind
use Rattle.index.specs.Steps.{BySteps}
use Rattle.index.proofs.Steps.{by_steps_of}
use Rattle.name_find.proofs.Meaning.{found_is_first_of, refused_is_nowhere_of, find_meant_of, any_case_of, same_find_of}
use Rattle.symbol_find.specs.Find.{own_name, find, find_indexed}
use Rattle.symbol_find.specs.Meaning.{FoundIsFirst, RefusedIsNowhere, FindMeant, AnyCase, SameFind}

pub found_is_first : FoundIsFirst find find_indexed
found_is_first = found_is_first_of 30 symbol_of (λ symbol. symbol.length) own_name kind.four kind.long kind.room

pub refused_is_nowhere : RefusedIsNowhere find find_indexed
refused_is_nowhere = refused_is_nowhere_of 30 symbol_of (λ symbol. symbol.length) own_name kind.four kind.long kind.room

pub find_meant : FindMeant find find_indexed
find_meant = find_meant_of 30 symbol_of (λ symbol. symbol.length) own_name kind.four kind.long kind.room

pub any_case : AnyCase find find_indexed
any_case = any_case_of symbol_of own_name

pub symbols_by_steps : (mode : Mode) → BySteps (symbol_of mode)
symbols_by_steps mode = by_steps_of (symbol_of mode) 30 kind.four (kind.short mode) (kind.never_zero mode)

pub same_find : SameFind
same_find = same_find_of symbol_of own_name symbols_by_steps
