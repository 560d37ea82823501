-- What finding a data type means: by the laws of any kind of entry.
use Rattle.std.proofs.Common.{arith}
use Rattle.refusal.specs.declared.Mode.{Mode}
use Rattle.data_type.specs.DataType.{type_of}
use Rattle.data_type.specs.Kind as kind
use Rattle.index.specs.Steps.{BySteps}
use Rattle.index.proofs.Steps.{by_steps_of}
use Rattle.name_find.proofs.Meaning.{found_is_first_of, refused_is_nowhere_of, find_meant_of, any_case_of, same_find_of}
use Rattle.type_find.specs.Find.{own_name, find, find_indexed}
use Rattle.type_find.specs.Meaning.{FoundIsFirst, RefusedIsNowhere, FindMeant, AnyCase, SameFind}

pub found_is_first : FoundIsFirst find find_indexed
found_is_first = found_is_first_of 42 type_of (λ r. r.field.length) own_name kind.four kind.long kind.room

pub refused_is_nowhere : RefusedIsNowhere find find_indexed
refused_is_nowhere = refused_is_nowhere_of 42 type_of (λ r. r.field.length) own_name kind.four kind.long kind.room

pub find_meant : FindMeant find find_indexed
find_meant = find_meant_of 42 type_of (λ r. r.field.length) own_name kind.four kind.long kind.room

pub any_case : AnyCase find find_indexed
any_case = any_case_of type_of own_name

pub types_by_steps : (mode : Mode) → BySteps (type_of mode)
types_by_steps mode = by_steps_of (type_of mode) 42 kind.four (kind.short mode) (kind.never_zero mode)

pub same_find : SameFind
same_find = same_find_of type_of own_name types_by_steps
