-- What is written of an attribute.
use Rattle.std.proofs.Common.{◌≡◌, ◌+◌, length, Ok, Err, arith, length-append}
use Rattle.refusal.specs.declared.Refusal.{Refusal}
use Rattle.attribute.specs.Told.{Told}
use Rattle.attribute.specs.Writing.{attribute_bytes, lengths_checked, attribute_writing}

pub length_bytes : (a : Told) → length (attribute_bytes a) ≡ length a.name + length a.value + 4
unfolding attribute_bytes
length_bytes a = simp length-append (omega arith)

pub passes : (a : Told) {u : Unit} → lengths_checked a ≡ Ok u → attribute_writing a ≡ Ok (attribute_bytes a)
unfolding attribute_writing
passes a h = simp h

pub refused : (a : Told) {why : Refusal} → lengths_checked a ≡ Err why → attribute_writing a ≡ Err why
unfolding attribute_writing
refused a h = simp h
