-- What passed checks tell, the lengths of what is written, and an entry whose claim was written first.
use Rattle.std.proofs.Common.{ℕ, ◌+◌, ◌≤◌, ◌≡◌, refl, sym, ap, ◌∙◌, Bool, true, false, List, ◌++◌, length, Ok, Err, Result, arith, length-append}
use Rattle.std.specs.Prelude.{if◌then◌else◌}
use borrow.Author.Tests.{le-ltb}
use Rattle.le.specs.Le.{bytes4}
use Rattle.le.specs.Put.{Wrote}
use Rattle.part.specs.Outcome.{and_then}
use Rattle.refusal.specs.Refusal.{limit}
use Rattle.refusal.specs.declared.Refusal.{Refusal}
use Rattle.writing.specs.Layout.{strings_bytes, attributes_bytes, entry_bytes}
use Rattle.writing.specs.Checks.{count_checked, strings_checked, entry_checked, room_checked, IsShort}
use Rattle.writing.specs.Writing.{Writes}
use Rattle.writing.proofs.Laws.{done}

-- where two checks passed, each did
pub both_passed : {A B : Type 0} (a : Result A Refusal) {next : A → Result B Refusal} {y : B} → and_then a next ≡ Ok y → (x : A) × ((a ≡ Ok x) × (next x ≡ Ok y))
both_passed (Ok x) h = (x, (refl, h))
both_passed (Err why) h = cc

pub count_passed : (n : ℕ) → count_checked n ≡ Ok tt → n ≤ 65535
count_passed n h = grind arith

pub strings_passed : (name type comment : List ℕ) → strings_checked name type comment ≡ Ok tt → IsShort name type comment
unfolding strings_checked
strings_passed name type comment h = record { name_fits = grind arith; type_fits = grind arith; comment_fits = grind arith }

pub room_passed : (needed lent : ℕ) → room_checked needed lent ≡ Ok tt → (needed ≤ limit) × (needed ≤ lent)
unfolding room_checked
room_passed needed lent h = (grind arith, grind arith)

pub length_strings : (name type comment : List ℕ) → length (strings_bytes name type comment) ≡ length name + length type + length comment + 3
unfolding strings_bytes
length_strings name type comment = simp length-append (omega arith)

pub length_attributes : (flagged : Bool) (count : ℕ) (block : List ℕ) → length (attributes_bytes flagged count block) ≡ (if flagged then length block + 2 else 0)
unfolding attributes_bytes
length_attributes true count block = omega arith
length_attributes false count block = refl

pub length_entry : (rest : List ℕ) → length (entry_bytes rest) ≡ length rest + 4
unfolding entry_bytes
length_entry rest = omega arith

pub claimed : (rest : List ℕ) {total : ℕ} → length (entry_bytes rest) ≡ total → bytes4 total ++ rest ≡ entry_bytes rest
unfolding entry_bytes
claimed rest h = ap (λ (n : ℕ). bytes4 n ++ rest) (sym h ∙ length_entry rest)

-- what is written of an entry that passes
pub entry_passed : (e bs : List ℕ) → entry_checked e ≡ Ok bs → (length e ≤ limit) × (bs ≡ e)
unfolding entry_checked
entry_passed e bs h = (grind arith, grind arith)

-- what a writer whose other checks passed comes to, where there is room and where there is none
module _ {w : Result (List ℕ) Refusal} (e : List ℕ) (is : w ≡ entry_checked e) {old : List ℕ} where
  by_room : {why : Refusal} → room_checked (length e) (length old) ≡ Err why → Writes w old old (Err why)
  unfolding entry_checked room_checked
  by_room {why} h = record { said = grind arith; left = grind arith }

  pub no_room : {needed : ℕ} {why : Refusal} → length e ≡ needed → room_checked needed (length old) ≡ Err why → Writes w old old (Err why)
  no_room l h = by_room (rw l h)

  pub written_whole : {new : List ℕ} {next : ℕ} → length e ≤ limit → Wrote old 0 e new next → Writes w old new (Ok next)
  unfolding entry_checked
  written_whole h d = done (is ∙ simp (le-ltb limit (length e) h)) d
