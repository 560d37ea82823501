-- One promise allows one status, one answer and one content of each buffer; the mode and the two numbers of a call.
use Rattle.std.proofs.Common.{refl, sym, ◌∙◌}
use Rattle.told.specs.Calls.{CallsTold}
use Rattle.told.specs.One.{OneTelling, OneWriting, OneWritingBoth}

pub one_telling : OneTelling
one_telling f status status' answer answer' p q = (p.is ∙ sym q.is, p.numbers ∙ sym q.numbers)

pub one_writing : OneWriting
one_writing w old new new' status status' answer answer' p q =
    let t = one_telling _ status status' answer answer' p.tells q.tells in
    (t.0, (t.1, p.left ∙ sym q.left))

pub one_writing_both : OneWritingBoth
one_writing_both w out runs out' runs' out'' runs'' status status' answer answer' p q =
    let t = one_telling _ status status' answer answer' p.tells q.tells in
    (t.0, (t.1, (p.left_bytes ∙ sym q.left_bytes, p.left_slots ∙ sym q.left_slots)))

pub calls_told : CallsTold
calls_told = record { checked = refl; present = refl; number = λ n. refl; number_refused = λ why. refl; salvaged = λ wrote. refl; salvage_refused = λ why. refl }
