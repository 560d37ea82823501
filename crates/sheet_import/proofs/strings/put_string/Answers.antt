use Rattle.std.proofs.Common.{◌+◌, ◌≤◌, sym, ap, subst, length, arith, List, ℕ, Bor}
use Rattle.std.proofs.Common.{length-drop}
use Rattle.sheet_import.specs.Strings.{IsText, bytes_of}
use Rattle.le.specs.Put.{Wrote}
use Rattle.sheet_import.proofs.StringsRead.{quote_found, no_quote}
use Rattle.sheet_import.proofs.Written.{Writing, all_left, part_fits, rest_fits, part_goes, rest_goes}
use Rattle.sheet_import.proofs.strings.put_string.Goals as goal

pub loop-quote-init : goal.loop-quote-init
loop-quote-init c = all_left c.requires.text c.requires.short c.requires.room

pub overflow_add-quote : goal.overflow_add-quote
overflow_add-quote c =
    let q = quote_found c.loop-quote.left.now c.in-Some.quote c.loop-quote.invariant.cell c.in-Some.ensures in
    omega (arith, q.inside, c.loop-quote.invariant.few)

pub put_text-next-requires-clause-text : goal.put_text-next-requires-clause-text
put_text-next-requires-clause-text c =
    let q = quote_found c.loop-quote.left.now c.in-Some.quote c.loop-quote.invariant.cell c.in-Some.ensures in
    subst IsText (sym (ap (λ (s : Bor (List ℕ)). s.now) c.part_of.ensures)) q.text

pub put_text-next-requires-clause-short : goal.put_text-next-requires-clause-short
put_text-next-requires-clause-short c =
    let q = quote_found c.loop-quote.left.now c.in-Some.quote c.loop-quote.invariant.cell c.in-Some.ensures in
    subst (λ (l : List ℕ). length (bytes_of l) ≤ 65535) (sym (ap (λ (s : Bor (List ℕ)). s.now) c.part_of.ensures)) (part_fits c.in-Some.quote c.loop-quote.invariant q).short

pub put_text-next-requires-clause-room : goal.put_text-next-requires-clause-room
put_text-next-requires-clause-room c =
    let q = quote_found c.loop-quote.left.now c.in-Some.quote c.loop-quote.invariant.cell c.in-Some.ensures in
    subst (λ (l : List ℕ). c.loop-quote.next + length (bytes_of l) ≤ length c.loop-quote.out) (sym (ap (λ (s : Bor (List ℕ)). s.now) c.part_of.ensures)) (part_fits c.in-Some.quote c.loop-quote.invariant q).room

pub rest_of-left-requires : goal.rest_of-left-requires
rest_of-left-requires c = (quote_found c.loop-quote.left.now c.in-Some.quote c.loop-quote.invariant.cell c.in-Some.ensures).inside

pub loop-quote-preserved : goal.loop-quote-preserved
loop-quote-preserved c =
    let q = quote_found c.loop-quote.left.now c.in-Some.quote c.loop-quote.invariant.cell c.in-Some.ensures in
    let own = subst (λ (l : List ℕ). Wrote c.loop-quote.out c.loop-quote.next (bytes_of l) c.put_text-next.new.out c.put_text-next.result) (ap (λ (s : Bor (List ℕ)). s.now) c.part_of.ensures) c.put_text-next.ensures in
    subst (λ (l : List ℕ). Writing c.args.out.now c.put_text-next.new.out c.args.at c.put_text-next.result c.args.text.now l) (sym (ap (λ (s : Bor (List ℕ)). s.now) c.rest_of-left.ensures))
    (part_goes c.in-Some.quote c.loop-quote.invariant q own)

pub loop-quote-smaller : goal.loop-quote-smaller
loop-quote-smaller c =
    let q = quote_found c.loop-quote.left.now c.in-Some.quote c.loop-quote.invariant.cell c.in-Some.ensures in
    omega (arith, q.inside, ap (λ (s : Bor (List ℕ)). length s.now) c.rest_of-left.ensures, length-drop (c.in-Some.quote + 2) c.loop-quote.left.now)

pub put_text-requires-clause-text : goal.put_text-requires-clause-text
put_text-requires-clause-text c = (no_quote c.loop-quote.left.now c.loop-quote.invariant.cell c.in_default.ensures).text

pub put_text-requires-clause-short : goal.put_text-requires-clause-short
put_text-requires-clause-short c = (rest_fits c.loop-quote.invariant (no_quote c.loop-quote.left.now c.loop-quote.invariant.cell c.in_default.ensures)).short

pub put_text-requires-clause-room : goal.put_text-requires-clause-room
put_text-requires-clause-room c = (rest_fits c.loop-quote.invariant (no_quote c.loop-quote.left.now c.loop-quote.invariant.cell c.in_default.ensures)).room

pub returns : goal.returns
returns c = rest_goes c.loop-quote.invariant (no_quote c.loop-quote.left.now c.loop-quote.invariant.cell c.in_default.ensures) c.put_text.ensures
