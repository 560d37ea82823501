use Rattle.std.proofs.Common.{◌≡◌, ◌∙◌, Ok, Err, length, rules, sym, ap, arith}
use Rattle.le.proofs.Laws.{wrote}
use Rattle.writing.proofs.Laws.{refuses, too_small, done}
use Rattle.captures.specs.Captures.{splitting}
use Rattle.captures.proofs.Lines.{told, told_refused}
use Rattle.captures.proofs.Pieces.{split_is}
use Rattle.captures.proofs.split.Goals as goal

pub returns-in_err-needed : goal.returns-in_err-needed
returns-in_err-needed c =
    let e : c.from_residual.result ≡ Err c.in_err-needed.field-0.0 = search rules in
    simp e (refuses (told_refused (splitting c.args.upload.now) c.in_err-needed.field-0.0 (sym c.text_length.ensures ∙ c.in_err-needed.was)))

pub returns-then-lent-needed : goal.returns-then-lent-needed
returns-then-lent-needed c =
    let t = told (splitting c.args.upload.now) c.in_ok-needed.needed (sym c.text_length.ensures ∙ c.in_ok-needed.was) in
    too_small t.1 t.2 c.if-lent-needed.true

pub put_lines-requires : goal.put_lines-requires
put_lines-requires c =
    let t = told (splitting c.args.upload.now) c.in_ok-needed.needed (sym c.text_length.ensures ∙ c.in_ok-needed.was) in
    omega (arith, t.2, ap length (split_is c.args.upload.now t.0 t.1), c.if-lent-needed.false)

pub returns : goal.returns
returns c =
    let t = told (splitting c.args.upload.now) c.in_ok-needed.needed (sym c.text_length.ensures ∙ c.in_ok-needed.was) in
    let long = ap length (split_is c.args.upload.now t.0 t.1) in
    done (t.1 ∙ ap Ok (sym (split_is c.args.upload.now t.0 t.1))) (wrote c.put_lines.ensures (omega (arith, t.2, long)) (omega (arith, t.2, long, c.if-lent-needed.false)))
