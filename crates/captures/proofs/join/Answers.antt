use Rattle.std.proofs.Common.{◌≡◌, ◌≤◌, ◌∙◌, Err, length, rules, sym, arith}
use Rattle.le.specs.Put.{put}
use Rattle.le.proofs.Laws.{wrote}
use Rattle.writing.proofs.Laws.{refuses, too_small, done}
use Rattle.captures.specs.Captures.{joining}
use Rattle.captures.proofs.Pairs.{from_if, to_and}
use Rattle.captures.proofs.Lines.{told, told_refused, joined_is}
use Rattle.captures.proofs.join.Goals as goal

pub returns-in_err-needed : goal.returns-in_err-needed
returns-in_err-needed c =
    let e : c.from_residual.result ≡ Err c.in_err-needed.field-0.0 = search rules in
    simp e (refuses (told_refused (joining c.args.text.now) c.in_err-needed.field-0.0 (sym c.upload_length.ensures ∙ c.in_err-needed.was)))

pub returns-then-lent-needed : goal.returns-then-lent-needed
returns-then-lent-needed c =
    let t = told (joining c.args.text.now) c.in_ok-needed.needed (sym c.upload_length.ensures ∙ c.in_ok-needed.was) in
    too_small t.1 t.2 c.if-lent-needed.true

pub put_upload-requires : goal.put_upload-requires
put_upload-requires c =
    let t = told (joining c.args.text.now) c.in_ok-needed.needed (sym c.upload_length.ensures ∙ c.in_ok-needed.was) in
    to_and (λ bytes. length bytes ≤ length c.args.upload.now) (joined_is c.args.text.now t.0 t.1) (omega (arith, t.2, c.if-lent-needed.false))

pub returns : goal.returns
returns c =
    let t = told (joining c.args.text.now) c.in_ok-needed.needed (sym c.upload_length.ensures ∙ c.in_ok-needed.was) in
    done t.1 (wrote (from_if (λ bytes. c.put_upload.new.upload ≡ put c.args.upload.now 0 bytes) (joined_is c.args.text.now t.0 t.1) c.put_upload.ensures) (omega (arith, t.2)) (omega (arith, t.2, c.if-lent-needed.false)))
