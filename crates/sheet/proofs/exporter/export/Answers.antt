use Rattle.std.proofs.Common.{◌≡◌, ◌∙◌, sym, length, Err, rules, arith, subst}
use Rattle.writing.specs.Writing.{Writes}
use Rattle.le.proofs.Laws.{wrote}
use Rattle.writing.proofs.Laws.{refuses, too_small, done}
use Rattle.sheet.specs.Export.{exporting}
use Rattle.sheet.proofs.Pieces.{export_large, export_refused, exported}
use Rattle.sheet.proofs.exporter.export.Goals as goal

pub returns-then-length-gt-LIMIT : goal.returns-then-length-gt-LIMIT
returns-then-length-gt-LIMIT c = refuses (export_large c.args.upload c.if-length-gt-LIMIT.true)

pub returns-in_err-needed : goal.returns-in_err-needed
returns-in_err-needed c =
    let f : c.from_residual.result ≡ Err c.in_err-needed.field-0.0 = search rules in
    subst (Writes (exporting c.args.upload) c.args.out.now c.args.out.now) (sym f) (refuses (export_refused c.args.upload _ c.if-length-gt-LIMIT.false (sym c.sheet_size.ensures ∙ c.in_err-needed.was)))

pub returns-then-lent-needed : goal.returns-then-lent-needed
returns-then-lent-needed c =
    let x = exported c.args.upload _ c.if-length-gt-LIMIT.false (sym c.sheet_size.ensures ∙ c.in_ok-needed.was) in
    too_small x.written x.long c.if-lent-needed.true

pub put_sheet-requires : goal.put_sheet-requires
put_sheet-requires c =
    let x = exported c.args.upload _ c.if-length-gt-LIMIT.false (sym c.sheet_size.ensures ∙ c.in_ok-needed.was) in
    omega (arith, x.long, c.if-lent-needed.false)

pub returns : goal.returns
returns c =
    let x = exported c.args.upload _ c.if-length-gt-LIMIT.false (sym c.sheet_size.ensures ∙ c.in_ok-needed.was) in
    done x.written (wrote c.put_sheet.ensures (omega (arith, x.long)) (omega (arith, x.long, c.if-lent-needed.false)))
