use Rattle.std.proofs.Common.{◌++◌, codes, ap}
use Rattle.std.specs.List.{flat_map}
use Rattle.symbol.specs.Symbol.{symbol_of}
use Rattle.walk.specs.Pieces.{pieces}
use Rattle.report.specs.declared.Tally.{Tally}
use Rattle.report.specs.Report.{check_text, upload_text, refused_line, summary_text}
use Rattle.report.proofs.Going.{three}
use Rattle.report.proofs.check.check.Goals as goal

pub returns-clause-text : goal.returns-clause-text
unfolding check_text
returns-clause-text g c =
    let u = c.args.upload.now in
    three _ _ _ _ _ _ _ _ c.in_ok-write_upload.ensures c.in_ok-tally.ensures.text c.in_ok-write_summary.ensures
    (ap (λ (t : Tally). (upload_text u ++ codes "\n") ++ (flat_map refused_line (pieces (symbol_of u.mode) u.bytes) ++ summary_text t)) c.in_ok-tally.ensures.tally)
