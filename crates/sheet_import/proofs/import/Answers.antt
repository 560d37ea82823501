use Rattle.std.proofs.Common.{◌≡◌, ◌∙◌, sym, length, arith, rules, Err}
use Rattle.writing.proofs.Laws.{refuses}
use Rattle.sheet_rows.specs.Rows.{behind_header}
use Rattle.sheet_import.specs.Import.{lines_in}
use Rattle.sheet_import.proofs.Ready.{bad_rows, bad_text, ready, header_there, too_long, size_is, no_room, roomy, written, header_is, header_bad}
use Rattle.sheet_import.proofs.import.Goals as goal

pub returns-in_err-extent : goal.returns-in_err-extent
returns-in_err-extent c =
    let e : c.from_residual.result ≡ Err c.in_err-extent.field-0.0 = search rules in
    simp e (refuses (bad_rows c.args.sheet c.in_err-extent.field-0.0 (sym c.check.ensures ∙ c.in_err-extent.was)))

pub returns-in_err-length : goal.returns-in_err-length
returns-in_err-length c =
    let e : c.from_residual-in_err-length.result ≡ Err c.in_err-length.field-0.0 = search rules in
    simp e (refuses (bad_text c.args.sheet c.in_err-length.field-0.0 c.in_ok-extent.extent (sym c.check.ensures ∙ c.in_ok-extent.was) (sym c.encoded_length.ensures ∙ c.in_err-length.was)))

pub returns-in_err-rows : goal.returns-in_err-rows
returns-in_err-rows c =
    absurd (header_there c.args.sheet c.in_err-rows.field-0.0 c.in_ok-extent.extent (sym c.check.ensures ∙ c.in_ok-extent.was) (header_bad (behind_header c.args.sheet) c.in_err-rows.field-0.0 (sym c.read_header.ensures ∙ c.in_err-rows.was)))

pub check_strings-requires : goal.check_strings-requires
check_strings-requires c =
    let h = header_is (behind_header c.args.sheet) c.in_ok-rows.rows (sym c.read_header.ensures ∙ c.in_ok-rows.was) in
    let r = ready c.args.sheet c.in_ok-rows.rows.bytes c.in_ok-extent.extent c.in_ok-length.length (sym c.check.ensures ∙ c.in_ok-extent.was) (sym c.encoded_length.ensures ∙ c.in_ok-length.was) h in
    record { rows = r.rows; short = r.short }

pub returns-in_err-check_strings : goal.returns-in_err-check_strings
returns-in_err-check_strings c =
    let e : c.from_residual-in_err-check_strings.result ≡ Err c.in_err-check_strings.field-0.0 = search rules in
    let h = header_is (behind_header c.args.sheet) c.in_ok-rows.rows (sym c.read_header.ensures ∙ c.in_ok-rows.was) in
    let r = ready c.args.sheet c.in_ok-rows.rows.bytes c.in_ok-extent.extent c.in_ok-length.length (sym c.check.ensures ∙ c.in_ok-extent.was) (sym c.encoded_length.ensures ∙ c.in_ok-length.was) h in
    simp e (refuses (too_long c.in_err-check_strings.field-0.0 r (sym c.check_strings.ensures ∙ c.in_err-check_strings.was)))

pub overflow_sub-sheet : goal.overflow_sub-sheet
overflow_sub-sheet c =
    let h = header_is (behind_header c.args.sheet) c.in_ok-rows.rows (sym c.read_header.ensures ∙ c.in_ok-rows.was) in
    let r = ready c.args.sheet c.in_ok-rows.rows.bytes c.in_ok-extent.extent c.in_ok-length.length (sym c.check.ensures ∙ c.in_ok-extent.was) (sym c.encoded_length.ensures ∙ c.in_ok-length.was) h in
    r.within

pub upload_size-needed-requires : goal.upload_size-needed-requires
upload_size-needed-requires c =
    let h = header_is (behind_header c.args.sheet) c.in_ok-rows.rows (sym c.read_header.ensures ∙ c.in_ok-rows.was) in
    let r = ready c.args.sheet c.in_ok-rows.rows.bytes c.in_ok-extent.extent c.in_ok-length.length (sym c.check.ensures ∙ c.in_ok-extent.was) (sym c.encoded_length.ensures ∙ c.in_ok-length.was) h in
    r.few

pub returns-in_err-check_room : goal.returns-in_err-check_room
returns-in_err-check_room c =
    let e : c.from_residual-in_err-check_room.result ≡ Err c.in_err-check_room.field-0.0 = search rules in
    let h = header_is (behind_header c.args.sheet) c.in_ok-rows.rows (sym c.read_header.ensures ∙ c.in_ok-rows.was) in
    let r = ready c.args.sheet c.in_ok-rows.rows.bytes c.in_ok-extent.extent c.in_ok-length.length (sym c.check.ensures ∙ c.in_ok-extent.was) (sym c.encoded_length.ensures ∙ c.in_ok-length.was) h in
    let s = size_is r (sym c.check_strings.ensures ∙ c.in_ok-check_strings.was) c.upload_size-needed.ensures in
    simp e (no_room c.in_err-check_room.field-0.0 r s (sym c.check_room.ensures ∙ c.in_err-check_room.was))

pub put_upload-requires : goal.put_upload-requires
put_upload-requires c =
    let h = header_is (behind_header c.args.sheet) c.in_ok-rows.rows (sym c.read_header.ensures ∙ c.in_ok-rows.was) in
    let r = ready c.args.sheet c.in_ok-rows.rows.bytes c.in_ok-extent.extent c.in_ok-length.length (sym c.check.ensures ∙ c.in_ok-extent.was) (sym c.encoded_length.ensures ∙ c.in_ok-length.was) h in
    let s = size_is r (sym c.check_strings.ensures ∙ c.in_ok-check_strings.was) c.upload_size-needed.ensures in
    let z = roomy (lines_in c.in_ok-rows.rows.bytes) c.upload_size-needed.result (length c.args.upload.now) s (sym c.check_room.ensures ∙ c.in_ok-check_room.was) in
    record { rows = r.rows; short = z.short; room = omega (arith, z.long, z.room) }

pub returns : goal.returns
returns c =
    let h = header_is (behind_header c.args.sheet) c.in_ok-rows.rows (sym c.read_header.ensures ∙ c.in_ok-rows.was) in
    let r = ready c.args.sheet c.in_ok-rows.rows.bytes c.in_ok-extent.extent c.in_ok-length.length (sym c.check.ensures ∙ c.in_ok-extent.was) (sym c.encoded_length.ensures ∙ c.in_ok-length.was) h in
    let s = size_is r (sym c.check_strings.ensures ∙ c.in_ok-check_strings.was) c.upload_size-needed.ensures in
    written r s (roomy (lines_in c.in_ok-rows.rows.bytes) c.upload_size-needed.result (length c.args.upload.now) s (sym c.check_room.ensures ∙ c.in_ok-check_room.was)) c.put_upload.ensures
