-- docs/FORMAT.md, "The command's text": the status that the command ends with.
use Rattle.std.specs.Prelude.{ℕ, Bool, true, false, Result, Ok, Err, if◌then◌else◌}
use Rattle.std.specs.IoError.{error_kind}
use Rattle.std.specs.declared.io.ErrorKind.{ErrorKind}
use Rattle.std.specs.declared.io.ErrorKind.TheVariants.{BrokenPipe, ConnectionReset}
use Rattle.host.specs.declared.failure.Failure.{Failure}
use Rattle.host.specs.declared.failure.Failure.TheVariants.{Refused, Dropped, Usage, File, Output, Memory}

-- the reader of a pipe is gone, or that of a socket, which left something unread
abbrev pub is_reader_gone : ErrorKind → Bool
is_reader_gone BrokenPipe = true
is_reader_gone ConnectionReset = true
is_reader_gone _ = false

abbrev pub is_unread : Failure → Bool
is_unread (Output why) = is_reader_gone (error_kind why)
is_unread _ = false

-- 1 where something was refused, not found or left out, 2 for the arguments, a file, memory, and output that can't be written, unless its reader has gone
abbrev pub failure_status : Failure → ℕ
failure_status (Refused why) = 1
failure_status (Dropped why) = 1
failure_status (Usage why) = 2
failure_status (File why) = 2
failure_status (Output why) = if is_reader_gone (error_kind why) then 0 else 2
failure_status Memory = 2

-- where nothing failed, 0 if all was done as asked, or the two are alike, and else 1
abbrev pub status_of : Result Bool Failure → ℕ
status_of (Ok all) = if all then 0 else 1
status_of (Err failure) = failure_status failure
