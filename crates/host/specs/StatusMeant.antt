-- docs/FORMAT.md, "The command's text": the status of each end, one by one.
use Rattle.std.specs.Prelude.{◌≡◌, String, true, false, Ok, Err}
use Rattle.std.specs.declared.alloc.Global.{Global}
use Rattle.std.specs.IoError.{error_kind}
use Rattle.std.specs.declared.io.Error.{Error}
use Rattle.std.specs.declared.io.ErrorKind.TheVariants.{BrokenPipe, ConnectionReset, StorageFull}
use Rattle.host.specs.declared.failure.Failure.TheVariants.{Refused, Dropped, Usage, File, Output, Memory}
use Rattle.host.specs.Status.{status_of}

pub record StatusMeant : Type 0 where
  pub done : status_of (Ok true) ≡ 0
  pub not_all : status_of (Ok false) ≡ 1
  pub refused : (why : String Global) → status_of (Err (Refused why)) ≡ 1
  pub dropped : (why : String Global) → status_of (Err (Dropped why)) ≡ 1
  pub usage : (why : String Global) → status_of (Err (Usage why)) ≡ 2
  pub file : (why : String Global) → status_of (Err (File why)) ≡ 2
  pub full : (why : Error) → error_kind why ≡ StorageFull → status_of (Err (Output why)) ≡ 2
  pub pipe_closed : (why : Error) → error_kind why ≡ BrokenPipe → status_of (Err (Output why)) ≡ 0
  pub socket_closed : (why : Error) → error_kind why ≡ ConnectionReset → status_of (Err (Output why)) ≡ 0
  pub memory : status_of (Err Memory) ≡ 2
