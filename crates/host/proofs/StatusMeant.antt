-- The status of each end: proved.
use Rattle.std.proofs.Common.{◌≡◌, refl, ap, ℕ}
use Rattle.std.specs.Prelude.{if◌then◌else◌}
use Rattle.std.specs.declared.io.ErrorKind.{ErrorKind}
use Rattle.host.specs.Status.{is_reader_gone}
use Rattle.host.specs.StatusMeant.{StatusMeant}

by_kind : ErrorKind → ℕ
by_kind k = if is_reader_gone k then 0 else 2

pub status_meant : StatusMeant
unfolding by_kind
status_meant = record {
  done = refl;
  not_all = refl;
  refused = λ why. refl;
  dropped = λ why. refl;
  usage = λ why. refl;
  file = λ why. refl;
  full = λ why h. ap by_kind h;
  pipe_closed = λ why h. ap by_kind h;
  socket_closed = λ why h. ap by_kind h;
  memory = refl;
}
