-- Departures character for character: computed.
use Rattle.std.proofs.Common.{refl}
use Rattle.std.specs.Fmt.{digits}
use Rattle.text.specs.Text.{code_point}
use Rattle.wording.specs.Text.{shown}
use Rattle.wording.specs.Wording.{grouped, grouped_by, many, bytes, figure, refusal_text}
use Rattle.plain_report.specs.Told.{fault_text, departure_text}
use Rattle.plain_report.specs.Texts.{DeparturesMeant}

pub departures_meant : DeparturesMeant
unfolding digits code_point shown grouped grouped_by many bytes figure refusal_text fault_text departure_text lib.Utf8.encode
departures_meant = record {
  short = refl;
  zero = refl;
  sections = refl;
  block = refl;
  length = refl;
  name_end = refl;
  type_end = refl;
  comment_end = refl;
  count = refl;
}
