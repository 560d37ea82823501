-- Reasons word for word: computed.
use Rattle.std.proofs.Common.{refl}
use Rattle.std.specs.Fmt.{digits}
use Rattle.wording.specs.Wording.{grouped, grouped_by, many, bytes, figure, refusal_text}
use Rattle.facts.specs.Facts.{because}
use Rattle.facts.specs.Words.{ReasonsMeant}

pub reasons_meant : ReasonsMeant
unfolding digits because grouped grouped_by many bytes figure refusal_text
reasons_meant = record {
  unflagged = refl;
  no_flags = refl;
  short = refl;
  short_by_one = refl;
  whole = refl;
  refused = refl;
  owed = refl;
  more_unflagged = refl;
  more_no_flags = refl;
  more_short = λ at left. refl;
  more_whole = λ at count. refl;
  more_refused = λ before at why. refl;
  more_owed = λ announced owed. refl;
}
