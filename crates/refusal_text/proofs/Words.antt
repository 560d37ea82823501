-- The words of every refusal, and of a number and two figures: proved.
use Rattle.std.proofs.Common.{refl}
use Rattle.std.specs.Fmt.{digits}
use Rattle.refusal_text.specs.Told.{unfound, refusal_of, refusal_from_10, writing_text}
use Rattle.refusal_text.specs.Words.{RefusalsWorded, NumbersWorded, TextsTold}

refusals : RefusalsWorded
unfolding digits
refusals = record {
  unexpected = refl;
  short = refl;
  mismatch = refl;
  below = refl;
  large = refl;
  output = refl;
  long = refl;
  sections = refl;
  block = refl;
  zero = refl;
  text = refl;
  hexadecimal = refl;
  name = refl;
  numbered = refl;
  deep = refl;
  end = refl;
  entry = refl;
  row = refl;
  plain = refl;
  path = refl;
  member = refl;
  data_type = refl;
  dimensions = refl;
  no_offset = refl;
  offset = refl;
  aliases = refl;
}

numbers : NumbersWorded
unfolding writing_text refusal_of refusal_from_10 unfound digits
numbers = record {
  unexpected = refl;
  short = refl;
  mismatch = refl;
  below = refl;
  large = refl;
  output = refl;
  long = refl;
  sections = refl;
  block = refl;
  zero = refl;
  text = refl;
  hexadecimal = refl;
  name = refl;
  numbered = refl;
  deep = refl;
  end = refl;
  entry = refl;
  row = refl;
  plain = refl;
  path = refl;
  member = refl;
  data_type = refl;
  dimensions = refl;
  no_offset = refl;
  offset = refl;
  aliases = refl;
}

pub texts_told : TextsTold
texts_told = record { refusals = refusals; numbers = numbers; entry = refl; row = refl }
