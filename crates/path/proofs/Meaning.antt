-- Texts and their first parts: antt computes them.
use Rattle.std.proofs.Common.{refl}
use Rattle.path.specs.Path.{value, closing, closed, numbered, bracketed, member, first_part}
use Rattle.path.specs.Meaning.{PartsRead}

pub parts_read : PartsRead
unfolding value closing closed numbered bracketed member first_part
parts_read =
    record {
      last = refl;
      before_dot = refl;
      before_bracket = refl;
      long = refl;
      closed = refl;
      at_end = refl;
      again = refl;
      below = refl;
      behind_comma = refl;
      largest = refl;
      capped = refl;
      nothing = refl;
      no_mark = refl;
      no_name = refl;
      name_missing = refl;
      no_digit = refl;
      sign_alone = refl;
      space = refl;
      not_closed = refl;
      letter = refl;
      capital = refl;
      joined = refl;
    }
