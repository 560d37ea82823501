-- docs/FORMAT.md, "The command's text" and "Plain form": how the first departure from plain form is told.
use Rattle.std.specs.Prelude.{ℕ, List, [], ◌++◌, codes, decimal}
use Rattle.wording.specs.Text.{pair, shown}
use Rattle.wording.specs.Wording.{grouped, refusal_text}
use Rattle.plain_report.specs.declared.Departure.{Departure}
use Rattle.plain_report.specs.declared.Fault.{Fault}
use Rattle.plain_report.specs.declared.Fault.TheVariants.{Unread, Unwritten, Byte}
use Rattle.plain_report.specs.declared.Part.{Part}
use Rattle.plain_report.specs.declared.Part.TheVariants.{Length, NameEnd, TypeEnd, CommentEnd, Count}

abbrev pub part_text : Part → List ℕ
part_text Length = codes "its length"
part_text NameEnd = codes "the end byte of the name"
part_text TypeEnd = codes "the end byte of the type"
part_text CommentEnd = codes "the end byte of the comment"
part_text Count = codes "the count of its attributes"

-- behind the refusal: nothing where the entry is not read; else its name, and why it is not written again or which byte would be another
unfoldable pub fault_text : Fault → List ℕ
fault_text Unread = []
fault_text (Unwritten name why) = codes "\n" ++ (shown name.now ++ (codes ": what was read of the entry is not written again, " ++ refusal_text why))
fault_text (Byte name place part there written) =
    codes "\n" ++ (shown name.now ++ (codes ": byte " ++ (grouped place ++ (codes " of the entry, " ++ (part_text part
    ++ (codes ", is 0x" ++ (pair there ++ (codes ", and 0x" ++ (pair written ++ codes " would be written")))))))))

unfoldable pub departure_text : Departure → List ℕ
departure_text d = codes "at " ++ (decimal d.start ++ (codes ": " ++ (refusal_text d.why ++ fault_text d.fault)))
