-- docs/FORMAT.md, "The command's text", of `compare`: what an upload has in a part, for people and in JSON.
use Rattle.std.specs.Prelude.{ℕ, List, ◌++◌, codes, decimal}
use Rattle.attribute.specs.declared.AdsAttribute.{AdsAttribute}
use Rattle.wording.specs.Text.{pair, quoted, shown}
use Rattle.wording.specs.Wording.{bytes, refusal_text}
use Rattle.report.specs.Cells.{hexadecimal}
use Rattle.report.specs.Json.{attribute_text, guid_text}
use Rattle.values.specs.declared.Value.{Value}
use Rattle.values.specs.declared.Value.TheVariants as told
use Rattle.values.specs.Names.{extended_text, flags_text, former_text, four_digits, or_none}

abbrev pub name_and_value : AdsAttribute → List ℕ
name_and_value a = shown a.name.now ++ (codes " = " ++ shown a.value.now)

unfoldable pub value_text : Value → List ℕ
value_text told.Absent = codes "none"
value_text (told.Bytes n) = bytes n
value_text (told.Number n) = decimal n
value_text (told.Hexadecimal n) = hexadecimal n
value_text (told.High n) = codes "0x" ++ four_digits n
value_text (told.Flags flags) = flags_text flags.0
value_text (told.ExtendedFlags flags) = extended_text flags.0
value_text (told.Text s) = or_none s.now
value_text (told.Guid id) = guid_text id
value_text (told.Attribute a) = name_and_value a
value_text (told.FormerName s) = former_text s.now
value_text (told.Refused why) = refusal_text why
value_text (told.Byte at b) = codes "byte " ++ (decimal at ++ (codes " of the entry is 0x" ++ pair b))

unfoldable pub value_json : Value → List ℕ
value_json told.Absent = codes "null"
value_json (told.Bytes n) = decimal n
value_json (told.Number n) = decimal n
value_json (told.Hexadecimal n) = decimal n
value_json (told.High n) = decimal n
value_json (told.Flags flags) = decimal flags.0
value_json (told.ExtendedFlags flags) = decimal flags.0
value_json (told.Text s) = quoted s.now
value_json (told.Guid id) = codes "\"" ++ (guid_text id ++ codes "\"")
value_json (told.Attribute a) = attribute_text a
value_json (told.FormerName s) = quoted s.now
value_json (told.Refused why) = codes "\"" ++ (refusal_text why ++ codes "\"")
value_json (told.Byte at b) = codes "{\"byte\":" ++ (decimal at ++ (codes ",\"value\":" ++ (decimal b ++ codes "}")))
