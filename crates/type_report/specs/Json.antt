-- docs/FORMAT.md, "The command's text". What stands in JSON of a data type, or of a member of one, a line each.
use Rattle.std.specs.Prelude.{ℕ, zero, suc, List, [], ◌++◌, codes, decimal}
use Rattle.std.specs.Fmt.{signed_decimal}
use Rattle.std.specs.Int.{w32, cast_signed}
use Rattle.wording.specs.Text.{quoted}
use Rattle.part.specs.Outcome.{outcome}
use Rattle.refusal.specs.Refusal.{deepest}
use Rattle.refusal.specs.declared.Mode.{Mode}
use Rattle.attribute.specs.Attribute as attribute
use Rattle.walk.specs.declared.Piece.{Piece}
use Rattle.field.specs.declared.AdsFieldInfo.{AdsFieldInfo}
use Rattle.data_type.specs.declared.AdsDataTypeInfo.{AdsDataTypeInfo}
use Rattle.data_type.specs.declared.array.AdsArrayInfo.{AdsArrayInfo}
use Rattle.data_type.specs.Array as array
use Rattle.report.specs.Json.{guid_or_null, attributes_text, refused_text}
use Rattle.type_tree.specs.declared.node.Node.{Node}
use Rattle.type_tree.specs.Joined.{joined}
use Rattle.type_tree.specs.Marks.{marks_text}
use Rattle.type_tree.specs.Node.{root, members_of}

unfoldable pub strings_text : AdsFieldInfo → List ℕ
strings_text f =
    codes "\"length\":" ++ (decimal f.length
    ++ (codes ",\"name\":" ++ (quoted f.name.now
    ++ (codes ",\"type\":" ++ (quoted f.type_name.now
    ++ (codes ",\"comment\":" ++ quoted f.comment.now))))))

-- the lowest index is 32 bits with a sign
abbrev pub array_text : AdsArrayInfo → List ℕ
array_text a = codes "{\"lower_bound\":" ++ (signed_decimal (cast_signed w32 a.lower_bound) ++ (codes ",\"elements\":" ++ (decimal a.elements ++ codes "}")))

unfoldable pub numbers_text : Node → List ℕ
numbers_text n =
    codes "\"offset\":" ++ (decimal n.info.field.offset
    ++ (codes ",\"offset_from_start\":" ++ (decimal n.offset_from_start
    ++ (codes ",\"size\":" ++ decimal n.info.field.size))))

unfoldable pub shape_text : Node → List ℕ
shape_text n =
    codes "\"marks\":[" ++ (marks_text (codes ",") (codes "\"") n.marks
    ++ (codes "],\"arrays\":[" ++ (joined (codes ",") array_text (array.left n.info.arrays) ++ codes "]")))

unfoldable pub maker_text : AdsFieldInfo → List ℕ
maker_text f =
    codes "\"version\":" ++ (decimal f.version
    ++ (codes ",\"hash\":" ++ (decimal f.hash_value
    ++ (codes ",\"type_hash\":" ++ (decimal f.type_hash_value
    ++ (codes ",\"type_id\":" ++ (decimal f.type_id
    ++ (codes ",\"flags\":" ++ decimal f.flags.0))))))))

-- what an entry tells of itself
unfoldable pub own_text : Node → List ℕ
own_text n =
    codes "\"place\":" ++ (decimal n.place
    ++ (codes "," ++ (strings_text n.info.field
    ++ (codes "," ++ (numbers_text n
    ++ (codes "," ++ (shape_text n
    ++ (codes "," ++ (maker_text n.info.field
    ++ (codes ",\"guid\":" ++ (guid_or_null n.info.field.guid
    ++ (codes ",\"attributes\":[" ++ (attributes_text (attribute.left n.info.field.attributes) ++ codes "]")))))))))))))

-- an object with the objects of its sub-items in it, so many levels in all
unfoldable pub node_text : Mode → ℕ → Node → List ℕ
node_text mode zero n = []
node_text mode (suc levels) n =
    codes "{" ++ (own_text n ++ (codes ",\"members\":[" ++ (joined (codes ",") (node_text mode levels) (members_of mode n) ++ codes "]}")))

-- the line of a data type at a place of an upload
unfoldable pub type_line : Mode → Node → List ℕ
type_line mode n = node_text mode deepest n ++ codes "\n"

-- the line of an entry, read or refused
unfoldable pub entry_line : Mode → Piece AdsDataTypeInfo → List ℕ
entry_line mode p = outcome p.answer (λ info. type_line mode (root p.start info)) (λ why. refused_text p.start why ++ codes "\n")
