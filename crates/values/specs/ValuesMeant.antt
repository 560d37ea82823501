-- docs/FORMAT.md, "The command's text", of `compare`: what an upload has in a part, word for word, for people and in JSON, with every number another. Strings stand in them as all strings do.
use Rattle.std.specs.Prelude.{ℕ, ◌≡◌, List, [], ◌∷◌, ◌++◌, codes}
use Rattle.std.specs.Borrow.{Bor}
use Rattle.refusal.specs.declared.Refusal.TheVariants.{EndByte}
use Rattle.attribute.specs.declared.AdsAttribute.{AdsAttribute}
use Rattle.wording.specs.Text.{quoted, shown}
use Rattle.values.specs.declared.Value.{Value}
use Rattle.values.specs.declared.Value.TheVariants as told
use Rattle.values.specs.Shown.{value_json, value_text}

-- the two texts of a value
abbrev pub IsWritten : Value → List ℕ → List ℕ → Type 0
IsWritten v text json = (value_text v ≡ text) × (value_json v ≡ json)

pub record ValuesMeant : Type 0 where
  pub absent : IsWritten told.Absent (codes "none") (codes "null")
  pub bytes : IsWritten (told.Bytes 1234) (codes "1,234 bytes") (codes "1234")
  pub number : IsWritten (told.Number 5678) (codes "5678") (codes "5678")
  pub hexadecimal : IsWritten (told.Hexadecimal 0x4040A) (codes "0x4040A") (codes "263178")
  pub high : IsWritten (told.High 0x01A2) (codes "0x01A2") (codes "418")
  pub flags : IsWritten (told.Flags (record { 0 = 0x9308 })) (codes "0x9308, TYPE_GUID, ATTRIBUTES, EXTENDED_FLAGS, context 3") (codes "37640")
  pub extended_flags : IsWritten (told.ExtendedFlags (record { 0 = 0x14 })) (codes "0x00000014, REFACTOR_INFO, VARIANT_TYPE") (codes "20")
  pub text : (s : Bor (List ℕ)) (b : ℕ) (more : List ℕ) → s.now ≡ b ∷ more → IsWritten (told.Text s) (shown s.now) (quoted s.now)
  pub no_text : (s : Bor (List ℕ)) → s.now ≡ [] → IsWritten (told.Text s) (codes "none") (codes "\"\"")
  pub guid : IsWritten (told.Guid (0x01 ∷ 0x02 ∷ 0x03 ∷ 0x04 ∷ 0x05 ∷ 0x06 ∷ 0x07 ∷ 0x08 ∷ 0x09 ∷ 0x0A ∷ 0x0B ∷ 0x0C ∷ 0x0D ∷ 0x0E ∷ 0x0F ∷ 0x10 ∷ []))
      (codes "{04030201-0605-0807-090A-0B0C0D0E0F10}") (codes "\"{04030201-0605-0807-090A-0B0C0D0E0F10}\"")
  pub attribute : (a : AdsAttribute) → IsWritten (told.Attribute a) (shown a.name.now ++ (codes " = " ++ shown a.value.now))
      (codes "{\"name\":" ++ (quoted a.name.now ++ (codes ",\"value\":" ++ (quoted a.value.now ++ codes "}"))))
  pub former_name : (s : Bor (List ℕ)) (b : ℕ) (more : List ℕ) → s.now ≡ b ∷ more → IsWritten (told.FormerName s) (shown s.now) (quoted s.now)
  pub no_former_name : (s : Bor (List ℕ)) → s.now ≡ [] → IsWritten (told.FormerName s) (codes "(no name)") (codes "\"\"")
  pub refused : IsWritten (told.Refused (EndByte 41 0x58)) (codes "refusal 16, end byte: byte 41 of the entry is 0x58 and not 0")
      (codes "\"refusal 16, end byte: byte 41 of the entry is 0x58 and not 0\"")
  pub byte : IsWritten (told.Byte 65 0x0A) (codes "byte 65 of the entry is 0x0A") (codes "{\"byte\":65,\"value\":10}")
