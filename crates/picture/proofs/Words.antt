-- Labels and colours word for word: computed.
use Rattle.std.proofs.Common.{ℕ, ◌+◌, ◌*◌, ◌%◌, ◌≡◌, Bool, true, false, List, codes, refl, ap, arith}
use Rattle.std.specs.Prelude.{◌==◌, if◌then◌else◌}
use Rattle.std.specs.Fmt.{digits}
use Rattle.wording.specs.Wording.{grouped, grouped_by, many, bytes}
use Rattle.sections.specs.Parts.{part_text}
use Rattle.sections.specs.declared.Part.{Part}
use Rattle.sections.specs.declared.Part.TheVariants.{Length, Group, Offset, Size, TypeId, Flags, High, StringLengths, Name, «Type», Comment, Guid, AttributeCount, Attribute, ExtendedFlags, FormerName, Unread}
use Rattle.picture.specs.Rows.{by_turns, colour, label}
use Rattle.picture.specs.Words.{ColoursMeant, LabelsMeant}

even : (k : ℕ) (s t : List ℕ) → by_turns (2 * k) s t ≡ s
even k s t = let e : (2 * k % 2 == 0) ≡ true = grind arith in ap (λ (b : Bool). if b then s else t) e

odd : (k : ℕ) (s t : List ℕ) → by_turns (2 * k + 1) s t ≡ t
odd k s t = let e : ((2 * k + 1) % 2 == 0) ≡ false = grind arith in ap (λ (b : Bool). if b then s else t) e

pub colours_meant : ColoursMeant
unfolding colour
colours_meant = record {
  length = refl;
  group = refl;
  offset = refl;
  size = refl;
  type_id = refl;
  flags = refl;
  high = refl;
  string_lengths = refl;
  name = refl;
  type = refl;
  comment = refl;
  guid = refl;
  attribute_count = refl;
  even_attribute = λ k. even k (codes "33") (codes "96");
  odd_attribute = λ k. odd k (codes "33") (codes "96");
  extended_flags = refl;
  even_former_name = λ k. even k (codes "35") (codes "92");
  odd_former_name = λ k. odd k (codes "35") (codes "92");
  unread = refl;
}

other : (p : Part) (n : ℕ) → (p ≡ Unread → ⊥) → label p n ≡ part_text p
other Length n h = refl
other Group n h = refl
other Offset n h = refl
other Size n h = refl
other TypeId n h = refl
other Flags n h = refl
other High n h = refl
other StringLengths n h = refl
other Name n h = refl
other «Type» n h = refl
other Comment n h = refl
other Guid n h = refl
other AttributeCount n h = refl
other (Attribute k) n h = refl
other ExtendedFlags n h = refl
other (FormerName k) n h = refl
other Unread n h = absurd (h refl)

pub labels_meant : LabelsMeant
unfolding digits grouped grouped_by many bytes
labels_meant = record { unread = refl; other = other }
