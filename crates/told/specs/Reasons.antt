-- docs/FORMAT.md, "Why": the six slots of a reason, as bindings/c/vindaskot.h numbers them, and those of each section.
use Rattle.std.specs.Prelude.{ℕ, ◌≡◌, List, [], ◌∷◌}
use Rattle.refusal.specs.Refusal.{figures_of}
use Rattle.refusal.specs.declared.Figures.{Figures}
use Rattle.refusal.specs.declared.Refusal.TheVariants.{TooShort}
use Rattle.why.specs.declared.Reason.{Reason}
use Rattle.why.specs.declared.Reason.TheVariants.{NotFlagged, NoExtendedFlags, NoRoom, Whole, Refused, Owed}
use Rattle.why.specs.declared.Reasons.{Reasons}

-- its number, a place or a count, a count, and the three numbers of a refusal
abbrev pub six : ℕ → ℕ → ℕ → Figures → List ℕ
six number first second f = number ∷ first ∷ second ∷ f.number ∷ f.expected ∷ f.got ∷ []

abbrev pub none : Figures
none = record { number = 0; expected = 0; got = 0 }

abbrev pub reason_slots : Reason → List ℕ
reason_slots NotFlagged = six 1 0 0 none
reason_slots NoExtendedFlags = six 2 0 0 none
reason_slots (NoRoom at left) = six 3 at left none
reason_slots (Whole at count) = six 4 at count none
reason_slots (Refused before at why) = six 5 at before (figures_of why)
reason_slots (Owed announced owed) = six 6 announced owed none

abbrev pub guid_slots : Reasons → List ℕ
guid_slots x = reason_slots x.guid

abbrev pub attributes_slots : Reasons → List ℕ
attributes_slots x = reason_slots x.attributes

abbrev pub extended_slots : Reasons → List ℕ
extended_slots x = reason_slots x.extended_flags

abbrev pub chain_slots : Reasons → List ℕ
chain_slots x = reason_slots x.refactor_infos

-- the slots of a reason tell which it is, figures included
abbrev pub ReasonsTold : Type 0
ReasonsTold = (x y : Reason) → reason_slots x ≡ reason_slots y → x ≡ y

-- four different reasons in one symbol, every figure of them different
abbrev pub four_reasons : Reasons
four_reasons = record {
  guid = NoRoom 51 7;
  attributes = Owed 20 12;
  extended_flags = Whole 63 8;
  refactor_infos = Refused 9 74 (TooShort 15 10);
}

-- slot by slot: of no room the place and the bytes left; of attributes those announced and those owed; of what is whole the place and how many; of a refused record its place, which of the list it is, and its number, E and G
pub record SlotsInOrder : Type 0 where
  pub guid : guid_slots four_reasons ≡ 3 ∷ 51 ∷ 7 ∷ 0 ∷ 0 ∷ 0 ∷ []
  pub attributes : attributes_slots four_reasons ≡ 6 ∷ 20 ∷ 12 ∷ 0 ∷ 0 ∷ 0 ∷ []
  pub extended_flags : extended_slots four_reasons ≡ 4 ∷ 63 ∷ 8 ∷ 0 ∷ 0 ∷ 0 ∷ []
  pub chain : chain_slots four_reasons ≡ 5 ∷ 74 ∷ 9 ∷ 2 ∷ 15 ∷ 10 ∷ []
  pub not_flagged : reason_slots NotFlagged ≡ 1 ∷ 0 ∷ 0 ∷ 0 ∷ 0 ∷ 0 ∷ []
  pub no_extended_flags : reason_slots NoExtendedFlags ≡ 2 ∷ 0 ∷ 0 ∷ 0 ∷ 0 ∷ 0 ∷ []
