-- docs/FORMAT.md, "Name index". Those of some starts at which a name begins with a text.
use Rattle.std.specs.Prelude.{ℕ, ◌≡◌, true, false, Bool, List, ◌++◌, All, length, take}
use Rattle.std.specs.declared.cmp.Ordering.{Ordering}
use Rattle.std.specs.Ordering.{is_lt, is_le}
use Rattle.names.specs.Names.{same_name}
use Rattle.name_order.specs.declared.places.NamePlaces.{NamePlaces}
use Rattle.name_order.specs.Order.{name_at, name_cmp}

-- a name begins with a text, in any case of A to Z
abbrev pub begins : List ℕ → List ℕ → Bool
begins name text = same_name (take (length text) name) text

abbrev pub begins_at : NamePlaces → List ℕ → List ℕ → ℕ → Bool
begins_at w s text at = begins (name_at w s at) text

-- a name that is cut to the length of a text, beside the text
unfoldable pub front_cmp : List ℕ → List ℕ → Ordering
front_cmp text name = name_cmp (take (length text) name) text

-- the name at a place comes before all that begin with a text; and not behind all of them
abbrev pub is_before : NamePlaces → List ℕ → List ℕ → ℕ → Bool
is_before w s text at = is_lt (front_cmp text (name_at w s at))

abbrev pub is_no_further : NamePlaces → List ℕ → List ℕ → ℕ → Bool
is_no_further w s text at = is_le (front_cmp text (name_at w s at))

-- neighbours among some numbers, in their order
pub record IsRun (all run : List ℕ) : Type 0 where
  pub before : List ℕ
  pub behind : List ℕ
  pub is : all ≡ before ++ (run ++ behind)

-- a run of those that pass a test, and none that passes it stands before or behind it
pub record IsBranch (test : ℕ → Bool) (all run : List ℕ) : Type 0 where
  pub before : List ℕ
  pub behind : List ℕ
  pub is : all ≡ before ++ (run ++ behind)
  pub none_before : All (λ at. test at ≡ false) before
  pub each : All (λ at. test at ≡ true) run
  pub none_behind : All (λ at. test at ≡ false) behind
