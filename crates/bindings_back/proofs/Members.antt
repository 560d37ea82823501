-- Members that were written, as sub-items: what they tell, and which is the first of a name.
use Rattle.std.proofs.Common.{ℕ, ◌≤◌, ◌≡◌, refl, sym, ap, subst, ◌∙◌, List, [], ◌∷◌, ◌++◌, length, length-append, arith, Bor}
use Rattle.std.proofs.lemmas.List.{append_assoc}
use Rattle.le.specs.Le.{le4}
use Rattle.refusal.specs.Refusal.{limit}
use Rattle.refusal.specs.declared.Mode.{Mode}
use Rattle.names.specs.Meaning.{SameLetters}
use Rattle.writing.specs.Layout.{entry_bytes}
use Rattle.regrown.specs.Regrown.{entry_of, upload}
use Rattle.field.specs.Writing.{field_bytes}
use Rattle.field.proofs.Header.{body_of}
use Rattle.fields_regrown.specs.Kind.{IsFit, grown_field}
use Rattle.data_type.specs.declared.AdsDataTypeInfo.{AdsDataTypeInfo}
use Rattle.data_type.specs.Told as data_type
use Rattle.types_regrown.specs.Told.{meant}
use Rattle.types_regrown.specs.Kind.{reads_back}
use Rattle.bind.specs.Reading.{behind, own_of, name_of, type_entry}
use Rattle.bind.specs.Adding.{items_of, NoneNamed, none, other}
use Rattle.bindings_meant.specs.Entries.{IsType}
use Rattle.bindings_meant.proofs.Entries.{entries_meant}
use Rattle.bindings_back.specs.Written.{FitField, field_name, NoneHas, another}
use Rattle.bindings_back.proofs.Uploads as uploads

abbrev pub body : FitField → List ℕ
body g = body_of g.parts ++ g.extra

pub entry_is : (g : FitField) → entry_of IsFit field_bytes g ≡ entry_bytes (body g)
entry_is g = grown_field g.parts g.extra

abbrev pub entry : FitField → List ℕ
entry = entry_of IsFit field_bytes

abbrev pub all : List FitField → List ℕ
all = upload IsFit field_bytes

-- what a sub-item tells whose own bytes were written
pub record Reads (g : FitField) (s : Bor (List ℕ)) : Type 0 where
  pub back : AdsDataTypeInfo
  pub is : (end : ℕ) → IsType back (own_of s).now (name_of s).now (type_entry s end)
  pub tells : data_type.told_of back ≡ meant g.parts g.extra

reads : (mode : Mode) (g : FitField) (s : Bor (List ℕ)) → (own_of s).now ≡ entry g → length (entry g) ≤ limit → Reads g s
reads mode g s own small =
    let b = reads_back mode g.parts g.extra (own_of s) g.fit own (subst (λ (l : List ℕ). length l ≤ limit) (sym own) small) in
    record { back = b.back; is = λ end. entries_meant.data_type mode 15 s end b.back b.is; tells = b.tells }

name_is : (g : FitField) (s : Bor (List ℕ)) → Reads g s → (name_of s).now ≡ g.parts.name.now
name_is g s r = (r.is 0).named ∙ ap (λ (t : data_type.Told). t.field.name) r.tells

-- the first sub-item of the name
pub record First (name : List ℕ) (g : FitField) (items : List (Bor (List ℕ))) : Type 0 where
  pub before : List (Bor (List ℕ))
  pub item : Bor (List ℕ)
  pub later : List (Bor (List ℕ))
  pub among : items ≡ before ++ (item ∷ later)
  pub first : NoneNamed name before
  pub reads_it : Reads g item

pub first_of : (mode : Mode) (name : List ℕ) (before : List FitField) (g : FitField) (later : List FitField) (rest : List ℕ) (s : Bor (List ℕ)) → s.now ≡ all (before ++ (g ∷ later)) ++ rest
    → length (all (before ++ (g ∷ later))) ≤ limit → NoneHas field_name name before → First name g (items_of (length (before ++ (g ∷ later))) s)
unfolding items_of
first_of mode name [] g later rest s is small none_has =
    let split : s.now ≡ entry g ++ (all later ++ rest) = is ∙ append_assoc (entry g) (all later) rest in
    let short : length (entry g) ≤ limit = omega (arith, small, length-append (entry g) (all later)) in
    let o = uploads.own_first s (entry g) (all later ++ rest) split (uploads.whole IsFit field_bytes body entry_is g short) in
    record { before = []; item = s; later = items_of (length later) (behind s (le4 s.now 0)); among = refl; first = none; reads_it = reads mode g s o.0 short }
first_of mode name (b ∷ before) g later rest s is small (another not more) =
    let tail : List ℕ = all (before ++ (g ∷ later)) in
    let split : s.now ≡ entry b ++ (tail ++ rest) = is ∙ append_assoc (entry b) tail rest in
    let long = length-append (entry b) tail in
    let short : length (entry b) ≤ limit = omega (arith, small, long) in
    let o = uploads.own_first s (entry b) (tail ++ rest) split (uploads.whole IsFit field_bytes body entry_is b short) in
    let r = reads mode b s o.0 short in
    let f = first_of mode name before g later rest (behind s (le4 s.now 0)) o.1 (omega (arith, small, long)) more in
    record {
      before = s ∷ f.before;
      item = f.item;
      later = f.later;
      among = ap (λ (l : List (Bor (List ℕ))). s ∷ l) f.among;
      first = other (λ l. not (subst (λ (x : List ℕ). SameLetters x name) (name_is b s r) l)) f.first;
      reads_it = f.reads_it;
    }
