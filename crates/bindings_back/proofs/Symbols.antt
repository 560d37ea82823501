-- A symbol that was written is found by its name.
use Rattle.std.proofs.Common.{ℕ, ◌+◌, ◌≤◌, ◌≡◌, sym, ap, subst, ◌∙◌, true, List, [], ◌∷◌, ◌++◌, length, length-append, take, drop, arith, Bor}
use Rattle.std.specs.Prelude.{Result, Ok, Some}
use Rattle.std.specs.Option.{option_map}
use Rattle.std.proofs.Math.Seq.{drop-append_seam, take-append_seam}
use Rattle.std.proofs.lemmas.List.{append_assoc}
use mathlib.Core.List.{append-nil}
use Rattle.std.proofs.lemmas.List.Elements.{All-nil, All-cons, All-head, All-tail}
use Rattle.part.specs.Slice.{part}
use Rattle.part.specs.Outcome.{and_then}
use Rattle.refusal.specs.Refusal.{limit}
use Rattle.refusal.specs.declared.Mode.{Mode}
use Rattle.refusal.specs.declared.Refusal.{Refusal}
use Rattle.names.specs.Names.{same_name}
use Rattle.names.specs.Meaning.{SameLetters, itself, letter}
use Rattle.names.specs.Meaning as letters_of
use Rattle.names.proofs.Meaning.{same_by_letters}
use Rattle.entry.specs.Entry.{claim_at, claimed}
use Rattle.entry.specs.declared.Claimed.{Claimed}
use Rattle.entry.specs.Walk.{steps}
use Rattle.walk.specs.Step.{step_at}
use Rattle.writing.specs.Layout.{entry_bytes}
use Rattle.regrown.specs.Regrown.{entry_of, upload}
use Rattle.regrown.proofs.Whole.{claim_whole}
use Rattle.symbol.specs.declared.AdsSymbolInfo.{AdsSymbolInfo}
use Rattle.symbol.specs.Symbol.{symbol_of}
use Rattle.symbol.specs.Told as symbol
use Rattle.symbol.specs.Kind as kind
use Rattle.symbol.specs.Writing.{symbol_bytes}
use Rattle.symbol.proofs.Header.{body_of}
use Rattle.symbols_regrown.specs.Kind.{IsFit, grown_symbol, reads_back}
use Rattle.name_find.specs.Find as any
use Rattle.name_find.proofs.Meaning.{has_of, named_of}
use Rattle.symbol_find.specs.Find.{own_name}
use Rattle.symbol_find.specs.Meaning.{HasName, Nowhere}
use Rattle.bindings_meant.specs.Reaches.{SymbolNamed}
use Rattle.bindings_back.specs.Written.{FitSymbol, symbol_name, NoneHas, nobody, another}
use Rattle.bindings_back.proofs.Uploads as uploads

abbrev pub body : FitSymbol → List ℕ
body g = body_of g.parts ++ g.extra

pub entry_is : (g : FitSymbol) → entry_of IsFit symbol_bytes g ≡ entry_bytes (body g)
entry_is g = grown_symbol g.parts g.extra

abbrev pub entry : FitSymbol → List ℕ
entry = entry_of IsFit symbol_bytes

abbrev pub all : List FitSymbol → List ℕ
all = upload IsFit symbol_bytes

abbrev pub places : ℕ → List FitSymbol → List ℕ
places = uploads.places IsFit symbol_bytes body entry_is

module _ (mode : Mode) (s : Bor (List ℕ)) (small : length s.now ≤ limit) (name : List ℕ) where
  -- what a step gives at one of them has its name
  named_there : (p : List ℕ) (g : FitSymbol) (q : List ℕ) → s.now ≡ p ++ (entry g ++ q) → any.is_named own_name (symbol_of mode) s name (length p) ≡ same_name g.parts.name.now name
  unfolding any.is_named step_at
  named_there p g q is =
      let e : List ℕ = entry g in
      let long : length s.now ≡ length p + (length e + length q) = ap (λ (l : List ℕ). length l) is ∙ length-append p (e ++ q) ∙ ap (λ (k : ℕ). length p + k) (length-append e q) in
      let short : length e ≤ limit = omega (arith, small, long) in
      let w = uploads.whole IsFit symbol_bytes body entry_is g short in
      let c : claim_at s.now (length p) ≡ claimed (Some (Ok (length e))) (length p + length e) =
      ap (λ (l : List ℕ). claim_at l (length p)) is ∙ claim_whole p e q w (subst (λ (l : List ℕ). length l ≤ limit) is small) in
      let own : Bor (List ℕ) = part s (length p) (length e) in
      let own_is : own.now ≡ e = ap (λ (l : List ℕ). take (length e) (drop (length p) l)) is ∙ ap (take (length e)) (drop-append_seam p (e ++ q)) ∙ take-append_seam e q in
      let b = reads_back mode g.parts g.extra own g.fit own_is (subst (λ (l : List ℕ). length l ≤ limit) (sym own_is) short) in
      ap (λ (x : Claimed). any.has_name own_name name (option_map (λ claim. and_then claim (λ size. symbol_of mode (part s (length p) size))) x.size)) c
      ∙ ap (λ (r : Result AdsSymbolInfo Refusal). any.has_name own_name name (Some r)) b.is
      ∙ ap (λ (t : symbol.Told). same_name t.name name) b.tells

  nowhere : (p : List ℕ) (gs : List FitSymbol) (q : List ℕ) → s.now ≡ p ++ (all gs ++ q) → NoneHas symbol_name name gs → Nowhere mode s name (places (length p) gs)
  nowhere p [] q is nobody = All-nil _
  nowhere p (g ∷ gs) q is (another not more) =
      let first : s.now ≡ p ++ (entry g ++ (all gs ++ q)) = is ∙ ap (λ (l : List ℕ). p ++ l) (append_assoc (entry g) (all gs) q) in
      let on : s.now ≡ (p ++ entry g) ++ (all gs ++ q) = first ∙ sym (append_assoc p (entry g) (all gs ++ q)) in
      All-cons (λ at. ¬ HasName mode s name at) (length p) (places (length p + length (entry g)) gs)
      (λ has. not ((same_by_letters g.parts.name.now name).0 (sym (named_there p g (all gs ++ q) first) ∙ named_of 30 symbol_of (λ r. r.length) own_name kind.four kind.long kind.room mode s name (length p) small has)))
      (subst (λ (k : ℕ). Nowhere mode s name (places k gs)) (length-append p (entry g)) (nowhere (p ++ entry g) gs q on more))

  steps_all : (gs : List FitSymbol) → s.now ≡ all gs → steps s.now ≡ places 0 gs
  unfolding steps
  steps_all gs is =
      ap steps is ∙ uploads.steps_are IsFit symbol_bytes body entry_is [] gs (length (all gs)) (subst (λ (l : List ℕ). length l ≤ limit) is small) (omega arith)

  pub is_named : (before : List FitSymbol) (g : FitSymbol) (later : List FitSymbol) → s.now ≡ all (before ++ (g ∷ later)) → g.parts.name.now ≡ name → NoneHas symbol_name name before → SymbolNamed mode s name (length (all before))
  is_named before g later is same none =
      let split : s.now ≡ all before ++ (entry g ++ all later) = is ∙ uploads.upload_split IsFit symbol_bytes body entry_is before g later in
      let start : 0 + length (all before) ≡ length (all before) = omega arith in
      let yes : same_name g.parts.name.now name ≡ true = (same_by_letters g.parts.name.now name).1 (as_equal g.parts.name.now name same) in
      record {
        before = places 0 before;
        behind = places (length (all before) + length (entry g)) later;
        among =
            steps_all (before ++ (g ∷ later)) is ∙ uploads.places_split IsFit symbol_bytes body entry_is 0 before g later
            ∙ ap (λ (k : ℕ). places 0 before ++ (k ∷ places (k + length (entry g)) later)) start;
        has = has_of 30 symbol_of (λ r. r.length) own_name kind.four kind.long kind.room mode s name (length (all before)) (named_there (all before) g (all later) split ∙ yes);
        first = nowhere [] before (entry g ++ all later) split none;
      }
    where
      letters : (a : List ℕ) → SameLetters a a
      letters [] = letters_of.SameLetters.end
      letters (x ∷ a) = letter itself (letters a)

      as_equal : (a b : List ℕ) → a ≡ b → SameLetters a b
      as_equal a b e = subst (SameLetters a) e (letters a)

  -- and none is, where none of them has the name
  pub nobody_named : (gs : List FitSymbol) → s.now ≡ all gs → NoneHas symbol_name name gs → (at : ℕ) → SymbolNamed mode s name at → ⊥
  nobody_named gs is none at f =
      let here : s.now ≡ [] ++ (all gs ++ []) = is ∙ sym (append-nil (all gs)) in
      let all_of : Nowhere mode s name (steps s.now) = subst (Nowhere mode s name) (sym (steps_all gs is)) (nowhere [] gs [] here none) in
      among f.before f.behind (subst (Nowhere mode s name) f.among all_of)
    where
      among : (xs ys : List ℕ) → Nowhere mode s name (xs ++ (at ∷ ys)) → ⊥
      among [] ys a = All-head (λ x. ¬ HasName mode s name x) at ys a f.has
      among (x ∷ xs) ys a = among xs ys (All-tail (λ y. ¬ HasName mode s name y) x (xs ++ (at ∷ ys)) a)
