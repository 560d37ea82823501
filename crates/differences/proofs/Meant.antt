-- What is told of two entries: proved.
use Rattle.std.proofs.Common.{ℕ, ◌+◌, ◌≤◌, ◌≡◌, refl, sym, ap, subst, ◌∙◌, Bool, true, false, List, [], ◌∷◌, length, arith, Bor}
use Rattle.std.specs.Prelude.{Result, Ok, Err, ◌||◌, is_ok, is_err, if◌then◌else◌}
use Rattle.refusal.specs.Refusal.{limit}
use Rattle.refusal.specs.declared.Mode.{Mode}
use Rattle.refusal.specs.declared.Refusal.{Refusal}
use Rattle.symbol.specs.Symbol.{symbol_of}
use Rattle.symbol.specs.declared.AdsSymbolInfo.{AdsSymbolInfo}
use Rattle.sections.specs.Laid.{LaidOut}
use Rattle.sections.specs.Sections.{sections_of}
use Rattle.sections.specs.declared.Section.{Section}
use Rattle.sections.proofs.Cutting.{sections_laid}
use Rattle.values.specs.Alike.{are_refused_alike}
use Rattle.values.specs.declared.Value.{Value}
use Rattle.values.specs.declared.Value.TheVariants.{Absent, Refused}
use Rattle.values.proofs.Same.{alike_refused, refused_alike}
use Rattle.differences.specs.declared.Entry.{Entry}
use Rattle.differences.specs.First.{first_byte}
use Rattle.differences.specs.Differences.{differences_by, differences_of, in_symbols}
use Rattle.differences.specs.Meant.{AreBytes, AreRefused, Differ, DifferencesMeant, IsRead, IsRefusalTold, IsWithin}
use Rattle.differences.specs.Meant as meant
use Rattle.differences.proofs.Ascending.{sections_ascend}
use Rattle.differences.proofs.Differing.{Fit, differing}
use Rattle.differences.proofs.Front.{first_apart}
use Rattle.differences.proofs.Nothing.{full, nothing_told}
use Rattle.differences.proofs.Unmoved.{same_told}

laid_within : (e : Bor (List ℕ)) (at : ℕ) (all : List Section) → LaidOut e at all → at ≤ length e.now
laid_within e at [] h = omega (arith, h)
laid_within e at (x ∷ more) h = let w = laid_within e (at + length x.bytes.now) more h.3 in omega (arith, w)

fit : (e : Bor (List ℕ)) (at : ℕ) (all : List Section) → length e.now ≤ limit → LaidOut e at all → Fit all
fit e at [] l h = tt
fit e at (x ∷ more) l h = let w = laid_within e (at + length x.bytes.now) more h.3 in (omega (arith, w, h.0), fit e (at + length x.bytes.now) more l h.3)

fits : (e : Bor (List ℕ)) (r : AdsSymbolInfo) → length e.now ≤ limit → Fit (sections_of e r)
fits e r l = fit e 0 (sections_of e r) l (sections_laid e r).laid

no : false ≡ true → ⊥
no h = cc

symbols : (e f : Bor (List ℕ)) (r s : AdsSymbolInfo) → length e.now ≤ limit → length f.now ≤ limit → Differ r s (sections_of e r) (sections_of f s) (in_symbols e r f s)
unfolding in_symbols
symbols e f r s l m = differing r s (sections_of e r) (sections_of f s) (sections_ascend e r) (fits e r l) (sections_ascend f s) (fits f s m)

accepted : (e f : Entry) (r s : AdsSymbolInfo) → IsWithin e → IsWithin f → e.answer ≡ Ok r → f.answer ≡ Ok s
    → Differ r s (sections_of e.bytes r) (sections_of f.bytes s) (differences_of e f)
accepted e f r s l m p q =
    subst (λ (a : Result AdsSymbolInfo Refusal). Differ r s (sections_of e.bytes r) (sections_of f.bytes s) (differences_by e.bytes a f.bytes f.answer)) (sym p)
    (subst (λ (a : Result AdsSymbolInfo Refusal). Differ r s (sections_of e.bytes r) (sections_of f.bytes s) (differences_by e.bytes (Ok r) f.bytes a)) (sym q)
    (symbols e.bytes f.bytes r s l m))

abbrev entry : Bor (List ℕ) → Result AdsSymbolInfo Refusal → Entry
entry e a = record { bytes = e; answer = a }

refused_both : (e f : Bor (List ℕ)) (why other : Refusal) → length e.now ≤ limit → length f.now ≤ limit → (b : Bool) → are_refused_alike why other ≡ b
    → let p : Value × Value = if b then first_byte 0 e.now 0 f.now else (Refused why, Refused other) in AreRefused e.now f.now (Err why) (Err other) p.0 p.1
refused_both e f why other l m true h =
    let p : Value × Value = first_byte 0 e.now 0 f.now in
    subst (λ (w : Refusal). AreRefused e.now f.now (Err why) (Err w) p.0 p.1) (refused_alike why other h)
    (meant.AreRefused.alike (first_apart 0 0 e.now f.now (omega arith) (omega arith)))
refused_both e f why other l m false h =
    meant.AreRefused.apart (λ s. no (sym h ∙ ap (are_refused_alike why) (sym s) ∙ alike_refused why))

refused_by : (e f : Bor (List ℕ)) (a b : Result AdsSymbolInfo Refusal) → length e.now ≤ limit → length f.now ≤ limit → (is_err a || is_err b) ≡ true → IsRefusalTold (entry e a) (entry f b)
refused_by e f (Ok r) (Ok s) l m h = absurd (no h)
refused_by e f (Ok r) (Err why) l m h = record { in_a = Absent; in_b = Refused why; is = refl; told = meant.AreRefused.only_b }
refused_by e f (Err why) (Ok s) l m h = record { in_a = Refused why; in_b = Absent; is = refl; told = meant.AreRefused.only_a }
refused_by e f (Err why) (Err other) l m h =
    let p : Value × Value = if are_refused_alike why other then first_byte 0 e.now 0 f.now else (Refused why, Refused other) in
    record { in_a = p.0; in_b = p.1; is = refl; told = refused_both e f why other l m (are_refused_alike why other) refl }

nothing_by : (mode : Mode) (e f : Bor (List ℕ)) (a b : Result AdsSymbolInfo Refusal)
    → ((r : AdsSymbolInfo) → a ≡ Ok r → symbol_of mode e ≡ Ok r) → ((s : AdsSymbolInfo) → b ≡ Ok s → symbol_of mode f ≡ Ok s)
    → length e.now ≤ limit → length f.now ≤ limit → AreBytes e.now → AreBytes f.now → differences_by e a f b ≡ []
    → ((is_ok a ≡ true) × (is_ok b ≡ true)) × (e.now ≡ f.now)
nothing_by mode e f (Ok r) (Ok s) p q l m be bf h = ((refl, refl), nothing_told mode e f r s _ (p r refl) (q s refl) be bf (symbols e f r s l m) h)
nothing_by mode e f (Ok r) (Err why) p q l m be bf h = absurd (full _ _ h)
nothing_by mode e f (Err why) b p q l m be bf h = absurd (full _ _ h)

same_by : (mode : Mode) (e f : Bor (List ℕ)) (a b : Result AdsSymbolInfo Refusal)
    → ((r : AdsSymbolInfo) → a ≡ Ok r → symbol_of mode e ≡ Ok r) → ((s : AdsSymbolInfo) → b ≡ Ok s → symbol_of mode f ≡ Ok s)
    → is_ok a ≡ true → is_ok b ≡ true → e.now ≡ f.now → differences_by e a f b ≡ []
same_by mode e f (Err why) b p q k n h = absurd (no k)
same_by mode e f (Ok r) (Err why) p q k n h = absurd (no n)
same_by mode e f (Ok r) (Ok s) p q k n h =
    let t = same_told mode e f r (p r refl) h in
    ap (λ (c : Result AdsSymbolInfo Refusal). differences_by e (Ok r) f c) (sym (q s refl) ∙ t.1) ∙ t.2

pub differences_meant : DifferencesMeant
differences_meant = record {
  accepted = accepted;
  refused = λ e f l m h. refused_by e.bytes f.bytes e.answer f.answer l m h;
  nothing = λ mode e f i j be bf h. nothing_by mode e.bytes f.bytes e.answer f.answer i.symbol j.symbol i.within j.within be bf h;
  same = λ mode e f i j k h. same_by mode e.bytes f.bytes e.answer f.answer i.symbol j.symbol k.0 k.1 h;
}
