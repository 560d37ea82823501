-- Where nothing is told of two accepted entries, their bytes are the same: proved.
use Rattle.std.proofs.Common.{ℕ, ◌+◌, ◌<◌, ◌≤◌, ◌≡◌, ◌≢◌, ◌⊎◌, inl, inr, zero, suc, refl, sym, ap, ap₂, subst, ◌∙◌, List, [], ◌∷◌, ◌++◌, length, get_or, take, drop, arith, Bor}
use Rattle.std.specs.List.{flat_map}
use Rattle.std.specs.Prelude.{Ok}
use Rattle.le.specs.Le.{le2}
use Rattle.part.specs.Slice.{part}
use Rattle.refusal.specs.declared.Mode.{Mode}
use Rattle.symbol.specs.Symbol.{symbol_of}
use Rattle.symbol.specs.declared.AdsSymbolInfo.{AdsSymbolInfo}
use Rattle.symbol.proofs.Lies.{symbols_inside}
use Rattle.sections.specs.declared.Part.{Part}
use Rattle.sections.specs.declared.Part.TheVariants.{StringLengths, Name, «Type», Comment}
use Rattle.sections.specs.declared.Section.{Section}
use Rattle.sections.specs.Parts.{kind}
use Rattle.sections.specs.Sections.{own_bytes, sections_of}
use Rattle.sections.specs.Laid.{AreParts, IsPart, LaidOut}
use Rattle.sections.proofs.Cutting.{sections_laid, sections_whole}
use Rattle.sections.proofs.Standing.{sections_told}
use Rattle.differences.specs.declared.Difference.{Difference}
use Rattle.differences.specs.Meant.{AreBytes, Differ}
use Rattle.differences.specs.Meant as meant
use Rattle.differences.proofs.Front.{drop_at}
use Rattle.differences.proofs.Present.{Has, strings_present}

pub full : (d : Difference) (ds : List Difference) → d ∷ ds ≡ [] → ⊥
full d ds h = cc

-- the same parts, and but for the lengths of the strings the same bytes
abbrev pub Alike : List Section → List Section → Type 0
Alike [] [] = Unit {0}
Alike [] (y ∷ ys) = ⊥
Alike (x ∷ xs) [] = ⊥
Alike (x ∷ xs) (y ∷ ys) = (x.part ≡ y.part) × ((x.bytes.now ≡ y.bytes.now) ⊎ (x.part ≡ StringLengths)) × Alike xs ys

alike_of : (r s : AdsSymbolInfo) (xs ys : List Section) (ds : List Difference) → Differ r s xs ys ds → ds ≡ [] → Alike xs ys
alike_of r s _ _ _ meant.Differ.done h = tt
alike_of r s _ _ _ (meant.Differ.alike p b on) h = (p, inl b, alike_of r s _ _ _ on h)
alike_of r s _ _ _ (meant.Differ.lengths p q on) h = (p ∙ sym q, inr p, alike_of r s _ _ _ on h)
alike_of r s _ _ _ (meant.Differ.apart p l b t on) h = absurd (full _ _ h)
alike_of r s _ _ _ (meant.Differ.only_in_a b on) h = absurd (full _ _ h)
alike_of r s _ _ _ (meant.Differ.only_in_b b on) h = absurd (full _ _ h)

no_part : (p q : Part) → kind p ≢ kind q → p ≢ q
no_part p q n h = n (ap kind h)

-- a number in the header that is told by the length of a string
length_alike : (e f : Bor (List ℕ)) (r s : AdsSymbolInfo) (p : Part) (F : Bor (List ℕ) → ℕ) → p ≢ StringLengths
    → ((g : Bor (List ℕ)) (t : AdsSymbolInfo) (at : ℕ) (bytes : Bor (List ℕ)) → IsPart g t p at bytes → length bytes.now ≡ F g + 1)
    → (xs ys : List Section) → Has p xs → Alike xs ys → AreParts e r xs → AreParts f s ys → F e ≡ F f
length_alike e f r s p F n told [] ys has alike parts others = absurd has
length_alike e f r s p F n told (x ∷ xs) [] has alike parts others = absurd alike
length_alike e f r s p F n told (x ∷ xs) (y ∷ ys) (inr more) alike parts others = length_alike e f r s p F n told xs ys more alike.2 parts.1 others.1
length_alike e f r s p F n told (x ∷ xs) (y ∷ ys) (inl h) alike parts others = by alike.1
  where
    by : (x.bytes.now ≡ y.bytes.now) ⊎ (x.part ≡ StringLengths) → F e ≡ F f
    by (inl b) =
        let a : length x.bytes.now ≡ F e + 1 = told e r x.at x.bytes (subst (λ (q : Part). IsPart e r q x.at x.bytes) h parts.0) in
        let c : length y.bytes.now ≡ F f + 1 = told f s y.at y.bytes (subst (λ (q : Part). IsPart f s q y.at y.bytes) (sym alike.0 ∙ h) others.0) in
        let d : length x.bytes.now ≡ length y.bytes.now = ap (λ (l : List ℕ). length l) b in
        omega (arith, a, c, d)
    by (inr l) = absurd (n (sym h ∙ l))

bounded : (s : List ℕ) (k : ℕ) → AreBytes s → get_or s k 0 < 256
bounded [] k h = omega arith
bounded (b ∷ s) zero h = h.0
bounded (b ∷ s) (suc k) h = bounded s k h.1

abbrev six : List ℕ → List ℕ
six s = get_or s 24 0 ∷ get_or s 25 0 ∷ get_or s 26 0 ∷ get_or s 27 0 ∷ get_or s 28 0 ∷ get_or s 29 0 ∷ []

six_of : (s : List ℕ) → 30 ≤ length s → take 6 (drop 24 s) ≡ six s
six_of s h =
    ap (λ (l : List ℕ). take 6 l) (drop_at s 24 (omega arith))
    ∙ ap (λ (l : List ℕ). get_or s 24 0 ∷ take 5 l) (drop_at s 25 (omega arith))
    ∙ ap (λ (l : List ℕ). get_or s 24 0 ∷ get_or s 25 0 ∷ take 4 l) (drop_at s 26 (omega arith))
    ∙ ap (λ (l : List ℕ). get_or s 24 0 ∷ get_or s 25 0 ∷ get_or s 26 0 ∷ take 3 l) (drop_at s 27 (omega arith))
    ∙ ap (λ (l : List ℕ). get_or s 24 0 ∷ get_or s 25 0 ∷ get_or s 26 0 ∷ get_or s 27 0 ∷ take 2 l) (drop_at s 28 (omega arith))
    ∙ ap (λ (l : List ℕ). get_or s 24 0 ∷ get_or s 25 0 ∷ get_or s 26 0 ∷ get_or s 27 0 ∷ get_or s 28 0 ∷ take 1 l) (drop_at s 29 (omega arith))

two_alike : (s t : List ℕ) (k : ℕ) → AreBytes s → AreBytes t → le2 s k ≡ le2 t k → (get_or s k 0 ≡ get_or t k 0) × (get_or s (k + 1) 0 ≡ get_or t (k + 1) 0)
unfolding le2
two_alike s t k f g h =
    let a = bounded s k f in
    let b = bounded s (k + 1) f in
    let c = bounded t k g in
    let d = bounded t (k + 1) g in
    (omega arith, omega arith)

lengths_alike : (s t : List ℕ) → 30 ≤ length s → 30 ≤ length t → AreBytes s → AreBytes t → le2 s 24 ≡ le2 t 24 → le2 s 26 ≡ le2 t 26 → le2 s 28 ≡ le2 t 28
    → take 6 (drop 24 s) ≡ take 6 (drop 24 t)
lengths_alike s t l m f g a b c =
    let i = two_alike s t 24 f g a in
    let j = two_alike s t 26 f g b in
    let k = two_alike s t 28 f g c in
    let same : six s ≡ six t = rw (i.0, i.1, j.0, j.1, k.0, k.1) refl in
    six_of s l ∙ same ∙ sym (six_of t m)

-- the bytes that the lengths are
lengths_in : (e : Bor (List ℕ)) (r : AdsSymbolInfo) (x : Section) (at : ℕ) → x.at ≡ at → x.bytes ≡ part e at (length x.bytes.now) → IsPart e r x.part x.at x.bytes → x.part ≡ StringLengths
    → x.bytes.now ≡ take 6 (drop 24 e.now)
lengths_in e r x at a b p h =
    let spans : IsPart e r StringLengths x.at x.bytes = subst (λ (q : Part). IsPart e r q x.at x.bytes) h p in
    let place : at ≡ 24 = sym a ∙ spans.0 in
    ap (λ (q : Bor (List ℕ)). q.now) b ∙ ap₂ (λ (k n : ℕ). take n (drop k e.now)) place spans.1

whole_alike : (e f : Bor (List ℕ)) (r s : AdsSymbolInfo) → take 6 (drop 24 e.now) ≡ take 6 (drop 24 f.now) → (xs ys : List Section) (at to : ℕ)
    → LaidOut e at xs → LaidOut f to ys → AreParts e r xs → AreParts f s ys → Alike xs ys → flat_map own_bytes xs ≡ flat_map own_bytes ys
whole_alike e f r s six [] [] at to laid others parts told alike = refl
whole_alike e f r s six [] (y ∷ ys) at to laid others parts told alike = absurd alike
whole_alike e f r s six (x ∷ xs) [] at to laid others parts told alike = absurd alike
whole_alike e f r s six (x ∷ xs) (y ∷ ys) at to laid others parts told alike =
    ap₂ (λ (a b : List ℕ). a ++ b) (by alike.1) (whole_alike e f r s six xs ys _ _ laid.3 others.3 parts.1 told.1 alike.2)
  where
    by : (x.bytes.now ≡ y.bytes.now) ⊎ (x.part ≡ StringLengths) → x.bytes.now ≡ y.bytes.now
    by (inl b) = b
    by (inr l) = lengths_in e r x at laid.0 laid.2 parts.0 l ∙ six ∙ sym (lengths_in f s y to others.0 others.2 told.0 (sym alike.0 ∙ l))

pub nothing_told : (mode : Mode) (e f : Bor (List ℕ)) (r s : AdsSymbolInfo) (ds : List Difference) → symbol_of mode e ≡ Ok r → symbol_of mode f ≡ Ok s → AreBytes e.now → AreBytes f.now
    → Differ r s (sections_of e r) (sections_of f s) ds → ds ≡ [] → e.now ≡ f.now
nothing_told mode e f r s ds p q be bf differ none =
    let i = symbols_inside mode e r p in
    let j = symbols_inside mode f s q in
    let xs : List Section = sections_of e r in
    let ys : List Section = sections_of f s in
    let alike : Alike xs ys = alike_of r s xs ys ds differ none in
    let parts : AreParts e r xs = sections_told mode e r p in
    let others : AreParts f s ys = sections_told mode f s q in
    let has = strings_present mode e r p in
    let name : le2 e.now 24 ≡ le2 f.now 24 =
    length_alike e f r s Name (λ (g : Bor (List ℕ)). le2 g.now 24) (no_part Name StringLengths (λ h. cc)) (λ g t at bytes h. h.1) xs ys has.name alike parts others in
    let type_name : le2 e.now 26 ≡ le2 f.now 26 =
    length_alike e f r s «Type» (λ (g : Bor (List ℕ)). le2 g.now 26) (no_part «Type» StringLengths (λ h. cc)) (λ g t at bytes h. h.1) xs ys has.type_name alike parts others in
    let comment : le2 e.now 28 ≡ le2 f.now 28 =
    length_alike e f r s Comment (λ (g : Bor (List ℕ)). le2 g.now 28) (no_part Comment StringLengths (λ h. cc)) (λ g t at bytes h. h.1) xs ys has.comment alike parts others in
    let lengths = lengths_alike e.now f.now (omega (arith, i.comment.within)) (omega (arith, j.comment.within)) be bf name type_name comment in
    sym (sections_whole e r) ∙ whole_alike e f r s lengths xs ys 0 0 (sections_laid e r).laid (sections_laid f s).laid parts others alike ∙ sections_whole f s
