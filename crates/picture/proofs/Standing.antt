-- Each byte of an entry in its place of the picture.
use Rattle.std.proofs.Common.{ℕ, zero, suc, ◌+◌, ◌-◌, ◌*◌, ◌/◌, ◌%◌, ◌<◌, ◌≤◌, ◌≡◌, Bool, true, false, List, [], ◌∷◌, ◌++◌, codes, decimal, get_or, length, take, drop, refl, sym, ap, ap₂, subst, ◌∙◌, append_assoc, append-nil, length-take, length-drop, arith, Bor, eqb→eq}
use Rattle.std.specs.Prelude.{◌==◌, ◌&&◌, eqb, min, nat_lt, nat_le, replicate, filter, Contains, if◌then◌else◌}
use Rattle.std.specs.Int.{div_ceil}
use Rattle.std.specs.List.{flat_map, join_by, list_any, range_with_len}
use Rattle.std.proofs.lemmas.List.{get_or-take, get_or-drop}
use Rattle.std.proofs.lemmas.List.Elements.{Contains-append_right}
use borrow.Author.Tests.{eqb-true, leb-true}
use Rattle.text.proofs.Table.{below_at}
use Rattle.part.specs.Slice.{part}
use Rattle.wording.specs.Text.{pair}
use Rattle.wording.specs.Wording.{capital}
use Rattle.wording.specs.Meant.{digit}
use Rattle.report.specs.Cells.{number_cell}
use Rattle.sections.specs.Parts.{part_text}
use Rattle.sections.specs.Sections.{sections_of}
use Rattle.sections.specs.Laid.{LaidOut}
use Rattle.sections.proofs.Cutting.{sections_laid}
use Rattle.sections.specs.declared.Part.{Part}
use Rattle.sections.specs.declared.Part.TheVariants.{Length, Group, Offset, Size, TypeId, Flags, High, StringLengths, Name, «Type», Comment, Guid, AttributeCount, Attribute, ExtendedFlags, FormerName, Unread}
use Rattle.sections.specs.declared.Section.{Section}
use Rattle.picture.specs.Rows.{colour, paint, unpaint, bytes_within, pairs_text, rule, section_text, label, name_text, behind, within, ends_at, ends_by, row_text, row_of, picture_text}
use Rattle.picture.specs.Seen.{none, Shows}
use Rattle.picture.specs.Seen as seen
use Rattle.picture.specs.Meant.{in_colour, before, AreBytes, stands_in, name_seen, names_seen, IsRow, AreRows, IsPicture, PictureMeant}
use Rattle.picture.specs.Meant as meant
use Rattle.picture.proofs.Drawn.{IsClear, clear_append, clear_cons, clear_spaces, clear_decimal, clear_bytes, Drawn, drawn_nil, drawn_append, drawn_plain, IsColour, drawn_coloured}

-- colours are digits and semicolons
few_by : (b : Bool) (s t : List ℕ) → IsColour s → IsColour t → IsColour (if b then s else t)
few_by true s t p q = p
few_by false s t p q = q

colour_is : (p : Part) → IsColour (colour p)
unfolding colour
colour_is Length = record { is = refl }
colour_is Group = record { is = refl }
colour_is Offset = record { is = refl }
colour_is Size = record { is = refl }
colour_is TypeId = record { is = refl }
colour_is Flags = record { is = refl }
colour_is High = record { is = refl }
colour_is StringLengths = record { is = refl }
colour_is Name = record { is = refl }
colour_is «Type» = record { is = refl }
colour_is Comment = record { is = refl }
colour_is Guid = record { is = refl }
colour_is AttributeCount = record { is = refl }
colour_is (Attribute n) = few_by (n % 2 == 0) (codes "33") (codes "96") (record { is = refl }) (record { is = refl })
colour_is ExtendedFlags = record { is = refl }
colour_is (FormerName n) = few_by (n % 2 == 0) (codes "35") (codes "92") (record { is = refl }) (record { is = refl })
colour_is Unread = record { is = refl }

-- names have no escape in them
called_is : (p : Part) → IsClear (part_text p)
unfolding part_text
called_is Length = record { is = refl }
called_is Group = record { is = refl }
called_is Offset = record { is = refl }
called_is Size = record { is = refl }
called_is TypeId = record { is = refl }
called_is Flags = record { is = refl }
called_is High = record { is = refl }
called_is StringLengths = record { is = refl }
called_is Name = record { is = refl }
called_is «Type» = record { is = refl }
called_is Comment = record { is = refl }
called_is Guid = record { is = refl }
called_is AttributeCount = record { is = refl }
called_is (Attribute n) = clear_append (codes "attribute ") _ (record { is = refl }) (clear_decimal n)
called_is ExtendedFlags = record { is = refl }
called_is (FormerName n) = clear_append (codes "former name ") _ (record { is = refl }) (clear_decimal n)
called_is Unread = record { is = refl }

label_is : (p : Part) (n : ℕ) → IsClear (label p n)
label_is Length n = called_is Length
label_is Group n = called_is Group
label_is Offset n = called_is Offset
label_is Size n = called_is Size
label_is TypeId n = called_is TypeId
label_is Flags n = called_is Flags
label_is High n = called_is High
label_is StringLengths n = called_is StringLengths
label_is Name n = called_is Name
label_is «Type» n = called_is «Type»
label_is Comment n = called_is Comment
label_is Guid n = called_is Guid
label_is AttributeCount n = called_is AttributeCount
label_is (Attribute k) n = called_is (Attribute k)
label_is ExtendedFlags n = called_is ExtendedFlags
label_is (FormerName k) n = called_is (FormerName k)
label_is Unread n = clear_append (codes "unread, ") _ (record { is = refl }) (clear_bytes n)

-- text in the colour of a part
painted : (p : Part) (t : List ℕ) → IsClear t → Drawn (paint true p ++ (t ++ unpaint true)) (paint false p ++ (t ++ unpaint false)) (in_colour (colour p) t)
unfolding paint unpaint
painted p t g =
    subst (λ (l : List ℕ). Drawn (27 ∷ codes "[" ++ (colour p ++ codes "m") ++ (t ++ 27 ∷ codes "[0m")) l (in_colour (colour p) t)) (sym (append-nil t)) (drawn_coloured (colour p) t (colour_is p) g)

-- a byte's digits
same_digit : ℕ → Bool
same_digit d = eqb (capital d) (digit d)

capital_is : (d : ℕ) → d < 16 → capital d ≡ digit d
unfolding same_digit
capital_is d h = eqb→eq (capital d) (digit d) (below_at same_digit 16 tt d h)

high_clear : (d : ℕ) → capital d ≡ 27 → ⊥
high_clear d e = grind arith

pair_clear : (b : ℕ) (t : List ℕ) → IsClear t → IsClear (pair b ++ t)
pair_clear b t h = clear_cons (capital (b / 16)) (capital (b % 16) ∷ t) (high_clear (b / 16)) (clear_cons (capital (b % 16)) t (high_clear (b % 16)) h)

more_clear : (bs : List ℕ) → IsClear (flat_map (λ b. codes " " ++ pair b) bs)
more_clear [] = record { is = refl }
more_clear (b ∷ bs) = clear_cons 32 (pair b ++ flat_map (λ b. codes " " ++ pair b) bs) (λ e. absurd (omega arith)) (pair_clear b _ (more_clear bs))

pairs_clear : (bs : List ℕ) → IsClear (pairs_text bs)
unfolding pairs_text
pairs_clear [] = record { is = refl }
pairs_clear (b ∷ bs) = pair_clear b _ (more_clear bs)

rule_clear : (b : Bool) → IsClear (rule b)
rule_clear true = record { is = refl }
rule_clear false = record { is = refl }

-- what is shown of a section's bytes in a row
abbrev section_seen : ℕ → ℕ → Section → List (ℕ × List ℕ)
section_seen start end x = in_colour none (rule (nat_le start x.at)) ++ in_colour (colour x.part) (pairs_text (bytes_within start end x))

section_drawn : (start end : ℕ) (x : Section) → Drawn (section_text true start end x) (section_text false start end x) (section_seen start end x)
unfolding section_text
section_drawn start end x =
    drawn_append _ _ _ _ _ _ (drawn_plain (rule (nat_le start x.at)) (rule_clear (nat_le start x.at))) (painted x.part (pairs_text (bytes_within start end x)) (pairs_clear (bytes_within start end x)))

-- bytes are those of an entry from a place on
abbrev Stands : List ℕ → ℕ → List ℕ → Type 0
Stands e i bs = (j : ℕ) → j < length bs → get_or bs j 0 ≡ get_or e (i + j) 0

abbrev AreLow : List ℕ → Type 0
AreLow e = (k : ℕ) → get_or e k 0 < 256

stands_more : (e : List ℕ) (i b : ℕ) (bs : List ℕ) → Stands e i (b ∷ bs) → Stands e (i + 1) bs
stands_more e i b bs h j l = h (suc j) (omega arith) ∙ ap (λ (k : ℕ). get_or e k 0) (omega arith)

stands_first : (e : List ℕ) (i b : ℕ) (bs : List ℕ) → Stands e i (b ∷ bs) → get_or e i 0 ≡ b
stands_first e i b bs h = ap (λ (k : ℕ). get_or e k 0) (omega arith) ∙ sym (h 0 (omega arith))

record IsAt (e : List ℕ) (all : List Section) (x : Section) : Type 0 where
  low : AreLow e
  among : Contains all x

one_byte : (e : List ℕ) (all : List Section) (start end i b : ℕ) (x : Section) (f : ℕ × List ℕ) (more : List (ℕ × List ℕ)) → IsAt e all x → f ≡ before x start i → get_or e i 0 ≡ b
    → x.at ≤ i → i < x.at + length x.bytes.now → AreBytes e all start end (i + 1) more
    → AreBytes e all start end i (f ∷ (capital (b / 16), colour x.part) ∷ (capital (b % 16), colour x.part) ∷ more)
one_byte e all start end i b x f more is first own from to h =
    let low : b < 256 = omega (arith, is.low i) in
    let p : capital (b / 16) ≡ digit (b / 16) = capital_is (b / 16) (omega arith) in
    let q : capital (b % 16) ≡ digit (b % 16) = capital_is (b % 16) (omega arith) in
    let same : f ∷ (capital (b / 16), colour x.part) ∷ (capital (b % 16), colour x.part) ∷ more ≡ before x start i ∷ (digit (b / 16), colour x.part) ∷ (digit (b % 16), colour x.part) ∷ more = cc in
    subst (λ (l : List (ℕ × List ℕ)). AreBytes e all start end i l) (sym same)
    (meant.AreBytes.byte i (b / 16) (b % 16) x more is.among from to (omega arith) (omega arith) (omega arith) h)

-- those behind the first in a row
more_bytes : (e : List ℕ) (all : List Section) (start end i : ℕ) (x : Section) (bs : List ℕ) (more : List (ℕ × List ℕ)) → IsAt e all x → Stands e i bs
    → x.at < i → start < i → i + length bs ≤ x.at + length x.bytes.now → AreBytes e all start end (i + length bs) more
    → AreBytes e all start end i (in_colour (colour x.part) (flat_map (λ b. codes " " ++ pair b) bs) ++ more)
more_bytes e all start end i x [] more is own from in_row to h = subst (λ (k : ℕ). AreBytes e all start end k more) (omega arith) h
more_bytes e all start end i x (b ∷ bs) more is own from in_row to h =
    one_byte e all start end i b x (32, colour x.part) (in_colour (colour x.part) (flat_map (λ b. codes " " ++ pair b) bs) ++ more) is (spaced (x.at == i) (start == i) refl refl) (stands_first e i b bs own)
    (omega arith) (omega arith)
    (more_bytes e all start end (i + 1) x bs more is (stands_more e i b bs own) (omega arith) (omega arith) (omega arith)
    (subst (λ (k : ℕ). AreBytes e all start end k more) (omega arith) h))
  where
    spaced : (p q : Bool) → (x.at == i) ≡ p → (start == i) ≡ q → ◌≡◌ {A = ℕ × List ℕ} (32, colour x.part) (if p then (124, none) else if q then (32, none) else (32, colour x.part))
    spaced true q e f = absurd (omega (arith, eqb-true x.at i e))
    spaced false true e f = absurd (omega (arith, eqb-true start i f))
    spaced false false e f = refl

-- the first of a section in a row
abbrev first_in : ℕ → Section → ℕ
first_in start x = x.at + (start - x.at)

first_before : (start : ℕ) (x : Section) → (p q r : Bool) → (x.at == first_in start x) ≡ p → (start == first_in start x) ≡ q → nat_le start x.at ≡ r
    → in_colour none (rule r) ≡ (if p then (124, none) else if q then (32, none) else (32, colour x.part)) ∷ []
first_before start x true q true e f g = refl
first_before start x true q false e f g = absurd (grind arith)
first_before start x false q true e f g = absurd (grind arith)
first_before start x false true false e f g = refl
first_before start x false false false e f g = absurd (grind arith)

slice_stands : (e : List ℕ) (at n a m : ℕ) → a + m ≤ n → Stands e (at + a) (take m (drop a (take n (drop at e))))
slice_stands e at n a m room j l =
    let l2 : length (take m (drop a (take n (drop at e)))) ≤ m = simp length-take (omega arith) in
    get_or-take m (drop a (take n (drop at e))) j 0 (omega arith)
    ∙ get_or-drop a (take n (drop at e)) j 0
    ∙ get_or-take n (drop at e) (a + j) 0 (omega arith)
    ∙ get_or-drop at e (a + j) 0
    ∙ ap (λ (k : ℕ). get_or e k 0) (omega arith)

slice_long : (e : List ℕ) (at n a m : ℕ) → a + m ≤ n → at + n ≤ length e → length (take m (drop a (take n (drop at e)))) ≡ m
slice_long e at n a m room within = simp (length-take, length-drop, length-take, length-drop) (omega arith)

all_bytes : (e : List ℕ) (all : List Section) (start end : ℕ) (x : Section) (bs : List ℕ) (m : ℕ) (more : List (ℕ × List ℕ)) → IsAt e all x → Stands e (first_in start x) bs → length bs ≡ m → 0 < m
    → first_in start x + m ≤ x.at + length x.bytes.now → AreBytes e all start end (first_in start x + m) more
    → AreBytes e all start end (first_in start x) ((in_colour none (rule (nat_le start x.at)) ++ in_colour (colour x.part) (pairs_text bs)) ++ more)
unfolding pairs_text
all_bytes e all start end x [] m more is own long some to h = absurd (omega arith)
all_bytes e all start end x (b ∷ bs) m more is own long some to h =
    let i : ℕ = first_in start x in
    let tail : List (ℕ × List ℕ) = in_colour (colour x.part) (flat_map (λ b. codes " " ++ pair b) bs) ++ more in
    let first : in_colour none (rule (nat_le start x.at)) ≡ before x start i ∷ [] = first_before start x _ _ _ refl refl refl in
    let rest : AreBytes e all start end (i + 1) tail = more_bytes e all start end (i + 1) x bs more is (stands_more e i b bs own) (omega arith) (omega arith) (omega arith)
    (subst (λ (k : ℕ). AreBytes e all start end k more) (omega arith) h) in
    subst (λ (l : List (ℕ × List ℕ)). AreBytes e all start end i ((l ++ in_colour (colour x.part) (pair b ++ flat_map (λ b. codes " " ++ pair b) bs)) ++ more)) (sym first)
    (one_byte e all start end i b x (before x start i) tail is refl (stands_first e i b bs own) (omega arith) (omega arith) rest)

-- the bytes of a section in a row that it has bytes in
section_bytes : (e : Bor (List ℕ)) (all : List Section) (start end : ℕ) (x : Section) (more : List (ℕ × List ℕ)) → IsAt e.now all x
    → x.bytes ≡ part e x.at (length x.bytes.now) → x.at + length x.bytes.now ≤ length e.now → start < x.at + length x.bytes.now → x.at < end → start < end → 0 < length x.bytes.now
    → AreBytes e.now all start end (min (x.at + length x.bytes.now) end) more → AreBytes e.now all start end (first_in start x) (section_seen start end x ++ more)
section_bytes e all start end x more is laid inside reaches begins some long_own h =
    let n : ℕ = length x.bytes.now in
    let last : ℕ = min (end - x.at) n in
    let a : ℕ = min (start - x.at) last in
    let m : ℕ = last - a in
    let own : x.bytes.now ≡ take n (drop x.at e.now) = ap (λ (b : Bor (List ℕ)). b.now) laid in
    let here : a ≡ start - x.at = omega arith in
    let cut : bytes_within start end x ≡ take m (drop a (take n (drop x.at e.now))) = ap (λ (s : List ℕ). take m (drop a s)) own in
    let stand : Stands e.now (first_in start x) (bytes_within start end x) =
    subst (λ (s : List ℕ). Stands e.now (first_in start x) s) (sym cut) (subst (λ (k : ℕ). Stands e.now k (take m (drop a (take n (drop x.at e.now))))) (ap (λ (k : ℕ). x.at + k) here) (slice_stands e.now x.at n a m (omega arith))) in
    let long : length (bytes_within start end x) ≡ m = ap length cut ∙ slice_long e.now x.at n a m (omega arith) inside in
    all_bytes e.now all start end x (bytes_within start end x) m more is stand long (omega arith) (omega arith) (subst (λ (k : ℕ). AreBytes e.now all start end k more) (omega arith) h)

-- what is shown of the bytes of sections, one after another
abbrev all_seen : ℕ → ℕ → List Section → List (ℕ × List ℕ)
all_seen start end [] = []
all_seen start end (x ∷ xs) = section_seen start end x ++ all_seen start end xs

all_drawn : (start end : ℕ) (xs : List Section) → Drawn (flat_map (section_text true start end) xs) (flat_map (section_text false start end) xs) (all_seen start end xs)
all_drawn start end [] = drawn_nil
all_drawn start end (x ∷ xs) = drawn_append _ _ _ _ _ _ (section_drawn start end x) (all_drawn start end xs)

-- sections lie within the entry
laid_within : (e : Bor (List ℕ)) (at : ℕ) (xs : List Section) → LaidOut e at xs → at ≤ length e.now
laid_within e at [] h = omega (arith, h)
laid_within e at (x ∷ more) h = let k = laid_within e (at + length x.bytes.now) more h.3 in omega arith

abbrev Among : List Section → List Section → Type 0
Among all xs = (x : Section) → Contains xs x → Contains all x

among_head : (all : List Section) (x : Section) (xs : List Section) → Among all (x ∷ xs) → Contains all x
among_head all x xs h = h x (0, omega arith, refl)

among_tail : (all : List Section) (x : Section) (xs : List Section) → Among all (x ∷ xs) → Among all xs
among_tail all x xs h y m = h y (Contains-append_right (x ∷ []) xs y m)

-- the bytes of sections that begin in a row, from the first of them on
begun_bytes : (e : Bor (List ℕ)) (all : List Section) (start end at : ℕ) (xs : List Section) → AreLow e.now → Among all xs → LaidOut e at xs → start ≤ at → start < end → end ≤ length e.now
    → AreBytes e.now all start end (min at end) (all_seen start end (within end xs))
unfolding within
begun_bytes e all start end at [] low among laid begins some fits = subst (λ (k : ℕ). AreBytes e.now all start end k []) (omega (arith, laid)) meant.AreBytes.row_end
begun_bytes e all start end at (x ∷ more) low among laid begins some fits =
    let z = laid.1 in
    go (nat_lt x.at end) refl (begun_bytes e all start end (at + length x.bytes.now) more low (among_tail all x more among) laid.3 (omega arith) some fits)
  where
    go : (b : Bool) → nat_lt x.at end ≡ b → AreBytes e.now all start end (min (at + length x.bytes.now) end) (all_seen start end (within end more)) → AreBytes e.now all start end (min at end) (all_seen start end (if b then x ∷ within end more else []))
    go true h rest =
        let n : ℕ = length x.bytes.now in
        let k = laid_within e (at + n) more laid.3 in
        let own : x.bytes ≡ part e x.at n = subst (λ (q : ℕ). x.bytes ≡ part e q n) (sym laid.0) laid.2 in
        let w = laid.0 in let z = laid.1 in
        subst (λ (q : ℕ). AreBytes e.now all start end q (all_seen start end (x ∷ within end more))) (grind arith)
        (section_bytes e all start end x (all_seen start end (within end more)) (record { low = low; among = among_head all x more among }) own (omega arith) (omega arith) (grind arith) some laid.1
        (subst (λ (q : ℕ). AreBytes e.now all start end q (all_seen start end (within end more))) (ap (λ (q : ℕ). min (q + n) end) (sym laid.0)) rest))
    go false h rest = let w = laid.0 in subst (λ (k : ℕ). AreBytes e.now all start end k []) (grind arith) meant.AreBytes.row_end

-- all bytes of a row
row_bytes : (e : Bor (List ℕ)) (all : List Section) (start end at : ℕ) (xs : List Section) → AreLow e.now → Among all xs → LaidOut e at xs → at ≤ start → start < end → end ≤ length e.now
    → AreBytes e.now all start end start (all_seen start end (within end (behind start xs)))
unfolding behind within
row_bytes e all start end at [] low among laid early some fits = absurd (omega (arith, laid))
row_bytes e all start end at (x ∷ more) low among laid early some fits =
    go (ends_by start x) refl (λ passed. row_bytes e all start end (at + length x.bytes.now) more low (among_tail all x more among) laid.3 passed some fits)
  where
    go : (b : Bool) → ends_by start x ≡ b → (at + length x.bytes.now ≤ start → AreBytes e.now all start end start (all_seen start end (within end (behind start more)))) → AreBytes e.now all start end start (all_seen start end (within end (if b then behind start more else x ∷ more)))
    go true h rest =
        let w = laid.0 in let z = laid.1 in
        let passed : length x.bytes.now ≤ start - x.at = leb-true (length x.bytes.now) (start - x.at) h in
        rest (omega arith)
    go false h later =
        let n : ℕ = length x.bytes.now in
        let w = laid.0 in let z = laid.1 in
        let reaches : start < x.at + n = grind arith in
        let k = laid_within e (at + n) more laid.3 in
        let own : x.bytes ≡ part e x.at n = subst (λ (q : ℕ). x.bytes ≡ part e q n) (sym laid.0) laid.2 in
        let rest : AreBytes e.now all start end (min (at + n) end) (all_seen start end (within end more)) = begun_bytes e all start end (at + n) more low (among_tail all x more among) laid.3 (omega arith) some fits in
        let here : AreBytes e.now all start end (first_in start x) (all_seen start end (x ∷ within end more)) =
        section_bytes e all start end x (all_seen start end (within end more)) (record { low = low; among = among_head all x more among }) own (omega arith) reaches (omega arith) some laid.1
        (subst (λ (q : ℕ). AreBytes e.now all start end q (all_seen start end (within end more))) (ap (λ (q : ℕ). min (q + n) end) (sym laid.0)) rest) in
        let keeps : nat_lt x.at end ≡ true = grind arith in
        let same : start ≡ first_in start x = omega arith in
        rw keeps (subst (λ (q : ℕ). AreBytes e.now all start end q (all_seen start end (x ∷ within end more))) (sym same) here)

-- none that begins behind a row has a byte in it
none_more : (e : Bor (List ℕ)) (start end q : ℕ) (ys : List Section) → LaidOut e q ys → end ≤ q → filter (stands_in start end) ys ≡ []
none_more e start end q [] l g = refl
none_more e start end q (y ∷ ys) l g =
    let w = l.0 in
    let past : nat_lt y.at end ≡ false = grind arith in
    rw past (none_more e start end (q + length y.bytes.now) ys l.3 (omega arith))

-- the sections of a row are those that have a byte in it
begun_are : (e : Bor (List ℕ)) (start end at : ℕ) (xs : List Section) → LaidOut e at xs → start ≤ at → within end xs ≡ filter (stands_in start end) xs
unfolding within
begun_are e start end at [] laid begins = refl
begun_are e start end at (x ∷ more) laid begins =
    let w = laid.0 in let z = laid.1 in
    let rest = begun_are e start end (at + length x.bytes.now) more laid.3 (omega arith) in
    let reaches : nat_lt start (x.at + length x.bytes.now) ≡ true = grind arith in
    go (nat_lt x.at end) refl reaches rest
  where
    go : (b : Bool) → nat_lt x.at end ≡ b → nat_lt start (x.at + length x.bytes.now) ≡ true → within end more ≡ filter (stands_in start end) more
        → (if b then x ∷ within end more else []) ≡ (if b && nat_lt start (x.at + length x.bytes.now) then x ∷ filter (stands_in start end) more else filter (stands_in start end) more)
    go true h r s = rw r (ap (λ (l : List Section). x ∷ l) s)
    go false h r s = let w = laid.0 in sym (none_more e start end (at + length x.bytes.now) more laid.3 (grind arith))

row_are : (e : Bor (List ℕ)) (start end at : ℕ) (xs : List Section) → LaidOut e at xs → at ≤ start → start < end → within end (behind start xs) ≡ filter (stands_in start end) xs
unfolding behind within
row_are e start end at [] laid early some = refl
row_are e start end at (x ∷ more) laid early some =
    go (ends_by start x) refl (λ passed. row_are e start end (at + length x.bytes.now) more laid.3 passed some)
  where
    go : (b : Bool) → ends_by start x ≡ b → (at + length x.bytes.now ≤ start → within end (behind start more) ≡ filter (stands_in start end) more) → within end (if b then behind start more else x ∷ more) ≡ filter (stands_in start end) (x ∷ more)
    go true h rest =
        let w = laid.0 in let z = laid.1 in
        let passed : length x.bytes.now ≤ start - x.at = leb-true (length x.bytes.now) (start - x.at) h in
        let out : stands_in start end x ≡ false = grind arith in
        rw out (rest (omega arith))
    go false h later =
        let w = laid.0 in let z = laid.1 in
        let reaches : start < x.at + length x.bytes.now = grind arith in
        let begins : nat_lt x.at end ≡ true = grind arith in
        let goes_on : nat_lt start (x.at + length x.bytes.now) ≡ true = grind arith in
        rw (begins, goes_on) (ap (λ (l : List Section). x ∷ l) (begun_are e start end (at + length x.bytes.now) more laid.3 (omega arith)))

-- a rule stands behind a row where a section ends with it
ends_are : (e : Bor (List ℕ)) (start end at : ℕ) (xs : List Section) → LaidOut e at xs → start < end
    → list_any (ends_at end) (filter (stands_in start end) xs) ≡ list_any (λ x. x.at + length x.bytes.now == end) xs
ends_are e start end at [] laid some = refl
ends_are e start end at (x ∷ more) laid some =
    go (stands_in start end x) refl (ends_are e start end (at + length x.bytes.now) more laid.3 some)
  where
    go : (b : Bool) → stands_in start end x ≡ b → list_any (ends_at end) (filter (stands_in start end) more) ≡ list_any (λ x. x.at + length x.bytes.now == end) more
        → list_any (ends_at end) (if b then x ∷ filter (stands_in start end) more else filter (stands_in start end) more) ≡ list_any (λ x. x.at + length x.bytes.now == end) (x ∷ more)
    go true h s =
        let z = laid.1 in
        let begins : x.at < end = grind arith in
        let same : ends_at end x ≡ (x.at + length x.bytes.now == end) = grind arith in
        rw (same, s) refl
    go false h s =
        let z = laid.1 in
        let other : (x.at + length x.bytes.now == end) ≡ false = grind arith in
        rw other s

-- names
called_by : (b : Bool) (s t : List ℕ) → IsClear s → IsClear t → IsClear (if b then s else t)
called_by true s t p q = p
called_by false s t p q = q

name_drawn : (start : ℕ) (x : Section) → Drawn (name_text true start x) (name_text false start x) (name_seen start x)
unfolding name_text
name_drawn start x =
    painted x.part _ (called_by (nat_lt x.at start) _ _ (clear_append (codes "..") _ (record { is = refl }) (called_is x.part)) (label_is x.part (length x.bytes.now)))

bar : List ℕ
bar = codes " | "

more_names : (start : ℕ) (xs : List Section)
    → Drawn (flat_map (λ y. codes " | " ++ name_text true start y) xs) (flat_map (λ y. codes " | " ++ name_text false start y) xs) (flat_map (λ y. in_colour none (codes " | ") ++ name_seen start y) xs)
more_names start [] = drawn_nil
more_names start (x ∷ xs) =
    drawn_append _ _ _ _ _ _ (drawn_append _ _ _ _ _ _ (drawn_plain (codes " | ") (record { is = refl })) (name_drawn start x)) (more_names start xs)

names_drawn : (start : ℕ) (xs : List Section)
    → Drawn (join_by (name_text true start) (codes " | ") xs) (join_by (name_text false start) (codes " | ") xs) (join_by (name_seen start) (in_colour none (codes " | ")) xs)
names_drawn start [] = drawn_nil
names_drawn start (x ∷ xs) = drawn_append _ _ _ _ _ _ (name_drawn start x) (more_names start xs)

-- a row
abbrev place_of : ℕ → List ℕ
place_of start = replicate (6 - length (decimal start)) 32 ++ (decimal start ++ codes "  ")

abbrev gap_of : ℕ → ℕ → Bool → List ℕ
gap_of start end ended = (if ended then codes "|" else codes " ") ++ (replicate (3 * (16 - (end - start))) 32 ++ codes " ")

abbrev row_parts : Bool → ℕ → ℕ → List Section → List ℕ
row_parts coloured start end xs =
    place_of start ++ (flat_map (section_text coloured start end) xs ++ (gap_of start end (list_any (ends_at end) xs) ++ (join_by (name_text coloured start) (codes " | ") xs ++ codes "\n")))

row_is : (coloured : Bool) (start end : ℕ) (xs : List Section) → row_parts coloured start end xs ≡ row_text coloured start end xs
unfolding row_text number_cell
row_is coloured start end xs = simp append_assoc refl

abbrev row_seen : ℕ → ℕ → List Section → List (ℕ × List ℕ)
row_seen start end xs =
    in_colour none (place_of start) ++ (all_seen start end xs ++ (in_colour none (gap_of start end (list_any (ends_at end) xs)) ++ (join_by (name_seen start) (in_colour none (codes " | ")) xs ++ in_colour none (codes "\n"))))

place_clear : (start : ℕ) → IsClear (place_of start)
place_clear start = clear_append _ _ (clear_spaces (6 - length (decimal start))) (clear_append _ _ (clear_decimal start) (record { is = refl }))

gap_clear : (start end : ℕ) (b : Bool) → IsClear (gap_of start end b)
gap_clear start end b = clear_append _ _ (called_by b (codes "|") (codes " ") (record { is = refl }) (record { is = refl })) (clear_append _ _ (clear_spaces (3 * (16 - (end - start)))) (record { is = refl }))

row_drawn : (start end : ℕ) (xs : List Section) → Drawn (row_text true start end xs) (row_text false start end xs) (row_seen start end xs)
row_drawn start end xs =
    subst (λ (l : List ℕ). Drawn l (row_text false start end xs) (row_seen start end xs)) (row_is true start end xs)
    (subst (λ (l : List ℕ). Drawn (row_parts true start end xs) l (row_seen start end xs)) (row_is false start end xs)
    (drawn_append _ _ _ _ _ _ (drawn_plain (place_of start) (place_clear start))
    (drawn_append _ _ _ _ _ _ (all_drawn start end xs)
    (drawn_append _ _ _ _ _ _ (drawn_plain (gap_of start end (list_any (ends_at end) xs)) (gap_clear start end (list_any (ends_at end) xs)))
    (drawn_append _ _ _ _ _ _ (names_drawn start xs) (drawn_plain (codes "\n") (record { is = refl })))))))

row_meant : (e : Bor (List ℕ)) (all : List Section) (start end : ℕ) → AreLow e.now → LaidOut e 0 all → start < end → end ≤ length e.now
    → IsRow e.now all start end (row_seen start end (within end (behind start all)))
row_meant e all start end low laid some fits =
    let xs : List Section = within end (behind start all) in
    let are : xs ≡ filter (stands_in start end) all = row_are e start end 0 all laid (omega arith) some in
    let ended : list_any (ends_at end) xs ≡ list_any (λ x. x.at + length x.bytes.now == end) all = ap (list_any (ends_at end)) are ∙ ends_are e start end 0 all laid some in
    let names : join_by (name_seen start) (in_colour none (codes " | ")) xs ≡ names_seen start end all = ap (join_by (name_seen start) (in_colour none (codes " | "))) are in
    record {
      own = all_seen start end xs;
      bytes = row_bytes e all start end 0 all low (λ x m. m) laid (omega arith) some fits;
      is = ap₂ (λ (b : Bool) (l : List (ℕ × List ℕ)). in_colour none (place_of start) ++ (all_seen start end xs ++ (in_colour none (gap_of start end b) ++ (l ++ in_colour none (codes "\n"))))) ended names;
    }

-- all rows from one on
abbrev rows_seen : ℕ → List Section → List ℕ → List (ℕ × List ℕ)
rows_seen n all ks = flat_map (λ k. row_seen (16 * k) (min (16 * k + 16) n) (within (min (16 * k + 16) n) (behind (16 * k) all))) ks

rows_drawn : (n : ℕ) (all : List Section) (ks : List ℕ) → Drawn (flat_map (row_of true n all) ks) (flat_map (row_of false n all) ks) (rows_seen n all ks)
rows_drawn n all [] = drawn_nil
rows_drawn n all (k ∷ ks) =
    drawn_append _ _ _ _ _ _ (row_drawn (16 * k) (min (16 * k + 16) n) (within (min (16 * k + 16) n) (behind (16 * k) all))) (rows_drawn n all ks)

rows_meant : (e : Bor (List ℕ)) (all : List Section) (k m : ℕ) → AreLow e.now → LaidOut e 0 all → k + m ≡ div_ceil (length e.now) 16
    → AreRows e.now all (16 * k) (rows_seen (length e.now) all (range_with_len k m))
rows_meant e all k zero low laid h = meant.AreRows.done (16 * k) (omega arith)
rows_meant e all k (suc m) low laid h =
    let n : ℕ = length e.now in
    meant.AreRows.row (16 * k) _ _ (omega arith) (row_meant e all (16 * k) (min (16 * k + 16) n) low laid (omega arith) (omega arith))
    (subst (λ (q : ℕ). AreRows e.now all q (rows_seen n all (range_with_len (k + 1) m))) (omega arith) (rows_meant e all (k + 1) m low laid (omega arith)))

pub picture_meant : PictureMeant
unfolding picture_text
picture_meant e r low =
    let all : List Section = sections_of e r in
    let n : ℕ = length e.now in
    let laid : LaidOut e 0 all = (sections_laid e r).laid in
    let drawn = rows_drawn n all (range_with_len 0 (div_ceil n 16)) in
    let seen_all : List (ℕ × List ℕ) = rows_seen n all (range_with_len 0 (div_ceil n 16)) in
    let shows : Shows none (picture_text true n all ++ []) (seen_all ++ []) none = drawn.shows [] [] none (seen.Shows.nothing none) in
    record {
      seen = seen_all;
      shows = subst (λ (l : List ℕ). Shows none l seen_all none) (append-nil (picture_text true n all)) (subst (λ (l : List (ℕ × List ℕ)). Shows none (picture_text true n all ++ []) l none) (append-nil seen_all) shows);
      plain = drawn.same;
      rows = rows_meant e all 0 (div_ceil n 16) low laid (omega arith);
    }
