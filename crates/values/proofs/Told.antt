-- What is told of a part is what its bytes say: proved.
use Rattle.std.proofs.Common.{ℕ, ◌+◌, ◌-◌, ◌≤◌, ◌≡◌, List, [], ◌∷◌, length, take, drop, refl, sym, ap, ap₂, ◌∙◌, add-zero, arith, Bor}
use Rattle.std.proofs.lemmas.List.{take-take}
use Rattle.le.specs.Le.{le2, le4}
use Rattle.part.specs.Slice.{part}
use Rattle.part.specs.End.{IsString}
use Rattle.attribute.specs.Attribute as attribute
use Rattle.attribute.specs.Laid as attributes
use Rattle.refactor.specs.Refactor as refactor
use Rattle.refactor.specs.Laid as refactors
use Rattle.symbol.specs.Inside.{IsInside}
use Rattle.symbol.specs.Laws.{IsWhole}
use Rattle.symbol.specs.declared.AdsSymbolInfo.{AdsSymbolInfo}
use Rattle.symbol.proofs.Laws.{symbols_whole}
use Rattle.symbol.proofs.Lies.{symbols_inside}
use Rattle.sections.specs.declared.Part.{Part}
use Rattle.sections.specs.declared.Part.TheVariants.{Length, Group, Offset, Size, TypeId, Flags, High, StringLengths, Name, «Type», Comment, Guid, AttributeCount, Attribute, ExtendedFlags, FormerName, Unread}
use Rattle.sections.specs.declared.Section.{Section}
use Rattle.sections.specs.Laid.{AreParts, IsPart, LaidOut}
use Rattle.sections.proofs.Cutting.{sections_laid}
use Rattle.sections.proofs.Standing.{le2_of, le4_of, sections_told}
use Rattle.values.specs.declared.Value.TheVariants as told
use Rattle.values.specs.Told.{AllTell, Tells, ValuesTold, RecordsTold}
use Rattle.values.specs.Values.{guid_value, extended_value, count_value, value_of}

-- the number in a part of so many bytes
four : (e bytes : Bor (List ℕ)) (at : ℕ) → bytes ≡ part e at (length bytes.now) → length bytes.now ≡ 4 → le4 e.now at ≡ le4 bytes.now 0
four e bytes at b n = sym (le4_of e.now at) ∙ ap (λ (k : ℕ). le4 (take k (drop at e.now)) 0) (sym n) ∙ ap (λ (q : Bor (List ℕ)). le4 q.now 0) (sym b)

two : (e bytes : Bor (List ℕ)) (at : ℕ) → bytes ≡ part e at (length bytes.now) → length bytes.now ≡ 2 → le2 e.now at ≡ le2 bytes.now 0
two e bytes at b n = sym (le2_of e.now at) ∙ ap (λ (k : ℕ). le2 (take k (drop at e.now)) 0) (sym n) ∙ ap (λ (q : Bor (List ℕ)). le2 q.now 0) (sym b)

front : (e : Bor (List ℕ)) (at m k : ℕ) → k ≤ m → part (part e at m) 0 k ≡ part e at k
front e at m k h = ap₂ (λ (x : ℕ) (y : List ℕ). record { ref_ptr = (e.ref_ptr.0, x); now = y }) (add-zero (e.ref_ptr.1 + at)) (take-take k m (drop at e.now) h)

-- the string in a part of one byte more
text : (e bytes s : Bor (List ℕ)) (at : ℕ) → bytes ≡ part e at (length bytes.now) → length bytes.now ≡ length s.now + 1 → IsString e at s → s ≡ part bytes 0 (length bytes.now - 1)
text e bytes s at b n i =
    let k : length s.now ≡ length bytes.now - 1 = omega (arith, n) in
    i.is ∙ ap (part e at) k ∙ sym (front e at (length bytes.now) (length bytes.now - 1) (omega arith)) ∙ ap (λ (q : Bor (List ℕ)). part q 0 (length bytes.now - 1)) (sym b)

at_place : (e bytes : Bor (List ℕ)) (at to : ℕ) → at ≡ to → bytes ≡ part e at (length bytes.now) → bytes ≡ part e to (length bytes.now)
at_place e bytes at to h b = b ∙ ap (λ (k : ℕ). part e k (length bytes.now)) h

tells : (e : Bor (List ℕ)) (r : AdsSymbolInfo) → IsInside e r → IsWhole e r → (p : Part) (at : ℕ) (bytes : Bor (List ℕ)) → bytes ≡ part e at (length bytes.now) → IsPart e r p at bytes
    → Tells (length e.now) (length (attribute.left r.attributes)) p bytes (value_of r p bytes)
unfolding value_of
tells e r i w Length at bytes b h = ap (λ (n : ℕ). told.Bytes n) i.long
tells e r i w Group at bytes b h = ap (λ (n : ℕ). told.Hexadecimal n) (i.index_group ∙ four e bytes 4 (at_place e bytes at 4 h.0 b) h.1)
tells e r i w Offset at bytes b h = ap (λ (n : ℕ). told.Hexadecimal n) (i.index_offset ∙ four e bytes 8 (at_place e bytes at 8 h.0 b) h.1)
tells e r i w Size at bytes b h = ap (λ (n : ℕ). told.Bytes n) (i.size ∙ four e bytes 12 (at_place e bytes at 12 h.0 b) h.1)
tells e r i w TypeId at bytes b h = ap (λ (n : ℕ). told.Number n) (i.data_type_id ∙ four e bytes 16 (at_place e bytes at 16 h.0 b) h.1)
tells e r i w Flags at bytes b h = ap (λ (n : ℕ). told.Flags (record { 0 = n })) (i.flags ∙ two e bytes 20 (at_place e bytes at 20 h.0 b) h.1)
tells e r i w High at bytes b h = ap (λ (n : ℕ). told.High n) (i.high ∙ two e bytes 22 (at_place e bytes at 22 h.0 b) h.1)
tells e r i w StringLengths at bytes b h = ap (λ (n : ℕ). told.Bytes n) h.1
tells e r i w Name at bytes b h =
    ap (λ (q : Bor (List ℕ)). told.Text q) (text e bytes r.name 30 (at_place e bytes at 30 h.0 b) (omega (arith, h.1, i.name_length)) i.name)
tells e r i w «Type» at bytes b h =
    let n : at ≡ 31 + length r.name.now = omega (arith, h.0, i.name_length) in
    ap (λ (q : Bor (List ℕ)). told.Text q) (text e bytes r.type_name (31 + length r.name.now) (at_place e bytes at _ n b) (omega (arith, h.1, i.type_name_length)) i.type_name)
tells e r i w Comment at bytes b h =
    let n : at ≡ 32 + length r.name.now + length r.type_name.now = omega (arith, h.0, i.name_length, i.type_name_length) in
    ap (λ (q : Bor (List ℕ)). told.Text q) (text e bytes r.comment (32 + length r.name.now + length r.type_name.now) (at_place e bytes at _ n b) (omega (arith, h.1, i.comment_length)) i.comment)
tells e r i w Guid at bytes b h = ap guid_value h.0
tells e r i w AttributeCount at bytes b h = ap count_value (sym w.counted)
tells e r i w (Attribute k) at bytes b h = tt
tells e r i w ExtendedFlags at bytes b h = ap extended_value h.1
tells e r i w (FormerName k) at bytes b h = tt
tells e r i w Unread at bytes b h = refl

all_tell : (e : Bor (List ℕ)) (r : AdsSymbolInfo) → IsInside e r → IsWhole e r → (at : ℕ) (all : List Section) → LaidOut e at all → AreParts e r all → AllTell (length e.now) r all
all_tell e r i w at [] laid parts = tt
all_tell e r i w at (x ∷ more) laid parts =
    let b : x.bytes ≡ part e x.at (length x.bytes.now) = laid.2 ∙ ap (λ (k : ℕ). part e k (length x.bytes.now)) (sym laid.0) in
    (tells e r i w x.part x.at x.bytes b parts.0, all_tell e r i w (at + length x.bytes.now) more laid.3 parts.1)

pub values_told : ValuesTold
values_told mode e r h = all_tell e r (symbols_inside mode e r h) (symbols_whole mode e r h) 0 _ (sections_laid e r).laid (sections_told mode e r h)

attribute_told : (r : AdsSymbolInfo) (k : ℕ) (bytes : Bor (List ℕ)) → attributes.size bytes.now ≤ length bytes.now → value_of r (Attribute k) bytes ≡ told.Attribute (attributes.parts bytes)
unfolding value_of attribute.first_of
attribute_told r k bytes h = grind arith

former_name_told : (r : AdsSymbolInfo) (k : ℕ) (bytes : Bor (List ℕ)) → refactors.size bytes.now ≤ length bytes.now → value_of r (FormerName k) bytes ≡ told.FormerName (part bytes 6 (le2 bytes.now 4))
unfolding value_of refactor.first_of
former_name_told r k bytes h = grind arith

pub records_told : RecordsTold
records_told = record { attribute = attribute_told; former_name = former_name_told }
