-- What a symbol tells does not depend on where it lies in memory.
use Rattle.std.proofs.Common.{◌≡◌, ℕ, zero, suc, ◌+◌, ◌⊎◌, inl, inr, Bool, true, false, List, ◌∷◌, length, refl, sym, ap, ap₂, ◌∙◌, Bor}
use Rattle.std.specs.Prelude.{Option, Result, Ok, Err, ltb, leb, bit_and, if◌then◌else◌}
use Rattle.le.specs.Le.{le2, le4, has}
use Rattle.part.specs.Slice.{part, after}
use Rattle.part.specs.Outcome.{and_then}
use Rattle.refactor.specs.Refactor as refactor
use Rattle.refactor.specs.declared.AdsRefactorInfo.{AdsRefactorInfo}
use Rattle.refactor.specs.declared.RefactorInfos.{RefactorInfos}
use Rattle.flags.specs.declared.symbol_flags.AdsSymbol2Flags.{AdsSymbol2Flags}
use Rattle.refusal.specs.declared.Mode.{Mode}
use Rattle.refusal.specs.declared.Mode.TheVariants.{Present, Checked}
use Rattle.refusal.specs.declared.Refusal.{Refusal}
use Rattle.refusal.specs.declared.Refusal.TheVariants.{TooShort, EntryLengthMismatch}
use Rattle.walk.specs.Mapped.{map_ok}
use Rattle.symbol.specs.declared.AdsSymbolInfo.{AdsSymbolInfo}
use Rattle.attribute.specs.Told as attributes
use Rattle.attribute.proofs.Anywhere.{moved, on, attributes_at, count_moved, attributes_end, attributes_told, rest_moved}
use Rattle.refactor.specs.Told as refactors
use Rattle.symbol.specs.Told.{told_of, SymbolsAnywhere}
use Rattle.layout.specs.Layout.{guid_of}
use Rattle.symbol.specs.Symbol.{type_guid_flag, attributes_flag, extended_flags_flag, refactor_info_flag, attributes_of, extended_of, extended_word, refactor_infos_of, with_strings, symbol_ended, ended_symbol, symbol_of}

-- two answers of a reader: the same refusal, or values and the bytes after them, as many further on
abbrev Both : {A : Type 0} → (ℕ → ℕ → Bor (List ℕ) → A) → ℕ × ℕ → Bor (List ℕ) → Result (A × Bor (List ℕ)) Refusal → Result (A × Bor (List ℕ)) Refusal → Type 0
Both made m s a b =
    ((why : Refusal) × (a ≡ Err why) × (b ≡ Err why))
    ⊎ ((n : ℕ) × (v : ℕ) × (k : ℕ) × (a ≡ Ok (made n v (moved m s), after (moved m s) k)) × (b ≡ Ok (made n v s, after s k)))

-- refactor records
abbrev record_in : ℕ → ℕ → Bor (List ℕ) → AdsRefactorInfo
record_in n v s = record { refactor_count = bit_and (le4 s.now 0) refactor.mask; next_refactor_info = has (le4 s.now 0) refactor.follower; name = part s 6 n }

record_by : (m : ℕ × ℕ) (s : Bor (List ℕ)) (n : ℕ) (b c : Bool) → ltb (length s.now) 7 ≡ b → ltb (length s.now) (n + 7) ≡ c
    → Both record_in m s (refactor.sized (moved m s) n) (refactor.sized s n)
record_by m s n true c p q = inl (TooShort 7 (length s.now), rw p refl, rw p refl)
record_by m s n false true p q = inl (TooShort (n + 7) (length s.now), rw (p, q) refl, rw (p, q) refl)
record_by m s n false false p q = inr (n, 0, n + 7, rw (p, q) refl, rw (p, q) refl)

first_record : (m : ℕ × ℕ) (s : Bor (List ℕ)) → Both record_in m s (refactor.first_of (moved m s)) (refactor.first_of s)
unfolding refactor.first_of
first_record m s = record_by m s (le2 s.now 4) _ _ refl refl

records_end : (m : ℕ × ℕ) (s : Bor (List ℕ)) (at n : ℕ) → refactor.ends_from (moved m s) at n ≡ refactor.ends_from s at n
unfolding refactor.ends_from
records_end m s at zero = refl
records_end m s at (suc n) = elim (first_record m s) [
  | inl w ↦ rw (w.1, w.2) refl
  | inr w ↦ rw (w.3, w.4, records_end (on m w.2) (after s w.2) _ n) refl
]

-- a chain is refused alike, or has as many records and the same bytes after it
abbrev Chained : Result (ℕ × Bor (List ℕ)) Refusal → Result (ℕ × Bor (List ℕ)) Refusal → Type 0
Chained a b =
    ((why : Refusal) × (a ≡ Err why) × (b ≡ Err why))
    ⊎ ((n : ℕ) × (m : ℕ × ℕ) × (t : Bor (List ℕ)) × (a ≡ Ok (n, moved m t)) × (b ≡ Ok (n, t)))

chain_on : (m : ℕ × ℕ) (s : Bor (List ℕ)) (count n : ℕ) (b : Bool) → Chained (refactor.chained (moved m s) (count + 1) n) (refactor.chained s (count + 1) n)
    → Chained (if b then refactor.chained (moved m s) (count + 1) n else Ok (count + 1, moved m s)) (if b then refactor.chained s (count + 1) n else Ok (count + 1, s))
chain_on m s count n true ih = ih
chain_on m s count n false ih = inr (count + 1, m, s, refl, refl)

chain_moved : (m : ℕ × ℕ) (s : Bor (List ℕ)) (count n : ℕ) → Chained (refactor.chained (moved m s) count n) (refactor.chained s count n)
unfolding refactor.chained
chain_moved m s count zero = inl (_, refl, refl)
chain_moved m s count (suc n) = elim (first_record m s) [
  | inl w ↦ rw (w.1, w.2) (inl (_, refl, refl))
  | inr w ↦ rw (w.3, w.4) (chain_on (on m w.2) (after s w.2) count n (has (le4 s.now 0) refactor.follower) (chain_moved (on m w.2) (after s w.2) (count + 1) n))
]

-- the sections, and the bytes after them
guid_moved : (m : ℕ × ℕ) (s : Bor (List ℕ)) (b c : Bool) → leb 16 (length s.now) ≡ c → (t : ℕ × ℕ) × (guid_of (moved m s) b ≡ ((guid_of s b).0, moved t (guid_of s b).1))
unfolding guid_of
guid_moved m s true true p = (on m 16, rw p refl)
guid_moved m s true false p = (m, rw p refl)
guid_moved m s false c p = (m, refl)

extended_moved : (m : ℕ × ℕ) (s : Bor (List ℕ)) (b c : Bool) → leb 4 (length s.now) ≡ c → (t : ℕ × ℕ) × (extended_of (moved m s) b ≡ ((extended_of s b).0, moved t (extended_of s b).1))
unfolding extended_of
extended_moved m s true true p = (on m 4, rw p refl)
extended_moved m s true false p = (m, rw p refl)
extended_moved m s false c p = (m, refl)

abbrev infos_at : ℕ × ℕ → RefactorInfos → RefactorInfos
infos_at m a = record { bytes = moved m a.bytes; count = a.count }

attributes_moved : (m : ℕ × ℕ) (s : Bor (List ℕ)) (b c : Bool) → leb 2 (length s.now) ≡ c
    → (l : ℕ × ℕ) × (t : ℕ × ℕ) × (attributes_of (moved m s) b ≡ (attributes_at l (attributes_of s b).0, moved t (attributes_of s b).1))
unfolding attributes_of
attributes_moved m s true true p =
    let r = rest_moved (on m 2) (after s 2) (le2 s.now 0) in
    (on m 2, r.0, rw (p, r.1, count_moved (on m 2) (after s 2) (le2 s.now 0)) refl)
attributes_moved m s true false p = (m, m, rw p refl)
attributes_moved m s false c p = (m, m, refl)

infos_moved : (m : ℕ × ℕ) (s : Bor (List ℕ)) (b : Bool)
    → (l : ℕ × ℕ) × (t : ℕ × ℕ) × (refactor_infos_of (moved m s) b ≡ (infos_at l (refactor_infos_of s b).0, moved t (refactor_infos_of s b).1))
unfolding refactor_infos_of
infos_moved m s true = elim (chain_moved m s 0 (length s.now)) [
  | inl w ↦ (m, m, rw (w.1, w.2) refl)
  | inr w ↦ (m, w.1, rw (w.3, w.4) refl)
]
infos_moved m s false = (m, m, refl)

-- a symbol with all its parts at one place
abbrev here : Bor (List ℕ) → Bor (List ℕ)
here s = moved (0, 0) s

abbrev pub still : AdsSymbolInfo → AdsSymbolInfo
still r = record {
  length = r.length;
  index_group = r.index_group;
  index_offset = r.index_offset;
  size = r.size;
  data_type_id = r.data_type_id;
  flags = r.flags;
  high = r.high;
  name = here r.name;
  type_name = here r.type_name;
  comment = here r.comment;
  guid = r.guid;
  attributes = attributes_at (0, 0) r.attributes;
  extended_flags = r.extended_flags;
  refactor_infos = infos_at (0, 0) r.refactor_infos;
  unread = here r.unread;
}

strings_still : (m : ℕ × ℕ) (e : Bor (List ℕ)) (n t k : ℕ) → still (with_strings (moved m e) n t k) ≡ still (with_strings e n t k)
unfolding with_strings
strings_still m e n t k =
    let w : ℕ = le2 e.now 20 in
    let s : Bor (List ℕ) = after e (33 + n + t + k) in
    let g = guid_moved (on m (33 + n + t + k)) s (has w type_guid_flag) _ refl in
    let gs : Bor (List ℕ) = (guid_of s (has w type_guid_flag)).1 in
    let a = attributes_moved g.0 gs (has w attributes_flag) _ refl in
    let us : Bor (List ℕ) = (attributes_of gs (has w attributes_flag)).1 in
    let x = extended_moved a.1 us (has w extended_flags_flag) _ refl in
    let xs : Option AdsSymbol2Flags × Bor (List ℕ) = extended_of us (has w extended_flags_flag) in
    let f = infos_moved x.0 xs.1 (has (extended_word xs.0) refactor_info_flag) in
    rw (g.1, a.2, x.1, f.2) (refl {a = still (with_strings e n t k)})

-- its end bytes are those of its bytes, wherever they lie
ends_still : (m : ℕ × ℕ) (e : Bor (List ℕ)) (r : AdsSymbolInfo) → symbol_ended (moved m e) r ≡ symbol_ended e (still r)
unfolding symbol_ended
ends_still m e r = rw (attributes_end (0, 0) r.attributes.bytes, records_end (0, 0) r.refactor_infos.bytes) refl

ended_still : (mode : Mode) (m : ℕ × ℕ) (e : Bor (List ℕ)) (r q : AdsSymbolInfo) → still r ≡ still q → map_ok still (ended_symbol mode (moved m e) r) ≡ map_ok still (ended_symbol mode e q)
unfolding ended_symbol
ended_still Present m e r q h = ap Ok h
ended_still Checked m e r q h =
    let a : symbol_ended (moved m e) r ≡ symbol_ended e q = ends_still m e r ∙ ap (symbol_ended e) h ∙ sym (ends_still e.ref_ptr e q) in
    rw a (by (symbol_ended e q))
  where
    by : (t : Result Unit Refusal) → map_ok still (and_then t (λ _. Ok r)) ≡ map_ok still (and_then t (λ _. Ok q))
    by (Ok u) = ap Ok h
    by (Err why) = refl

read_by : (mode : Mode) (m : ℕ × ℕ) (e : Bor (List ℕ)) (n t k : ℕ) (why other : Refusal) (b c : Bool)
    → map_ok still (if b then Err why else and_then (if◌then◌else◌ {A = Result Unit Refusal} c (Err other) (Ok tt)) (λ _. ended_symbol mode (moved m e) (with_strings (moved m e) n t k)))
    ≡ map_ok still (if b then Err why else and_then (if◌then◌else◌ {A = Result Unit Refusal} c (Err other) (Ok tt)) (λ _. ended_symbol mode e (with_strings e n t k)))
read_by mode m e n t k why other true c = refl
read_by mode m e n t k why other false true = refl
read_by mode m e n t k why other false false = ended_still mode m e _ _ (strings_still m e n t k)

pub read_still : (mode : Mode) (m : ℕ × ℕ) (e : Bor (List ℕ)) → map_ok still (symbol_of mode (moved m e)) ≡ map_ok still (symbol_of mode e)
unfolding symbol_of
read_still mode m e =
    let n : ℕ = le2 e.now 24 in
    let t : ℕ = le2 e.now 26 in
    let k : ℕ = le2 e.now 28 in
    read_by mode m e n t k (TooShort 30 (length e.now)) (EntryLengthMismatch (33 + n + t + k) (length e.now)) (ltb (length e.now) 30) (ltb (length e.now) (33 + n + t + k))

-- what it tells
records_told : (m : ℕ × ℕ) (s : Bor (List ℕ)) (n : ℕ) → refactors.told (refactor.listed (moved m s) n) ≡ refactors.told (refactor.listed s n)
unfolding refactor.listed
records_told m s zero = refl
records_told m s (suc n) = elim (first_record m s) [
  | inl w ↦ rw (w.1, w.2) refl
  | inr w ↦ rw (w.3, w.4) (ap (λ l. refactors.told_of (record_in w.0 w.1 s) ∷ l) (records_told (on m w.2) (after s w.2) n))
]

told_still : (r : AdsSymbolInfo) → told_of (still r) ≡ told_of r
told_still r = ap₂ (λ (a : List attributes.Told) (f : List refactors.Told). record (told_of r) { attributes = a; refactor_infos = f }) (attributes_told (0, 0) r.attributes.bytes r.attributes.count) (records_told (0, 0) r.refactor_infos.bytes r.refactor_infos.count)

answer_still : (t : Result AdsSymbolInfo Refusal) → map_ok told_of (map_ok still t) ≡ map_ok told_of t
answer_still (Ok r) = ap Ok (told_still r)
answer_still (Err why) = refl

told_moved : (mode : Mode) (m : ℕ × ℕ) (e : Bor (List ℕ)) → map_ok told_of (symbol_of mode (moved m e)) ≡ map_ok told_of (symbol_of mode e)
told_moved mode m e = sym (answer_still (symbol_of mode (moved m e))) ∙ ap (map_ok told_of) (read_still mode m e) ∙ answer_still (symbol_of mode e)

pub symbols_anywhere : SymbolsAnywhere
symbols_anywhere mode e f h =
    let is : moved f.ref_ptr e ≡ f = ap (λ (s : List ℕ). record { ref_ptr = f.ref_ptr; now = s }) h in
    sym (told_moved mode f.ref_ptr e) ∙ ap (λ q. map_ok told_of (symbol_of mode q)) is
