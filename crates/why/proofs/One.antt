-- Of one entry the reasons that are true are the same: proved.
use Rattle.std.proofs.Common.{◌≡◌, ◌⊎◌, inl, inr, ℕ, suc, ◌+◌, ◌<◌, ◌≤◌, false, List, length, drop, refl, sym, ap, ap₂, ◌∙◌, arith, length-drop, subst}
use Rattle.le.specs.Le.{le2}
use Rattle.refusal.specs.declared.Refusal.{Refusal}
use Rattle.attribute.specs.Laid as attribute
use Rattle.refactor.specs.Laid as refactor
use Rattle.why.specs.declared.Reason.{Reason}
use Rattle.why.specs.declared.Reason.TheVariants.{NoRoom, Whole, Refused, Owed}
use Rattle.why.specs.Meant.{IsCutAttribute, least, cut, IsCutRecord, least_record, cut_record, strings_end, IsFixed, fixed_unflagged, fixed_short, fixed_there, Behind, behind_unflagged, behind_short, behind_there}
use Rattle.why.specs.Meant.{IsAttributes, attributes_unflagged, attributes_short, attributes_whole, attributes_refused, attributes_owed, BehindAttributes, list_unflagged, list_short, list_there}
use Rattle.why.specs.Meant.{IsChain, chain_no_flags, chain_short_flags, chain_unflagged, chain_no_byte, chain_refused, chain_whole, ReasonsOne}
use Rattle.why.proofs.Stands.{Stops, one_stop, ChainStops, one_chain_stop}

one_cut : (s : List ℕ) (v w : Refusal) → IsCutAttribute s v → IsCutAttribute s w → v ≡ w
one_cut s v w (least h) (least k) = refl
one_cut s v w (least h) (cut k l) = absurd (omega arith)
one_cut s v w (cut h m) (least k) = absurd (omega arith)
one_cut s v w (cut h m) (cut k l) = refl

pub is_cut : (s : List ℕ) (v : Refusal) → IsCutAttribute s v → length s < attribute.size s
is_cut s v (least h) = omega arith
is_cut s v (cut h m) = m

one_cut_record : (s : List ℕ) (v w : Refusal) → IsCutRecord s v → IsCutRecord s w → v ≡ w
one_cut_record s v w (least_record h) (least_record k) = refl
one_cut_record s v w (least_record h) (cut_record k l) = absurd (omega arith)
one_cut_record s v w (cut_record h m) (least_record k) = absurd (omega arith)
one_cut_record s v w (cut_record h m) (cut_record k l) = refl

pub is_cut_record : (s : List ℕ) (v : Refusal) → IsCutRecord s v → length s < refactor.size s
is_cut_record s v (least_record h) = omega arith
is_cut_record s v (cut_record h m) = m

module _ (e : List ℕ) where
  pub one_fixed : (bit size at : ℕ) (x y : Reason) → IsFixed e bit size at x → IsFixed e bit size at y → x ≡ y
  one_fixed bit size at x y (fixed_unflagged f) (fixed_unflagged g) = refl
  one_fixed bit size at x y (fixed_unflagged f) (fixed_short g h l) = cc
  one_fixed bit size at x y (fixed_unflagged f) (fixed_there g h) = cc
  one_fixed bit size at x y (fixed_short f h l) (fixed_unflagged g) = cc
  one_fixed bit size at x y (fixed_short f h l) (fixed_short g k m) = ap (NoRoom at) (omega arith)
  one_fixed bit size at x y (fixed_short f h l) (fixed_there g k) = absurd (omega arith)
  one_fixed bit size at x y (fixed_there f h) (fixed_unflagged g) = cc
  one_fixed bit size at x y (fixed_there f h) (fixed_short g k m) = absurd (omega arith)
  one_fixed bit size at x y (fixed_there f h) (fixed_there g k) = refl

  pub one_behind : (bit size at x y : ℕ) → Behind e bit size at x → Behind e bit size at y → x ≡ y
  one_behind bit size at x y (behind_unflagged f) (behind_unflagged g) = refl
  one_behind bit size at x y (behind_unflagged f) (behind_short h) = refl
  one_behind bit size at x y (behind_unflagged f) (behind_there g h) = cc
  one_behind bit size at x y (behind_short h) (behind_unflagged f) = refl
  one_behind bit size at x y (behind_short h) (behind_short k) = refl
  one_behind bit size at x y (behind_short h) (behind_there f k) = absurd (omega arith)
  one_behind bit size at x y (behind_there f h) (behind_unflagged g) = cc
  one_behind bit size at x y (behind_there f h) (behind_short k) = absurd (omega arith)
  one_behind bit size at x y (behind_there f h) (behind_there g k) = refl

  -- so many stand behind one another, and there the list stops
  module _ (at : ℕ) where
    pub record ListEnds (before to : ℕ) : Type 0 where
      pub stands : attribute.Stands e (at + 2) to before
      pub few : before ≤ le2 e at
      pub stops : Stops e before to (le2 e at)

    pub same_end : {n m to other : ℕ} → ListEnds n to → ListEnds m other → (n ≡ m) × (to ≡ other)
    same_end {n} {m} {to} {other} p q = one_stop e (at + 2) to other n m (le2 e at) p.stands q.stands p.few q.few p.stops q.stops

    pub at_count : {to : ℕ} → attribute.Stands e (at + 2) to (le2 e at) → ListEnds (le2 e at) to
    at_count s = record { stands = s; few = omega arith; stops = inl refl }

    pub at_cut : {n to : ℕ} {why : Refusal} → attribute.Stands e (at + 2) to n → n < le2 e at → IsCutAttribute (drop to e) why → ListEnds n to
    at_cut {n} {to} {why} s l c = record { stands = s; few = omega arith; stops = inr (is_cut (drop to e) why c) }

    pub at_end : {n : ℕ} (owed : ℕ) → attribute.Stands e (at + 2) (length e) n → n + owed ≡ le2 e at → ListEnds n (length e)
    at_end {n} owed s h = record { stands = s; few = omega arith; stops = inr (let d = length-drop (length e) e in omega arith) }

    two_refused : {n m to other : ℕ} {v w : Refusal} → (n ≡ m) × (to ≡ other) → IsCutAttribute (drop to e) v → IsCutAttribute (drop other e) w → ◌≡◌ {A = Reason} (Refused n to v) (Refused m other w)
    two_refused {n} {m} {to} {other} {v} {w} z c d =
        let same : v ≡ w = one_cut (drop to e) v w c (subst (λ (k : ℕ). IsCutAttribute (drop k e) w) (sym z.1) d) in
        let first = z.0 in
        let second = z.1 in
        cc

    refused_or_end : {n m to : ℕ} → (n ≡ m) × (to ≡ length e) → (n ≡ 0) ⊎ (to < length e) → 0 < m → ⊥
    refused_or_end z (inl h) l = omega (arith, z.0)
    refused_or_end z (inr h) l = omega (arith, z.1)

    pub one_attributes : (x y : Reason) → IsAttributes e at x → IsAttributes e at y → x ≡ y
    one_attributes x y (attributes_unflagged f) (attributes_unflagged g) = refl
    one_attributes x y (attributes_unflagged f) (attributes_short g h l) = cc
    one_attributes x y (attributes_unflagged f) (attributes_whole g h s) = cc
    one_attributes x y (attributes_unflagged f) (attributes_refused g h s l o c) = cc
    one_attributes x y (attributes_unflagged f) (attributes_owed g h s l o c) = cc
    one_attributes x y (attributes_short f h l) (attributes_unflagged g) = cc
    one_attributes x y (attributes_short f h l) (attributes_short g k m) = ap (NoRoom at) (omega arith)
    one_attributes x y (attributes_short f h l) (attributes_whole g k s) = absurd (omega arith)
    one_attributes x y (attributes_short f h l) (attributes_refused g k s m o c) = absurd (omega arith)
    one_attributes x y (attributes_short f h l) (attributes_owed g k s m o c) = absurd (omega arith)
    one_attributes x y (attributes_whole f h s) (attributes_unflagged g) = cc
    one_attributes x y (attributes_whole f h s) (attributes_short g k m) = absurd (omega arith)
    one_attributes x y (attributes_whole f h s) (attributes_whole g k t) = refl
    one_attributes x y (attributes_whole f h s) (attributes_refused g k t l o c) = absurd (omega (arith, (same_end (at_count s) (at_cut t l c)).0))
    one_attributes x y (attributes_whole f h s) (attributes_owed g k t l o c) = absurd (omega (arith, (same_end (at_count s) (at_end _ t c)).0))
    one_attributes x y (attributes_refused f h s l o c) (attributes_unflagged g) = cc
    one_attributes x y (attributes_refused f h s l o c) (attributes_short g k m) = absurd (omega arith)
    one_attributes x y (attributes_refused f h s l o c) (attributes_whole g k t) = absurd (omega (arith, (same_end (at_cut s l c) (at_count t)).0))
    one_attributes x y (attributes_refused f h s l o c) (attributes_refused g k t m n d) = two_refused (same_end (at_cut s l c) (at_cut t m d)) c d
    one_attributes x y (attributes_refused f h s l o c) (attributes_owed g k t m n d) = absurd (refused_or_end (same_end (at_cut s l c) (at_end _ t d)) o m)
    one_attributes x y (attributes_owed f h s l o c) (attributes_unflagged g) = cc
    one_attributes x y (attributes_owed f h s l o c) (attributes_short g k m) = absurd (omega arith)
    one_attributes x y (attributes_owed f h s l o c) (attributes_whole g k t) = absurd (omega (arith, (same_end (at_end _ s c) (at_count t)).0))
    one_attributes x y (attributes_owed f h s l o c) (attributes_refused g k t m n d) = absurd (refused_or_end (same_end (at_cut t m d) (at_end _ s c)) n l)
    one_attributes x y (attributes_owed f h s l o c) (attributes_owed g k t m n d) = ap (Owed (le2 e at)) (omega (arith, (same_end (at_end _ s c) (at_end _ t d)).0))

    pub one_behind_list : (x y : ℕ) → BehindAttributes e at x → BehindAttributes e at y → x ≡ y
    one_behind_list x y (list_unflagged f) (list_unflagged g) = refl
    one_behind_list x y (list_unflagged f) (list_short h) = refl
    one_behind_list x y (list_unflagged f) (list_there g h s l o) = cc
    one_behind_list x y (list_short h) (list_unflagged g) = refl
    one_behind_list x y (list_short h) (list_short k) = refl
    one_behind_list x y (list_short h) (list_there g k s l o) = absurd (omega arith)
    one_behind_list x y (list_there f h s l o) (list_unflagged g) = cc
    one_behind_list x y (list_there f h s l o) (list_short k) = absurd (omega arith)
    one_behind_list x y (list_there f h s l o) (list_there g k t m n) = (one_stop e (at + 2) x y _ _ (le2 e at) s t l m o n).1

  -- a chain stops at a record that is refused, and at one without a follower
  cut_stops : (to : ℕ) {why : Refusal} → IsCutRecord (drop to e) why → ChainStops e to
  cut_stops to {why} c t b = let l = is_cut_record (drop to e) why c in omega arith

  last_stops : (to : ℕ) → refactor.followed (drop to e) ≡ false → ChainStops e to
  last_stops to f t b = cc

  module _ (at : ℕ) where
    same_stop : {n m to other : ℕ} → refactor.Stands e (at + 4) to n → refactor.Stands e (at + 4) other m → ChainStops e to → ChainStops e other → (n ≡ m) × (to ≡ other)
    same_stop {n} {m} {to} {other} s t p q = one_chain_stop e (at + 4) to other n m s t p q

    two_records : {n m to other : ℕ} {v w : Refusal} → (n ≡ m) × (to ≡ other) → IsCutRecord (drop to e) v → IsCutRecord (drop other e) w → ◌≡◌ {A = Reason} (Refused n to v) (Refused m other w)
    two_records {n} {m} {to} {other} {v} {w} z c d =
        let same : v ≡ w = one_cut_record (drop to e) v w c (subst (λ (k : ℕ). IsCutRecord (drop k e) w) (sym z.1) d) in
        let first = z.0 in
        let second = z.1 in
        cc

    cut_or_whole : {to other : ℕ} {v : Refusal} → to ≡ other → IsCutRecord (drop to e) v → refactor.size (drop other e) ≤ length (drop other e) → ⊥
    cut_or_whole {to} {other} {v} z c h =
        let l = is_cut_record (drop to e) v c in
        let k = subst (λ (k : ℕ). refactor.size (drop k e) ≤ length (drop k e)) (sym z) h in
        omega arith

    pub one_chain : (x y : Reason) → IsChain e at x → IsChain e at y → x ≡ y
    one_chain x y (chain_no_flags f) (chain_no_flags g) = refl
    one_chain x y (chain_no_flags f) (chain_short_flags h) = refl
    one_chain x y (chain_no_flags f) (chain_unflagged g h b) = cc
    one_chain x y (chain_no_flags f) (chain_no_byte g h b) = cc
    one_chain x y (chain_no_flags f) (chain_refused g h b s c) = cc
    one_chain x y (chain_no_flags f) (chain_whole g h b s t n) = cc
    one_chain x y (chain_short_flags l) (chain_no_flags g) = refl
    one_chain x y (chain_short_flags l) (chain_short_flags h) = refl
    one_chain x y (chain_short_flags l) (chain_unflagged g h b) = absurd (omega arith)
    one_chain x y (chain_short_flags l) (chain_no_byte g h b) = absurd (omega arith)
    one_chain x y (chain_short_flags l) (chain_refused g h b s c) = absurd (omega arith)
    one_chain x y (chain_short_flags l) (chain_whole g h b s t n) = absurd (omega arith)
    one_chain x y (chain_unflagged f k a) (chain_no_flags g) = cc
    one_chain x y (chain_unflagged f k a) (chain_short_flags h) = absurd (omega arith)
    one_chain x y (chain_unflagged f k a) (chain_unflagged g h b) = refl
    one_chain x y (chain_unflagged f k a) (chain_no_byte g h b) = cc
    one_chain x y (chain_unflagged f k a) (chain_refused g h b s c) = cc
    one_chain x y (chain_unflagged f k a) (chain_whole g h b s t n) = cc
    one_chain x y (chain_no_byte f k a) (chain_no_flags g) = cc
    one_chain x y (chain_no_byte f k a) (chain_short_flags h) = absurd (omega arith)
    one_chain x y (chain_no_byte f k a) (chain_unflagged g h b) = cc
    one_chain x y (chain_no_byte f k a) (chain_no_byte g h b) = refl
    one_chain x y (chain_no_byte f k a) (chain_refused g h b s c) = absurd (omega arith)
    one_chain x y (chain_no_byte f k a) (chain_whole g h b s t n) = absurd (omega arith)
    one_chain x y (chain_refused f k a u d) (chain_no_flags g) = cc
    one_chain x y (chain_refused f k a u d) (chain_short_flags h) = absurd (omega arith)
    one_chain x y (chain_refused f k a u d) (chain_unflagged g h b) = cc
    one_chain x y (chain_refused f k a u d) (chain_no_byte g h b) = absurd (omega arith)
    one_chain x y (chain_refused f k a u d) (chain_refused g h b s c) = two_records (same_stop u s (cut_stops _ d) (cut_stops _ c)) d c
    one_chain x y (chain_refused f k a u d) (chain_whole g h b s t n) = absurd (cut_or_whole (same_stop u s (cut_stops _ d) (last_stops _ n)).1 d t)
    one_chain x y (chain_whole f k a u v m) (chain_no_flags g) = cc
    one_chain x y (chain_whole f k a u v m) (chain_short_flags h) = absurd (omega arith)
    one_chain x y (chain_whole f k a u v m) (chain_unflagged g h b) = cc
    one_chain x y (chain_whole f k a u v m) (chain_no_byte g h b) = absurd (omega arith)
    one_chain x y (chain_whole f k a u v m) (chain_refused g h b s c) = absurd (cut_or_whole (same_stop s u (cut_stops _ c) (last_stops _ m)).1 c v)
    one_chain x y (chain_whole f k a u v m) (chain_whole g h b s t n) = ap (λ (k : ℕ). Whole (at + 4) (suc k)) (same_stop u s (last_stops _ m) (last_stops _ n)).0

pub reasons_one : ReasonsOne
reasons_one e x y p q =
    let guid : x.guid ≡ y.guid = one_fixed e 0x0008 16 (strings_end e) x.guid y.guid p.guid q.guid in
    let c : p.count_at ≡ q.count_at = one_behind e 0x0008 16 (strings_end e) p.count_at q.count_at p.behind_guid q.behind_guid in
    let a : x.attributes ≡ y.attributes = one_attributes e p.count_at x.attributes y.attributes p.attributes (subst (λ (k : ℕ). IsAttributes e k y.attributes) (sym c) q.attributes) in
    let f : p.flags_at ≡ q.flags_at = one_behind_list e p.count_at p.flags_at q.flags_at p.behind_attributes (subst (λ (k : ℕ). BehindAttributes e k q.flags_at) (sym c) q.behind_attributes) in
    let g : x.extended_flags ≡ y.extended_flags = one_fixed e 0x8000 4 p.flags_at x.extended_flags y.extended_flags p.extended_flags (subst (λ (k : ℕ). IsFixed e 0x8000 4 k y.extended_flags) (sym f) q.extended_flags) in
    let h : x.refactor_infos ≡ y.refactor_infos = one_chain e p.flags_at x.refactor_infos y.refactor_infos p.chain (subst (λ (k : ℕ). IsChain e k y.refactor_infos) (sym f) q.chain) in
    ap₂ (λ (u v : Reason). record { guid = u; attributes = v; extended_flags = x.extended_flags; refactor_infos = x.refactor_infos }) guid a
    ∙ ap₂ (λ (u v : Reason). record { guid = y.guid; attributes = y.attributes; extended_flags = u; refactor_infos = v }) g h
