-- What a salvage means: its pieces cover the upload, and what it keeps is nothing but accepted entries.
use Rattle.std.proofs.Common.{ℕ, zero, suc, ◌+◌, ◌-◌, ◌*◌, ◌<◌, ◌≤◌, ◌≡◌, refl, sym, ap, subst, ◌∙◌, Bool, true, false, List, [], ◌∷◌, ◌++◌, length, take, drop, arith, Bor, Result, length-append}
use mathlib.Core.Path.{ap₂}
use mathlib.Core.List.{map}
use Rattle.std.proofs.lemmas.List.{length-map}
use lib.ListN.{length-take, drop_of_length-le}
use lib.Seq.{take_at, drop_at}
use Rattle.std.specs.Prelude.{Some, Ok, Err, is_ok, leb, ltb, if◌then◌else◌}
use borrow.Author.Tests.{leb-true, leb-false, ltb-false, le-ltb, lt-ltb, eqb-true}
use Rattle.le.specs.Le.{le4}
use Rattle.le.specs.Le as le
use Rattle.le.proofs.Laws.{not_both, drop_part}
use Rattle.part.specs.Slice.{part}
use Rattle.refusal.specs.Refusal.{limit, figures_of}
use Rattle.refusal.specs.declared.Refusal.{Refusal}
use Rattle.refusal.specs.declared.Refusal.TheVariants.{TooShort, EntryLengthMismatch, ZeroEntryLength}
use Rattle.entry.specs.declared.Claimed.{Claimed}
use Rattle.entry.specs.Entry.{claim_at}
use Rattle.entry.specs.Walk.{stands, steps}
use Rattle.entry.specs.Claims.{Claims, ended, large, short, beyond, entry}
use Rattle.entry.proofs.Claims.{claims}
use Rattle.walk.specs.Mapped.{map_ok}
use Rattle.walk.specs.declared.Piece.{Piece}
use Rattle.walk.specs.Step.{step_at}
use Rattle.walk.specs.Pieces.{piece_at, pieces_from, pieces}
use Rattle.walk.proofs.Left.{one_left, none_left, piece_ends}
use Rattle.walk.proofs.Theorems.{pieces_are}
use Rattle.index.specs.Index.{starts}
use Rattle.regrown.specs.Regrown.{Tells, Entry, Refused, lying}
use Rattle.salvage.specs.declared.Salvaged.{Salvaged}
use Rattle.salvage.specs.Both.{Writings, answer, wrote, WritesBoth}
use Rattle.salvage.specs.Salvage.{kept, dropped, salvaging}
use Rattle.salvage.specs.Meaning as meaning
use Rattle.salvage.specs.Meaning.{relaid, told_at, Cover, Salvages, Wrote, Answers, Meant, SalvageMeant}
use Rattle.salvage.proofs.Promise.{salvage_large, salvage_both}
use Rattle.salvage.proofs.Entries as entries
use Rattle.salvage.proofs.Laws.{dropped_few}

-- induction over the pieces of an upload, from the last one on
module _ {R : Type 0} (read : Bor (List ℕ) → Result R Refusal) (s : Bor (List ℕ)) (P : ℕ → List (Piece R) → Type 0) (end : P (length s.now) [])
    (turn : (at : ℕ) (more : List (Piece R)) → at < length s.now → P (piece_at read s at).end more → P at (piece_at read s at ∷ more)) where
  abbrev left : ℕ → List (Piece R)
  left at = pieces_from read s at (length s.now - at)

  at_end : (at : ℕ) → at ≤ length s.now → length s.now ≤ at → P at (left at)
  at_end at h k =
      let e : length s.now ≡ at = omega arith in
      subst (P at) (sym (none_left read s at (length s.now - at) k)) (subst (λ (n : ℕ). P n []) e end)

  by_end : (at n : ℕ) → at ≤ length s.now → length s.now - at ≤ suc n → ((next : ℕ) → next ≤ length s.now → length s.now - next ≤ n → P next (left next)) → (b : Bool) → leb (length s.now) at ≡ b → P at (left at)
  by_end at n h k on true e = at_end at h (leb-true (length s.now) at e)
  by_end at n h k on false e =
      let l : at < length s.now = leb-false (length s.now) at e in
      let w = piece_ends read s at l in
      subst (P at) (sym (one_left read s at l)) (turn at (left (piece_at read s at).end) l (on (piece_at read s at).end w.1 (omega (arith, w.0))))

  from : (n at : ℕ) → at ≤ length s.now → length s.now - at ≤ n → P at (left at)
  from zero at h k = at_end at h (omega arith)
  from (suc n) at h k = by_end at n h k (from n) (leb (length s.now) at) refl

  pub pieces_all : P 0 (pieces read s)
  pieces_all = let n : length s.now - 0 ≡ length s.now = omega arith in subst (λ (n : ℕ). P 0 (pieces_from read s 0 n)) n (from (length s.now) 0 (omega arith) (omega arith))

module _ {R S : Type 0} (read : Bor (List ℕ) → Result R Refusal) (length_of : R → ℕ) (told : R → S) (header : ℕ) (four : 4 < header)
    (long : (e : Bor (List ℕ)) (r : R) → read e ≡ Ok r → length_of r ≡ length e.now)
    (room : (e : Bor (List ℕ)) (r : R) → read e ≡ Ok r → header ≤ length e.now)
    (alike : (e f : Bor (List ℕ)) → e.now ≡ f.now → map_ok told (read e) ≡ map_ok told (read f))
    (Reason : ℕ → Type 0) (two : Reason 2) (three : Reason 3)
    (own : (e : Bor (List ℕ)) (why : Refusal) → read e ≡ Err why → Reason (figures_of why).number) where
  abbrev Good : Type 0
  Good = entries.Good read length_of told header four long room alike

  abbrev Here : Bor (List ℕ) → ℕ → Type 0
  Here = entries.Here read length_of told header four long room alike

  abbrev tell : Bor (List ℕ) → ℕ → Tells S
  tell = told_at read length_of told Reason

  module _ (s : Bor (List ℕ)) (at : ℕ) where
    -- what is known of a step within the limit that gives no record
    record Stopped : Type 0 where
      why : Refusal
      said : tell s at ≡ Refused (figures_of why) (claim_at s.now at).next
      piece : stands s.now at ≡ false → (piece_at read s at).answer ≡ Err why
      reason : Reason (figures_of why).number

    -- an entry's own bytes
    by_own : (n : ℕ) (t : Result R Refusal) → (claim_at s.now at).size ≡ Some (Ok n) → (claim_at s.now at).next ≡ at + n → read (part s at n) ≡ t → (b : Bool) → stands s.now at ≡ b → is_ok (piece_at read s at).answer ≡ false → Stopped
    unfolding step_at piece_at le.part
    by_own n (Err why) e f h b k off = record {
      why = why;
      said = simp (e, h);
      piece = λ z. simp z (simp (e, h));
      reason = own (part s at n) why h;
    }
    by_own n (Ok r) e f h false k off = absurd (not_both (simp k (simp (e, h))) off)
    by_own n (Ok r) e f h true k off =
        let z : n ≡ 0 = omega (arith, f, eqb-true (claim_at s.now at).next at k) in
        let l : length (part s at n).now ≤ n = omega (arith, length-take n (drop at s.now)) in
        absurd (omega (arith, room (part s at n) r h, l, z, four))

    by_claims : (c : Claimed) → claim_at s.now at ≡ c → Claims s.now at c → at < length s.now → length s.now ≤ limit → is_ok (piece_at read s at).answer ≡ false → Stopped
    unfolding step_at piece_at
    by_claims c e (ended a) h small off = absurd (omega arith)
    by_claims c e (large a b) h small off = absurd (omega arith)
    by_claims c e (short a b d) h small off = record { why = TooShort (at + 4) (length s.now); said = simp e; piece = λ z. simp z (simp e); reason = two }
    by_claims c e (beyond a b d g) h small off = record { why = EntryLengthMismatch (le4 s.now at) (length s.now - at); said = simp e; piece = λ z. simp z (simp e); reason = three }
    by_claims c e (entry a b d g) h small off = by_own (le4 s.now at) (read (part s at (le4 s.now at))) (ap (λ (x : Claimed). x.size) e) (ap (λ (x : Claimed). x.next) e) refl (stands s.now at) refl off

    stopped : at < length s.now → length s.now ≤ limit → is_ok (piece_at read s at).answer ≡ false → Stopped
    stopped = by_claims (claim_at s.now at) refl (claims s.now at)

    -- a step that gives no record tells none, wherever it is
    passed_own : (p n : ℕ) (more : List (Tells S)) (t : Result R Refusal) → (claim_at s.now at).size ≡ Some (Ok n) → (claim_at s.now at).next ≡ at + n → read (part s at n) ≡ t → (b : Bool) → stands s.now at ≡ b → is_ok (piece_at read s at).answer ≡ false → relaid p (tell s at ∷ more) ≡ relaid p more
    unfolding step_at piece_at relaid
    passed_own p n more (Err why) e f h b k off = simp (e, h)
    passed_own p n more (Ok r) e f h false k off = absurd (not_both (simp k (simp (e, h))) off)
    passed_own p n more (Ok r) e f h true k off =
        let z : n ≡ 0 = omega (arith, f, eqb-true (claim_at s.now at).next at k) in
        let l : length (part s at n).now ≤ n = omega (arith, length-take n (drop at s.now)) in
        absurd (omega (arith, room (part s at n) r h, l, z, four))

    passed_by : (p : ℕ) (more : List (Tells S)) (c : Claimed) → claim_at s.now at ≡ c → Claims s.now at c → is_ok (piece_at read s at).answer ≡ false → relaid p (tell s at ∷ more) ≡ relaid p more
    unfolding step_at relaid
    passed_by p more c e (ended a) off = simp e
    passed_by p more c e (large a b) off = simp e
    passed_by p more c e (short a b d) off = simp e
    passed_by p more c e (beyond a b d g) off = simp e
    passed_by p more c e (entry a b d g) off = passed_own p (le4 s.now at) more (read (part s at (le4 s.now at))) (ap (λ (x : Claimed). x.size) e) (ap (λ (x : Claimed). x.next) e) refl (stands s.now at) refl off

    passed_over : (p : ℕ) (more : List (Tells S)) → is_ok (piece_at read s at).answer ≡ false → relaid p (tell s at ∷ more) ≡ relaid p more
    passed_over p more off = passed_by p more (claim_at s.now at) refl (claims s.now at) off

  -- the pieces cover the upload
  module _ (s : Bor (List ℕ)) (small : length s.now ≤ limit) where
    abbrev C : ℕ → List ℕ → List ℕ → List ℕ → Type 0
    C = Cover read length_of told Reason s

    abbrev From : ℕ → List (Piece R) → Type 0
    From at ps = C at (starts ps) (kept s.now ps) (dropped ps)

    module _ (at : ℕ) (h : at < length s.now) where
      on_by : (end : ℕ) (more new runs : List ℕ) → at < end → C end more new runs → C (at + (end - at)) more new runs
      on_by end more new runs l c = let e : end ≡ at + (end - at) = omega arith in subst (λ (n : ℕ). C n more new runs) e c

      cover_entry : (ps : List (Piece R)) (x : Here s at) → From (at + x.size) ps → From at (record { start = at; end = at + x.size; answer = Ok x.back } ∷ ps)
      unfolding starts kept dropped
      cover_entry ps x c =
          let n : x.size ≡ at + x.size - at = omega arith in
          let l = entries.large read length_of told header four long room alike s at x in
          subst (λ (m : ℕ). C at (at ∷ starts ps) (le.part s.now at m ++ kept s.now ps) (dropped ps)) n
          (meaning.entry (omega (arith, l)) (entries.told_here read length_of told header four long room alike s at x) c)

      cover_run : (ps : List (Piece R)) (x : Stopped s at) → at < (claim_at s.now at).next → From (claim_at s.now at).next ps → From at (record { start = at; end = (claim_at s.now at).next; answer = Err x.why } ∷ ps)
      unfolding starts kept dropped
      cover_run ps x l c =
          let m : at + ((claim_at s.now at).next - at) ≡ (claim_at s.now at).next = omega arith in
          meaning.run {long = (claim_at s.now at).next - at} (omega arith) (x.said ∙ ap (Refused (figures_of x.why)) (sym m)) x.reason (on_by (claim_at s.now at).next (starts ps) (kept s.now ps) (dropped ps) l c)

      cover_zero : (ps : List (Piece R)) (x : Stopped s at) → (claim_at s.now at).next ≡ at → From (length s.now) ps → From at (record { start = at; end = length s.now; answer = Err ZeroEntryLength } ∷ ps)
      unfolding starts kept dropped
      cover_zero ps x e c =
          meaning.zero_claim {long = length s.now - at} (omega arith) (x.said ∙ ap (Refused (figures_of x.why)) e) (omega arith) (on_by (length s.now) (starts ps) (kept s.now ps) (dropped ps) h c)

      cover_stopped : (ps : List (Piece R)) (x : Stopped s at) → From (piece_at read s at).end ps → (b : Bool) → stands s.now at ≡ b → From at (piece_at read s at ∷ ps)
      unfolding piece_at
      cover_stopped ps x c true e = simp e (cover_zero ps x (eqb-true (claim_at s.now at).next at e) (simp e at c))
      cover_stopped ps x c false e =
          let w = piece_ends read s at h in
          let n : (piece_at read s at).end ≡ (claim_at s.now at).next = simp e in
          let a : (piece_at read s at).answer ≡ Err x.why = x.piece e in
          let is : piece_at read s at ≡ record { start = at; end = (claim_at s.now at).next; answer = Err x.why } = same (piece_at read s at) (simp e) n a in
          subst (λ p. From at (p ∷ ps)) (sym is) (cover_run ps x (omega (arith, w.0, n)) (subst (λ (k : ℕ). From k ps) n c))
        where
          same : (p : Piece R) {a b : ℕ} {t : Result R Refusal} → p.start ≡ a → p.end ≡ b → p.answer ≡ t → p ≡ record { start = a; end = b; answer = t }
          same p {a} {b} {t} e f g =
              let q : Piece R = record { start = p.start; end = p.end; answer = p.answer } in
              let is : q ≡ record { start = a; end = b; answer = t } = simp (e, f, g) in
              is

      cover_piece : (ps : List (Piece R)) → From (piece_at read s at).end ps → (b : Bool) → is_ok (piece_at read s at).answer ≡ b → From at (piece_at read s at ∷ ps)
      cover_piece ps c true k =
          let x = entries.here read length_of told header four long room alike s at k in
          let is = entries.piece_here read length_of told header four long room alike s at x in
          subst (λ p. From at (p ∷ ps)) (sym is) (cover_entry ps x (subst (λ (n : ℕ). From n ps) (ap (λ p. p.end) is) c))
      cover_piece ps c false k = cover_stopped ps (stopped s at h small k) c (stands s.now at) refl

    covers : C 0 (starts (pieces read s)) (kept s.now (pieces read s)) (dropped (pieces read s))
    unfolding starts kept dropped
    covers = pieces_all read s From meaning.done (λ at more h c. cover_piece at h more c (is_ok (piece_at read s at).answer) refl)

  -- what is kept of the pieces that begin at these places: accepted entries one after another
  record KeptOf (s : Bor (List ℕ)) (l : List ℕ) : Type 0 where
    goods : List Good
    bytes : kept s.now (map (piece_at read s) l) ≡ entries.joined read length_of told header four long room alike goods
    says : (at : ℕ) → relaid at (map (tell s) l) ≡ entries.laid read length_of told header four long room alike at goods
    number : length (starts (map (piece_at read s) l)) ≡ length goods

  module _ (s : Bor (List ℕ)) where
    starts_on : (at : ℕ) (l : List ℕ) (b : Bool) → is_ok (piece_at read s at).answer ≡ b → length (starts (piece_at read s at ∷ map (piece_at read s) l)) ≡ (if b then suc (length (starts (map (piece_at read s) l))) else length (starts (map (piece_at read s) l)))
    unfolding starts
    starts_on at l true k = simp k
    starts_on at l false k = simp k

    kept_on : (at : ℕ) (l : List ℕ) (x : Here s at) → kept s.now (piece_at read s at ∷ map (piece_at read s) l) ≡ (part s at x.size).now ++ kept s.now (map (piece_at read s) l)
    unfolding kept le.part
    kept_on at l x =
        let is = entries.piece_here read length_of told header four long room alike s at x in
        let n : at + x.size - at ≡ x.size = omega arith in
        rw is (simp n)

    kept_off : (at : ℕ) (l : List ℕ) (t : Result R Refusal) → (piece_at read s at).answer ≡ t → is_ok t ≡ false → kept s.now (piece_at read s at ∷ map (piece_at read s) l) ≡ kept s.now (map (piece_at read s) l)
    unfolding kept
    kept_off at l (Ok r) e k = absurd (not_both refl k)
    kept_off at l (Err why) e k = simp e

    says_on : (at p : ℕ) (more : List (Tells S)) (x : Here s at) → relaid p (tell s at ∷ more) ≡ Entry (told x.back) x.size (p + x.size) ∷ relaid (p + x.size) more
    unfolding relaid
    says_on at p more x = simp (entries.told_here read length_of told header four long room alike s at x)

    kept_turn : (at : ℕ) (l : List ℕ) → KeptOf s l → (b : Bool) → is_ok (piece_at read s at).answer ≡ b → KeptOf s (at ∷ l)
    unfolding entries.joined entries.laid entries.good_here
    kept_turn at l k true e =
        let x = entries.here read length_of told header four long room alike s at e in
        let n : length (part s at x.size).now ≡ x.size = entries.own_long read length_of told header four long room alike s at x in
        record {
          goods = entries.good_here read length_of told header four long room alike s at x ∷ k.goods;
          bytes = kept_on at l x ∙ ap (λ (r : List ℕ). (part s at x.size).now ++ r) k.bytes;
          says = λ a. says_on at a (map (tell s) l) x ∙ simp (n, k.says);
          number = starts_on at l true e ∙ ap suc k.number;
        }
    kept_turn at l k false e =
        record {
          goods = k.goods;
          bytes = kept_off at l (piece_at read s at).answer refl e ∙ k.bytes;
          says = λ a. passed_over s at a (map (tell s) l) e ∙ k.says a;
          number = starts_on at l false e ∙ k.number;
        }

    kept_of : (l : List ℕ) → KeptOf s l
    unfolding kept starts entries.joined entries.laid relaid
    kept_of [] = record { goods = []; bytes = refl; says = λ at. refl; number = refl }
    kept_of (at ∷ l) = kept_turn at l (kept_of l) (is_ok (piece_at read s at).answer) refl

-- what is kept is no longer than the upload
part_short : (s : List ℕ) (at n : ℕ) → length (le.part s at n) ≤ n
unfolding le.part
part_short s at n = omega (arith, length-take n (drop at s))

no_run : (a : ℕ) (l : List ℕ) → a ∷ l ≡ [] → ⊥
no_run a l e = let z : suc (length l) ≡ 0 = ap length e in omega arith

module _ {R S : Type 0} (read : Bor (List ℕ) → Result R Refusal) (length_of : R → ℕ) (told : R → S) (Reason : ℕ → Type 0) (s : Bor (List ℕ)) where
  cover_long : {at : ℕ} {more new runs : List ℕ} → Cover read length_of told Reason s at more new runs → at + length new ≤ length s.now
  cover_long meaning.done = omega arith
  cover_long (meaning.entry {at = at} {long = long} {new = new} h t c) =
      let l = length-append (le.part s.now at long) new in
      omega (arith, cover_long c, part_short s.now at long, l)
  cover_long (meaning.run h t r c) = omega (arith, cover_long c)
  cover_long (meaning.zero_claim h t e c) = omega (arith, cover_long c)

  -- and where nothing was dropped, it is the upload
  cover_all : {at : ℕ} {more new runs : List ℕ} → Cover read length_of told Reason s at more new runs → runs ≡ [] → new ≡ drop at s.now
  cover_all meaning.done e = sym (drop_of_length-le s.now {i = length s.now} (omega arith))
  cover_all (meaning.entry {at = at} {long = long} h t c) e = ap (λ (l : List ℕ). le.part s.now at long ++ l) (cover_all c e) ∙ sym (drop_part s.now at long)
  cover_all (meaning.run h t r c) e = absurd (no_run _ _ e)
  cover_all (meaning.zero_claim h t x c) e = absurd (no_run _ _ e)

-- what is known where a salvage wrote
fits : {bytes slots : ℕ} (t u : Bool) (x y : Refusal) (n m : ℕ) → ◌≡◌ {A = Result Salvaged Refusal} (Ok (wrote bytes slots)) (if t then Err x else if u then Err y else Ok (wrote n m)) → (t ≡ false) × (u ≡ false) × (n ≡ bytes) × (m ≡ slots)
fits true u x y n m e = absurd (let z : ◌≡◌ {A = ℕ} 0 1 = cc in omega arith)
fits false true x y n m e = absurd (let z : ◌≡◌ {A = ℕ} 0 1 = cc in omega arith)
fits {bytes} {slots} false false x y n m e = let is : wrote bytes slots ≡ wrote n m = cc in (refl, refl, sym (ap (λ (w : Salvaged). w.bytes) is), sym (ap (λ (w : Salvaged). w.slots) is))

record Listed (old new bs : List ℕ) (n : ℕ) : Type 0 where
  there : n ≤ length new
  is : take n new ≡ bs
  behind : drop n new ≡ drop n old

listed : (old new bs : List ℕ) {n : ℕ} → new ≡ bs ++ drop (length bs) old → length bs ≡ n → Listed old new bs n
listed old new bs {n} e l =
    let k = ap length e ∙ length-append bs (drop (length bs) old) in
    record {
      there = omega (arith, k, l);
      is = ap (take n) e ∙ take_at bs (drop (length bs) old) n l;
      behind = ap (drop n) e ∙ drop_at bs (drop (length bs) old) n l ∙ ap (λ (m : ℕ). drop m old) l;
    }

module _ {out runs out' runs' : List ℕ} {bytes slots : ℕ} where
  wrote_both : (bs ns : List ℕ) → WritesBoth (Ok (bs, ns)) out runs out' runs' (Ok (wrote bytes slots)) → Listed out out' bs bytes × Listed runs runs' ns slots
  wrote_both bs ns w =
      let f = fits (ltb (length out) (length bs)) (ltb (length runs) (length ns)) _ _ (length bs) (length ns) w.said in
      (listed out out' bs (w.left_bytes ∙ simp (f.0, f.1)) f.2, listed runs runs' ns (w.left_slots ∙ simp (f.0, f.1)) f.3)

  wrote_by : (large : Bool) (why : Refusal) (bs ns : List ℕ) → WritesBoth (if large then Err why else Ok (bs, ns)) out runs out' runs' (Ok (wrote bytes slots)) → (large ≡ false) × (Listed out out' bs bytes) × (Listed runs runs' ns slots)
  wrote_by true why bs ns w = absurd (let z : ◌≡◌ {A = ℕ} 0 1 = cc w.said in omega arith)
  wrote_by false why bs ns w = let b = wrote_both bs ns w in (refl, b.0, b.1)

-- and where it was refused
abbrev either_of : Bool → Bool → List ℕ × List ℕ → List ℕ × List ℕ → List ℕ × List ℕ
either_of t u old new = if t then old else if u then old else new

module _ {out runs out' runs' : List ℕ} {why : Refusal} where
  untouched_by : (new : List ℕ × List ℕ) (t u : Bool) (x y : Refusal) (n m : ℕ)
      → ◌≡◌ {A = Result Salvaged Refusal} (Err why) (if t then Err x else if u then Err y else Ok (wrote n m))
      → out' ≡ (either_of t u (out, runs) new).0 → runs' ≡ (either_of t u (out, runs) new).1 → (out' ≡ out) × (runs' ≡ runs)
  untouched_by new true u x y n m e f g = (f, g)
  untouched_by new false true x y n m e f g = (f, g)
  untouched_by new false false x y n m e f g = absurd (let z : ◌≡◌ {A = ℕ} 0 1 = cc in omega arith)

  untouched : (w : Writings) → WritesBoth w out runs out' runs' (Err why) → (out' ≡ out) × (runs' ≡ runs)
  untouched (Ok b) w = untouched_by (b.0 ++ drop (length b.0) out, b.1 ++ drop (length b.1) runs) (ltb (length out) (length b.0)) (ltb (length runs) (length b.1)) _ _ _ _ w.said w.left_bytes w.left_slots
  untouched (Err x) w = (w.left_bytes, w.left_slots)

module _ {R S : Type 0} (read : Bor (List ℕ) → Result R Refusal) (length_of : R → ℕ) (told : R → S) (header : ℕ) (four : 4 < header)
    (long : (e : Bor (List ℕ)) (r : R) → read e ≡ Ok r → length_of r ≡ length e.now)
    (room : (e : Bor (List ℕ)) (r : R) → read e ≡ Ok r → header ≤ length e.now)
    (alike : (e f : Bor (List ℕ)) → e.now ≡ f.now → map_ok told (read e) ≡ map_ok told (read f))
    (Reason : ℕ → Type 0) (two : Reason 2) (three : Reason 3)
    (own : (e : Bor (List ℕ)) (why : Refusal) → read e ≡ Err why → Reason (figures_of why).number) where
  -- of an upload within the limit
  module _ (s : Bor (List ℕ)) (small : length s.now ≤ limit) where
    abbrev joined_of : List (entries.Good read length_of told header four long room alike) → List ℕ
    joined_of = entries.joined read length_of told header four long room alike

    all : KeptOf read length_of told header four long room alike Reason two three own s (steps s.now)
    all = kept_of read length_of told header four long room alike Reason two three own s (steps s.now)

    new_is : kept s.now (pieces read s) ≡ joined_of all.goods
    new_is = ap (kept s.now) (pieces_are read s) ∙ all.bytes

    number_is : length (starts (pieces read s)) ≡ length all.goods
    number_is = ap (λ ps. length (starts ps)) (pieces_are read s) ∙ all.number

    covered : Cover read length_of told Reason s 0 (starts (pieces read s)) (kept s.now (pieces read s)) (dropped (pieces read s))
    covered = covers read length_of told header four long room alike Reason two three own s small

    new_small : length (joined_of all.goods) ≤ limit
    new_small = omega (arith, cover_long read length_of told Reason s covered, ap length new_is)

    again : (m : ℕ × ℕ) → salvaging read (lying m (joined_of all.goods)) ≡ Ok (joined_of all.goods, [])
    again m =
        let n : length (joined_of all.goods) - 0 ≡ length (joined_of all.goods) = omega arith in
        let k : kept (joined_of all.goods) (pieces read (lying m (joined_of all.goods))) ≡ joined_of all.goods = rw n at (entries.all_kept read length_of told header four long room alike m [] all.goods new_small) in
        let d : dropped (pieces read (lying m (joined_of all.goods))) ≡ [] = rw n at (entries.none_dropped read length_of told header four long room alike m [] all.goods new_small) in
        salvage_both read (lying m (joined_of all.goods)) new_small ∙ ap₂ (λ (x y : List ℕ). Ok (x, y)) k d

    salvages : Salvages read length_of told Reason s (kept s.now (pieces read s)) (dropped (pieces read s))
    salvages =
        record {
          covered = covered;
          undamaged = λ e. cover_all read length_of told Reason s covered e;
          walked = λ m spare. simp (new_is, number_is) (entries.walk_laid read length_of told header four long room alike m [] all.goods new_small spare ∙ sym (all.says 0));
          again = λ m. simp new_is (again m);
        }

    few : length (dropped (pieces read s)) ≤ 3 * length (steps s.now)
    few = omega (arith, dropped_few (pieces read s), ap length (pieces_are read s), length-map (steps s.now) (piece_at read s))

    wrote_done : {out runs out' runs' : List ℕ} {r : Result Salvaged Refusal} → length s.now ≤ length out → 3 * length (steps s.now) ≤ length runs → WritesBoth (salvaging read s) out runs out' runs' r
        → r ≡ Ok (wrote (length (kept s.now (pieces read s))) (length (dropped (pieces read s))))
    wrote_done {out} {runs} h k w =
        let t = le-ltb (length out) (length (kept s.now (pieces read s))) (omega (arith, cover_long read length_of told Reason s covered)) in
        let u = le-ltb (length runs) (length (dropped (pieces read s))) (omega (arith, few)) in
        w.said ∙ simp (salvage_both read s small, t, u)

    answers : {out runs out' runs' : List ℕ} {r : Result Salvaged Refusal} → WritesBoth (salvaging read s) out runs out' runs' r → Answers out runs (kept s.now (pieces read s)) (dropped (pieces read s)) r
    answers {out} {runs} w =
        let bs : List ℕ = kept s.now (pieces read s) in
        let ns : List ℕ = dropped (pieces read s) in
        let both = salvage_both read s small in
        record {
          few_bytes = λ h. w.said ∙ simp (both, lt-ltb (length out) (length bs) h);
          few_slots = λ h k. w.said ∙ simp (both, le-ltb (length out) (length bs) h, lt-ltb (length runs) (length ns) k);
          enough = λ h k. w.said ∙ simp (both, le-ltb (length out) (length bs) h, le-ltb (length runs) (length ns) k);
        }

  pub salvage_meant_of : SalvageMeant read length_of told Reason
  unfolding salvaging
  salvage_meant_of s out runs out' runs' r w =
      record {
        too_large = λ large. w.said ∙ ap (λ x. answer x (length out) (length runs)) (salvage_large read s large);
        within = λ small. (kept s.now (pieces read s), dropped (pieces read s), salvages s small, answers s small w);
        wrote_it = λ bytes slots e.
            let d = wrote_by (ltb limit (length s.now)) _ (kept s.now (pieces read s)) (dropped (pieces read s)) (subst (WritesBoth (salvaging read s) out runs out' runs') e w) in
            record {
              there = (d.1.there, d.2.there);
              salvages = subst (λ (n : List ℕ). Salvages read length_of told Reason s n (take slots runs')) (sym d.1.is) (subst (Salvages read length_of told Reason s (kept s.now (pieces read s))) (sym d.2.is) (salvages s (ltb-false limit (length s.now) d.0)));
              behind = (d.1.behind, d.2.behind);
            };
        refused = λ why e. untouched (salvaging read s) (subst (WritesBoth (salvaging read s) out runs out' runs') e w);
        done_it = λ small h k. (length (kept s.now (pieces read s)), length (dropped (pieces read s)), wrote_done s small h k w);
      }
