-- The bytes of a record are read as it, and a good one is the bytes of what it tells; so the theorems of specs/Fit.antt.
use Rattle.std.proofs.Common.{◌≡◌, ℕ, zero, suc, ◌+◌, ◌-◌, ◌<◌, ◌≤◌, Bool, true, false, List, [], ◌∷◌, ◌++◌, length, take, drop, get_or, Ok, Err, refl, sym, ap, ap₂, ◌∙◌, arith, length-append, append_assoc, length-drop, Bor}
use Rattle.std.specs.Prelude.{Some, None, ltb, bit_and, if◌then◌else◌}
use Rattle.std.specs.List.{All}
use Rattle.std.specs.Bool.{beq}
use native.Mathlib.Numerals.{add-one}
use native.Mathlib.Nat.{add_comm, add-zero, suc-add}
use lib.Bits.{and_le_r}
use lib.Seq.{take_at, drop_at, drop-cons, drop-drop, get_or_at, get_or-drop}
use lib.ListN.{take-append-drop}
use borrow.Author.Tests.{le-ltb, lt-ltb, eq-eqb}
use Rattle.le.specs.Le.{le2, le4, bytes2, bytes4, has}
use Rattle.le.proofs.Laws.{le4_bytes4}
use Rattle.part.specs.Slice.{after}
use Rattle.refusal.specs.Refusal.{limit}
use Rattle.refusal.specs.EndBytes.{ended}
use Rattle.refusal.specs.declared.Mode.{Mode}
use Rattle.refusal.specs.declared.Mode.TheVariants.{Present, Checked}
use Rattle.refusal.specs.declared.Refusal.TheVariants.{BadBlock, TooShort}
use Rattle.writing.specs.Checks.{count_checked}
use Rattle.refactor.specs.declared.AdsRefactorInfo.{AdsRefactorInfo}
use Rattle.refactor.specs.Refactor.{mask, follower, listed, alone}
use Rattle.refactor.specs.Block.{good_of, exact}
use Rattle.refactor.specs.Told.{Told, told_of, told}
use Rattle.refactor.specs.Writing.{packed_of, info_bytes, info_writing}
use Rattle.refactor.specs.Fit.{Former, Fits, bytes_of, written, RefactorsReadBack, is_followed, chain_bytes, chain_written, last_count, RefactorBlocks, RefactorsFixed, formers, RefactorBlocksMade}
use Rattle.refactor.proofs.Again.{n_of, here, first_here, length_name, listed_here, IsGood, exact_none, exact_more}
use Rattle.refactor.proofs.Inside.{listed_none, listed_stop}
use Rattle.refactor.proofs.Mask.{within_mask, told_follower, packed_same}
use Rattle.refactor.proofs.Turn.{nothing_first}
use Rattle.refactor.proofs.Written.{length_info, passes}

-- what stands at the start of the bytes of a record and any others
pub record IsWritten (packed : ℕ) (name more : List ℕ) (s : Bor (List ℕ)) : Type 0 where
  pub there : n_of s + 7 ≤ length s.now
  pub packed_is : le4 s.now 0 ≡ packed
  pub name_is : (here s).0.name.now ≡ name
  pub end : get_or s.now (6 + n_of s) 0 ≡ 0
  pub rest : (here s).1.now ≡ more
  pub size : n_of s + 7 ≡ length (info_bytes packed name)

module _ (packed : ℕ) (name more : List ℕ) (s : Bor (List ℕ)) (e : s.now ≡ info_bytes packed name ++ more) (small : packed < 4294967296) (short : length name ≤ 65535) where
  by_name : s.now ≡ bytes4 packed ++ (bytes2 (length name) ++ (name ++ (0 ∷ more)))
  unfolding info_bytes
  by_name = e ∙ simp append_assoc

  front : List ℕ
  front = bytes4 packed ++ (bytes2 (length name) ++ name)

  length_front : length front ≡ 6 + length name
  unfolding front
  length_front = simp length-append (omega arith)

  by_end : s.now ≡ front ++ (0 ∷ more)
  unfolding front
  by_end = by_name ∙ simp append_assoc

  n_is : n_of s ≡ length name
  unfolding le2
  n_is = ap (λ (b : List ℕ). le2 b 4) by_name ∙ omega arith

  packed_here : le4 s.now 0 ≡ packed
  packed_here = ap (λ (b : List ℕ). le4 b 0) by_name ∙ le4_bytes4 packed (bytes2 (length name) ++ (name ++ (0 ∷ more))) small

  whole : length s.now ≡ length name + 7 + length more
  whole = ap length e ∙ length-append (info_bytes packed name) more ∙ ap (λ (k : ℕ). k + length more) (length_info packed name)

  is_there : n_of s + 7 ≤ length s.now
  is_there = let n = n_is in let w = whole in omega (arith, n, w)

  name_here : (here s).0.name.now ≡ name
  name_here = rw n_is (ap (λ (b : List ℕ). take (length name) (drop 6 b)) by_name ∙ take_at name (0 ∷ more) (length name) refl)

  pub is_written : IsWritten packed name more s
  is_written = record {
    there = is_there;
    packed_is = packed_here;
    name_is = name_here;
    end = rw n_is (ap (λ (b : List ℕ). get_or b (6 + length name) 0) by_end ∙ get_or_at front 0 more 0 (6 + length name) length_front);
    rest = rw n_is (ap (drop (length name + 7)) e ∙ drop_at (info_bytes packed name) more (length name + 7) (length_info packed name));
    size = rw n_is (sym (length_info packed name));
  }

-- a record that is to be written
module _ (f : Former) (has_next : Bool) (fits : Fits f) (more : List ℕ) (s : Bor (List ℕ)) (e : s.now ≡ bytes_of f has_next ++ more) where
  abbrev packed : ℕ
  packed = packed_of f.count has_next

  within : bit_and packed mask ≡ packed
  within = within_mask f.count has_next

  pub stands : IsWritten packed f.name more s
  unfolding packed_of
  stands = is_written packed f.name more s e (let w = and_le_r packed mask in let v = within in omega (arith, w, v)) fits.name

  pub packed_good : le4 s.now 0 ≡ (here s).0.refactor_count
  packed_good = let p = stands.packed_is in rw p (sym within)

  pub follows_is : (here s).0.next_refactor_info ≡ (if has_next then true else has f.count follower)
  follows_is = ap (λ (x : ℕ). has x follower) stands.packed_is ∙ told_follower f.count has_next

  pub told_is : told_of (here s).0 ≡ written f has_next
  unfolding packed_of
  told_is =
      let c : (here s).0.refactor_count ≡ packed = sym packed_good ∙ stands.packed_is in
      rw (c, follows_is, stands.name_is) refl

-- it is read alone in whatever mode
end_passes : (s : Bor (List ℕ)) → n_of s + 7 ≤ length s.now → get_or s.now (6 + n_of s) 0 ≡ 0 → ended ((6 + length (here s).0.name.now, get_or s.now (6 + length (here s).0.name.now) 0) ∷ []) ≡ Ok tt
unfolding ended
end_passes s t z = rw (length_name s t) (simp z)

good_alone : (mode : Mode) (s : Bor (List ℕ)) → n_of s + 7 ≤ length s.now → get_or s.now (6 + n_of s) 0 ≡ 0 → length s.now ≤ limit → alone mode s ≡ Ok (here s).0
good_alone Present s t z h = simp (le-ltb limit (length s.now) h, first_here s t)
good_alone Checked s t z h = simp (le-ltb limit (length s.now) h, first_here s t, end_passes s t z)

short_name : (f : Former) → Fits f → count_checked (length f.name) ≡ Ok tt
short_name f h = simp (le-ltb 65535 (length f.name) h.name)

only_fits : (f : Former) (has_next : Bool) (bytes : List ℕ) → info_writing f.count has_next f.name ≡ Ok bytes → Fits f × (bytes ≡ bytes_of f has_next)
unfolding info_writing packed_of
only_fits f has_next bytes h = (record { name = grind arith }, grind arith)

pub refactors_read_back : RefactorsReadBack
unfolding packed_of
refactors_read_back mode f has_next = record {
  written = λ h. passes f.count has_next f.name (short_name f h);
  only = only_fits f has_next;
  read = λ h s more e l.
      let w = stands f has_next h more s e in
      record {
        back = (here s).0;
        is = good_alone mode s w.there w.end l;
        tells = told_is f has_next h more s e;
        takes = first_here s w.there ∙ ap (λ (k : ℕ). Ok ((here s).0, after s k)) w.size;
      };
}

-- a record that is there, has nothing else packed and its end byte: it is good where it tells a follower rightly
module _ (s : Bor (List ℕ)) (there : n_of s + 7 ≤ length s.now) (packed : le4 s.now 0 ≡ (here s).0.refactor_count) (end : get_or s.now (6 + n_of s) 0 ≡ 0) where
  pub good_is : (follows b : Bool) → beq (here s).0.next_refactor_info follows ≡ b → good_of s follows ≡ (if b then Some (here s).1 else None)
  unfolding good_of
  good_is follows true h = simp (first_here s there, eq-eqb (le4 s.now 0) (here s).0.refactor_count packed, h, length_name s there, end)
  good_is follows false h = simp (first_here s there, eq-eqb (le4 s.now 0) (here s).0.refactor_count packed, h)

  pub exact_on : (count left : ℕ) → beq (here s).0.next_refactor_info (ltb 0 left) ≡ true → exact s count (suc left) ≡ exact (here s).1 count left
  unfolding exact
  exact_on count left h = simp (good_is (ltb 0 left) true h)

  exact_off : (count left : ℕ) → beq (here s).0.next_refactor_info (ltb 0 left) ≡ false → exact s count (suc left) ≡ Err (BadBlock count (count - suc left))
  unfolding exact
  exact_off count left h = simp (good_is (ltb 0 left) false h)

exact_end : (s : Bor (List ℕ)) (count : ℕ) → length s.now ≡ 0 → exact s count 0 ≡ Ok tt
unfolding exact
exact_end s count h = simp (eq-eqb (length s.now) 0 h)

-- the first of some, and the others
first_fits : (f : Former) (fs : List Former) → All Fits (f ∷ fs) → Fits f
first_fits f fs h = h 0 f (omega arith)

others_fit : (f : Former) (fs : List Former) → All Fits (f ∷ fs) → All Fits fs
others_fit f fs h k d l = h (suc k) d (omega arith)

-- records one after another: each but the last is good, and the last where its count has no follower's bit
last_of : (f : Former) → Fits f → (s : Bor (List ℕ)) (count : ℕ) → s.now ≡ bytes_of f false ++ [] → (b : Bool) → has f.count follower ≡ b
    → exact s count 1 ≡ (if b then Err (BadBlock count (count - 1)) else Ok tt)
last_of f h s count e true k =
    let w = stands f false h [] s e in
    exact_off s w.there (packed_good f false h [] s e) w.end count 0 (rw (follows_is f false h [] s e, k) refl)
last_of f h s count e false k =
    let w = stands f false h [] s e in
    exact_on s w.there (packed_good f false h [] s e) w.end count 0 (rw (follows_is f false h [] s e, k) refl) ∙ exact_end (here s).1 count (ap length w.rest)

block_good : (fs : List Former) → All Fits fs → (s : Bor (List ℕ)) (count : ℕ) → s.now ≡ chain_bytes fs → (b : Bool) → has (last_count fs) follower ≡ b
    → exact s count (length fs) ≡ (if b then Err (BadBlock count (count - 1)) else Ok tt)
unfolding chain_bytes last_count
block_good [] h s count e true k = absurd (let z : ◌≡◌ {A = ℕ} 0 1 = cc in omega arith)
block_good [] h s count e false k = exact_end s count (ap length e)
block_good (f ∷ []) h s count e b k = last_of f (first_fits f [] h) s count e b k
block_good (f ∷ next ∷ fs) h s count e b k =
    let g = first_fits f (next ∷ fs) h in
    let more = chain_bytes (next ∷ fs) in
    let w = stands f true g more s e in
    let l : ltb 0 (length (next ∷ fs)) ≡ true = lt-ltb 0 (length (next ∷ fs)) (omega arith) in
    exact_on s w.there (packed_good f true g more s e) w.end count (length (next ∷ fs)) (rw (follows_is f true g more s e, l) refl)
    ∙ block_good (next ∷ fs) (others_fit f (next ∷ fs) h) (here s).1 count w.rest b k

-- nothing is told past the end
nothing_told : (s : Bor (List ℕ)) (left : ℕ) → length s.now ≡ 0 → listed s left ≡ []
nothing_told s zero h = listed_none s
nothing_told s (suc left) h = listed_stop s left (TooShort 7 0) (nothing_first s h)

block_told : (fs : List Former) → All Fits fs → (s : Bor (List ℕ)) (left : ℕ) → s.now ≡ chain_bytes fs → told (listed s (length fs + left)) ≡ chain_written fs
unfolding chain_bytes chain_written
block_told [] h s left e = ap told (nothing_told s (0 + left) (ap length e))
block_told (f ∷ fs) h s left e =
    let g = first_fits f fs h in
    let w = stands f (is_followed fs) g (chain_bytes fs) s e in
    rw suc-add (ap told (listed_here s (length fs + left) w.there)
    ∙ ap₂ (λ (x : Told) (l : List Told). x ∷ l) (told_is f (is_followed fs) g (chain_bytes fs) s e) (block_told fs (others_fit f fs h) (here s).1 left w.rest))

pub refactor_blocks : RefactorBlocks
refactor_blocks fs block h e = record {
  passes = block_good fs h block (length fs) e (has (last_count fs) follower) refl;
  tells = rw add-zero at (block_told fs h block 0 e);
}

pub refactors_fixed : RefactorsFixed
refactors_fixed fs gs h k e =
    let s : Bor (List ℕ) = record { ref_ptr = (0, 0); now = chain_bytes fs } in
    sym (block_told fs h s (length gs) refl) ∙ ap (λ (n : ℕ). told (listed s n)) (add_comm (length fs) (length gs)) ∙ block_told gs k s (length fs) e

-- a good one of bytes is the bytes of what it tells
byte_here : (s : List ℕ) (at n : ℕ) → at < length s → at + 1 ≡ n → drop at s ≡ get_or s at 0 ∷ drop n s
byte_here s at n h e = drop-cons s at 0 h ∙ ap (λ (k : ℕ). get_or s at 0 ∷ drop k s) (sym (add-one at) ∙ e)

part_here : (s : List ℕ) (at n m : ℕ) → at + n ≡ m → drop at s ≡ take n (drop at s) ++ drop m s
part_here s at n m e = sym (take-append-drop n (drop at s)) ∙ ap (λ (l : List ℕ). take n (drop at s) ++ l) (drop-drop n at s ∙ ap (λ (k : ℕ). drop k s) e)

module _ (s : Bor (List ℕ)) (byte : All (λ b. b < 256) s.now) (there : n_of s + 7 ≤ length s.now) (end : get_or s.now (6 + n_of s) 0 ≡ 0) where
  is_byte : (k : ℕ) → k < n_of s + 7 → get_or s.now k 0 < 256
  is_byte k h = byte k 0 (omega arith)

  four_here : s.now ≡ bytes4 (le4 s.now 0) ++ drop 4 s.now
  unfolding le4
  four_here =
      let a = is_byte 0 (omega arith) in
      let b = is_byte 1 (omega arith) in
      let c = is_byte 2 (omega arith) in
      let d = is_byte 3 (omega arith) in
      byte_here s.now 0 1 (omega arith) refl ∙ ap₂ (λ (x : ℕ) (l : List ℕ). x ∷ l) (omega arith)
      (byte_here s.now 1 2 (omega arith) refl ∙ ap₂ (λ (x : ℕ) (l : List ℕ). x ∷ l) (omega arith)
      (byte_here s.now 2 3 (omega arith) refl ∙ ap₂ (λ (x : ℕ) (l : List ℕ). x ∷ l) (omega arith)
      (byte_here s.now 3 4 (omega arith) refl ∙ ap (λ (x : ℕ). x ∷ drop 4 s.now) (omega arith))))

  two_here : drop 4 s.now ≡ bytes2 (n_of s) ++ drop 6 s.now
  unfolding le2
  two_here =
      let a = is_byte 4 (omega arith) in
      let b = is_byte 5 (omega arith) in
      byte_here s.now 4 5 (omega arith) refl ∙ ap₂ (λ (x : ℕ) (l : List ℕ). x ∷ l) (omega arith)
      (byte_here s.now 5 6 (omega arith) refl ∙ ap (λ (x : ℕ). x ∷ drop 6 s.now) (omega arith))

  laid : s.now ≡ bytes4 (le4 s.now 0) ++ (bytes2 (n_of s) ++ ((here s).0.name.now ++ (0 ∷ (here s).1.now)))
  laid =
      four_here ∙ ap (λ (l : List ℕ). bytes4 (le4 s.now 0) ++ l)
      (two_here ∙ ap (λ (l : List ℕ). bytes2 (n_of s) ++ l)
      (part_here s.now 6 (n_of s) (6 + n_of s) refl ∙ ap (λ (l : List ℕ). (here s).0.name.now ++ l)
      (byte_here s.now (6 + n_of s) (n_of s + 7) (omega arith) (omega arith) ∙ ap (λ (x : ℕ). x ∷ drop (n_of s + 7) s.now) end)))

  is_bytes : s.now ≡ info_bytes (le4 s.now 0) (here s).0.name.now ++ (here s).1.now
  unfolding info_bytes
  is_bytes = laid ∙ rw (length_name s there) (simp append_assoc)

pub later_bytes : (s : Bor (List ℕ)) (k : ℕ) → All (λ b. b < 256) s.now → All (λ b. b < 256) (after s k).now
later_bytes s k h j d l = let n = length-drop k s.now in rw (get_or-drop k s.now j d) (h (k + j) d (omega arith))

empty : (l : List ℕ) → length l ≡ 0 → l ≡ []
empty [] h = refl
empty (x ∷ l) h = absurd (omega arith)

followed_is : (fs : List Former) (n : ℕ) → length fs ≡ n → is_followed fs ≡ ltb 0 n
followed_is [] n h = rw (← h) refl
followed_is (f ∷ fs) n h = sym (lt-ltb 0 n (omega arith))

chain_more : (f : Former) (fs : List Former) (n : ℕ) → length fs ≡ n → packed_of f.count (ltb 0 n) ≡ f.count → chain_bytes (f ∷ fs) ≡ info_bytes f.count f.name ++ chain_bytes fs
unfolding chain_bytes packed_of
chain_more f fs n h k = rw (followed_is fs n h, k) refl

pub long_formers : (rs : List Told) → length (formers rs) ≡ length rs
long_formers [] = refl
long_formers (r ∷ rs) = ap suc (long_formers rs)

packed_as_it_is : (s next : Bor (List ℕ)) (follows : Bool) → IsGood s next follows → packed_of (here s).0.refactor_count follows ≡ (here s).0.refactor_count
packed_as_it_is s next follows g = packed_same (here s).0.refactor_count follows (ap (λ (x : ℕ). bit_and x mask) (sym g.packed)) (ap (λ (x : ℕ). has x follower) (sym g.packed) ∙ g.followed)

made_none : (s : Bor (List ℕ)) → length s.now ≡ 0 → (s.now ≡ chain_bytes (formers (told (listed s 0)))) × (length (told (listed s 0)) ≡ 0)
unfolding chain_bytes
made_none s h = rw (listed_none s) (empty s.now h, refl)

made_of : (left count : ℕ) (s : Bor (List ℕ)) → All (λ b. b < 256) s.now → exact s count left ≡ Ok tt
    → (s.now ≡ chain_bytes (formers (told (listed s left)))) × (length (told (listed s left)) ≡ left)
made_of zero count s b h = made_none s (exact_none s count h)
made_of (suc left) count s b h =
    let g = exact_more s count left h in
    let r = made_of left count (here s).1 (later_bytes s (n_of s + 7) b) g.1 in
    let l = listed_here s left g.0.there in
    let rs : List Told = told (listed (here s).1 left) in
    let f : Former = record { count = (here s).0.refactor_count; name = (here s).0.name.now } in
    let c = chain_more f (formers rs) left (long_formers rs ∙ r.1) (packed_as_it_is s (here s).1 (ltb 0 left) g.0) in (
      is_bytes s b g.0.there g.0.end ∙ ap₂ (λ (x : ℕ) (y : List ℕ). info_bytes x (here s).0.name.now ++ y) g.0.packed r.0 ∙ sym c ∙ sym (ap (λ (x : List AdsRefactorInfo). chain_bytes (formers (told x))) l),
      ap (λ (x : List AdsRefactorInfo). length (told x)) l ∙ ap suc r.1,
    )

pub refactor_blocks_made : RefactorBlocksMade
refactor_blocks_made count block b h = let r = made_of count count block b h in record { is = r.0; long = r.1 }
