-- The bytes of an attribute are read as it, and a good one is the bytes of what it tells; so the theorems of specs/Fit.antt.
use Rattle.std.proofs.Common.{◌≡◌, ℕ, zero, suc, ◌+◌, ◌<◌, ◌≤◌, List, [], ◌∷◌, ◌++◌, length, take, drop, get_or, Ok, refl, sym, ap, ap₂, ◌∙◌, arith, length-append, append_assoc, Bor}
use native.Mathlib.Numerals.{add-one}
use native.Mathlib.Nat.{add_comm, add-zero, suc-add}
use lib.Seq.{take_at, drop_at, drop-cons, drop-drop, get_or_at}
use lib.ListN.{take-append-drop}
use borrow.Author.Tests.{le-ltb, eq-eqb}
use Rattle.part.specs.Slice.{after}
use Rattle.refusal.specs.Refusal.{limit}
use Rattle.refusal.specs.EndBytes.{ended}
use Rattle.refusal.specs.declared.Mode.{Mode}
use Rattle.refusal.specs.declared.Mode.TheVariants.{Present, Checked}
use Rattle.attribute.specs.Attribute.{listed, ends, alone}
use Rattle.attribute.specs.Block.{good_of, exact}
use Rattle.attribute.specs.Told.{Told, told_of, told}
use Rattle.attribute.specs.Writing.{attribute_bytes, length_checked, lengths_checked, attribute_writing}
use Rattle.attribute.specs.Fit.{Fits, AttributesReadBack, block_of, AttributeBlocks, AttributesFixed, AttributeBlocksMade}
use Rattle.attribute.proofs.Again.{n_of, v_of, here, first_here, ends_here, two_zero, length_name, length_value, IsGood, exact_none, exact_more}
use Rattle.attribute.proofs.Laws.{listed_more, listed_none, nothing_listed}
use Rattle.attribute.proofs.Written.{length_bytes, passes}

-- what stands at the start of the bytes of an attribute and any others
pub record IsWritten (a : Told) (more : List ℕ) (s : Bor (List ℕ)) : Type 0 where
  pub good : IsGood s (here s).1
  pub tells : told_of (here s).0 ≡ a
  pub rest : (here s).1.now ≡ more
  pub size : n_of s + v_of s + 4 ≡ length (attribute_bytes a)

module _ (a : Told) (more : List ℕ) (s : Bor (List ℕ)) (e : s.now ≡ attribute_bytes a ++ more) where
  n_is : n_of s ≡ length a.name
  unfolding attribute_bytes
  n_is = ap (λ (b : List ℕ). get_or b 0 0) e

  v_is : v_of s ≡ length a.value
  unfolding attribute_bytes
  v_is = ap (λ (b : List ℕ). get_or b 1 0) e

  -- the name with what stands before it and its end byte; the value and its own follow
  by_name : s.now ≡ length a.name ∷ length a.value ∷ (a.name ++ (0 ∷ (a.value ++ (0 ∷ more))))
  unfolding attribute_bytes
  by_name = e ∙ simp append_assoc

  front : List ℕ
  front = length a.name ∷ length a.value ∷ (a.name ++ (0 ∷ []))

  length_front : length front ≡ length a.name + 3
  unfolding front
  length_front = simp length-append (omega arith)

  by_value : s.now ≡ front ++ (a.value ++ (0 ∷ more))
  unfolding front
  by_value = by_name ∙ simp append_assoc

  whole : length s.now ≡ length a.name + length a.value + 4 + length more
  whole = ap length e ∙ length-append (attribute_bytes a) more ∙ ap (λ (k : ℕ). k + length more) (length_bytes a)

  there : n_of s + v_of s + 4 ≤ length s.now
  there = let n = n_is in let v = v_is in let w = whole in omega (arith, n, v, w)

  name_is : (here s).0.name.now ≡ a.name
  name_is = rw n_is (ap (λ (b : List ℕ). take (length a.name) (drop 2 b)) by_name ∙ take_at a.name (0 ∷ (a.value ++ (0 ∷ more))) (length a.name) refl)

  value_is : (here s).0.value.now ≡ a.value
  value_is =
      rw (n_is, v_is)
      (ap (λ (b : List ℕ). take (length a.value) (drop (length a.name + 3) b)) by_value
      ∙ ap (take (length a.value)) (drop_at front (a.value ++ (0 ∷ more)) (length a.name + 3) length_front)
      ∙ take_at a.value (0 ∷ more) (length a.value) refl)

  name_end : get_or s.now (2 + n_of s) 0 ≡ 0
  name_end = rw n_is (ap (λ (b : List ℕ). get_or b (2 + length a.name) 0) by_name ∙ get_or_at (length a.name ∷ length a.value ∷ a.name) 0 (a.value ++ (0 ∷ more)) 0 (2 + length a.name) (omega arith))

  value_end : get_or s.now (n_of s + 3 + v_of s) 0 ≡ 0
  value_end =
      rw (n_is, v_is)
      (ap (λ (b : List ℕ). get_or b (length a.name + 3 + length a.value) 0) (by_value ∙ sym (append_assoc front a.value (0 ∷ more)))
      ∙ get_or_at (front ++ a.value) 0 more 0 (length a.name + 3 + length a.value) (length-append front a.value ∙ ap (λ (k : ℕ). k + length a.value) length_front))

  pub is_written : IsWritten a more s
  is_written = record {
    good = record { there = there; next_is = refl; name = name_end; value = value_end };
    tells = ap₂ (λ (x y : List ℕ). record { name = x; value = y }) name_is value_is;
    rest = rw (n_is, v_is) (ap (drop (length a.name + length a.value + 4)) e ∙ drop_at (attribute_bytes a) more (length a.name + length a.value + 4) (length_bytes a));
    size = rw (n_is, v_is) (sym (length_bytes a));
  }

-- a good one is read alone in whatever mode
two_good : (s : Bor (List ℕ)) → IsGood s (here s).1 → ended (ends s 0 1) ≡ Ok tt
unfolding ended ends
two_good s g =
    let v : get_or s.now (2 + n_of s + 1 + v_of s) 0 ≡ 0 = ap (λ (k : ℕ). get_or s.now k 0) (omega arith) ∙ g.value in
    ap ended (ends_here s 0 0 g.there) ∙ two_zero (0 + (2 + n_of s), get_or s.now (2 + n_of s) 0) (0 + (2 + n_of s + 1 + v_of s), get_or s.now (2 + n_of s + 1 + v_of s) 0) [] g.name v

good_alone : (mode : Mode) (s : Bor (List ℕ)) → IsGood s (here s).1 → length s.now ≤ limit → alone mode s ≡ Ok (here s).0
good_alone Present s g h = simp (le-ltb limit (length s.now) h, first_here s g.there)
good_alone Checked s g h = simp (le-ltb limit (length s.now) h, first_here s g.there, two_good s g)

short : (n : ℕ) {u : Unit} → length_checked n ≡ Ok u → n ≤ 255
short n h = grind arith

fits_length : (n : ℕ) → n ≤ 255 → length_checked n ≡ Ok tt
fits_length n h = simp (le-ltb 255 n h)

written_fits : (a : Told) → Fits a → lengths_checked a ≡ Ok tt
unfolding lengths_checked
written_fits a f = simp (fits_length (length a.name) f.name, fits_length (length a.value) f.value)

only_fits : (a : Told) (bytes : List ℕ) → attribute_writing a ≡ Ok bytes → Fits a × (bytes ≡ attribute_bytes a)
unfolding attribute_writing lengths_checked
only_fits a bytes h = (record { name = grind arith; value = grind arith }, grind arith)

pub attributes_read_back : AttributesReadBack
attributes_read_back mode a = record {
  written = λ f. passes a (written_fits a f);
  only = only_fits a;
  read = λ f s more e h.
      let w = is_written a more s e in
      record {
        back = (here s).0;
        is = good_alone mode s w.good h;
        tells = w.tells;
        takes = first_here s w.good.there ∙ ap (λ (k : ℕ). Ok ((here s).0, after s k)) w.size;
      };
}

-- one turn of a block whose first attribute is good
pub good_turn : (s : Bor (List ℕ)) → IsGood s (here s).1 → good_of s ≡ Ok (here s).1
unfolding good_of
good_turn s g = simp (first_here s g.there, two_good s g)

pub exact_turn : (s : Bor (List ℕ)) (count left : ℕ) → IsGood s (here s).1 → exact s count (suc left) ≡ exact (here s).1 count left
unfolding exact
exact_turn s count left g = simp (good_turn s g)

exact_end : (s : Bor (List ℕ)) (count : ℕ) → length s.now ≡ 0 → exact s count 0 ≡ Ok tt
unfolding exact
exact_end s count h = simp (eq-eqb (length s.now) 0 h)

-- attributes one after another are good, each of them, and are told; more is asked for in vain
block_good : (xs : List Told) (s : Bor (List ℕ)) (count : ℕ) → s.now ≡ block_of xs → exact s count (length xs) ≡ Ok tt
unfolding block_of
block_good [] s count e = exact_end s count (ap length e)
block_good (a ∷ xs) s count e =
    let w = is_written a (block_of xs) s e in
    exact_turn s count (length xs) w.good ∙ block_good xs (here s).1 count w.rest

block_told : (xs : List Told) (s : Bor (List ℕ)) (left : ℕ) → s.now ≡ block_of xs → told (listed s (length xs + left)) ≡ xs
unfolding block_of
block_told [] s left e = ap told (nothing_listed s (0 + left) (ap length e))
block_told (a ∷ xs) s left e =
    let w = is_written a (block_of xs) s e in
    rw suc-add (ap told (listed_more s (length xs + left) (here s) (first_here s w.good.there)) ∙ ap₂ (λ (x : Told) (l : List Told). x ∷ l) w.tells (block_told xs (here s).1 left w.rest))

pub attribute_blocks : AttributeBlocks
attribute_blocks xs block f e = record { passes = block_good xs block (length xs) e; tells = rw add-zero at (block_told xs block 0 e) }

pub attributes_fixed : AttributesFixed
attributes_fixed xs ys f g e =
    let s : Bor (List ℕ) = record { ref_ptr = (0, 0); now = block_of xs } in
    sym (block_told xs s (length ys) refl) ∙ ap (λ (n : ℕ). told (listed s n)) (add_comm (length xs) (length ys)) ∙ block_told ys s (length xs) e

-- a good one is the bytes of what it tells
byte_here : (s : List ℕ) (at n : ℕ) → at < length s → at + 1 ≡ n → drop at s ≡ get_or s at 0 ∷ drop n s
byte_here s at n h e = drop-cons s at 0 h ∙ ap (λ (k : ℕ). get_or s at 0 ∷ drop k s) (sym (add-one at) ∙ e)

part_here : (s : List ℕ) (at n m : ℕ) → at + n ≡ m → drop at s ≡ take n (drop at s) ++ drop m s
part_here s at n m e = sym (take-append-drop n (drop at s)) ∙ ap (λ (l : List ℕ). take n (drop at s) ++ l) (drop-drop n at s ∙ ap (λ (k : ℕ). drop k s) e)

end_here : (s : List ℕ) (at n : ℕ) → at < length s → get_or s at 0 ≡ 0 → at + 1 ≡ n → drop at s ≡ 0 ∷ drop n s
end_here s at n h z e = byte_here s at n h e ∙ ap (λ (x : ℕ). x ∷ drop n s) z

module _ (s : Bor (List ℕ)) (g : IsGood s (here s).1) where
  name_here : List ℕ
  name_here = take (n_of s) (drop 2 s.now)

  value_here : List ℕ
  value_here = take (v_of s) (drop (n_of s + 3) s.now)

  laid : s.now ≡ n_of s ∷ v_of s ∷ (name_here ++ (0 ∷ (value_here ++ (0 ∷ (here s).1.now))))
  unfolding name_here value_here
  laid =
      let t = g.there in
      byte_here s.now 0 1 (omega arith) refl ∙ ap (λ (l : List ℕ). n_of s ∷ l)
      (byte_here s.now 1 2 (omega arith) refl ∙ ap (λ (l : List ℕ). v_of s ∷ l)
      (part_here s.now 2 (n_of s) (2 + n_of s) refl ∙ ap (λ (l : List ℕ). take (n_of s) (drop 2 s.now) ++ l)
      (end_here s.now (2 + n_of s) (n_of s + 3) (omega arith) g.name (omega arith) ∙ ap (λ (l : List ℕ). 0 ∷ l)
      (part_here s.now (n_of s + 3) (v_of s) (n_of s + 3 + v_of s) refl ∙ ap (λ (l : List ℕ). take (v_of s) (drop (n_of s + 3) s.now) ++ l)
      (end_here s.now (n_of s + 3 + v_of s) (n_of s + v_of s + 4) (omega arith) g.value (omega arith))))))

  joined : attribute_bytes (told_of (here s).0) ++ (here s).1.now ≡ n_of s ∷ v_of s ∷ (name_here ++ (0 ∷ (value_here ++ (0 ∷ (here s).1.now))))
  unfolding attribute_bytes name_here value_here
  joined = rw (length_name s g.there, length_value s g.there) (simp append_assoc)

  is_bytes : s.now ≡ attribute_bytes (told_of (here s).0) ++ (here s).1.now
  is_bytes = laid ∙ sym joined

empty : (l : List ℕ) → length l ≡ 0 → l ≡ []
empty [] h = refl
empty (x ∷ l) h = absurd (omega arith)

made_of : (left count : ℕ) (s : Bor (List ℕ)) → exact s count left ≡ Ok tt → (s.now ≡ block_of (told (listed s left))) × (length (told (listed s left)) ≡ left)
unfolding block_of
made_of zero count s h = (empty s.now (exact_none s count h) ∙ sym (ap (λ l. block_of (told l)) (listed_none s)), ap (λ l. length (told l)) (listed_none s))
made_of (suc left) count s h =
    let g = exact_more s count left h in
    let r = made_of left count (here s).1 g.1 in
    let l = listed_more s left (here s) (first_here s g.0.there) in
    (is_bytes s g.0 ∙ ap (λ (l : List ℕ). attribute_bytes (told_of (here s).0) ++ l) r.0 ∙ sym (ap (λ l. block_of (told l)) l), ap (λ l. length (told l)) l ∙ ap suc r.1)

pub attribute_blocks_made : AttributeBlocksMade
attribute_blocks_made count block h = let r = made_of count count block h in record { is = r.0; long = r.1 }
