-- How long a cell is, sixteen bytes at a time.
use Rattle.std.proofs.Common.{ℕ, ◌+◌, ◌%◌, ◌^◌, ◌<◌, ◌≤◌, ◌≡◌, refl, sym, ap, ap₂, ◌∙◌, Bool, true, false, not, cond, eqb, List, [], ◌∷◌, map, length, drop, Fits, w8, arith}
use Rattle.std.specs.List.{prefix_len}
use Rattle.std.proofs.lemmas.Bool.{agree_below, agree_below_at, eq-eqb, ne_eqb}
use Rattle.std.proofs.lemmas.List.{length-map}
use Rattle.std.proofs.lemmas.List.Folds.{prefix_len-append}
use Rattle.std.proofs.lemmas.List.Sums.{prefix_len-le-length}
use Rattle.std.proofs.lemmas.Simd.{chunk-drop, length-chunk, mask_l-mod}
use lib.Lanes.{chunk, mask_l, top, Each1}
use Rattle.sheet.specs.Cells.{is_special}
use Rattle.sheet_rows.specs.Cells.{plain_length}
use Rattle.sheet_rows.proofs.Lengths.{plain_none, plain_special, plain_more}

-- a mask that is computed lane by lane, held to a test at each of the 256 bytes
each_byte : (f : ℕ → ℕ) (p : ℕ → Bool) → agree_below (λ x. top 7 (f x)) p 256 ≡ true → (v : List ℕ) → Each1 (Fits w8) v → map (top 7) (map f v) ≡ map p v
each_byte f p all [] fits = refl
each_byte f p all (x ∷ xs) fits = ap₂ (λ a b. a ∷ b) (agree_below_at (λ x. top 7 (f x)) p 256 x all fits.0.fits) (each_byte f p all xs fits.1)

pub masked : (f : ℕ → ℕ) (p : ℕ → Bool) (v z : List ℕ) → length v ≤ 64 → Each1 (Fits w8) v → z ≡ map f v → agree_below (λ x. top 7 (f x)) p 256 ≡ true
    → mask_l (map (top 7) z) % 2 ^ 64 ≡ mask_l (map p v)
masked f p v z short fits e all =
    ap (λ l. mask_l l % 2 ^ 64) (ap (map (top 7)) e ∙ each_byte f p all v fits) ∙ mask_l-mod (map p v) 64 (omega (arith, length-map v p))

-- the bytes before the first special one
abbrev is_plain : ℕ → Bool
is_plain b = not (is_special b)

plain_prefix : (s : List ℕ) → plain_length s ≡ prefix_len is_plain s
plain_prefix [] = plain_none
plain_prefix (b ∷ s) = by (is_special b) refl (plain_prefix s)
  where
    by : (c : Bool) → is_special b ≡ c → plain_length s ≡ prefix_len is_plain s → plain_length (b ∷ s) ≡ cond (not c) (1 + prefix_len is_plain s) 0
    by true e h = plain_special b s e
    by false e h = omega (arith, plain_more b s e, h)

module _ (s : List ℕ) (i : ℕ) (room : i + 16 ≤ length s) where
  sixteen : length (chunk i 16 s) ≡ 16
  sixteen = length-chunk i 16 s room

  pub sixteen_most : prefix_len is_plain (chunk i 16 s) ≤ 16
  sixteen_most = omega (arith, prefix_len-le-length is_plain (chunk i 16 s), sixteen)

  split : plain_length (drop i s)
      ≡ cond (eqb (prefix_len is_plain (chunk i 16 s)) (length (chunk i 16 s))) (length (chunk i 16 s) + prefix_len is_plain (drop (i + 16) s)) (prefix_len is_plain (chunk i 16 s))
  split = plain_prefix (drop i s) ∙ ap (prefix_len is_plain) (chunk-drop i 16 s) ∙ prefix_len-append is_plain (chunk i 16 s) (drop (i + 16) s)

  pub sixteen_stops : prefix_len is_plain (chunk i 16 s) < 16 → plain_length (drop i s) ≡ prefix_len is_plain (chunk i 16 s)
  sixteen_stops h =
      split
      ∙ ap (λ b. cond b (length (chunk i 16 s) + prefix_len is_plain (drop (i + 16) s)) (prefix_len is_plain (chunk i 16 s)))
      (ne_eqb _ _ (λ (e : prefix_len is_plain (chunk i 16 s) ≡ length (chunk i 16 s)). omega (arith, e, h, sixteen)))

  pub sixteen_go_on : prefix_len is_plain (chunk i 16 s) ≡ 16 → plain_length (drop i s) ≡ 16 + plain_length (drop (i + 16) s)
  sixteen_go_on h =
      split
      ∙ ap (λ b. cond b (length (chunk i 16 s) + prefix_len is_plain (drop (i + 16) s)) (prefix_len is_plain (chunk i 16 s))) (eq-eqb _ _ (h ∙ sym sixteen))
      ∙ omega (arith, sixteen, plain_prefix (drop (i + 16) s))
