-- What one read more leaves: the bytes so far, and those that were read after them.
use Rattle.std.proofs.Common.{◌≡◌, ℕ, ◌+◌, ◌-◌, ◌≤◌, List, ◌++◌, length, take, sym, ap, subst, ◌∙◌, arith, length-take-le}
use Rattle.std.proofs.Math.Seq.{take-append-le, take-append-add}
use borrow.Rule.Slice.PartMut.{put_mid, post_of, take_put, same_len_mid, mid_len}
use Rattle.std.specs.declared.option.Option.{Option}
use Rattle.std.specs.Io.KnownBytes.{Consumes, Keeps}
use Rattle.std.proofs.KnownBytes.{Consumes-trans, Consumes-kept}

-- a part that begins at a place of the buffer and goes to its end was written
module _ (buf part : List ℕ) (at : ℕ) (h : at ≤ length buf) where
  long : length part ≡ length buf - at → length (put_mid at (length buf - at) buf part) ≡ length buf
  long l = same_len_mid at (length buf - at) buf part (l ∙ sym (mid_len at (length buf) buf (omega arith)))

  pub take_read : (n : ℕ) → n ≤ length part → take (at + n) (put_mid at (length buf - at) buf part) ≡ take at buf ++ take n part
  take_read n k =
      let l : length (take at buf) ≡ at = length-take-le at buf h in
      let rest : List ℕ = post_of at (length buf - at) buf in
      ap (λ (m : ℕ). take (m + n) (take at buf ++ (part ++ rest))) (sym l)
      ∙ take-append-add (take at buf) (part ++ rest) n
      ∙ ap (λ (x : List ℕ). take at buf ++ x) (take-append-le n part rest k)

  pub read-more : (a b c : Option (List ℕ)) (n : ℕ) → n ≤ length part → Consumes a b (take at buf) → Consumes b c (take n part)
      → Consumes a c (take (at + n) (put_mid at (length buf - at) buf part))
  read-more a b c n k before now = subst (Consumes a c) (sym (take_read n k)) (Consumes-trans a b c _ _ before now)

  pub read_none : (a b c : Option (List ℕ)) → Consumes a b (take at buf) → Keeps b c → Consumes a c (take at (put_mid at (length buf - at) buf part))
  read_none a b c before now = subst (Consumes a c) (sym (take_put at (length buf - at) buf part h)) (Consumes-kept a b c _ before now)

  pub read_end : (a b c : Option (List ℕ)) (n : ℕ) → n ≡ 0 → n ≤ length part → Consumes a b (take at buf) → Consumes b c (take n part)
      → Consumes a c (take at (put_mid at (length buf - at) buf part))
  read_end a b c n e k before now =
      let z : at + n ≡ at = omega arith in
      subst (λ (m : ℕ). Consumes a c (take m (put_mid at (length buf - at) buf part))) z (read-more a b c n k before now)

  -- as a turn of the loop leaves it
  pub read_on : (a b c : Option (List ℕ)) (n next : ℕ) → next ≡ at + n → length part ≡ length buf - at → n ≤ length part → Consumes a b (take at buf) → Consumes b c (take n part)
      → (next ≤ length (put_mid at (length buf - at) buf part)) × Consumes a c (take next (put_mid at (length buf - at) buf part))
  read_on a b c n next e l k before now = (omega (arith, long l), subst (λ (m : ℕ). Consumes a c (take m (put_mid at (length buf - at) buf part))) (sym e) (read-more a b c n k before now))

  pub read-interrupted : (a b c : Option (List ℕ)) (next : ℕ) → next ≡ at → length part ≡ length buf - at → Consumes a b (take at buf) → Keeps b c
      → (next ≤ length (put_mid at (length buf - at) buf part)) × Consumes a c (take next (put_mid at (length buf - at) buf part))
  read-interrupted a b c next e l before now = (omega (arith, long l), subst (λ (m : ℕ). Consumes a c (take m (put_mid at (length buf - at) buf part))) (sym e) (read_none a b c before now))
