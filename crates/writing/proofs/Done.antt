-- What a promise to write leaves no choice of, and what an answer that so many bytes were written tells.
use Rattle.std.proofs.Common.{ℕ, ◌≡◌, sym, ap, ◌∙◌, Bool, true, false, List, length, take, drop, Ok, Err, Result}
use Rattle.std.specs.Prelude.{if◌then◌else◌, ltb}
use lib.Seq.{take_at}
use Rattle.refusal.specs.declared.Refusal.{Refusal}
use Rattle.writing.specs.Writing.{Writes}
use Rattle.writing.specs.One.{OneWriting}

pub one_writing : OneWriting
one_writing w old new new' r r' p q = (p.said ∙ sym q.said, p.left ∙ sym q.left)

-- where a writer answers that it wrote n bytes, these are the bytes that were to be written, and the buffer begins with them
pub record DoneBy (w : Result (List ℕ) Refusal) (new : List ℕ) (n : ℕ) : Type 0 where
  pub bytes : List ℕ
  pub given : w ≡ Ok bytes
  pub long : length bytes ≡ n
  pub first : take n new ≡ bytes

fits : (t : Bool) (why : Refusal) (n m : ℕ) → ◌≡◌ {A = Result ℕ Refusal} (Ok n) (if t then Err why else Ok m) → (t ≡ false) × (m ≡ n)
fits true why n m e = cc
fits false why n m e = (cc, cc)

pub done_by : (w : Result (List ℕ) Refusal) (old new : List ℕ) (n : ℕ) → Writes w old new (Ok n) → DoneBy w new n
done_by (Ok bs) old new n w =
    let f = fits (ltb (length old) (length bs)) _ n (length bs) w.said in
    record { bytes = bs; given = cc; long = f.1; first = ap (take n) (w.left ∙ simp f.0) ∙ take_at bs (drop (length bs) old) n f.1 }
done_by (Err why) old new n w = let z : ◌≡◌ {A = Result ℕ Refusal} (Ok n) (Err why) = w.said in cc
