-- What is claimed for an entry that is read directly: the five answers, proved.
use Rattle.std.proofs.Common.{◌≡◌, refl, Bool, true, false, length}
use Rattle.std.specs.Prelude.{ltb}
use borrow.Author.Tests.{ltb-true, ltb-false}
use Rattle.le.specs.Le.{le4}
use Rattle.refusal.specs.Refusal.{limit}
use Rattle.entry.specs.Entry.{claim_of}
use Rattle.entry.specs.DirectClaims.{IsClaimed, large, short, beyond, below, whole, DirectClaims}

pub direct_claims : DirectClaims
unfolding claim_of
direct_claims header s = by (ltb limit (length s)) (ltb (length s) header) (ltb (length s) (le4 s 0)) (ltb (le4 s 0) header) refl refl refl refl
  where
    by : (p q r t : Bool) → ltb limit (length s) ≡ p → ltb (length s) header ≡ q → ltb (length s) (le4 s 0) ≡ r → ltb (le4 s 0) header ≡ t → IsClaimed header s (claim_of header s)
    by true q r t a b c d = simp a (large (ltb-true limit (length s) a))
    by false true r t a b c d = simp (a, b) (short (ltb-false limit (length s) a) (ltb-true (length s) header b))
    by false false true t a b c d = simp (a, b, c) (beyond (ltb-false limit (length s) a) (ltb-false (length s) header b) (ltb-true (length s) (le4 s 0) c))
    by false false false true a b c d = simp (a, b, c, d) (below (ltb-false limit (length s) a) (ltb-false (length s) header b) (ltb-false (length s) (le4 s 0) c) (ltb-true (le4 s 0) header d))
    by false false false false a b c d = simp (a, b, c, d) (whole (ltb-false limit (length s) a) (ltb-false (length s) header b) (ltb-false (length s) (le4 s 0) c) (ltb-false (le4 s 0) header d))
