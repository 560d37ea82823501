-- How a writer comes to its promise.
use Rattle.std.proofs.Common.{ℕ, ◌<◌, ◌≡◌, sym, ap, List, length, Ok, Err, Result, arith}
use borrow.Author.Tests.{lt-ltb, le-ltb}
use Rattle.le.specs.Put.{Wrote}
use Rattle.le.proofs.Laws.{whole_length, whole_is}
use Rattle.refusal.specs.declared.Refusal.{Refusal}
use Rattle.refusal.specs.declared.Refusal.TheVariants.{OutputTooSmall}
use Rattle.writing.specs.Writing.{Writes}

pub refuses : {w : Result (List ℕ) Refusal} {why : Refusal} {old : List ℕ} → w ≡ Err why → Writes w old old (Err why)
refuses e = record { said = simp e; left = simp e }

pub too_small : {w : Result (List ℕ) Refusal} {xs old : List ℕ} {needed : ℕ} → w ≡ Ok xs → length xs ≡ needed → length old < needed → Writes w old old (Err (OutputTooSmall needed (length old)))
too_small {w} {xs} {old} {needed} e l h =
    let t = lt-ltb (length old) needed h in
    record { said = simp (e, l, t); left = simp (e, l, t) }

pub done : {w : Result (List ℕ) Refusal} {xs old new : List ℕ} {next : ℕ} → w ≡ Ok xs → Wrote old 0 xs new next → Writes w old new (Ok next)
done {w} {xs} {old} {new} {next} e d =
    let t = le-ltb (length old) (length xs) (omega arith) in
    record { said = simp (e, t) (ap Ok (sym (whole_length d))); left = simp (e, t) (whole_is d) }
