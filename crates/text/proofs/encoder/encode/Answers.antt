use Rattle.std.proofs.Common.{List, ℕ, sym, ◌∙◌, ◌≡◌, Err, arith, rules}
use Rattle.text.specs.Text.{encoded_from, encoding}
use Rattle.text.proofs.Back.{encoded_same, counted_refused}
use Rattle.text.proofs.Laws.{same_writing, too_large, in_limit, writes_none}
use Rattle.text.proofs.encoder.encode.Goals as goal

pub returns-then-src-gt-LIMIT : goal.returns-then-src-gt-LIMIT
unfolding encoding
returns-then-src-gt-LIMIT c = let s : List ℕ = c.args.src.now in same_writing (too_large s (encoded_from 0 s) c.if-src-gt-LIMIT.true) writes_none

pub returns-then-highest-lt128 : goal.returns-then-highest-lt128
unfolding encoding
returns-then-highest-lt128 c =
    let s : List ℕ = c.args.src.now in
    same_writing (in_limit s (encoded_from 0 s) c.if-src-gt-LIMIT.false ∙ encoded_same s 0 (λ k. omega (arith, c.highest.ensures k))) c.put_same.ensures

pub returns : goal.returns
unfolding encoding
returns c = let s : List ℕ = c.args.src.now in same_writing (in_limit s (encoded_from 0 s) c.if-src-gt-LIMIT.false) c.put_encoded.ensures

pub returns-in_err-needed : goal.returns-in_err-needed
unfolding encoding
returns-in_err-needed c =
    let s : List ℕ = c.args.src.now in
    let e : c.from_residual.result ≡ Err c.in_err-needed.field-0.0 = search rules in
    simp e (same_writing (in_limit s (encoded_from 0 s) c.if-src-gt-LIMIT.false) (counted_refused (encoded_from 0 s) (sym c.encoded_length.ensures ∙ c.in_err-needed.was)))
