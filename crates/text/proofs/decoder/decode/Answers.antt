use Rattle.std.proofs.Common.{Ok, ℕ, List, ap, ◌∙◌, arith}
use Rattle.text.proofs.Byte.{decoded_most}
use Rattle.text.specs.Text.{decoded, decoding}
use Rattle.text.proofs.Laws.{same_writing, too_large, in_limit, writes_none, writes_small, writes_done, decoded_same}
use Rattle.text.proofs.decoder.decode.Goals as goal

pub returns-then-src-gt-LIMIT : goal.returns-then-src-gt-LIMIT
unfolding decoding
returns-then-src-gt-LIMIT c =
    let s : List ℕ = c.args.src.now in
    same_writing (too_large s (Ok (decoded s)) c.if-src-gt-LIMIT.true) writes_none

pub returns-then-highest-lt128 : goal.returns-then-highest-lt128
unfolding decoding
returns-then-highest-lt128 c =
    let s : List ℕ = c.args.src.now in
    same_writing (in_limit s (Ok (decoded s)) c.if-src-gt-LIMIT.false ∙ ap Ok (decoded_same s (λ k. omega (arith, c.highest.ensures k)))) c.put_same.ensures

pub put_decoded-requires : goal.put_decoded-requires
put_decoded-requires c = omega (arith, decoded_most c.args.src.now (λ k. omega (arith, c.type_inv.src k)))

pub returns-then-src-out : goal.returns-then-src-out
unfolding decoding
returns-then-src-out c =
    let s : List ℕ = c.args.src.now in
    same_writing (in_limit s (Ok (decoded s)) c.if-src-gt-LIMIT.false) (writes_done c.put_decoded.ensures)

pub returns-then-out-needed : goal.returns-then-out-needed
unfolding decoding
returns-then-out-needed c =
    let s : List ℕ = c.args.src.now in
    same_writing (in_limit s (Ok (decoded s)) c.if-src-gt-LIMIT.false) (writes_small c.decoded_length-needed.ensures c.if-out-needed.true)

pub returns : goal.returns
unfolding decoding
returns c =
    let s : List ℕ = c.args.src.now in
    same_writing (in_limit s (Ok (decoded s)) c.if-src-gt-LIMIT.false) (writes_done c.put_decoded-2.ensures)
