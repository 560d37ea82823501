use Rattle.std.proofs.Common.{◌≡◌, ℕ, ◌+◌, Bool, arith, eqb, length, if◌then◌else◌, eqb→eq}
use lib.Bits.{bit_and}
use Rattle.text.proofs.Table.{below_at}
use Rattle.text.proofs.Byte.{text_most}
use Rattle.std.specs.Char.{encode_utf8}
use Rattle.text.specs.Text.{points, code_point}
use Rattle.text.proofs.decoder.byte_width.Goals as goal

abbrev one : ℕ → ℕ → ℕ → ℕ
one mask value b = if eqb (bit_and b mask) value then 1 else 0

-- one more from 80 on, and one more for the bytes whose code point is above 7FF
abbrev width : ℕ → ℕ
width b = 1 + one 0x80 0x80 b + (one 0xEC 0x84 b + one 0xED 0x89 b) + (one 0xFD 0x80 b + one 0xFD 0x91 b + one 0xFF 0x92 b)

-- by comparisons: one test that antt computes for all bytes
right : ℕ → Bool
right b = eqb (width b) (length (encode_utf8 (code_point b)))

pub returns : goal.returns
unfolding right encode_utf8 code_point points
returns c =
    let b : ℕ = c.args.b in
    let w : width b ≡ length (encode_utf8 (code_point b)) = eqb→eq (width b) (length (encode_utf8 (code_point b))) (below_at right 256 tt b (omega arith)) in
    let n : 1 + c.one_like-6.result + (c.one_like.result + c.one_like-2.result) + (c.one_like-3.result + c.one_like-4.result + c.one_like-5.result) ≡ length (encode_utf8 (code_point b)) =
    simp (c.one_like.ensures.0, c.one_like-2.ensures.0, c.one_like-3.ensures.0, c.one_like-4.ensures.0, c.one_like-5.ensures.0, c.one_like-6.ensures.0) w in
    (n, omega (arith, text_most b (omega arith)))
