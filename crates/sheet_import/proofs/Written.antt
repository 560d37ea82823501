-- A string that is written part after part.
use Rattle.std.proofs.Common.{ℕ, ◌+◌, ◌-◌, ◌≤◌, ◌≡◌, refl, sym, ap, ap₂, ◌∙◌, List, [], ◌++◌, length, take, drop, append_assoc, append-nil, length-append, length-drop, arith}
use Rattle.std.specs.Prelude.{Bool, ltb, Result, Ok, Err, if◌then◌else◌}
use borrow.Author.Tests.{le-ltb}
use Rattle.refusal.specs.Refusal.{limit}
use Rattle.refusal.specs.declared.Refusal.{Refusal}
use Rattle.refusal.specs.declared.Refusal.TheVariants.{OutputTooSmall}
use Rattle.writing.specs.Writing.{answer, leaves, Writes}
use Rattle.text.specs.Text.{encoded_from, encoding}
use Rattle.text.proofs.Laws.{in_limit}
use Rattle.text.proofs.Byte.{decoded_most}
use Rattle.std.proofs.lemmas.List.{drop_all, take_all, drop-drop}
use borrow.Rule.Slice.PartMut.{put_mid, post_of, Post-is}
use Rattle.le.specs.Put.{put, Wrote}
use Rattle.le.proofs.Laws.{wrote, after, wrote_none, same_bytes}
use Rattle.sheet_import.specs.Strings.{bytes_of, string_of, IsText, IsCellText}
use Rattle.sheet_import.proofs.StringsRead.{encoded_decoded, bytes_decoded, Quoted, Plain}

-- what was written of a cell's string, and what is left of its text
pub record Writing (old now : List ℕ) (at next : ℕ) (text left : List ℕ) : Type 0 where
  pub done : List ℕ
  pub wrote : Wrote old at done now next
  pub parts : string_of text ≡ done ++ string_of left
  pub cell : IsCellText left
  pub few : length left ≤ length text
  pub short : length (string_of text) ≤ 65535
  pub room : at + length (string_of text) ≤ length old

pub all_left : {old text : List ℕ} {at : ℕ} → IsCellText text → length (string_of text) ≤ 65535 → at + length (string_of text) ≤ length old → Writing old old at at text text
all_left c h r = record { done = []; wrote = wrote_none (omega (arith, r)); parts = refl; cell = c; few = omega arith; short = h; room = r }

-- how much the part up to a quote needs
pub record Fits (now : List ℕ) (next : ℕ) (bytes : List ℕ) : Type 0 where
  pub short : length bytes ≤ 65535
  pub room : next + length bytes ≤ length now

pub part_fits : {old now text left : List ℕ} {at next : ℕ} (q : ℕ) → Writing old now at next text left → Quoted left q → Fits now next (bytes_of (take (q + 1) left))
part_fits {old} {now} {text} {left} {at} {next} q w d =
    let all : length (string_of text) ≡ length w.done + (length (bytes_of (take (q + 1) left)) + length (string_of (drop (q + 2) left))) =
    ap length w.parts ∙ length-append w.done (string_of left)
    ∙ ap (λ (n : ℕ). length w.done + n) (ap length d.is ∙ length-append (bytes_of (take (q + 1) left)) (string_of (drop (q + 2) left))) in
    record { short = omega (arith, w.short, all); room = omega (arith, w.room, all, w.wrote.end, w.wrote.long) }

pub rest_fits : {old now text left : List ℕ} {at next : ℕ} → Writing old now at next text left → Plain left → Fits now next (bytes_of left)
rest_fits {old} {now} {text} {left} {at} {next} w p =
    let all : length (string_of text) ≡ length w.done + length (bytes_of left) = ap length w.parts ∙ length-append w.done (string_of left) ∙ ap (λ (l : List ℕ). length w.done + length l) p.is in
    record { short = omega (arith, w.short, all); room = omega (arith, w.room, all, w.wrote.end, w.wrote.long) }

pub part_goes : {old now text left : List ℕ} {at next : ℕ} (q : ℕ) {new : List ℕ} {behind : ℕ} → Writing old now at next text left → Quoted left q
    → Wrote now next (bytes_of (take (q + 1) left)) new behind → Writing old new at behind text (drop (q + 2) left)
part_goes {old} {now} {text} {left} {at} {next} q w d p = record {
  done = w.done ++ bytes_of (take (q + 1) left);
  wrote = after w.wrote p;
  parts = w.parts ∙ ap (λ (l : List ℕ). w.done ++ l) d.is ∙ sym (append_assoc w.done (bytes_of (take (q + 1) left)) (string_of (drop (q + 2) left)));
  cell = d.rest;
  few = omega (arith, w.few, length-drop (q + 2) left);
  short = w.short;
  room = w.room;
}

pub rest_goes : {old now text left : List ℕ} {at next : ℕ} {new : List ℕ} {behind : ℕ} → Writing old now at next text left → Plain left
    → Wrote now next (bytes_of left) new behind → Wrote old at (string_of text) new behind
rest_goes {old} {now} {text} {left} {at} {next} w p q =
    same_bytes (ap (λ (l : List ℕ). w.done ++ l) (sym p.is) ∙ sym w.parts) (after w.wrote q)

-- ---- a text that is written into the end of a buffer
pub text_encodes : (t : List ℕ) → IsText t → length (bytes_of t) ≤ 65535 → encoding t ≡ Ok (bytes_of t)
unfolding encoding
text_encodes t x h =
    let own : bytes_of t ≡ x.bytes = ap bytes_of x.is ∙ bytes_decoded x.bytes x.are in
    let long : length t ≤ limit = omega (arith, h, ap length own, ap length x.is, decoded_most x.bytes x.are) in
    in_limit t (encoded_from 0 t) long ∙ ap (encoded_from 0) x.is ∙ encoded_decoded x.bytes x.are ∙ ap (λ (l : List ℕ). Ok l) (sym own)

pub encode_passes : {t old new : List ℕ} {why : Refusal} → IsText t → length (bytes_of t) ≤ 65535 → length (bytes_of t) ≤ length old → Writes (encoding t) old new (Err why) → ⊥
encode_passes {t} {old} {new} {why} x h r w =
    let e : Err why ≡ (if ltb (length old) (length (bytes_of t)) then Err (OutputTooSmall (length (bytes_of t)) (length old)) else Ok (length (bytes_of t))) =
    w.said ∙ ap (λ (v : Result (List ℕ) Refusal). answer v (length old)) (text_encodes t x h) in
    let f = e ∙ ap (λ (b : Bool). if b then Err (OutputTooSmall (length (bytes_of t)) (length old)) else Ok (length (bytes_of t))) (le-ltb (length old) (length (bytes_of t)) r) in
    cc

pub encode_writes : {t old new : List ℕ} {n : ℕ} → IsText t → length (bytes_of t) ≤ 65535 → length (bytes_of t) ≤ length old → Writes (encoding t) old new (Ok n)
    → (n ≡ length (bytes_of t)) × (new ≡ bytes_of t ++ drop (length (bytes_of t)) old)
encode_writes {t} {old} {new} {n} x h r w =
    let e : Ok n ≡ (if ltb (length old) (length (bytes_of t)) then Err (OutputTooSmall (length (bytes_of t)) (length old)) else Ok (length (bytes_of t))) =
    w.said ∙ ap (λ (v : Result (List ℕ) Refusal). answer v (length old)) (text_encodes t x h) in
    let f = e ∙ ap (λ (b : Bool). if b then Err (OutputTooSmall (length (bytes_of t)) (length old)) else Ok (length (bytes_of t))) (le-ltb (length old) (length (bytes_of t)) r) in (
      cc,
      w.left ∙ ap (λ (v : Result (List ℕ) Refusal). leaves v old) (text_encodes t x h)
          ∙ ap (λ (b : Bool). if b then old else bytes_of t ++ drop (length (bytes_of t)) old) (le-ltb (length old) (length (bytes_of t)) r),
    )

pub text_put : (out new bs : List ℕ) (at n : ℕ) → at + length bs ≤ length out → n ≡ length bs → new ≡ bs ++ drop (length bs) (take (length out - at) (drop at out))
    → Wrote out at bs (put_mid at (length out - at) out new) (at + n)
unfolding put
text_put out new bs at n room count is =
    let behind : post_of at (length out - at) out ≡ [] = Post-is at (length out) out (omega (arith, room)) ∙ drop_all (length out) out (omega arith) in
    let whole : take (length out - at) (drop at out) ≡ drop at out = take_all (length out - at) (drop at out) (omega (arith, length-drop at out)) in
    let rest : drop (length bs) (take (length out - at) (drop at out)) ≡ drop (at + length bs) out = ap (drop (length bs)) whole ∙ drop-drop (length bs) at out in
    let own : new ≡ bs ++ drop (at + length bs) out = is ∙ ap (λ (l : List ℕ). bs ++ l) rest in
    let parts : put_mid at (length out - at) out new ≡ take at out ++ ((bs ++ drop (at + length bs) out) ++ []) =
    ap₂ (λ (x y : List ℕ). take at out ++ (x ++ y)) own behind in
    let all : put_mid at (length out - at) out new ≡ put out at bs =
    parts ∙ ap (λ (l : List ℕ). take at out ++ l) (append-nil (bs ++ drop (at + length bs) out)) ∙ sym (append_assoc (take at out) bs (drop (at + length bs) out)) in
    wrote all (omega (arith, count)) room

-- how long the part is that is lent
pub lent_long : (out : List ℕ) (at n : ℕ) → at + n ≤ length out → n ≤ length (take (length out - at) (drop at out))
lent_long out at n h = omega (arith, ap length (take_all (length out - at) (drop at out) (omega (arith, length-drop at out))), length-drop at out)
