-- Entries of 33 bytes, and fewer than 33 bytes behind them: an upload of any length that needs all its room.
use Rattle.std.proofs.Common.{ℕ, zero, suc, ◌+◌, ◌*◌, ◌<◌, ◌≤◌, ◌≡◌, refl, ap, ◌∙◌, true, false, List, [], ◌∷◌, ◌++◌, append_assoc, length, length-append, get_or, ne_eqb, arith, Bor}
use Rattle.std.specs.Prelude.{leb, filter, Some}
use Rattle.std.specs.List.{list_any}
use native.Mathlib.Nat.{add-zero}
use mathlib.Core.List.{append-nil}
use lib.ListN.{replicate, length-replicate}
use lib.Seq.{get_or-append-add}
use borrow.Author.Tests.{le-leb, lt-leb}
use Rattle.le.specs.Le as le
use Rattle.le.specs.Le.{le2, le4}
use Rattle.le.proofs.Inside.{part_whole}
use Rattle.refusal.specs.Refusal.{limit}
use Rattle.refusal.specs.EndBytes.{ended as ends_met}
use Rattle.refusal.specs.declared.Mode.{Mode}
use Rattle.refusal.specs.declared.Mode.TheVariants.{Present, Checked}
use Rattle.entry.specs.Entry.{claim_at}
use Rattle.entry.specs.declared.Claimed.{Claimed}
use Rattle.entry.specs.Walk.{stands, steps_from}
use Rattle.entry.specs.Claims.{Claims, ended, large, short, beyond, entry}
use Rattle.entry.proofs.Claims.{claims}
use Rattle.walk.specs.Step.{step_at}
use Rattle.attribute.specs.Attribute.{ends}
use Rattle.layout.specs.Layout.{guid_of}
use Rattle.symbol.specs.Symbol.{attributes_of, extended_of, refactor_infos_of, with_strings, symbol_ended, ended_symbol, symbol_of}
use Rattle.index.specs.Steps.{is_record, gives}
use Rattle.regrown.specs.Regrown.{lying}
use Rattle.regrown.proofs.Whole.{Whole, claim_whole}

-- no numbers, no flags, three empty strings
abbrev smallest : List ℕ
smallest = 33 ∷ 0 ∷ 0 ∷ 0 ∷ 0 ∷ 0 ∷ 0 ∷ 0 ∷ 0 ∷ 0 ∷ 0 ∷ 0 ∷ 0 ∷ 0 ∷ 0 ∷ 0 ∷ 0 ∷ 0 ∷ 0 ∷ 0 ∷ 0 ∷ 0 ∷ 0 ∷ 0 ∷ 0 ∷ 0 ∷ 0 ∷ 0 ∷ 0 ∷ 0 ∷ 0 ∷ 0 ∷ 0 ∷ []

smallest_whole : Whole smallest
unfolding le4
smallest_whole = record { claims = refl; long = omega arith }

smallest_read : (mode : Mode) (m : ℕ × ℕ) → is_record (Some (symbol_of mode (lying m smallest))) ≡ true
unfolding le2 le4 ends_met ends guid_of attributes_of extended_of refactor_infos_of with_strings symbol_ended ended_symbol symbol_of
smallest_read Checked m = refl
smallest_read Present m = refl

-- bytes that claim more than there is, and never nothing
abbrev pub behind : ℕ → List ℕ
behind r = replicate r 255

unfoldable pub upload : ℕ → ℕ → List ℕ
upload zero r = behind r
upload (suc k) r = smallest ++ upload k r

pub length_behind : (r : ℕ) → length (behind r) ≡ r
length_behind r = length-replicate r 255

pub length_upload : (k r : ℕ) → length (upload k r) ≡ k * 33 + r
unfolding upload
length_upload zero r = omega (arith, length_behind r)
length_upload (suc k) r = length-append smallest (upload k r) ∙ omega (arith, length_upload k r)

bytes_behind : (r : ℕ) → list_any (leb 256) (behind r) ≡ false
bytes_behind zero = refl
bytes_behind (suc r) = bytes_behind r

pub upload_bytes : (k r : ℕ) → list_any (leb 256) (upload k r) ≡ false
unfolding upload
upload_bytes zero r = bytes_behind r
upload_bytes (suc k) r = upload_bytes k r

-- what at most so many steps from a place on give: so many records, and no zero claim
pub record Gives (mode : Mode) (s : Bor (List ℕ)) (at left k : ℕ) : Type 0 where
  pub records : length (filter (gives (symbol_of mode) s) (steps_from s.now at left)) ≡ k
  pub moves : list_any (stands s.now) (steps_from s.now at left) ≡ false

module _ (mode : Mode) (s : Bor (List ℕ)) where
  none_left : (at left : ℕ) → length s.now ≤ at → steps_from s.now at left ≡ []
  unfolding steps_from
  none_left at zero h = refl
  none_left at (suc left) h = simp (le-leb (length s.now) at h)

  gives_end : (at left : ℕ) → length s.now ≤ at → Gives mode s at left 0
  gives_end at left h = let e = none_left at left h in record { records = simp e; moves = simp e }

  -- a step that moves on
  module _ (at left k next : ℕ) (before : at < length s.now) (e : (claim_at s.now at).next ≡ next) (on : next ≡ at → ⊥) (g : Gives mode s next left k) where
    moving : stands s.now at ≡ false
    moving = simp e (ne_eqb next at on)

    turned : steps_from s.now at (suc left) ≡ at ∷ steps_from s.now next left
    unfolding steps_from
    turned = simp (lt-leb (length s.now) at before, moving) (ap (λ (n : ℕ). at ∷ steps_from s.now n left) e)

    gives_entry : gives (symbol_of mode) s at ≡ true → Gives mode s at (suc left) (suc k)
    gives_entry is = record { records = simp (turned, is, g.records); moves = simp (turned, moving, g.moves) }

    gives_other : gives (symbol_of mode) s at ≡ false → Gives mode s at (suc left) k
    gives_other is = record { records = simp (turned, is, g.records); moves = simp (turned, moving, g.moves) }

  -- fewer than 33 bytes, which claim as many or more
  gives_behind : (at left : ℕ) → at < length s.now → length s.now < at + 33 → 33 ≤ get_or s.now at 0 → length s.now ≤ limit → Gives mode s at (suc left) 0
  unfolding step_at le4
  gives_behind at left before few high small = by (claim_at s.now at) refl (claims s.now at)
    where
      by : (c : Claimed) → claim_at s.now at ≡ c → Claims s.now at c → Gives mode s at (suc left) 0
      by c e (ended h) = absurd (omega (arith, h))
      by c e (large h k) = absurd (omega (arith, k))
      by c e (short h k l) = gives_other at left 0 (length s.now) before (ap (λ c. c.next) e) (λ z. omega (arith, z)) (gives_end (length s.now) left (omega arith)) (simp e)
      by c e (beyond h k l m) = gives_other at left 0 (length s.now) before (ap (λ c. c.next) e) (λ z. omega (arith, z)) (gives_end (length s.now) left (omega arith)) (simp e)
      by c e (entry h k l m) = absurd (omega (arith, m))

-- an entry of the least length, wherever it stands
module _ (mode : Mode) (m : ℕ × ℕ) (p q : List ℕ) (h : length (p ++ (smallest ++ q)) ≤ limit) where
  accepted_there : gives (symbol_of mode) (lying m (p ++ (smallest ++ q))) (length p) ≡ true
  unfolding step_at le.part
  accepted_there = simp (claim_whole p smallest q smallest_whole h, part_whole p smallest q) (smallest_read mode _)

pub gives_upload : (mode : Mode) (m : ℕ × ℕ) (k r left : ℕ) (p : List ℕ) → r < 33 → length (p ++ upload k r) ≤ limit → k * 33 + r ≤ left → Gives mode (lying m (p ++ upload k r)) (length p) left k
unfolding upload
gives_upload mode m zero zero left p few small most = gives_end mode (lying m (p ++ [])) (length p) left (simp append-nil (omega arith))
gives_upload mode m zero (suc r) zero p few small most = absurd (omega arith)
gives_upload mode m zero (suc r) (suc left) p few small most =
    let l = length-append p (255 ∷ behind r) in
    let first : get_or (p ++ (255 ∷ behind r)) (length p) 0 ≡ 255 = simp add-zero at (get_or-append-add p (255 ∷ behind r) 0 0) in
    gives_behind mode (lying m (p ++ (255 ∷ behind r))) (length p) left (omega (arith, l)) (omega (arith, l, length_behind r)) (omega (arith, first)) small
gives_upload mode m (suc k) r zero p few small most = absurd (omega arith)
gives_upload mode m (suc k) r (suc left) p few small most =
    let s : List ℕ = p ++ (smallest ++ upload k r) in
    let next : (claim_at s (length p)).next ≡ length p + 33 = ap (λ c. c.next) (claim_whole p smallest (upload k r) smallest_whole small) in
    let l = length-append p (smallest ++ upload k r) in
    let ih = simp (append_assoc, length-append p smallest) at (gives_upload mode m k r left (p ++ smallest) few (rw append_assoc small) (omega arith)) in
    gives_entry mode (lying m s) (length p) left k (length p + 33) (omega (arith, l, length-append smallest (upload k r))) next (λ z. omega (arith, z)) ih (accepted_there mode m p (upload k r) small)
