-- No section refuses an entry: proved.
use Rattle.std.proofs.Common.{ℕ, zero, suc, ◌+◌, ◌<◌, ◌≤◌, ◌≡◌, refl, sym, ap, ◌∙◌, Bool, true, false, List, length, drop, Ok, Err, Result, arith, Bor, subst, length-drop}
use Rattle.std.specs.Prelude.{leb, if◌then◌else◌}
use borrow.Author.Tests.{le-ltb, lt-ltb}
use Rattle.le.specs.Le.{le2, has}
use Rattle.part.specs.Slice.{after}
use Rattle.part.specs.Outcome.{and_then}
use Rattle.refusal.specs.declared.Mode.{Mode}
use Rattle.refusal.specs.declared.Mode.TheVariants.{Present}
use Rattle.refusal.specs.declared.Refusal.{Refusal}
use Rattle.refusal.specs.declared.Refusal.TheVariants.{EntryLengthMismatch}
use Rattle.attribute.specs.declared.AdsAttribute.{AdsAttribute}
use Rattle.attribute.specs.declared.Attributes.{Attributes}
use Rattle.attribute.specs.Attribute as attribute
use Rattle.attribute.proofs.Laws.{listed_more, listed_none, listed_stop, after_more, after_none}
use Rattle.refactor.specs.declared.RefactorInfos.{RefactorInfos}
use Rattle.refactor.specs.Chains.{IsRefused}
use Rattle.refactor.specs.Refactor as refactor
use Rattle.refactor.proofs.Chains.{chains_refused}
use Rattle.symbol.specs.declared.AdsSymbolInfo.{AdsSymbolInfo}
use Rattle.layout.specs.Layout.{guid_of}
use Rattle.symbol.specs.Symbol.{type_guid_flag, attributes_flag, extended_flags_flag, refactor_info_flag, extended_word, attributes_of, extended_of, refactor_infos_of, with_strings, ended_symbol, symbol_of}
use Rattle.part.specs.End.{IsEnd, rest_at}
use Rattle.symbol.specs.Inside.{behind_guid}
use Rattle.symbol.specs.Kind.{short}
use Rattle.symbol.specs.ReadOn.{needed, HasStrings, Shows, all, up_to, IsReadOn, SymbolsReadOn}
use Rattle.symbol.proofs.Laws.{accepted_is, accepted_room}
use Rattle.symbol.proofs.Lies.{left_there, guid_end, guid_rest, two_from}

-- a list stops at its count, or at the first that is refused
shows_by : (s : Bor (List ℕ)) (left : ℕ) (w : Result (AdsAttribute × Bor (List ℕ)) Refusal) → attribute.first_of s ≡ w
    → ((q : Bor (List ℕ)) → Shows q left (length (attribute.listed q left))) → Shows s (suc left) (length (attribute.listed s (suc left)))
shows_by s left (Err why) h ih = rw (listed_stop s left why h) (up_to why (omega arith) (ap attribute.first_of (after_none s) ∙ h))
shows_by s left (Ok p) h ih = rw (listed_more s left p h) (by (ih p.1))
  where
    by : Shows p.1 left (length (attribute.listed p.1 left)) → Shows s (suc left) (suc (length (attribute.listed p.1 left)))
    by (all e) = all (ap suc e)
    by (up_to why l f) = up_to why (omega (arith, l)) (ap attribute.first_of (after_more s (length (attribute.listed p.1 left)) p h) ∙ f)

shows : (s : Bor (List ℕ)) (left : ℕ) → Shows s left (length (attribute.listed s left))
shows s zero = rw (listed_none s) (all refl)
shows s (suc left) = shows_by s left (attribute.first_of s) refl (λ q. shows q left)

-- in the bytes from a place on
shown_there : (e : Bor (List ℕ)) (at : ℕ) (b : Bool) → Shows (attributes_of (after e at) b).0.bytes (if left_there e at b 2 then le2 e.now at else 0) (attributes_of (after e at) b).0.count
unfolding attributes_of
shown_there e at false = all refl
shown_there e at true = rw (← two_from e.now at, ← length-drop at e.now) (by (leb 2 (length (drop at e.now))))
  where
    by : (c : Bool) → Shows (if◌then◌else◌ {A = Attributes × Bor (List ℕ)} c (record { bytes = after (after e at) 2; count = length (attribute.listed (after (after e at) 2) (le2 (drop at e.now) 0)) }, attribute.after_listed (after (after e at) 2) (le2 (drop at e.now) 0)) (record { bytes = after e at; count = 0 }, after e at)).0.bytes
        (if c then le2 (drop at e.now) 0 else 0)
        (if◌then◌else◌ {A = Attributes × Bor (List ℕ)} c (record { bytes = after (after e at) 2; count = length (attribute.listed (after (after e at) 2) (le2 (drop at e.now) 0)) }, attribute.after_listed (after (after e at) 2) (le2 (drop at e.now) 0)) (record { bytes = after e at; count = 0 }, after e at)).0.count
    by true = shows (after (after e at) 2) (le2 (drop at e.now) 0)
    by false = all refl

-- a chain that is refused, and one that is read
module _ (s : Bor (List ℕ)) (flagged : Bool) where
  chain_from : (refactor_infos_of s flagged).0.bytes ≡ s
  unfolding refactor_infos_of
  chain_from = grind arith

  chain_count : flagged ≡ true → (count : ℕ) (rest : Bor (List ℕ)) → refactor.chain_of s ≡ Ok (count, rest) → (refactor_infos_of s flagged).0.count ≡ count
  unfolding refactor_infos_of
  chain_count f count rest h = simp (f, h)

  chain_rest : flagged ≡ true → (count : ℕ) (rest : Bor (List ℕ)) → refactor.chain_of s ≡ Ok (count, rest) → (refactor_infos_of s flagged).1 ≡ rest
  unfolding refactor_infos_of
  chain_rest f count rest h = simp (f, h)

  dropped_count : (why : Refusal) → refactor.chain_of s ≡ Err why → (refactor_infos_of s flagged).0.count ≡ 0
  unfolding refactor_infos_of
  dropped_count why h = grind arith

  dropped_rest : (why : Refusal) → refactor.chain_of s ≡ Err why → (refactor_infos_of s flagged).1 ≡ s
  unfolding refactor_infos_of
  dropped_rest why h = grind arith

  -- a record that is met and refused refuses the chain
  refused_chain : (why : Refusal) → IsRefused s why → refactor.chain_of s ≡ Err why
  refused_chain why m = by (refactor.chain_of s) refl ((chains_refused s why).whole m)
    where
      by : (w : Result (ℕ × Bor (List ℕ)) Refusal) → refactor.chain_of s ≡ w → and_then {B = RefactorInfos × Bor (List ℕ)} w (λ p. Ok (record { bytes = s; count = p.0 }, p.1)) ≡ Err why → refactor.chain_of s ≡ Err why
      by (Ok p) h e = cc
      by (Err other) h e = cc

  unflagged_count : flagged ≡ false → (refactor_infos_of s flagged).0.count ≡ 0
  unfolding refactor_infos_of
  unflagged_count f = simp f

  unflagged_rest : flagged ≡ false → (refactor_infos_of s flagged).1 ≡ s
  unfolding refactor_infos_of
  unflagged_rest f = simp f

read_on : (e : Bor (List ℕ)) (n t k : ℕ) → 33 + n + t + k ≤ length e.now → IsReadOn e (with_strings e n t k)
unfolding with_strings
read_on e n t k h =
    let w : ℕ = le2 e.now 20 in
    let g = guid_of (after e (33 + n + t + k)) (has w type_guid_flag) in
    let a = attributes_of g.1 (has w attributes_flag) in
    let x = extended_of a.1 (has w extended_flags_flag) in
    let b : Bool = has (extended_word x.0) refactor_info_flag in
    let from = chain_from x.1 b in
    let p : rest_at e g.1 ≡ behind_guid (with_strings e n t k) = omega (arith, guid_end e n t k h) in
    let tg : IsEnd e g.1 = guid_rest e n t k h in
    record {
      attributes = rw (← p) (rw (← tg.is) at (shown_there e (rest_at e g.1) (has w attributes_flag)));
      chain = λ f count rest m. let c = rw from at m in (chain_count x.1 b f count rest c, chain_rest x.1 b f count rest c);
      dropped = λ why m. let c = refused_chain x.1 b why (rw from at m) in record { none = dropped_count x.1 b why c; unread = dropped_rest x.1 b why c ∙ sym from };
      unflagged = λ f. record { none = unflagged_count x.1 b f; unread = unflagged_rest x.1 b f ∙ sym from };
    }

accepted : (e : Bor (List ℕ)) → HasStrings e → (r : AdsSymbolInfo) × (symbol_of Present e ≡ Ok r)
unfolding symbol_of ended_symbol
accepted e h =
    let n : ℕ = le2 e.now 24 in
    let t : ℕ = le2 e.now 26 in
    let k : ℕ = le2 e.now 28 in
    (with_strings e n t k, simp (le-ltb (length e.now) 30 (omega (arith, h)), le-ltb (length e.now) (33 + n + t + k) h))

no_strings : (mode : Mode) (e : Bor (List ℕ)) → 30 ≤ length e.now → length e.now < needed e → symbol_of mode e ≡ Err (EntryLengthMismatch (needed e) (length e.now))
unfolding symbol_of
no_strings mode e h l = simp (le-ltb (length e.now) 30 h, lt-ltb (length e.now) (needed e) l)

pub symbols_read_on : SymbolsReadOn
symbols_read_on e = record {
  no_header = λ mode h. short mode e h;
  no_strings = λ mode h l. no_strings mode e h l;
  accepted = accepted e;
  only = λ mode r h. let room = accepted_room mode e r h in (room, subst (IsReadOn e) (accepted_is mode e r h) (read_on e (le2 e.now 24) (le2 e.now 26) (le2 e.now 28) room));
}
