-- Wrong versions are shut out: by two symbols with the names B and A, of which the first has in the other version an end byte that is not 0.
use Rattle.std.proofs.Common.{ℕ, ◌+◌, ◌-◌, ◌<◌, ◌≤◌, ◌≡◌, inl, inr, refl, sym, ap, subst, ◌∙◌, Bool, true, false, List, [], ◌∷◌, length, get_or, set, drop, arith, Bor, Some, Result, Ok, Err}
use Rattle.std.specs.Prelude.{eqb}
use Rattle.std.proofs.lemmas.Fmt.{decimal_digit}
use borrow.Author.Tests.{eqb-true, eqb-false, lt-leb, le-ltb}
use lib.Seq.{get_or-set_other}
use lib.ListN.{length-take, length-drop}
use Rattle.le.specs.Le.{le2, le4}
use Rattle.le.specs.Le as le
use Rattle.le.proofs.Laws.{not_both}
use Rattle.part.specs.Slice.{part}
use Rattle.part.specs.Outcome.{and_then}
use Rattle.refusal.specs.Refusal.{limit}
use Rattle.refusal.specs.EndBytes.{ended}
use Rattle.refusal.specs.declared.Mode.{Mode}
use Rattle.refusal.specs.declared.Mode.TheVariants.{Checked}
use Rattle.refusal.specs.declared.Refusal.{Refusal}
use Rattle.names.specs.Names.{folded, same_name}
use Rattle.entry.specs.Entry.{claim_at, claim_of}
use Rattle.entry.specs.Walk.{steps, steps_from}
use Rattle.entry.specs.Alike.{among, IsWhole, DiffersInside}
use Rattle.entry.proofs.Alike.{among_cases}
use Rattle.entry.proofs.Direct.{part_all, part_long, own_claim, room_of}
use Rattle.walk.specs.Step.{step_at}
use Rattle.walk.specs.Pieces.{piece_at, pieces_from}
use Rattle.symbol.specs.declared.AdsSymbolInfo.{AdsSymbolInfo}
use Rattle.layout.specs.Layout.{guid_of}
use Rattle.symbol.specs.Symbol.{attributes_of, extended_of, refactor_infos_of, with_strings, symbol_ended, ended_symbol, symbol_of}
use Rattle.symbol.specs.Kind as kind
use Rattle.attribute.specs.Attribute.{ends}
use Rattle.name_find.specs.Find as any
use Rattle.symbol_find.specs.Find.{is_named}
use Rattle.symbol_find.specs.Meaning.{HasName}
use Rattle.listing.specs.Row.{entry_row}
use Rattle.listing.specs.Listing.{row}
use Rattle.damage.specs.Others.{others}
use Rattle.writing.specs.Writing.{Writes}
use Rattle.index.specs.Index.{starts, indexing}
use Rattle.name_order.specs.Order.{name_at, name_cmp, start_cmp}
use Rattle.name_order.specs.Sorted.{placed, in_order}
use Rattle.named.specs.Kinds.{symbol_places}
use Rattle.name_index.specs.Index.{name_indexing}
use Rattle.names_damaged.specs.Finding.{AreBuilt, built}
use Rattle.symbols_damaged.specs.Listed.{Row}
use Rattle.symbols_damaged.specs.ShutsOut.{ends_at_refused, answers_unseen, by_entry, SymbolsShutOut}

-- where a symbol of a name begins, a step gives it
module _ (mode : Mode) (s : Bor (List ℕ)) (name : List ℕ) (at : ℕ) (small : length s.now ≤ limit) where
  claimed_is : (own : List ℕ) (size : ℕ) → claim_of 30 own ≡ Ok size → (size ≡ le4 own 0) × (30 ≤ size)
  unfolding claim_of
  claimed_is own size e = (grind arith, grind arith)

  room_for : (n : ℕ) → n ≤ length (le.part s.now at n) → 0 < n → at + n ≤ length s.now
  unfolding le.part
  room_for n h z = omega (arith, h, z, length-take n (drop at s.now), length-drop at s.now)

  steps_there : (n : ℕ) → 30 ≤ n → at + n ≤ length s.now → le4 s.now at ≡ n → (claim_at s.now at).size ≡ Some (Ok n)
  unfolding claim_at
  steps_there n h l e =
      simp (
        lt-leb (length s.now) at (omega arith),
        le-ltb limit (length s.now) small,
        le-ltb (length s.now - at) 4 (omega arith),
        e,
        le-ltb (length s.now - at) n (omega arith),
      )

  given : (n : ℕ) (symbol : AdsSymbolInfo) → symbol.length ≡ n → (c : Result ℕ Refusal) → claim_of 30 (part s at n).now ≡ c → and_then c (λ size. symbol_of mode (part (part s at n) 0 size)) ≡ Ok symbol
      → (step_at (symbol_of mode) s at).answer ≡ Some (Ok symbol)
  unfolding step_at le.part
  given n symbol l (Err why) e h = absurd (let z : ◌≡◌ {A = ℕ} 0 1 = cc in omega arith)
  given n symbol l (Ok size) e h =
      let own : Bor (List ℕ) = part s at n in
      let fits : size ≤ length own.now = room_of 30 own.now size e in
      let a : length (part own 0 size).now ≡ size = part_long own 0 size (omega (arith, fits)) in
      let is : size ≡ n = sym a ∙ sym (kind.long mode (part own 0 size) symbol h) ∙ l in
      let c = claimed_is own.now size e in
      let k : 30 ≤ n = omega (arith, c.1, is) in
      let there : at + n ≤ length s.now = room_for n (omega (arith, fits, is)) (omega arith) in
      let claim : le4 s.now at ≡ n = sym (own_claim s.now at n (omega arith)) ∙ sym c.0 ∙ is in
      let whole : part own 0 size ≡ own = ap (λ (i : ℕ). part own 0 i) (is ∙ sym (part_long s at n there)) ∙ part_all own in
      simp (steps_there n k there claim) (ap Some (ap (λ (e : Bor (List ℕ)). symbol_of mode e) (sym whole) ∙ h))

  named_of : HasName mode s name at → is_named mode s name at ≡ true
  unfolding any.is_named
  named_of h =
      let g = given h.entry.length h.entry refl (claim_of 30 (part s at h.entry.length).now) refl h.alone in
      simp g h.named

abbrev lying : List ℕ → Bor (List ℕ)
lying s = record { ref_ptr = (0, 0); now = s }

-- a symbol with the name B, and one with the name A
abbrev good : List ℕ
good =
    34 ∷ 0 ∷ 0 ∷ 0 ∷ 0 ∷ 0 ∷ 0 ∷ 0 ∷ 0 ∷ 0 ∷ 0 ∷ 0 ∷ 0 ∷ 0 ∷ 0 ∷ 0 ∷ 0 ∷ 0 ∷ 0 ∷ 0 ∷ 0 ∷ 0 ∷ 0 ∷ 0 ∷ 1 ∷ 0 ∷ 0 ∷ 0 ∷ 0 ∷ 0 ∷ 66 ∷ 0 ∷ 0 ∷ 0
    ∷ 34 ∷ 0 ∷ 0 ∷ 0 ∷ 0 ∷ 0 ∷ 0 ∷ 0 ∷ 0 ∷ 0 ∷ 0 ∷ 0 ∷ 0 ∷ 0 ∷ 0 ∷ 0 ∷ 0 ∷ 0 ∷ 0 ∷ 0 ∷ 0 ∷ 0 ∷ 0 ∷ 0 ∷ 1 ∷ 0 ∷ 0 ∷ 0 ∷ 0 ∷ 0 ∷ 65 ∷ 0 ∷ 0 ∷ 0 ∷ []

-- with an end byte of the first that is not 0
abbrev bad : List ℕ
bad = set good 31 1

one_of : (x p : ℕ) → among (x ∷ []) p ≡ true → p ≡ x
one_of x p h = elim (among_cases x [] p h) [ inl e ↦ sym e | inr k ↦ absurd (not_both k refl) ]

whole : (p : ℕ) → (p ≡ 0) → IsWhole good p
unfolding le4 claim_at steps steps_from
whole p e = subst (IsWhole good) (sym e) (record { reached = refl; four = omega arith; some = omega arith; there = omega arith })

other_byte : (k : ℕ) (b : Bool) → eqb k 31 ≡ b → (b ≡ true → ⊥) → get_or good k 0 ≡ get_or bad k 0
other_byte k true e off = absurd (off refl)
other_byte k false e off = sym (get_or-set_other good 31 k 1 0 (λ h. eqb-false k 31 e h))

differs : DiffersInside good bad (0 ∷ [])
unfolding le4
differs = record {
  long = refl;
  whole = λ p q. whole p (one_of 0 p q);
  alike = λ k l off. other_byte k (eqb k 31) refl (λ e. let is : k ≡ 31 = eqb-true k 31 e in off 0 refl (omega (arith, is)) (omega (arith, is)));
}

-- neither version of the first has the name A, or AA
first_not : is_named Checked (lying good) (65 ∷ []) 0 ≡ false
unfolding le2 le4 claim_at step_at folded same_name guid_of attributes_of extended_of refactor_infos_of with_strings symbol_ended ends ended ended_symbol symbol_of any.is_named
first_not = refl

bad_not : is_named Checked (lying bad) (65 ∷ []) 0 ≡ false
unfolding le2 le4 claim_at step_at folded same_name guid_of attributes_of extended_of refactor_infos_of with_strings symbol_ended ends ended ended_symbol symbol_of any.is_named
bad_not = refl

first_not_double : is_named Checked (lying good) (65 ∷ 65 ∷ []) 0 ≡ false
unfolding le2 le4 claim_at step_at folded same_name guid_of attributes_of extended_of refactor_infos_of with_strings symbol_ended ends ended ended_symbol symbol_of any.is_named
first_not_double = refl

bad_not_double : is_named Checked (lying bad) (65 ∷ 65 ∷ []) 0 ≡ false
unfolding le2 le4 claim_at step_at folded same_name guid_of attributes_of extended_of refactor_infos_of with_strings symbol_ended ends ended ended_symbol symbol_of any.is_named
bad_not_double = refl

none_has : (s name : List ℕ) → length s ≤ limit → is_named Checked (lying s) name 0 ≡ false → (p : ℕ) → among (0 ∷ []) p ≡ true → HasName Checked (lying s) name p → ⊥
none_has s name small other p q h = not_both (named_of Checked (lying s) name 0 small (subst (HasName Checked (lying s) name) (one_of 0 p q) h)) other

found_or : Result ℕ Refusal → ℕ
found_or (Ok at) = at
found_or (Err why) = 0

good_found : found_or (ends_at_refused Checked (lying good) (65 ∷ [])) ≡ 34
unfolding le2 le4 claim_at steps steps_from step_at folded same_name guid_of attributes_of extended_of refactor_infos_of with_strings symbol_ended ends ended ended_symbol symbol_of any.is_named found_or
good_found = refl

bad_found : found_or (ends_at_refused Checked (lying bad) (65 ∷ [])) ≡ 0
unfolding le2 le4 claim_at steps steps_from step_at folded same_name guid_of attributes_of extended_of refactor_infos_of with_strings symbol_ended ends ended ended_symbol symbol_of any.is_named found_or
bad_found = refl

-- the name index of the first: A before B
good_index : name_indexing symbol_places (symbol_of Checked) (lying good) ≡ Ok (34 ∷ 0 ∷ [])
unfolding le2 le4 claim_at steps steps_from piece_at pieces_from folded guid_of attributes_of extended_of refactor_infos_of with_strings symbol_ended ends ended ended_symbol symbol_of starts indexing name_indexing in_order placed start_cmp name_cmp name_at le.part
good_index = refl

good_built : AreBuilt (name_indexing symbol_places (symbol_of Checked) (lying good)) (34 ∷ 0 ∷ [])
good_built = built (subst (λ (x : Result (List ℕ) Refusal). Writes x (0 ∷ 0 ∷ []) (34 ∷ 0 ∷ []) (Ok 2)) (sym good_index) (record { said = refl; left = refl }))

-- the first of these that does not come before AA is B, which is damaged
unseen_first : answers_unseen Checked (lying bad) (34 ∷ 0 ∷ []) (65 ∷ 65 ∷ []) (Ok 0)
unfolding le2 le.part folded name_cmp name_at
unseen_first = refl

-- the first character of the first row
first_character : List Row → ℕ
first_character [] = 0
first_character (r ∷ more) = get_or r.text 0 0

good_number : first_character (others (λ r. r.start) (0 ∷ []) (by_entry Checked 1 good)) ≡ 50
unfolding le2 le4 claim_at piece_at pieces_from guid_of attributes_of extended_of refactor_infos_of with_strings symbol_ended ends ended ended_symbol symbol_of row entry_row first_character
good_number = rw (decimal_digit 2 (omega arith)) refl

bad_number : first_character (others (λ r. r.start) (0 ∷ []) (by_entry Checked 1 bad)) ≡ 49
unfolding le2 le4 claim_at piece_at pieces_from guid_of attributes_of extended_of refactor_infos_of with_strings symbol_ended ends ended ended_symbol symbol_of row entry_row first_character
bad_number = rw (decimal_digit 1 (omega arith)) refl

pub symbols_shut_out : SymbolsShutOut
symbols_shut_out = record {
  ends = λ indexed stay.
      let f = stay Checked (lying good) (lying bad) (0 ∷ []) (65 ∷ []) differs (none_has good (65 ∷ []) (omega arith) first_not) (none_has bad (65 ∷ []) (omega arith) bad_not) in
      let e : 34 ≡ 0 = sym good_found ∙ ap found_or f.walk ∙ bad_found in
      omega (arith, e);
  unseen = λ walked indexed stay.
      let f = stay Checked (lying good) (lying bad) (0 ∷ []) (65 ∷ 65 ∷ []) differs (none_has good (65 ∷ 65 ∷ []) (omega arith) first_not_double) (none_has bad (65 ∷ 65 ∷ []) (omega arith) bad_not_double) in
      not_both refl ((f.halved_crossed (34 ∷ 0 ∷ []) good_built (Ok 0) unseen_first).there 0 refl).elsewhere;
  numbers = λ stay.
      let r = stay Checked 1 good bad (0 ∷ []) differs in
      let e : 50 ≡ 49 = sym good_number ∙ ap first_character r.other ∙ bad_number in
      omega (arith, e);
}
