-- What `branch` and `list --sorted` write: proved.
use Rattle.std.proofs.Common.{ℕ, ◌+◌, ◌<◌, ◌≤◌, ◌≡◌, refl, sym, ap, subst, ◌∙◌, Bool, true, false, List, [], ◌∷◌, ◌++◌, codes, length, take, get_or, arith, Bor, Result, if◌then◌else◌}
use Rattle.std.proofs.lemmas.List.{map-append}
use Rattle.std.specs.Prelude.{Option, Some, None, Ok, Err, All, filter, map, ltb, is_ok, is_err, not}
use Rattle.std.specs.Option.{option_map}
use Rattle.std.specs.List.{flat_map, list_any}
use Rattle.std.specs.List.Sorted.{IsPermutation}
use Rattle.std.proofs.lemmas.List.Elements.{All-nil, All-cons, All-head, All-tail, All-map, All-filter}
use Rattle.std.proofs.lemmas.List.Sorted.{IsPermutation-trans, IsPermutation-map, IsPermutation-append_left, IsPermutation-filter_both, All-permutation}
use borrow.Author.Tests.{ltb-true, ltb-false, le-ltb, lt-leb}
use Rattle.part.specs.Slice.{part}
use Rattle.part.specs.Outcome.{and_then}
use Rattle.refusal.specs.Refusal.{limit}
use Rattle.refusal.specs.declared.Refusal.{Refusal}
use Rattle.refusal.specs.declared.Refusal.TheVariants.{TooLarge, ZeroEntryLength}
use Rattle.entry.specs.Entry.{claim_at}
use Rattle.entry.specs.Walk.{stands, steps}
use Rattle.entry.proofs.Claims.{room_at}
use Rattle.entry.proofs.Direct.{part_long}
use Rattle.writing.specs.Writing.{leaves, Writes}
use Rattle.walk.specs.declared.Piece.{Piece}
use Rattle.walk.specs.Mapped.{map_ok}
use Rattle.walk.specs.Step.{step_at}
use Rattle.walk.specs.Pieces.{piece_at, pieces}
use Rattle.walk.proofs.Left.{piece_starts, all_inside}
use Rattle.walk.proofs.Theorems.{reads, pieces_are, pieces_tell}
use Rattle.walk.proofs.Back.{steps_back}
use Rattle.symbol.specs.declared.AdsSymbolInfo.{AdsSymbolInfo}
use Rattle.symbol.specs.Symbol.{symbol_of}
use Rattle.symbol.specs.Kind as kind
use Rattle.index.specs.Index.{accepts, stopped, starts as starts_of}
use Rattle.index.specs.Steps.{gives, BySteps}
use Rattle.index.proofs.Steps.{by_steps_of}
use Rattle.index.proofs.Laws.{index_large, index_zero, index_starts}
use Rattle.name_order.specs.Letters.{IsInNameOrder}
use Rattle.name_order.specs.Sorted.{in_order}
use Rattle.named.specs.Kinds.{symbol_places, symbol_told}
use Rattle.name_index.specs.Index.{name_indexing}
use Rattle.name_index.specs.Branching.{in_branch, branching}
use Rattle.name_index.specs.BranchMeaning.{HasBranch, Picks, picked, passed, InIndex}
use Rattle.name_index.proofs.Meaning.{is_index}
use Rattle.name_index.proofs.BranchMeaning.{branch_in_index_of}
use Rattle.report.specs.declared.Upload.{Upload}
use Rattle.report.specs.Meant.{object, symbol_members}
use Rattle.report.specs.Report.{json_line, tally_of}
use Rattle.report.proofs.Lines.{lines_meant}
use Rattle.branching.specs.Ordered.{by_name, branch, refused_of, refused, sorted}
use Rattle.branching.specs.Lines.{entry_at, entries_at, lines}
use Rattle.branching.specs.Meaning.{Answers, Tells, TellsEach, BranchTold, Refusals, SortedTold, BranchWritten, SortedWritten}
use Rattle.branching.specs.Meaning as meant
use Rattle.branching.proofs.Laws.{goes, front_is, begin_so, branching_is, named_small}
use Rattle.branching.proofs.Tallies.{tally_moved}
use Rattle.branching.proofs.Tables.{told}

-- a writer's answer where exactly as many slots are lent as there is to write
abbrev full : List ℕ → Result (List ℕ) Refusal → List ℕ
full xs w = leaves w xs

written_full : (w : Result (List ℕ) Refusal) (xs : List ℕ) → w ≡ Ok xs → Writes w xs (full xs w) (Ok (length xs))
written_full w xs e = subst (λ (v : Result (List ℕ) Refusal). Writes v xs (full xs v) (Ok (length xs))) (sym e) (let b = le-ltb (length xs) (length xs) (omega arith) in record { said = simp b; left = refl })

-- two that write the same are the same
alike : (w v : Result (List ℕ) Refusal) (xs ys : List ℕ) → w ≡ Ok xs → v ≡ Ok ys → ((old new : List ℕ) (r : Result ℕ Refusal) → Writes w old new r → Writes v old new r) → ys ≡ xs
alike w v xs ys e f h =
    let a = written_full w xs e in
    let p = front_is w xs (full xs w) (length xs) a in
    let q = front_is v xs (full xs w) (length xs) (h xs (full xs w) (Ok (length xs)) a) in
    cc

module _ (u : Upload) where
  abbrev read : Bor (List ℕ) → Result AdsSymbolInfo Refusal
  read = symbol_of u.mode

  abbrev s : Bor (List ℕ)
  s = u.bytes

  -- the entry's own bytes
  own_read : (at : ℕ) (r : AdsSymbolInfo) → (step_at read s at).answer ≡ Some (Ok r) → (read (part s at r.length) ≡ Ok r) × (at + r.length ≤ length s.now)
  unfolding step_at
  own_read at r = by (claim_at s.now at).size refl
    where
      by : (c : Option (Result ℕ Refusal)) → (claim_at s.now at).size ≡ c → option_map (λ claim. and_then claim (λ size. read (part s at size))) c ≡ Some (Ok r) → (read (part s at r.length) ≡ Ok r) × (at + r.length ≤ length s.now)
      by None e h = cc
      by (Some (Err why)) e h = cc
      by (Some (Ok size)) e h =
          let room = room_at s.now at size e in
          let is : read (part s at size) ≡ Ok r = cc in
          let n : r.length ≡ size = kind.long u.mode (part s at size) r is ∙ part_long s at size room in
          (ap (λ (k : ℕ). read (part s at k)) n ∙ is, omega arith)

  -- the piece where a step gives a record
  record Stands (at : ℕ) (r : AdsSymbolInfo) : Type 0 where
    own : read (part s at r.length) ≡ Ok r
    there : entry_at u at ≡ Some (piece_at read s at)
    answer_is : (piece_at read s at).answer ≡ Ok r

  stands_at : (at : ℕ) (r : AdsSymbolInfo) → (step_at read s at).answer ≡ Some (Ok r) → Stands at r
  unfolding entry_at
  stands_at at r h =
      let own = own_read at r h in
      let room = kind.room u.mode (part s at r.length) r own.0 in
      let long = part_long s at r.length own.1 in
      let before : at < length s.now = omega arith in
      let moves : at < (step_at read s at).cursor.at = omega (arith, (reads read 30 (λ r. r.length) kind.four (kind.long u.mode) (kind.room u.mode) s at r h).moves) in
      record {
        own = own.0;
        there = simp (lt-leb (length s.now) at before);
        answer_is = let e = ((pieces_tell read s at before).moves moves).0 in cc;
      }

  module _ (text : List ℕ) (small : length s.now ≤ limit) where
    Has : ℕ → Type 0
    Has at = HasBranch 30 read (λ r. r.length) (λ r. r.name.now) s text at

    each : (places : List ℕ) → All Has places → TellsEach u text places (lines u places)
    unfolding Has
    each [] h = meant.done
    each (at ∷ places) h =
        let has = All-head Has at places h in
        let stood = stands_at at has.entry (steps_back read 30 (λ r. r.length) kind.four (kind.long u.mode) s at has.entry small has.alone) in
        let line = lines_meant.accepted u.mode (part s at has.entry.length) has.entry (piece_at read s at) stood.own stood.answer_is in
        let so : Tells u text at (json_line (piece_at read s at)) = record { has = has; is = line ∙ ap (λ (k : ℕ). object (symbol_members k (part s at has.entry.length).now has.entry) ++ codes "\n") (piece_starts read s at) } in
        subst (TellsEach u text (at ∷ places)) (simp stood.there) (meant.next so (each places (All-tail Has at places h)))

    -- something stands at each of them
    there : (places : List ℕ) → All Has places → entries_at u places ≡ map (piece_at read s) places
    unfolding Has
    there [] h = refl
    there (at ∷ places) h =
        let has = All-head Has at places h in
        let stood = stands_at at has.entry (steps_back read 30 (λ r. r.length) kind.four (kind.long u.mode) s at has.entry small has.alone) in
        simp stood.there (ap (λ (l : List (Piece AdsSymbolInfo)). piece_at read s at ∷ l) (there places (All-tail Has at places h)))

    picks_have : (places run : List ℕ) → Picks 30 read (λ r. r.length) (λ r. r.name.now) s text places run → All Has run
    unfolding Has
    picks_have [] [] p = All-nil _
    picks_have [] (y ∷ run) p = elim p [ ]
    picks_have (x ∷ places) (y ∷ run) (picked h on) = All-cons Has x run h (picks_have places run on)
    picks_have (x ∷ places) run (passed n on) = picks_have places run on

  steps_of : BySteps read
  steps_of = by_steps_of read 30 kind.four (kind.short u.mode) (kind.never_zero u.mode)

  -- the name index that is built into slots that are enough
  abbrev slots : List ℕ → List ℕ
  slots xs = full xs (name_indexing symbol_places read s)

  indexed : (xs : List ℕ) → by_name u ≡ Ok xs → Writes (name_indexing symbol_places read s) xs (slots xs) (Ok (length xs))
  unfolding by_name
  indexed xs h = written_full (name_indexing symbol_places read s) xs h

  taken : (xs : List ℕ) → by_name u ≡ Ok xs → take (length xs) (slots xs) ≡ xs
  unfolding by_name
  taken xs h = let e = front_is (name_indexing symbol_places read s) xs (slots xs) (length xs) (indexed xs h) in cc

  branch_told : (text xs : List ℕ) → by_name u ≡ Ok xs → BranchTold u text (begin_so u text xs) (lines u (begin_so u text xs))
  branch_told text xs h =
      let i : InIndex 30 read (λ r. r.length) (λ r. r.name.now) s symbol_places xs text
      = subst (λ (l : List ℕ). InIndex 30 read (λ r. r.length) (λ r. r.name.now) s symbol_places l text) (taken xs h)
      (branch_in_index_of symbol_places 30 read (λ r. r.length) (λ r. r.name.now) kind.four (kind.long u.mode) (kind.room u.mode) (symbol_told u.mode) steps_of s xs (slots xs) (length xs) (indexed xs h) text) in
      let same : i.run ≡ begin_so u text xs = alike (branching symbol_places read s xs text) (Ok i.run) (begin_so u text xs) i.run (branching_is u text xs h) refl i.asked in
      let small = named_small u xs h in
      let have = picks_have text small (steps s.now) i.all i.every in
      let has = subst (All (Has text small)) same (All-permutation (Has text small) i.all i.run i.same have) in
      record {
        each = each text small (begin_so u text xs) has;
        in_order = subst (IsInNameOrder symbol_places s.now) same i.in_order;
        all = i.all;
        every = i.every;
        once = subst (IsPermutation i.all) same i.same;
        tabled = told u small (begin_so u text xs) (there text small (begin_so u text xs) has);
      }

  -- a piece that is the one at its start, inside the upload
  IsAt : Piece AdsSymbolInfo → Type 0
  IsAt p = (piece_at read s p.start ≡ p) × (p.start < length s.now)

  all_at : All IsAt (pieces read s)
  unfolding IsAt
  all_at =
      let back : All (λ p. piece_at read s p.start ≡ p) (pieces read s)
      = subst (All (λ p. piece_at read s p.start ≡ p)) (sym (pieces_are read s)) (All-map (λ p. piece_at read s p.start ≡ p) (piece_at read s) (steps s.now) (λ k d h. ap (piece_at read s) (piece_starts read s (get_or (steps s.now) k d)))) in
      λ k d h. (back k d h, all_inside read s (length s.now) 0 k d h)

  starts_back : (xs : List ℕ) → map (λ p. p.start) (map (piece_at read s) xs) ≡ xs
  starts_back [] = refl
  starts_back (x ∷ xs) = simp (piece_starts read s x) (ap (λ (l : List ℕ). x ∷ l) (starts_back xs))

  pieces_back : (ps : List (Piece AdsSymbolInfo)) → All IsAt ps → map (piece_at read s) (map (λ p. p.start) ps) ≡ ps
  unfolding IsAt
  pieces_back [] h = refl
  pieces_back (p ∷ ps) h = simp ((All-head IsAt p ps h).0) (ap (λ (l : List (Piece AdsSymbolInfo)). p ∷ l) (pieces_back ps (All-tail IsAt p ps h)))

  entries_back : (ps : List (Piece AdsSymbolInfo)) → All IsAt ps → entries_at u (map (λ p. p.start) ps) ≡ ps
  unfolding IsAt entry_at
  entries_back [] h = refl
  entries_back (p ∷ ps) h =
      let here = All-head IsAt p ps h in
      simp (lt-leb (length s.now) p.start here.1, here.0) (ap (λ (l : List (Piece AdsSymbolInfo)). p ∷ l) (entries_back ps (All-tail IsAt p ps h)))

  refusals : (ps : List (Piece AdsSymbolInfo)) → Refusals ps (filter (λ p. is_err p.answer) ps)
  refusals [] = meant.done
  refusals (p ∷ ps) = by p.answer refl (refusals ps)
    where
      by : (a : Result AdsSymbolInfo Refusal) → p.answer ≡ a → Refusals ps (filter (λ p. is_err p.answer) ps) → Refusals (p ∷ ps) (if is_err p.answer then p ∷ filter (λ p. is_err p.answer) ps else filter (λ p. is_err p.answer) ps)
      by (Ok r) e on = simp e (meant.accepted e on)
      by (Err why) e on = simp e (meant.refused e on)

  other : (a : Result AdsSymbolInfo Refusal) → is_err a ≡ not (is_ok a)
  other (Ok r) = refl
  other (Err why) = refl

  sorted_told : (xs : List ℕ) → by_name u ≡ Ok xs → SortedTold u (xs ++ refused u)
  unfolding starts_of refused_of
  sorted_told xs h =
      let ps = pieces read s in
      let ok = filter accepts ps in
      let no = filter (λ p. is_err p.answer) ps in
      let i = is_index symbol_places read steps_of s xs (slots xs) (length xs) (indexed xs h) in
      let moved : IsPermutation (map (λ p. p.start) ok) xs = subst (λ (l : List ℕ). IsPermutation l xs) (sym (steps_of.starts_are s)) (subst (IsPermutation (filter (gives read s) (steps s.now))) (taken xs h) i.same) in
      let ordered = map (piece_at read s) xs in
      let same : IsPermutation ok ordered = subst (λ (l : List (Piece AdsSymbolInfo)). IsPermutation l ordered) (pieces_back ok (All-filter accepts IsAt ps all_at)) (IsPermutation-map (piece_at read s) (map (λ p. p.start) ok) xs moved) in
      let once : IsPermutation ps (ordered ++ no) = IsPermutation-trans ps (ok ++ no) (ordered ++ no) (IsPermutation-filter_both accepts (λ p. is_err p.answer) (λ p. other p.answer) ps) (IsPermutation-append_left no ok ordered same) in
      let starts : map (λ p. p.start) (ordered ++ no) ≡ xs ++ refused u = map-append (λ p. p.start) ordered no ∙ ap (λ (l : List ℕ). l ++ map (λ p. p.start) no) (starts_back xs) in
      let back = All-permutation IsAt ps (ordered ++ no) once all_at in
      let are : entries_at u (xs ++ refused u) ≡ ordered ++ no = ap (entries_at u) (sym starts) ∙ entries_back (ordered ++ no) back in
      record {
        accepted = ordered;
        refused = no;
        once = once;
        in_order = subst (IsInNameOrder symbol_places s.now) (sym (starts_back xs)) (subst (IsInNameOrder symbol_places s.now) (taken xs h) i.in_order);
        behind = refusals ps;
        are = starts;
        tabled = told u (named_small u xs h) (xs ++ refused u) (are ∙ sym (ap (map (piece_at read s)) (sym starts) ∙ pieces_back (ordered ++ no) back));
        written = ap (flat_map json_line) are;
        counted = ap tally_of are ∙ tally_moved ps (ordered ++ no) once;
      }

  -- the name index, in the three cases
  stopped_is : stopped (pieces read s) ≡ list_any (stands s.now) (steps s.now)
  stopped_is = steps_of.stopped_is s

  name_large : limit < length s.now → by_name u ≡ Err (TooLarge (length s.now))
  unfolding by_name name_indexing
  name_large h = ap (map_ok (in_order (goes u))) (index_large read s h)

  name_zero : length s.now ≤ limit → list_any (stands s.now) (steps s.now) ≡ true → by_name u ≡ Err ZeroEntryLength
  unfolding by_name name_indexing
  name_zero small h = ap (map_ok (in_order (goes u))) (index_zero read s small (stopped_is ∙ h))

  name_ok : length s.now ≤ limit → list_any (stands s.now) (steps s.now) ≡ false → by_name u ≡ Ok (in_order (goes u) (starts_of (pieces read s)))
  unfolding by_name name_indexing
  name_ok small h = ap (map_ok (in_order (goes u))) (index_starts read s small (stopped_is ∙ h))

  answers : (f : List ℕ → List ℕ) (IsSo : List ℕ → Type 0) → ((xs : List ℕ) → by_name u ≡ Ok xs → IsSo (f xs)) → Answers u IsSo (map_ok f (by_name u))
  answers f IsSo so = by (ltb limit (length s.now)) refl (list_any (stands s.now) (steps s.now)) refl
    where
      with_name : (r : Result (List ℕ) Refusal) → by_name u ≡ r → Answers u IsSo (map_ok f r) → Answers u IsSo (map_ok f (by_name u))
      with_name r e h = subst (λ (x : Result (List ℕ) Refusal). Answers u IsSo (map_ok f x)) (sym e) h

      by : (large : Bool) → ltb limit (length s.now) ≡ large → (stop : Bool) → list_any (stands s.now) (steps s.now) ≡ stop → Answers u IsSo (map_ok f (by_name u))
      by true e stop g = let h = ltb-true limit (length s.now) e in with_name _ (name_large h) (meant.too_large h)
      by false e true g = let h = ltb-false limit (length s.now) e in with_name _ (name_zero h g) (meant.zero_claim h g)
      by false e false g = let h = ltb-false limit (length s.now) e in with_name _ (name_ok h g) (meant.in_order h g (so _ (name_ok h g)))

pub branch_written : BranchWritten
unfolding branch
branch_written u text = answers u (filter (in_branch symbol_places (symbol_of u.mode) u.bytes text)) (λ starts. BranchTold u text starts (lines u starts)) (branch_told u text)

pub sorted_written : SortedWritten
unfolding sorted
sorted_written u = answers u (λ starts. starts ++ refused u) (SortedTold u) (sorted_told u)
