-- What is written of a salvage: proved.
use Rattle.std.proofs.Common.{ℕ, zero, suc, ◌+◌, ◌-◌, ◌<◌, ◌≤◌, ◌≡◌, ◌⊎◌, ⊎_elim, refl, sym, ap, subst, ◌∙◌, Bool, false, List, [], ◌∷◌, ◌++◌, codes, decimal, length, get_or, arith, cond, max, ◌==◌, if◌then◌else◌, append_assoc, length-append}
use Rattle.std.specs.Prelude.{Result, Ok, Err, All, map, Contains, is_ok, is_err, drop}
use Rattle.std.specs.List.{flat_map, count_by, sum_by}
use Rattle.std.specs.Fmt.{digits}
use Rattle.std.proofs.Math.Nat.{le-max_left, le-max_right}
use Rattle.std.proofs.lemmas.List.{length-take, length-drop}
use Rattle.std.proofs.lemmas.List.Elements.{All-nil, All-cons, All-head, All-tail}
use Rattle.std.proofs.lemmas.List.Sums.{sum_by-cons, count_by-le-length}
use Rattle.le.specs.Le.{part}
use Rattle.refusal.specs.Refusal.{limit, figures_of}
use Rattle.refusal.specs.declared.Refusal.{Refusal}
use Rattle.symbol.specs.declared.AdsSymbolInfo.{AdsSymbolInfo}
use Rattle.symbol.specs.Symbol.{symbol_of}
use Rattle.walk.specs.declared.Piece.{Piece}
use Rattle.walk.specs.Pieces.{pieces}
use Rattle.walk.proofs.Forward.{Forward, all_forward}
use Rattle.walk.proofs.Left.{few_pieces}
use Rattle.salvage.specs.Salvage.{kept, dropped, bytes_of, run_of}
use Rattle.salvage.specs.Cover.{joined}
use Rattle.salvage.proofs.Cover.{covers}
use Rattle.wording.specs.Wording.{grouped, grouped_by, many, bytes, refusal_text}
use Rattle.report.specs.declared.Upload.{Upload}
use Rattle.report.specs.Aligned.{Cell, right, IsColumn, IsRow}
use Rattle.report.specs.Aligned as aligned
use Rattle.report.specs.Cells.{at_right, number_cell}
use Rattle.report.specs.Report.{tally_of, upload_text}
use Rattle.report.proofs.Tallies.{tallies_meant}
use Rattle.salvage_report.specs.declared.Widths.{Widths}
use Rattle.salvage_report.specs.Dropped.{dropped_of, dropped_text, kept_text}
use Rattle.salvage_report.specs.Runs.{headings, fitted, fitted_by, fitted_on, widths_of, headings_text, run_by, run_text, table_text, report_text}
use Rattle.salvage_report.specs.Meaning.{Run, Drops, AreLines, IsTable, IsReport, SalvageReported}
use Rattle.salvage_report.specs.Meaning as meant

-- the runs of some pieces
abbrev with_run : ℕ → ℕ → Result AdsSymbolInfo Refusal → List Run → List Run
with_run start end (Ok r) runs = runs
with_run start end (Err why) runs = record { place = start; bytes = end - start; why = why } ∷ runs

unfoldable runs_of : List (Piece AdsSymbolInfo) → List Run
runs_of [] = []
runs_of (p ∷ ps) = with_run p.start p.end p.answer (runs_of ps)

drops : (s : List ℕ) (ps : List (Piece AdsSymbolInfo)) → All (Forward s) ps → Drops ps (runs_of ps)
unfolding runs_of
drops s [] h = meant.Drops.done
drops s (p ∷ ps) h = by p.answer refl (drops s ps (All-tail (Forward s) p ps h))
  where
    by : (a : Result AdsSymbolInfo Refusal) → p.answer ≡ a → Drops ps (runs_of ps) → Drops (p ∷ ps) (with_run p.start p.end a (runs_of ps))
    by (Ok r) e on = meant.Drops.accepted e on
    by (Err why) e on = let f = (All-head (Forward s) p ps h).0 in meant.Drops.refused e (omega arith) on

-- what a salvage lists of a run
abbrev slots : Run → List ℕ
slots r = r.place ∷ r.bytes ∷ (figures_of r.why).number ∷ []

listed : (ps : List (Piece AdsSymbolInfo)) → dropped ps ≡ flat_map slots (runs_of ps)
unfolding runs_of dropped
listed [] = refl
listed (p ∷ ps) = by p.answer (listed ps)
  where
    by : (a : Result AdsSymbolInfo Refusal) → dropped ps ≡ flat_map slots (runs_of ps) → run_of p.start p.end a ++ dropped ps ≡ flat_map slots (with_run p.start p.end a (runs_of ps))
    by (Ok r) e = e
    by (Err why) e = ap (λ (l : List ℕ). run_of {R = AdsSymbolInfo} p.start p.end (Err why) ++ l) e

-- columns that are made wide enough for one run after another
abbrev wider : Widths → Run → Widths
wider w r = record { place = max w.place (length (decimal r.place)); length = max w.length (length (decimal r.bytes)) }

unfoldable onto : Widths → List Run → Widths
onto w [] = w
onto w (r ∷ rs) = onto (wider w r) rs

widths_are : (w : Widths) (ps : List (Piece AdsSymbolInfo)) → fitted_on w ps ≡ onto w (runs_of ps)
unfolding fitted_on fitted runs_of onto
widths_are w [] = refl
widths_are w (p ∷ ps) = by p.answer (λ v. widths_are v ps)
  where
    by : (a : Result AdsSymbolInfo Refusal) → ((v : Widths) → fitted_on v ps ≡ onto v (runs_of ps)) → fitted_on (fitted_by w p.start p.end a) ps ≡ onto w (with_run p.start p.end a (runs_of ps))
    by (Ok r) on = on w
    by (Err why) on = on (fitted_by w p.start p.end (Err why))

record Within (a b : Widths) : Type 0 where
  place : a.place ≤ b.place
  length : a.length ≤ b.length

grown : (w : Widths) (rs : List Run) → Within w (onto w rs)
unfolding onto
grown w [] = record { place = omega arith; length = omega arith }
grown w (r ∷ rs) =
    let g = grown (wider w r) rs in
    record {
      place = omega (arith, g.place, le-max_left w.place (length (decimal r.place)));
      length = omega (arith, g.length, le-max_left w.length (length (decimal r.bytes)));
    }

abbrev Fits : Widths → Run → Type 0
Fits w r = (length (decimal r.place) ≤ w.place) × (length (decimal r.bytes) ≤ w.length)

fits : (w : Widths) (rs : List Run) → All (Fits (onto w rs)) rs
unfolding onto
fits w [] = All-nil (Fits w)
fits w (r ∷ rs) =
    let g = grown (wider w r) rs in
    All-cons (Fits (onto (wider w r) rs)) r rs
    (omega (arith, g.place, le-max_right w.place (length (decimal r.place))), omega (arith, g.length, le-max_right w.length (length (decimal r.bytes))))
    (fits (wider w r) rs)

-- and no wider
either : (a b : ℕ) → (max a b ≡ a) ⊎ (max a b ≡ b)
either a b = grind arith

one_of : (a l x : ℕ) (rest : List ℕ) → Contains (max a l ∷ rest) x → Contains (a ∷ l ∷ rest) x
one_of a l x rest h = by h.0 h.1 h.2
  where
    by : (k : ℕ) → k < length (max a l ∷ rest) → get_or (max a l ∷ rest) k x ≡ x → Contains (a ∷ l ∷ rest) x
    by zero lt e = ⊎_elim (λ m. (0, omega arith, sym m ∙ e)) (λ m. (1, omega arith, sym m ∙ e)) (either a l)
    by (suc k) lt e = (suc (suc k), omega (arith, lt), e)

places_needed : (w : Widths) (rs : List Run) → Contains (w.place ∷ map (λ r. length (decimal r.place)) rs) (onto w rs).place
unfolding onto
places_needed w [] = (0, omega arith, refl)
places_needed w (r ∷ rs) = one_of w.place (length (decimal r.place)) _ (map (λ r. length (decimal r.place)) rs) (places_needed (wider w r) rs)

lengths_needed : (w : Widths) (rs : List Run) → Contains (w.length ∷ map (λ r. length (decimal r.bytes)) rs) (onto w rs).length
unfolding onto
lengths_needed w [] = (0, omega arith, refl)
lengths_needed w (r ∷ rs) = one_of w.length (length (decimal r.bytes)) _ (map (λ r. length (decimal r.bytes)) rs) (lengths_needed (wider w r) rs)

-- the lines
column : (w : ℕ) (text : List ℕ) → length text ≤ w → IsColumn w (right text) (at_right w (length text) text)
column w text h = aligned.IsColumn.at_right text (w - length text) (omega (arith, h))

abbrev front : Widths → List ℕ → List ℕ → List ℕ
front w place bytes = at_right w.place (length place) place ++ (32 ∷ 32 ∷ at_right w.length (length bytes) bytes)

row : (w : Widths) (place bytes : List ℕ) → length place ≤ w.place → length bytes ≤ w.length → IsRow (w.place ∷ w.length ∷ []) (right place ∷ right bytes ∷ []) (front w place bytes)
row w place bytes p q = aligned.IsRow.more (column w.place place p) (aligned.IsRow.last (column w.length bytes q))

-- behind the two columns
behind : (w : Widths) (place bytes t : List ℕ) → at_right w.place (length place) place ++ (codes "  " ++ (at_right w.length (length bytes) bytes ++ t)) ≡ front w place bytes ++ t
behind w place bytes t = sym (append_assoc (at_right w.place (length place) place) (32 ∷ 32 ∷ at_right w.length (length bytes) bytes) t)

lines : (w : Widths) (ps : List (Piece AdsSymbolInfo)) → All (Fits w) (runs_of ps) → AreLines (w.place ∷ w.length ∷ []) (runs_of ps) (flat_map (run_text w) ps)
unfolding runs_of run_text number_cell
lines w [] h = meant.AreLines.done
lines w (p ∷ ps) h = by p.answer h (λ k. lines w ps k)
  where
    by : (a : Result AdsSymbolInfo Refusal) → All (Fits w) (with_run p.start p.end a (runs_of ps)) → (All (Fits w) (runs_of ps) → AreLines (w.place ∷ w.length ∷ []) (runs_of ps) (flat_map (run_text w) ps)) → AreLines (w.place ∷ w.length ∷ []) (with_run p.start p.end a (runs_of ps)) (run_by w p.start p.end a ++ flat_map (run_text w) ps)
    by (Ok r) h on = on h
    by (Err why) h on =
        let run : Run = record { place = p.start; bytes = p.end - p.start; why = why } in
        let own = All-head (Fits w) run (runs_of ps) h in
        subst (λ (l : List ℕ). AreLines (w.place ∷ w.length ∷ []) (run ∷ runs_of ps) (l ++ flat_map (run_text w) ps)) (sym (behind w (decimal p.start) (decimal (p.end - p.start)) (codes "  " ++ (refusal_text why ++ codes "\n"))))
        (meant.AreLines.next {run = run} (row w (decimal p.start) (decimal (p.end - p.start)) own.0 own.1) (on (All-tail (Fits w) run (runs_of ps) h)))

some_there : (r : Run) (rs : List Run) → (length (r ∷ rs) == 0) ≡ false
some_there r rs = grind arith

tabled : (w : Widths) (rs : List Run) (ls : List ℕ) → AreLines (w.place ∷ w.length ∷ []) rs ls → Within headings w
    → Contains (5 ∷ map (λ r. length (decimal r.place)) rs) w.place → Contains (6 ∷ map (λ r. length (decimal r.bytes)) rs) w.length
    → IsTable rs (if length rs == 0 then [] else headings_text w ++ ls)
unfolding headings_text
tabled w [] ls are wide p q = meant.IsTable.none
tabled w (r ∷ rs) ls are wide p q =
    subst (λ (b : Bool). IsTable (r ∷ rs) (if b then [] else headings_text w ++ ls)) (sym (some_there r rs))
    (subst (λ (l : List ℕ). IsTable (r ∷ rs) (l ++ ls)) (sym (behind w (codes "place") (codes "length") (codes "  why\n")))
    (meant.IsTable.some (row w (codes "place") (codes "length") wide.place wide.length) are p q))

-- how many there are
count_is : (ps : List (Piece AdsSymbolInfo)) → count_by (λ p. is_err p.answer) ps ≡ length (runs_of ps)
unfolding runs_of
count_is [] = refl
count_is (p ∷ ps) = sum_by-cons (λ p. cond (is_err p.answer) 1 0) p ps ∙ by p.answer (count_is ps)
  where
    by : (a : Result AdsSymbolInfo Refusal) → count_by (λ p. is_err p.answer) ps ≡ length (runs_of ps) → cond (is_err a) 1 0 + count_by (λ p. is_err p.answer) ps ≡ length (with_run p.start p.end a (runs_of ps))
    by (Ok r) on = omega (arith, on)
    by (Err why) on = omega (arith, on)

-- what is kept and what is dropped are the whole
module _ (s : List ℕ) where
  part_long : (start end : ℕ) → start ≤ end → end ≤ length s → length (part s start (end - start)) ≡ end - start
  unfolding part
  part_long start end f w = omega (arith, length-take (end - start) (drop start s), length-drop start s)

  cover : (ps : List (Piece AdsSymbolInfo)) → All (Forward s) ps → length (kept s ps) + sum_by (λ r. r.bytes) (runs_of ps) ≡ length (joined s ps)
  unfolding runs_of kept joined
  cover [] h = refl
  cover (p ∷ ps) h = let f = All-head (Forward s) p ps h in by p.answer (cover ps (All-tail (Forward s) p ps h)) (part_long p.start p.end f.0 f.1)
    where
      by : (a : Result AdsSymbolInfo Refusal) → length (kept s ps) + sum_by (λ r. r.bytes) (runs_of ps) ≡ length (joined s ps) → length (part s p.start (p.end - p.start)) ≡ p.end - p.start
          → length (bytes_of s p.start p.end a ++ kept s ps) + sum_by (λ r. r.bytes) (with_run p.start p.end a (runs_of ps)) ≡ length (part s p.start (p.end - p.start) ++ joined s ps)
      by (Ok r) on long = omega (arith, on, length-append (part s p.start (p.end - p.start)) (kept s ps), length-append (part s p.start (p.end - p.start)) (joined s ps))
      by (Err why) on long = omega (arith, on, long, length-append (part s p.start (p.end - p.start)) (joined s ps), sum_by-cons (λ r. r.bytes) (record { place = p.start; bytes = p.end - p.start; why = why }) (runs_of ps))

reported : (u : Upload) (to : List ℕ) → length u.bytes.now ≤ limit → IsReport u to (report_text u (tally_of (pieces (symbol_of u.mode) u.bytes)) (kept u.bytes.now (pieces (symbol_of u.mode) u.bytes)) to)
unfolding report_text table_text
reported u to small =
    let s = u.bytes.now in
    let ps : List (Piece AdsSymbolInfo) = pieces (symbol_of u.mode) u.bytes in
    let rs : List Run = runs_of ps in
    let f = all_forward (symbol_of u.mode) u.bytes (length s) 0 in
    let few : length ps ≤ length s = few_pieces (symbol_of u.mode) u.bytes (length s) 0 in
    let whole : length (kept s ps) + sum_by (λ r. r.bytes) rs ≡ length s = cover s ps f ∙ ap length (covers (symbol_of u.mode) u.bytes) in
    let accepted : (tally_of ps).accepted ≡ count_by (λ p. is_ok p.answer) ps = tallies_meant.accepted ps ∙ omega (arith, count_by-le-length (λ p. is_ok p.answer) ps, few, small) in
    let refused : (tally_of ps).refused ≡ length rs = tallies_meant.refused ps ∙ omega (arith, count_by-le-length (λ p. is_err p.answer) ps, few, small, count_is ps) in
    let bytes : length s - length (kept s ps) ≡ sum_by (λ r. r.bytes) rs = omega (arith, whole) in
    let w : Widths = onto headings rs in
    let table : List ℕ = if (tally_of ps).refused == 0 then [] else headings_text (widths_of ps) ++ flat_map (run_text (widths_of ps)) ps in
    let at_most : IsTable rs (if length rs == 0 then [] else headings_text w ++ flat_map (run_text w) ps) = tabled w rs (flat_map (run_text w) ps) (lines w ps (fits headings rs)) (grown headings rs) (places_needed headings rs) (lengths_needed headings rs) in
    let last : kept_text (tally_of ps).accepted (length (kept s ps)) to (dropped_of u (tally_of ps) (kept s ps)) ≡ kept_text (count_by (λ p. is_ok p.answer) ps) (length (kept s ps)) to (record { runs = length rs; bytes = sum_by (λ r. r.bytes) rs })
    = ap (λ (n : ℕ). kept_text n (length (kept s ps)) to (dropped_of u (tally_of ps) (kept s ps))) accepted
    ∙ ap (λ (n : ℕ). kept_text (count_by (λ p. is_ok p.answer) ps) (length (kept s ps)) to (record { runs = n; bytes = length s - length (kept s ps) })) refused
    ∙ ap (λ (n : ℕ). kept_text (count_by (λ p. is_ok p.answer) ps) (length (kept s ps)) to (record { runs = length rs; bytes = n })) bytes in
    record {
      runs = rs;
      drops = drops s ps f;
      listed = listed ps;
      table = table;
      tabled = subst (λ (n : ℕ). IsTable rs (if n == 0 then [] else headings_text (widths_of ps) ++ flat_map (run_text (widths_of ps)) ps)) (sym refused)
          (subst (λ (v : Widths). IsTable rs (if length rs == 0 then [] else headings_text v ++ flat_map (run_text v) ps)) (sym (widths_are headings ps)) at_most);
      kept_bytes = length (kept s ps);
      whole = whole;
      is = append_assoc (upload_text u) (codes "\n") (table ++ kept_text (tally_of ps).accepted (length (kept s ps)) to (dropped_of u (tally_of ps) (kept s ps))) ∙ ap (λ (l : List ℕ). upload_text u ++ (codes "\n" ++ (table ++ l))) last;
    }

pub salvage_reported : SalvageReported
unfolding digits kept_text dropped_text many bytes grouped grouped_by
salvage_reported = record { reported = reported; many = refl; one = refl }
