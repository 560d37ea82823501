-- Plain uploads and lists of fit symbols match one to one: proved.
use Rattle.std.proofs.Common.{ℕ, ◌+◌, ◌-◌, ◌<◌, ◌≤◌, ◌≡◌, refl, sym, ap, ap₂, ◌∙◌, subst, Bool, true, false, List, [], ◌∷◌, ◌++◌, length, take, drop, arith, Bor, Ok, Result, append_assoc, length-append}
use Rattle.std.specs.Prelude.{Some, leb, map, slice_get}
use Rattle.std.specs.List.{All, flat_map}
use Rattle.std.proofs.lemmas.List.Elements.{All-nil, All-cons, All-head, All-rest}
use borrow.Author.Tests.{ne_eqb, leb-true, leb-false}
use Rattle.le.specs.Le.{le4}
use Rattle.le.specs.Le as le
use Rattle.le.proofs.Inside.{part_whole}
use Rattle.part.specs.Slice.{part}
use Rattle.refusal.specs.Refusal.{limit}
use Rattle.refusal.specs.declared.Mode.TheVariants.{Present}
use Rattle.refusal.specs.declared.Refusal.{Refusal}
use Rattle.entry.specs.Entry.{claim_at, claimed}
use Rattle.entry.specs.Walk.{stands}
use Rattle.walk.specs.declared.Piece.{Piece}
use Rattle.walk.specs.Pieces.{piece_at, pieces_from, pieces}
use Rattle.walk.proofs.Left.{one_left, none_left}
use Rattle.regrown.proofs.Whole.{Whole, claim_whole}
use Rattle.salvage.specs.Cover.{joined}
use Rattle.salvage.proofs.Cover.{covers}
use Rattle.symbol.specs.declared.AdsSymbolInfo.{AdsSymbolInfo}
use Rattle.symbol.specs.declared.writer.NewSymbol.{NewSymbol}
use Rattle.symbol.specs.Symbol.{symbol_of}
use Rattle.symbol.specs.Kind.{room}
use Rattle.symbol.specs.Writing.{symbol_bytes, symbol_written}
use Rattle.symbol.specs.Again.{Given, given_of, new_of}
use Rattle.symbol.proofs.Accepted.{accepted_is}
use Rattle.symbols_regrown.specs.Kind.{IsFit}
use Rattle.plain.specs.Form.{HoldsBytes}
use Rattle.plain.specs.Meaning.{own, IsPlain, NotSo, refused, unwritten, departs, Told, plain, first}
use Rattle.plain.proofs.Formed.{typed}
use Rattle.plain.proofs.Meaning.{plain_meant}
use Rattle.plain.proofs.Own.{IsKnown, all_known}
use Rattle.plain.proofs.Placed.{written_claim, among}
use Rattle.symbols_plain.specs.Written.{IsPlainOf}
use Rattle.symbols_plain.specs.OneToOne.{upload_of, again, symbols_of, AreFit, IsPlainUpload, PlainOneToOne}
use Rattle.symbols_plain.proofs.Written.{part_bytes, written_plain}

module _ (s : Bor (List ℕ)) where
  abbrev left : ℕ → List (Piece AdsSymbolInfo)
  left at = pieces_from (symbol_of Present) s at (length s.now - at)

  -- ---- symbols, their upload, and the symbols of that

  record Goes (at : ℕ) (ns : List NewSymbol) : Type 0 where
    all : All (IsPlain s) (left at)
    given : map given_of (flat_map again (left at)) ≡ map given_of ns

  module _ (h : HoldsBytes s) (small : length s.now ≤ limit) where
    module _ (p : List ℕ) (n : NewSymbol) (q : List ℕ) (is : s.now ≡ p ++ (symbol_bytes n ++ q)) (f : IsFit n) where
      abbrev bytes : List ℕ
      bytes = symbol_bytes n

      abbrev at : ℕ
      at = length p

      abbrev here : Bor (List ℕ)
      here = part s at (length bytes)

      here_is : here.now ≡ bytes
      unfolding le.part
      here_is = ap (λ (t : List ℕ). take (length bytes) (drop at t)) is ∙ part_whole p bytes q

      it : IsPlainOf n here
      it = written_plain n here f.typed (part_bytes s.now at (length bytes) h) (f.accepted ∙ ap Ok (sym here_is))

      long : 30 ≤ length bytes
      long = let l = ap length here_is in omega (arith, l, room Present here it.read it.is)

      whole : Whole bytes
      whole = record { claims = written_claim n bytes f.accepted; long = omega (arith, long) }

      claim : claim_at s.now at ≡ claimed (Some (Ok (length bytes))) (at + length bytes)
      claim = ap (λ (t : List ℕ). claim_at t at) is ∙ claim_whole p bytes q whole (subst (λ (t : List ℕ). length t ≤ limit) is small)

      next : (claim_at s.now at).next ≡ at + length bytes
      next = ap (λ c. c.next) claim

      moves : stands s.now at ≡ false
      moves = ne_eqb (claim_at s.now at).next at (λ (z : (claim_at s.now at).next ≡ at). omega (arith, next, z, long))

      before : at < length s.now
      before = let l = ap length is ∙ length-append p (bytes ++ q) in let k = length-append bytes q in omega (arith, l, k, long)

      abbrev piece : Piece AdsSymbolInfo
      piece = record { start = at; end = at + length bytes; answer = Ok it.read }

      piece_is : piece_at (symbol_of Present) s at ≡ piece
      unfolding piece_at
      piece_is = let size : (claim_at s.now at).size ≡ Some (Ok (length bytes)) = ap (λ c. c.size) claim in simp moves (simp (size, next, it.is))

      left_is : left at ≡ piece ∷ left (at + length bytes)
      left_is = one_left (symbol_of Present) s at before ∙ ap (λ (x : Piece AdsSymbolInfo). x ∷ pieces_from (symbol_of Present) s x.end (length s.now - x.end)) piece_is

      is_plain : IsPlain s piece
      is_plain =
          let size : length bytes ≡ at + length bytes - at = omega arith in
          record { read = it.read; is = refl; written = subst (λ (k : ℕ). symbol_written (new_of it.read) ≡ Ok (part s at k).now) size it.written }

      turn : (ns : List NewSymbol) → Goes (at + length bytes) ns → Goes at (n ∷ ns)
      turn ns g = record {
        all = subst (λ (ps : List (Piece AdsSymbolInfo)). All (IsPlain s) ps) (sym left_is) (All-cons (IsPlain s) _ _ is_plain g.all);
        given = ap (λ (ps : List (Piece AdsSymbolInfo)). map given_of (flat_map again ps)) left_is ∙ ap₂ (λ (x : Given) (l : List Given). x ∷ l) it.given g.given;
      }

    goes : (p : List ℕ) (ns : List NewSymbol) → s.now ≡ p ++ upload_of ns → All IsFit ns → Goes (length p) ns
    goes p [] is f =
        let none = none_left (symbol_of Present) s (length p) (length s.now - length p) (let l = ap length is ∙ length-append p [] in omega (arith, l)) in
        record { all = rw none (All-nil (IsPlain s)); given = rw none refl }
    goes p (n ∷ ns) is f =
        let more = goes (p ++ symbol_bytes n) ns (is ∙ sym (append_assoc p (symbol_bytes n) (upload_of ns))) (All-rest IsFit _ _ _ refl f) in
        turn p n (upload_of ns) is (All-head IsFit _ _ f) ns (subst (λ (k : ℕ). Goes k ns) (length-append p (symbol_bytes n)) more)

  -- a plain piece is not refused
  not_refused : (p : Piece AdsSymbolInfo) {why : Refusal} → IsPlain s p → NotSo s p why → ⊥
  not_refused p i (refused h) = let z = sym i.is ∙ h in cc
  not_refused p i (unwritten r why h w) =
      let same : i.read ≡ r = let z = sym i.is ∙ h in cc in
      let z = sym i.written ∙ ap (λ (x : AdsSymbolInfo). symbol_written (new_of x)) same ∙ w in
      cc
  not_refused p i (departs r bytes at h w d) =
      let same : i.read ≡ r = let z = sym i.is ∙ h in cc in
      let z : Ok (own s p).now ≡ Ok bytes = sym i.written ∙ ap (λ (x : AdsSymbolInfo). symbol_written (new_of x)) same ∙ w in
      let bytes_are : (own s p).now ≡ bytes = cc in
      d.there (ap (λ (t : List ℕ). slice_get t at) bytes_are)

  passes_by : {t : Result Unit Refusal} → Told s t → All (IsPlain s) (pieces (symbol_of Present) s) → t ≡ Ok tt
  passes_by (plain end all) i = refl
  passes_by (first before behind p e all not) i = absurd (not_refused p (among (IsPlain s) before behind p (subst (λ (ps : List (Piece AdsSymbolInfo)). All (IsPlain s) ps) e i)) not)

  there : (ns : List NewSymbol) → AreFit ns → s.now ≡ upload_of ns → IsPlainUpload s × (map given_of (symbols_of s) ≡ map given_of ns)
  there ns f is =
      let h : HoldsBytes s = subst (λ (t : List ℕ). All (λ (b : ℕ). b < 256) t) (sym is) f.bytes in
      let g = goes h (subst (λ (t : List ℕ). length t ≤ limit) (sym is) f.within) [] ns is f.fit in
      let n : length s.now - 0 ≡ length s.now = omega arith in
      let all = subst (λ (k : ℕ). All (IsPlain s) (pieces_from (symbol_of Present) s 0 k)) n g.all in (
        record { bytes = h; plain = passes_by (plain_meant s) all },
        subst (λ (k : ℕ). map given_of (flat_map again (pieces_from (symbol_of Present) s 0 k)) ≡ map given_of ns) n g.given,
      )

  -- ---- an upload, its symbols, and the upload of these

  all_by : {t : Result Unit Refusal} → Told s t → t ≡ Ok tt → All (IsPlain s) (pieces (symbol_of Present) s)
  all_by (plain end all) z = all
  all_by (first before behind p e all not) z = cc

  record Lists (ps : List (Piece AdsSymbolInfo)) : Type 0 where
    fit : All IsFit (flat_map again ps)
    bytes : joined s.now ps ≡ upload_of (flat_map again ps)

  module _ (h : HoldsBytes s) where
    module _ (p : Piece AdsSymbolInfo) (i : IsPlain s p) (k : IsKnown s p) where
      abbrev n : NewSymbol
      n = new_of i.read

      fits : IsFit n
      fits = record { typed = typed (own s p) i.read (part_bytes s.now p.start (p.end - p.start) h) (k.own i.read i.is).read; accepted = i.written ∙ ap Ok (accepted_is n (own s p).now i.written).1 }

      again_is : again p ≡ n ∷ []
      again_is = rw i.is refl

      list_turn : (ps : List (Piece AdsSymbolInfo)) → Lists ps → Lists (p ∷ ps)
      unfolding joined le.part
      list_turn ps l = record {
        fit = subst (λ (x : List NewSymbol). All IsFit (x ++ flat_map again ps)) (sym again_is) (All-cons IsFit _ _ fits l.fit);
        bytes = ap₂ (λ (x y : List ℕ). x ++ y) (accepted_is n (own s p).now i.written).1 l.bytes ∙ sym (ap (λ (x : List NewSymbol). upload_of (x ++ flat_map again ps)) again_is);
      }

    lists : (ps : List (Piece AdsSymbolInfo)) → All (IsPlain s) ps → All (IsKnown s) ps → Lists ps
    unfolding joined
    lists [] i k = record { fit = All-nil IsFit; bytes = refl }
    lists (p ∷ ps) i k = list_turn p (All-head (IsPlain s) _ _ i) (All-head (IsKnown s) _ _ k) ps (lists ps (All-rest (IsPlain s) _ _ _ refl i) (All-rest (IsKnown s) _ _ _ refl k))

  within_by : All (IsPlain s) (left 0) → All (IsKnown s) (left 0) → (t : Bool) → leb (length s.now) 0 ≡ t → length s.now ≤ limit
  within_by i k true e = let z = leb-true (length s.now) 0 e in omega arith
  within_by i k false e =
      let one = one_left (symbol_of Present) s 0 (leb-false (length s.now) 0 e) in
      let a = All-head (IsPlain s) _ _ (subst (λ (ps : List (Piece AdsSymbolInfo)). All (IsPlain s) ps) one i) in
      let b = All-head (IsKnown s) _ _ (subst (λ (ps : List (Piece AdsSymbolInfo)). All (IsKnown s) ps) one k) in
      (b.own a.read a.is).small

  back : IsPlainUpload s → AreFit (symbols_of s) × (upload_of (symbols_of s) ≡ s.now)
  back u =
      let i = all_by (plain_meant s) u.plain in
      let k = all_known s (length s.now) 0 in
      let l = lists u.bytes (pieces (symbol_of Present) s) i k in
      let is : upload_of (symbols_of s) ≡ s.now = sym l.bytes ∙ covers (symbol_of Present) s in
      let n : length s.now ≡ length s.now - 0 = omega arith in
      let small = within_by (subst (λ (m : ℕ). All (IsPlain s) (pieces_from (symbol_of Present) s 0 m)) n i) (subst (λ (m : ℕ). All (IsKnown s) (pieces_from (symbol_of Present) s 0 m)) n k) (leb (length s.now) 0) refl in (
        record {
          fit = l.fit;
          bytes = subst (λ (t : List ℕ). All (λ (b : ℕ). b < 256) t) (sym is) u.bytes;
          within = subst (λ (t : List ℕ). length t ≤ limit) (sym is) small;
        },
        is,
      )

pub one_to_one : PlainOneToOne
one_to_one = record { there = λ ns s f is. there s ns f is; back = λ s u. back s u }
