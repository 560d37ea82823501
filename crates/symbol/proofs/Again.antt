-- The blocks of a symbol to write are the bytes that are shown: proved.
use Rattle.std.proofs.Common.{ℕ, ◌+◌, ◌≡◌, refl, sym, ap, ◌∙◌, List, take, drop, Bor, arith}
use Rattle.std.proofs.lemmas.List.{length-map}
use native.Mathlib.Nat.{add-zero}
use Rattle.part.specs.Slice.{part, after}
use Rattle.part.specs.End.{IsEnd, rest_at}
use Rattle.symbol.specs.Again.{new_of, SymbolsCut, SymbolsAgain}
use Rattle.symbol.proofs.Laws.{symbols_whole}
use Rattle.symbol.proofs.Lies.{symbols_inside}

-- the first bytes of an end of some bytes are a part of them
abbrev lent : Bor (List ℕ) → ℕ → ℕ → ℕ → Bor (List ℕ)
lent e at n k = record { ref_ptr = (e.ref_ptr.0, k); now = take n (drop at e.now) }

part_of_after : (e : Bor (List ℕ)) (at n : ℕ) → part (after e at) 0 n ≡ part e at n
part_of_after e at n = ap (λ (k : ℕ). lent e at n k) (add-zero (e.ref_ptr.1 + at))

first_of_end : (e s : Bor (List ℕ)) (n k : ℕ) → IsEnd e s → n ≡ k → part s 0 n ≡ part e (rest_at e s) k
first_of_end e s n k t h =
    let a : part s 0 n ≡ part (after e (rest_at e s)) 0 n = ap (λ (x : Bor (List ℕ)). part x 0 n) t.is in
    a ∙ part_of_after e (rest_at e s) n ∙ ap (part e (rest_at e s)) h

pub symbols_cut : SymbolsCut
unfolding new_of
symbols_cut mode e r h =
    let i = symbols_inside mode e r h in
    record {
      attributes = first_of_end e r.attributes.bytes _ _ i.attribute_bytes (omega (arith, i.chain_at, i.attribute_bytes.within, i.refactor_bytes.within));
      refactor_infos = first_of_end e r.refactor_infos.bytes _ _ i.refactor_bytes (omega (arith, i.refactor_bytes.within, i.unread.within));
    }

pub symbols_again : SymbolsAgain
unfolding new_of
symbols_again mode e r h =
    let w = symbols_whole mode e r h in
    record {
      index_group = refl;
      index_offset = refl;
      size = refl;
      data_type_id = refl;
      flags = refl;
      high = refl;
      name = refl;
      type_name = refl;
      comment = refl;
      guid = refl;
      attributes = sym (length-map _ _ ∙ w.counted);
      word_there = λ word q. rw q refl;
      word_absent = λ q. rw q refl;
      refactor_infos = sym (length-map _ _ ∙ w.refactors_counted);
    }
