-- What the symbol writer writes is plain: proved.
use Rattle.std.proofs.Common.{ℕ, ◌<◌, ◌≤◌, ◌≡◌, refl, sym, ap, ◌∙◌, subst, List, [], ◌++◌, length, take, drop, arith, Bor, Ok, Err, Result, append-nil}
use Rattle.std.specs.List.{All}
use Rattle.std.proofs.lemmas.List.Elements.{All-drop, All-take}
use Rattle.refusal.specs.Refusal.{limit}
use Rattle.refusal.specs.declared.Mode.TheVariants.{Present}
use Rattle.refusal.specs.declared.Refusal.{Refusal}
use Rattle.walk.specs.Mapped.{map_ok}
use Rattle.writing.specs.Layout.{entry_bytes}
use Rattle.symbol.specs.declared.AdsSymbolInfo.{AdsSymbolInfo}
use Rattle.symbol.specs.declared.writer.NewSymbol.{NewSymbol}
use Rattle.symbol.specs.Symbol.{symbol_of}
use Rattle.symbol.specs.Told.{told_of, meant, IsTyped}
use Rattle.symbol.specs.Writing.{symbol_bytes, symbol_written}
use Rattle.symbol.specs.Writable.{IsWritable, AreBytes}
use Rattle.symbol.specs.Again.{new_of, given_of}
use Rattle.symbol.proofs.Accepted.{accepted_is}
use Rattle.symbol.proofs.Again.{symbols_cut}
use Rattle.symbol.proofs.GivenBack.{symbols_given_back}
use Rattle.symbol.proofs.Header.{body_of}
use Rattle.symbol.proofs.ReadBack.{symbols_read_back}
use Rattle.symbol.proofs.Writable.{symbols_written}
use Rattle.plain.specs.Form.{HoldsBytes, IsWrittenSo}
use Rattle.plain.proofs.Formed.{typed}
use Rattle.plain.proofs.Read.{written_form}
use Rattle.symbols_plain.specs.Written.{IsPlainOf, WrittenPlain}
use Rattle.symbols_plain.proofs.Alike.{attributes, refactor_infos, writable, same_bytes}

ended_by_none : (n : NewSymbol) → symbol_bytes n ≡ entry_bytes (body_of n ++ [])
unfolding symbol_bytes
ended_by_none n = ap entry_bytes (sym (append-nil (body_of n)))

behind_length : (n : NewSymbol) → entry_bytes (drop 4 (symbol_bytes n) ++ []) ≡ entry_bytes (body_of n ++ [])
unfolding symbol_bytes entry_bytes
behind_length n = refl

-- the bytes of blocks that were read are bytes
pub part_bytes : (s : List ℕ) (at n : ℕ) → All (λ (b : ℕ). b < 256) s → All (λ (b : ℕ). b < 256) (take n (drop at s))
part_bytes s at n h = All-take (λ (b : ℕ). b < 256) _ _ (All-drop (λ (b : ℕ). b < 256) _ s h)

module _ (e : Bor (List ℕ)) (r : AdsSymbolInfo) (h : HoldsBytes e) (read : symbol_of Present e ≡ Ok r) where
  pub blocks_bytes : AreBytes (new_of r)
  blocks_bytes =
      let cut = symbols_cut Present e r read in
      record {
        attributes = subst (λ (q : Bor (List ℕ)). All (λ (b : ℕ). b < 256) q.now) (sym cut.attributes) (part_bytes e.now _ _ h);
        refactor_infos = subst (λ (q : Bor (List ℕ)). All (λ (b : ℕ). b < 256) q.now) (sym cut.refactor_infos) (part_bytes e.now _ _ h);
      }

-- what is read of it
record IsRead (n : NewSymbol) (t : Result AdsSymbolInfo Refusal) : Type 0 where
  back : AdsSymbolInfo
  is : t ≡ Ok back
  tells : told_of back ≡ meant n []

read_by : (n : NewSymbol) (t : Result AdsSymbolInfo Refusal) → map_ok told_of t ≡ Ok (meant n []) → IsRead n t
read_by n (Ok r) h = record { back = r; is = refl; tells = cc }
read_by n (Err why) h = cc

module _ (n : NewSymbol) (e : Bor (List ℕ)) (t : IsTyped n) (h : HoldsBytes e) (w : symbol_written n ≡ Ok e.now) where
  is : e.now ≡ symbol_bytes n
  is = (accepted_is n e.now w).1

  accepted : symbol_written n ≡ Ok (symbol_bytes n)
  accepted = w ∙ ap Ok is

  whole : e.now ≡ entry_bytes (drop 4 (symbol_bytes n) ++ [])
  whole = is ∙ ended_by_none n ∙ sym (behind_length n)

  small : length e.now ≤ limit
  small = let l = ap length is in omega (arith, l, (accepted_is n e.now w).0.small)

  read : IsRead n (symbol_of Present e)
  read = read_by n (symbol_of Present e) (symbols_read_back Present n [] e t accepted whole small)

  abbrev r : AdsSymbolInfo
  r = read.back

  given : given_of (new_of r) ≡ given_of n
  given = symbols_given_back Present n [] e r t accepted whole small read.is

  blocks : AreBytes (new_of r)
  blocks = blocks_bytes e r h read.is

  own_blocks : AreBytes n
  own_blocks = record {
    attributes = subst (λ (s : List ℕ). All (λ (b : ℕ). b < 256) s) (attributes (new_of r) n given) blocks.attributes;
    refactor_infos = subst (λ (s : List ℕ). All (λ (b : ℕ). b < 256) s) (refactor_infos (new_of r) n given) blocks.refactor_infos;
  }

  again : IsWrittenSo e r
  again =
      let fits : IsWritable (new_of r) = writable (new_of r) n given ((symbols_written n t own_blocks).only (symbol_bytes n) accepted).0 in
      ((symbols_written (new_of r) (typed e r h read.is) blocks).written fits).0 ∙ ap Ok (same_bytes (new_of r) n given ∙ sym is)

  pub plain_of_it : IsPlainOf n e
  plain_of_it = record { read = r; is = read.is; tells = read.tells; written = again; in_form = written_form e r h read.is again; given = given }

pub written_plain : WrittenPlain
written_plain n e t h w = plain_of_it n e t h w
