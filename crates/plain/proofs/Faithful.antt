-- Plain entries that tell the same are the same bytes: proved.
use Rattle.std.proofs.Common.{ℕ, ◌<◌, ◌≡◌, sym, ap, ◌∙◌, subst, List, [], Ok, Result, Bor}
use Rattle.std.specs.List.{All}
use Rattle.std.proofs.lemmas.List.Elements.{All-drop, All-take}
use Rattle.refusal.specs.declared.Mode.TheVariants.{Present}
use Rattle.refusal.specs.declared.Refusal.{Refusal}
use Rattle.walk.specs.Mapped.{map_ok}
use Rattle.symbol.specs.declared.AdsSymbolInfo.{AdsSymbolInfo}
use Rattle.symbol.specs.Symbol.{symbol_of}
use Rattle.symbol.specs.Told.{Told, told_of}
use Rattle.symbol.specs.Again.{new_of}
use Rattle.symbol.proofs.Accepted.{accepted_is}
use Rattle.symbol.proofs.Again.{symbols_cut}
use Rattle.symbol.proofs.Anywhere.{symbols_anywhere}
use Rattle.symbols_regrown.specs.Kind.{IsFit}
use Rattle.symbols_regrown.proofs.Faithful.{faithful}
use Rattle.plain.specs.Form.{HoldsBytes, IsWrittenSo}
use Rattle.plain.specs.Meaning.{PlainFaithful}
use Rattle.plain.proofs.Formed.{typed}
use Rattle.plain.proofs.Read.{told}

module _ (e : Bor (List ℕ)) (r : AdsSymbolInfo) (h : HoldsBytes e) (read : symbol_of Present e ≡ Ok r) (w : IsWrittenSo e r) where
  fit : IsFit (new_of r)
  fit = record { typed = typed e r h read; accepted = w ∙ ap Ok (accepted_is (new_of r) e.now w).1 }

  chain_bytes : All (λ (b : ℕ). b < 256) (new_of r).refactor_infos.bytes.now
  chain_bytes =
      subst (λ (q : Bor (List ℕ)). All (λ (b : ℕ). b < 256) q.now) (sym (symbols_cut Present e r read).refactor_infos)
      (All-take (λ (b : ℕ). b < 256) _ _ (All-drop (λ (b : ℕ). b < 256) _ e.now h))

told_alike : (r q : AdsSymbolInfo) → ◌≡◌ {A = Result Told Refusal} (Ok (told_of r)) (Ok (told_of q)) → told_of r ≡ told_of q
told_alike r q z = cc

pub plain_faithful : PlainFaithful
plain_faithful e f r q h k x y v w =
    let same = λ (t : told_of r ≡ told_of q).
    (accepted_is (new_of r) e.now v).1
    ∙ faithful (new_of r) (new_of q) [] [] (fit e r h x v) (fit f q k y w) (chain_bytes e r h x v) (chain_bytes f q k y w) (sym (told e r h x v) ∙ t ∙ told f q k y w)
    ∙ sym (accepted_is (new_of q) f.now w).1 in
    let alike = λ (t : e.now ≡ f.now). told_alike r q (sym (ap (map_ok told_of) x) ∙ symbols_anywhere Present e f t ∙ ap (map_ok told_of) y) in
    (same, alike)
