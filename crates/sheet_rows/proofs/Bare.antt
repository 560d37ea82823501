-- Cells without quotes around them, by how long their row is.
use Rattle.std.proofs.Common.{ℕ, ◌+◌, ◌<◌, ◌≤◌, ◌≡◌, ◌⊎◌, inl, inr, ⊎_elim, refl, ◌∙◌, List, [], ◌∷◌, length, length-append, arith}
use Rattle.std.specs.List.{All}
use Rattle.std.proofs.lemmas.List.Elements.{All-head, All-rest}
use borrow.Author.Tests.{ne_eqb}
use Rattle.sheet.specs.CellsMeant.{IsPlain}
use Rattle.sheet_rows.specs.Extent.{quotes}
use Rattle.sheet_rows.specs.Meant.{IsCell, plain, quoted, IsEnd, crlf, lf, last, IsRow, ended, comma}
use Rattle.sheet_rows.proofs.Quotes.{quotes_none, quotes_other}
use Rattle.sheet_rows.proofs.RowsRead.{total, cell_longer}

plain_quotes : (t : List ℕ) → All IsPlain t → quotes t ≡ 0
plain_quotes [] h = quotes_none
plain_quotes (b ∷ t) h = let p = All-head IsPlain b t h in quotes_other b t (ne_eqb b 34 p.quote) ∙ plain_quotes t (All-rest IsPlain _ _ _ refl h)

cell_bare : {text cell : List ℕ} → IsCell text cell → (quotes text ≡ 0) ⊎ (length text + 2 ≤ length cell)
cell_bare {text} (plain p) = inl (plain_quotes text p)
cell_bare {text} (quoted p) = inr (omega (arith, length-append text (34 ∷ [])))

end_some : {end rest : List ℕ} → IsEnd end rest → 0 < length rest → length rest + 1 ≤ length end
end_some crlf h = omega arith
end_some lf h = omega arith
end_some last h = absurd (omega (arith, h))

abbrev pub quotes_all : List (List ℕ) → ℕ
quotes_all [] = 0
quotes_all (t ∷ ts) = quotes t + quotes_all ts

row_some : {texts : List (List ℕ)} {l rest : List ℕ} → IsRow texts l rest → 0 < length rest → total texts + length texts + length rest ≤ length l
row_some (ended {text} {cell} {end} {rest} c e) h = omega (arith, length-append cell end, end_some e h, cell_longer c)
row_some (comma {text} {cell} {more} c r) h = omega (arith, length-append cell (44 ∷ more), cell_longer c, row_some r h)

-- no quotes, or two bytes more
pub bare_or_long : {texts : List (List ℕ)} {l rest : List ℕ} → IsRow texts l rest → 0 < length rest → (quotes_all texts ≡ 0) ⊎ (total texts + length texts + 2 + length rest ≤ length l)
bare_or_long (ended {text} {cell} {end} {rest} c e) h = ⊎_elim
    (λ q. inl (omega (arith, q)))
    (λ q. inr (omega (arith, q, length-append cell end, end_some e h))) (cell_bare c)
bare_or_long (comma {text} {cell} {more} {rest} {texts} c r) h = ⊎_elim
    (λ q. ⊎_elim
    (λ n. inl (omega (arith, q, n)))
    (λ n. inr (omega (arith, n, length-append cell (44 ∷ more), cell_longer c))) (bare_or_long r h))
    (λ q. inr (omega (arith, q, length-append cell (44 ∷ more), row_some r h))) (cell_bare c)
