-- How wide the cells of an address are: as wide as their parts.
use Rattle.std.proofs.Common.{◌≡◌, ℕ, ◌+◌, length, decimal, sym, ap₂, ◌∙◌, length-append}
use Rattle.report.specs.Cells.{hexadecimal}
use Rattle.bind.specs.declared.Address.{Address}
use Rattle.bind_report.specs.Table.{bit_text, unit_text, offset_text, size_text}

pub offset_wide : (a : Address) (n m : ℕ) → n ≡ length (hexadecimal a.offset.0) → m ≡ length (bit_text a) → n + m ≡ length (offset_text a)
unfolding offset_text
offset_wide a n m p q = ap₂ (λ (x y : ℕ). x + y) p q ∙ sym (length-append (hexadecimal a.offset.0) (bit_text a))

pub size_wide : (a : Address) (n m : ℕ) → n ≡ length (decimal a.size) → m ≡ length (unit_text a) → n + m ≡ length (size_text a)
unfolding size_text
size_wide a n m p q = ap₂ (λ (x y : ℕ). x + y) p q ∙ sym (length-append (decimal a.size) (unit_text a))
