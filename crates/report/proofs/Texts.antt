-- The texts of `check`.
use Rattle.std.proofs.Common.{◌≡◌, ℕ, List, ◌++◌, codes, length, refl, ap, ◌∙◌}
use Rattle.std.specs.Fmt.{digits}
use Rattle.upload.specs.declared.Form.{Form}
use Rattle.refusal.specs.declared.Mode.{Mode}
use Rattle.wording.specs.Wording.{grouped, grouped_by, many, bytes}
use Rattle.report.specs.Report.{form_text, mode_text, upload_text, summary_text, counts_text, unread_text, refused_line, refused_by}
use Rattle.report.specs.Meant.{TextsMeant}

abbrev text : List ℕ → Form → ℕ → Mode → List ℕ
text path form n mode = path ++ (codes " (" ++ (form_text form ++ (codes ", " ++ (bytes n ++ (mode_text mode ++ codes ")")))))

same : (path : List ℕ) (form : Form) (n : ℕ) (mode : Mode) {a : List ℕ} {f : Form} {k : ℕ} {m : Mode} → path ≡ a → n ≡ k → form ≡ f → mode ≡ m → text path form n mode ≡ text a f k m
same path form n mode p q r s = rw (p, q, r, s) refl

pub texts_meant : TextsMeant
unfolding upload_text summary_text counts_text unread_text refused_line grouped grouped_by many bytes digits
texts_meant = record {
  checked = λ u p n f m. same u.path.now u.form (length u.bytes.now) u.mode p n f m ∙ refl;
  present = λ u p n f m. same u.path.now u.form (length u.bytes.now) u.mode p n f m ∙ refl;
  many = refl;
  one = refl;
  refused = λ p why e. ap (refused_by p.start) e;
}
