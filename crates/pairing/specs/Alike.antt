-- docs/FORMAT.md, "The command's text", of `compare`: where the status is 0.
use Rattle.std.specs.Prelude.{◌≡◌, true}
use Rattle.report.specs.declared.Upload.{Upload}
use Rattle.pairing.specs.Rows.{are_alike}

-- two uploads that are read in one mode are alike exactly where they have the same bytes
pub record AlikeMeant : Type 0 where
  pub same_bytes : (u v : Upload) → u.mode ≡ v.mode → are_alike u v ≡ true → u.bytes.now ≡ v.bytes.now
  pub alike : (u v : Upload) → u.mode ≡ v.mode → u.bytes.now ≡ v.bytes.now → are_alike u v ≡ true
