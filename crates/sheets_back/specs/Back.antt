-- docs/FORMAT.md, "Sheet": an upload that was exported comes back.
use Rattle.std.specs.Prelude.{ℕ, ◌<◌, ◌≡◌, List, Ok}
use Rattle.std.specs.List.{All}
use Rattle.std.specs.Borrow.{Bor}
use Rattle.sheet.specs.Export.{exporting}
use Rattle.sheet_import.specs.Import.{importing}

-- of any bytes that have a sheet
abbrev pub SheetsComeBack : Type 0
SheetsComeBack = (upload sheet : Bor (List ℕ)) → All (λ b. b < 256) upload.now → exporting upload ≡ Ok sheet.now → importing sheet ≡ Ok upload.now
