-- docs/FORMAT.md, "The command's text" and "Salvage". What is told of an upload that was salvaged: how many entries and bytes were kept, and what was dropped.
use Rattle.std.specs.Prelude.{ℕ, ◌-◌, List, ◌++◌, length, codes}
use Rattle.wording.specs.Wording.{many, bytes}
use Rattle.report.specs.declared.Upload.{Upload}
use Rattle.report.specs.declared.Tally.{Tally}
use Rattle.report.specs.Report.{entries}
use Rattle.salvage_report.specs.declared.Dropped.{Dropped}

-- each refused entry is a run; the bytes are those of the upload that are not kept
abbrev pub dropped_of : Upload → Tally → List ℕ → Dropped
dropped_of u t kept = record { runs = t.refused; bytes = length u.bytes.now - length kept }

unfoldable pub dropped_text : Dropped → List ℕ
dropped_text d = codes "dropped: " ++ (many d.runs (codes "run") (codes "runs") ++ (codes ", " ++ bytes d.bytes))

-- the last line, of so many entries and bytes that were kept
unfoldable pub kept_text : ℕ → ℕ → List ℕ → Dropped → List ℕ
kept_text n kept to dropped =
    codes "kept: " ++ (entries n ++ (codes ", " ++ (bytes kept ++ (codes ", in " ++ (to ++ (codes "; " ++ (dropped_text dropped ++ codes "\n")))))))
