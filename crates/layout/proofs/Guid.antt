-- What is behind a GUID is the end of what was there.
use Rattle.std.proofs.Common.{ℕ, ◌≡◌, refl, Bool, true, false, List, length, Bor}
use Rattle.std.specs.Prelude.{leb}
use borrow.Author.Tests.{leb-true}
use Rattle.part.specs.End.{IsEnd}
use Rattle.part.proofs.Slice.{end_after}
use Rattle.layout.specs.Layout.{guid_of}

pub end_guid : {e s : Bor (List ℕ)} (flagged : Bool) → IsEnd e s → IsEnd e (guid_of s flagged).1
unfolding guid_of
end_guid false i = i
end_guid {e} {s} true i = turn (leb 16 (length s.now)) refl
  where
    turn : (b : Bool) → leb 16 (length s.now) ≡ b → IsEnd e (guid_of s true).1
    turn true h = simp h (end_after 16 (leb-true 16 (length s.now) h) i)
    turn false h = simp h i
