-- Every chain of records that fit is read back, and which blocks are written behind their count: proved.
use Rattle.std.proofs.Common.{◌≡◌, ℕ, zero, suc, ◌+◌, ◌≤◌, Bool, true, false, List, ◌++◌, length, get_or, Ok, refl, sym, ◌∙◌, subst, arith, Bor}
use Rattle.std.specs.Prelude.{◌<◌}
use Rattle.std.specs.List.{All}
use borrow.Author.Tests.{le-ltb}
use Rattle.le.specs.Le.{le2, bytes2, has}
use Rattle.refusal.specs.Refusal.{limit}
use Rattle.writing.specs.Checks.{count_checked, entry_checked}
use Rattle.part.proofs.Outcome.{both_passed}
use Rattle.writing.proofs.Entry.{count_passed, entry_passed}
use Rattle.refactor.specs.Refactor.{follower, listed}
use Rattle.refactor.specs.Block.{exact, block_checked}
use Rattle.refactor.specs.Told.{told}
use Rattle.refactor.specs.Writing.{entries_writing}
use Rattle.refactor.specs.Fit.{Former, Fits, chain_bytes, last_count, formers, ChainsReadBack, IsEntries, EntriesWritten}
use Rattle.refactor.proofs.Again.{n_of, here, length_name, listed_here, exact_more, blocks_read}
use Rattle.std.proofs.lemmas.List.Elements.{All-cons}
use Rattle.refactor.proofs.Inside.{listed_none}
use Rattle.refactor.proofs.Fit.{long_formers, later_bytes, refactor_blocks, refactor_blocks_made}
use Rattle.refactor.proofs.Modes.{chain_by}
use Rattle.refactor.proofs.Written.{both_pass}

-- a block of records that fit passes where the last has no follower's bit, and only there
passes : (fs : List Former) (block : Bor (List ℕ)) → All Fits fs → block.now ≡ chain_bytes fs → has (last_count fs) follower ≡ false → block_checked (length fs) block ≡ Ok tt
passes fs block h e l = simp l at (refactor_blocks fs block h e).passes

pub chains_read_back : ChainsReadBack
chains_read_back mode fs s more pos h last e l =
    let block : Bor (List ℕ) = record { ref_ptr = s.ref_ptr; now = chain_bytes fs } in
    let r = blocks_read (length fs) block s more (passes fs block h refl last) e in
    record {
      chain = chain_by mode (length fs) block s pos mode s l (r.chain pos) (r.ended pos 0);
      tells = r.tells ∙ (refactor_blocks fs block h refl).tells;
    }

last_by : (fs : List Former) (block : Bor (List ℕ)) → All Fits fs → block.now ≡ chain_bytes fs → block_checked (length fs) block ≡ Ok tt → (b : Bool) → has (last_count fs) follower ≡ b → b ≡ false
last_by fs block h e p false l = refl
last_by fs block h e p true l = absurd (let z : ◌≡◌ {A = ℕ} 0 1 = cc (sym p ∙ (simp l at (refactor_blocks fs block h e).passes)) in omega arith)

-- the names that a block of bytes tells fit
short_name : (s : Bor (List ℕ)) → All (λ b. b < 256) s.now → n_of s + 7 ≤ length s.now → n_of s ≤ 65535
unfolding le2
short_name s b t =
    let x : get_or s.now 4 0 < 256 = b 4 0 (omega arith) in
    let y : get_or s.now 5 0 < 256 = b 5 0 (omega arith) in
    omega arith

all_fit : (left count : ℕ) (s : Bor (List ℕ)) → All (λ b. b < 256) s.now → exact s count left ≡ Ok tt → All Fits (formers (told (listed s left)))
all_fit zero count s b h = rw (listed_none s) (λ k d l. absurd (omega arith))
all_fit (suc left) count s b h =
    let g = exact_more s count left h in
    let f : Former = record { count = (here s).0.refactor_count; name = (here s).0.name.now } in
    rw (listed_here s left g.0.there) (All-cons Fits f (formers (told (listed (here s).1 left))) (record { name = rw (length_name s g.0.there) (short_name s b g.0.there) })
    (all_fit left count (here s).1 (later_bytes s (n_of s + 7) b) g.1))

module _ (count : ℕ) (block : Bor (List ℕ)) where
  is_written : (fs : List Former) → IsEntries fs count block → entries_writing count block ≡ Ok (bytes2 count ++ block.now)
  unfolding entry_checked
  is_written fs i =
      both_pass count block (simp (le-ltb 65535 count i.counted)) (subst (λ (n : ℕ). block_checked n block ≡ Ok tt) i.long (passes fs block i.fit i.is i.last))
      ∙ simp (le-ltb limit (length (bytes2 count ++ block.now)) (omega (arith, i.whole)))

  only_written : (bytes : List ℕ) → All (λ b. b < 256) block.now → entries_writing count block ≡ Ok bytes → IsEntries (formers (told (listed block count))) count block × (bytes ≡ bytes2 count ++ block.now)
  unfolding entries_writing
  only_written bytes b h =
      let c = both_passed (count_checked count) h in
      let d = both_passed (block_checked count block) c.1.1 in
      let e = entry_passed (bytes2 count ++ block.now) bytes d.1.1 in
      let m = refactor_blocks_made count block b d.1.0 in
      let fs : List Former = formers (told (listed block count)) in
      let fit = all_fit count count block b d.1.0 in
      let long : length fs ≡ count = long_formers (told (listed block count)) ∙ m.long in (
        record {
          fit = fit;
          last = let p = last_by fs block fit m.is (subst (λ (n : ℕ). block_checked n block ≡ Ok tt) (sym long) d.1.0) (has (last_count fs) follower) refl in p;
          is = m.is;
          long = long;
          counted = count_passed count c.1.0;
          whole = omega (arith, e.0);
        },
        e.1,
      )

pub entries_written : EntriesWritten
entries_written count block = record { written = is_written count block; only = only_written count block }
