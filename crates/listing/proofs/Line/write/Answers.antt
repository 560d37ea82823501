use Rattle.std.proofs.Common.{List, ℕ, ◌≡◌, ◌≤◌, length, sym, subst, arith, rules}
use Rattle.std.specs.Prelude.{Ok, OnOk, OnErr}
use Rattle.std.specs.Io.KnownBytes.{Appends}
use Rattle.hex.specs.Hex.{decode_of}
use Rattle.listing.specs.Listing.{longest, AppendsFront}
use Rattle.listing.proofs.Texts.{long_text, good_text, bad_case}
use Rattle.listing.proofs.Line.write.Goals as goal

pub returns-then-len-gt-LONGEST-clause-all : goal.returns-then-len-gt-LONGEST-clause-all
returns-then-len-gt-LONGEST-clause-all g c =
    subst (λ (x : List ℕ). OnOk c.write_bad_line.result (Appends (g.W.Write.contents c.args.output.now) (g.W.Write.contents c.write_bad_line.new.output) x))
    (sym (long_text c.args.mode c.args.self.now.number c.args.self.now.digits.items (omega (arith, c.len.ensures, c.if-len-gt-LONGEST.true))))
    c.write_bad_line.ensures.all

pub returns-in-Ok-clause-all : goal.returns-in-Ok-clause-all
returns-in-Ok-clause-all g c =
    let few : length c.args.self.now.digits.items ≤ longest = omega (arith, c.len.ensures, c.if-len-gt-LONGEST.false) in
    let is : decode_of c.args.self.now.digits.items ≡ Ok c.deref.result.now = search rules in
    subst (λ (x : List ℕ). OnOk c.write_frame.result (Appends (g.W.Write.contents c.args.output.now) (g.W.Write.contents c.write_frame.new.output) x))
    (sym (good_text c.args.mode c.args.self.now.number c.args.self.now.digits.items c.deref.result few is))
    c.write_frame.ensures.all

pub returns-in-Err-clause-all : goal.returns-in-Err-clause-all
returns-in-Err-clause-all g c =
    let few : length c.args.self.now.digits.items ≤ longest = omega (arith, c.len.ensures, c.if-len-gt-LONGEST.false) in
    subst (λ (x : List ℕ). OnOk c.write_bad_line-in-Err.result (Appends (g.W.Write.contents c.args.output.now) (g.W.Write.contents c.write_bad_line-in-Err.new.output) x))
    (sym (bad_case c.args.mode c.args.self.now.number c.args.self.now.digits.items c.in-Err.field-0 few (search rules) (search rules)))
    c.write_bad_line-in-Err.ensures.all

pub returns-then-len-gt-LONGEST-clause-front : goal.returns-then-len-gt-LONGEST-clause-front
returns-then-len-gt-LONGEST-clause-front g c =
    subst (λ (x : List ℕ). OnErr c.write_bad_line.result (AppendsFront (g.W.Write.contents c.args.output.now) (g.W.Write.contents c.write_bad_line.new.output) x))
    (sym (long_text c.args.mode c.args.self.now.number c.args.self.now.digits.items (omega (arith, c.len.ensures, c.if-len-gt-LONGEST.true))))
    c.write_bad_line.ensures.front

pub returns-in-Ok-clause-front : goal.returns-in-Ok-clause-front
returns-in-Ok-clause-front g c =
    let few : length c.args.self.now.digits.items ≤ longest = omega (arith, c.len.ensures, c.if-len-gt-LONGEST.false) in
    let is : decode_of c.args.self.now.digits.items ≡ Ok c.deref.result.now = search rules in
    subst (λ (x : List ℕ). OnErr c.write_frame.result (AppendsFront (g.W.Write.contents c.args.output.now) (g.W.Write.contents c.write_frame.new.output) x))
    (sym (good_text c.args.mode c.args.self.now.number c.args.self.now.digits.items c.deref.result few is))
    c.write_frame.ensures.front

pub returns-in-Err-clause-front : goal.returns-in-Err-clause-front
returns-in-Err-clause-front g c =
    let few : length c.args.self.now.digits.items ≤ longest = omega (arith, c.len.ensures, c.if-len-gt-LONGEST.false) in
    subst (λ (x : List ℕ). OnErr c.write_bad_line-in-Err.result (AppendsFront (g.W.Write.contents c.args.output.now) (g.W.Write.contents c.write_bad_line-in-Err.new.output) x))
    (sym (bad_case c.args.mode c.args.self.now.number c.args.self.now.digits.items c.in-Err.field-0 few (search rules) (search rules)))
    c.write_bad_line-in-Err.ensures.front
