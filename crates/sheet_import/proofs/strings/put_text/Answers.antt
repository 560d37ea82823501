use Rattle.std.proofs.Common.{◌-◌, subst, length, take, drop, ℕ}
use Rattle.sheet_import.proofs.Written.{encode_passes, encode_writes, text_put, lent_long}
use Rattle.sheet_import.specs.Strings.{bytes_of}
use Rattle.refusal.specs.declared.Refusal.{Refusal}
use Rattle.std.specs.Prelude.{Result}
use Rattle.writing.specs.Writing.{Writes}
use Rattle.text.specs.Text.{encoding}
use Rattle.sheet_import.proofs.strings.put_text.Goals as goal

pub unreachable-requires : goal.unreachable-requires
unreachable-requires c =
    encode_passes c.requires.text c.requires.short (lent_long c.args.out.now c.args.at (length (bytes_of c.args.text.now)) c.requires.room)
    (subst (λ (r : Result ℕ Refusal). Writes (encoding c.args.text.now) (take (length c.args.out.now - c.args.at) (drop c.args.at c.args.out.now)) c.encode.new.out r) c.in-Err.is c.encode.ensures)

pub returns : goal.returns
returns c =
    let p = encode_writes c.requires.text c.requires.short (lent_long c.args.out.now c.args.at (length (bytes_of c.args.text.now)) c.requires.room)
    (subst (λ (r : Result ℕ Refusal). Writes (encoding c.args.text.now) (take (length c.args.out.now - c.args.at) (drop c.args.at c.args.out.now)) c.encode.new.out r) c.in-Ok.is c.encode.ensures) in
    text_put c.args.out.now c.encode.new.out (bytes_of c.args.text.now) c.args.at c.in-Ok.written c.requires.room p.0 p.1
