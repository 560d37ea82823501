use Rattle.std.proofs.Common.{sym, ap, ◌∙◌, List, ℕ, Option, Result}
use Rattle.part.specs.Outcome.{and_then}
use Rattle.refusal.specs.declared.Refusal.{Refusal}
use Rattle.symbol.specs.Writing.{symbol_written}
use Rattle.vindaskot.specs.Lent.{new_symbol}
use Rattle.vindaskot.proofs.Told.{told_one}
use Rattle.vindaskot.proofs.vindaskot_symbol_write_2.Goals as goal

pub returns : goal.returns
returns c =
    let a = c.args in
    let written : Option (List ℕ) → Result (List ℕ) Refusal =
    λ given. symbol_written (new_symbol a.index_group a.index_offset a.size a.data_type_id a.flags a.high a.extended_flags given a.name a.type_name a.comment a.count a.block a.links a.chain) in
    told_one (ap (λ (given : Result (Option (List ℕ)) Refusal). and_then given written) (sym c.in-Ok.is ∙ c.lent_guid.ensures)) c.number.ensures c.write.ensures
