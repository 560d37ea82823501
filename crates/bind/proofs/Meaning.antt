-- What finding through slots means here, and what a symbol's own name leads to: proved.
use Rattle.std.proofs.Common.{refl, sym, ◌∙◌, take, drop, arith}
use Rattle.symbol.specs.Symbol.{symbol_of}
use Rattle.data_type.specs.DataType.{type_of}
use Rattle.name_order.specs.Order.{named_before}
use Rattle.name_order.specs.Halving.{halved}
use Rattle.name_order.proofs.Order.{places_parted}
use Rattle.name_order.proofs.Halving.{parted}
use Rattle.named.specs.Kinds.{symbol_places, field_places, symbol_told, type_told}
use Rattle.name_index.proofs.Halving.{found_halved}
use Rattle.name_index.proofs.Placed.{found_alike}
use Rattle.bind.specs.Found.{symbol_found, type_found}
use Rattle.bind.specs.Meaning.{FoundMeant}
use Rattle.std.specs.Prelude.{length}

pub found_meant : FoundMeant
unfolding symbol_found type_found
found_meant =
    record {
      symbols = λ mode u name.
          let before = named_before symbol_places u.bytes.now name in
          record {
            one = (halved before u.slots.now, refl);
            ordered = λ o.
                let alike = found_alike symbol_places (λ r. r.name.now) (symbol_of mode) (symbol_told mode) u.bytes name in
                alike (take 1 (drop (halved before u.slots.now) u.slots.now))
                ∙ found_halved symbol_places (symbol_of mode) u.bytes name u.slots.now (halved before u.slots.now) o
                (parted before (length u.slots.now) u.slots.now (omega arith) (places_parted symbol_places u.bytes.now name u.slots.now o.sorted))
                ∙ sym (alike u.slots.now);
          };
      types = λ mode u name.
          let before = named_before field_places u.bytes.now name in
          record {
            one = (halved before u.slots.now, refl);
            ordered = λ o.
                let alike = found_alike field_places (λ r. r.field.name.now) (type_of mode) (type_told mode) u.bytes name in
                alike (take 1 (drop (halved before u.slots.now) u.slots.now))
                ∙ found_halved field_places (type_of mode) u.bytes name u.slots.now (halved before u.slots.now) o
                (parted before (length u.slots.now) u.slots.now (omega arith) (places_parted field_places u.bytes.now name u.slots.now o.sorted))
                ∙ sym (alike u.slots.now);
          };
    }
