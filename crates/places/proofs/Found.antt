-- Which record is found of those that a number, or a name, asks for: proved.
use Rattle.std.proofs.Common.{ℕ, ◌≡◌, ap, subst, List, length, Ok, Result, Bor}
use Rattle.part.specs.Slice.{part}
use Rattle.part.specs.Outcome.{and_then}
use Rattle.part.proofs.Outcome.{both_passed}
use Rattle.part.proofs.Slice.{end_self}
use Rattle.entry.specs.Entry.{claim_of}
use Rattle.refusal.specs.ByNumber.{IsNumbered}
use Rattle.refusal.specs.declared.Mode.{Mode}
use Rattle.refusal.specs.declared.Refusal.{Refusal}
use Rattle.attribute.specs.Attribute as attribute
use Rattle.attribute.specs.declared.Attributes.{Attributes}
use Rattle.attribute.proofs.Asked.{attributes_shown, attributes_named}
use Rattle.refactor.specs.Refactor as refactor
use Rattle.refactor.specs.declared.RefactorInfos.{RefactorInfos}
use Rattle.refactor.proofs.Inside.{chains_counted, refactors_shown}
use Rattle.symbol.specs.declared.AdsSymbolInfo.{AdsSymbolInfo}
use Rattle.symbol.proofs.Laws.{symbols_whole}
use Rattle.field.specs.declared.AdsFieldInfo.{AdsFieldInfo}
use Rattle.field.proofs.Within.{fields_within}
use Rattle.data_type.specs.declared.AdsDataTypeInfo.{AdsDataTypeInfo}
use Rattle.data_type.specs.DataType.{levels}
use Rattle.data_type.proofs.AsField.{entry_as_field}
use Rattle.places.specs.declared.AttributePlaces.{AttributePlaces}
use Rattle.places.specs.declared.RefactorPlaces.{RefactorPlaces}
use Rattle.places.specs.Places.{attribute_numbered, attribute_named, refactor_numbered}
use Rattle.places.proofs.Single.{alone_is}
use Rattle.places.specs.Found.{AttributesFound, RefactorsFound, AllFound}

-- of lists that have as many records as they count
attributes_found : (s : Bor (List ℕ)) (all : Attributes) → length (attribute.listed all.bytes all.count) ≡ all.count
    → (numbered : ℕ → Result AttributePlaces Refusal) (named : List ℕ → Result AttributePlaces Refusal)
    → ((number : ℕ) → numbered number ≡ attribute_numbered s all number) → ((name : List ℕ) → named name ≡ attribute_named s all name) → AttributesFound s all numbered named
attributes_found s all counted numbered named by_number by_name =
    let listed = attribute.listed all.bytes all.count in
    record {
      by_number = λ number.
          record {
            found = attribute.numbered listed all.count number;
            means = subst (λ (count : ℕ). IsNumbered listed number (attribute.numbered listed count number)) counted (attributes_shown listed number);
            placed = by_number number;
          };
      by_name = λ name. record { found = attribute.named listed name; means = attributes_named listed name; placed = by_name name };
    }

refactors_found : (s : Bor (List ℕ)) (all : RefactorInfos) → length (refactor.listed all.bytes all.count) ≡ all.count
    → (answer : ℕ → Result RefactorPlaces Refusal) → ((number : ℕ) → answer number ≡ refactor_numbered s all number) → RefactorsFound s all answer
refactors_found s all counted answer is number =
    let listed = refactor.listed all.bytes all.count in
    record {
      found = refactor.numbered listed all.count number;
      means = subst (λ (count : ℕ). IsNumbered listed number (refactor.numbered listed count number)) counted (refactors_shown listed number);
      placed = is number;
    }

-- of a chain
module _ (mode : Mode) (s : Bor (List ℕ)) (p : RefactorInfos × Bor (List ℕ)) where
  chain_counted : refactor.chain_alone mode s ≡ Ok p → length (refactor.listed p.0.bytes p.0.count) ≡ p.0.count
  chain_counted h =
      let c = both_passed (refactor.chain_of s) (alone_is mode s p h) in
      let is : ◌≡◌ {A = RefactorInfos × Bor (List ℕ)} (record { bytes = s; count = c.0.0 }, c.0.1) p = cc c.1.1 in
      subst (λ (q : RefactorInfos × Bor (List ℕ)). length (refactor.listed q.0.bytes q.0.count) ≡ q.0.count) is (chains_counted s s c.0.0 c.0.1 (end_self s) c.1.0).long

pub all_found : AllFound
all_found =
    record {
      symbol = λ mode s r h.
          let own = both_passed (claim_of 30 s.now) h in
          attributes_found s r.attributes (symbols_whole mode (part s 0 own.0) r own.1.1).counted _ _
          (λ number. ap (λ (w : Result AdsSymbolInfo Refusal). and_then w (λ x. attribute_numbered s x.attributes number)) h)
          (λ name. ap (λ (w : Result AdsSymbolInfo Refusal). and_then w (λ x. attribute_named s x.attributes name)) h);
      refactor_infos = λ mode s r h.
          let own = both_passed (claim_of 30 s.now) h in
          refactors_found s r.refactor_infos (symbols_whole mode (part s 0 own.0) r own.1.1).refactors_counted _
          (λ number. ap (λ (w : Result AdsSymbolInfo Refusal). and_then w (λ x. refactor_numbered s x.refactor_infos number)) h);
      field = λ mode s r h.
          let own = both_passed (claim_of 42 s.now) h in
          attributes_found s r.attributes (fields_within mode (part s 0 own.0) r own.1.1).counted _ _
          (λ number. ap (λ (w : Result AdsFieldInfo Refusal). and_then w (λ x. attribute_numbered s x.attributes number)) h)
          (λ name. ap (λ (w : Result AdsFieldInfo Refusal). and_then w (λ x. attribute_named s x.attributes name)) h);
      data_type = λ mode s r h.
          let own = both_passed (claim_of 42 s.now) h in
          attributes_found s r.field.attributes (fields_within mode (part s 0 own.0) r.field (entry_as_field mode levels (part s 0 own.0) r own.1.1)).counted _ _
          (λ number. ap (λ (w : Result AdsDataTypeInfo Refusal). and_then w (λ x. attribute_numbered s x.field.attributes number)) h)
          (λ name. ap (λ (w : Result AdsDataTypeInfo Refusal). and_then w (λ x. attribute_named s x.field.attributes name)) h);
      chain = λ mode s p h.
          refactors_found s p.0 (chain_counted mode s p h) _
          (λ number. ap (λ (w : Result (RefactorInfos × Bor (List ℕ)) Refusal). and_then w (λ x. refactor_numbered s x.0 number)) h);
    }
