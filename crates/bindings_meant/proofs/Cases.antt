-- A path in any case: step by step the same, proved.
use Rattle.std.proofs.Common.{ℕ, zero, suc, ◌+◌, ◌-◌, ◌≡◌, refl, sym, ap, ap₂, ◌∙◌, Bool, List, length, take, drop, Bor, if◌then◌else◌}
use Rattle.std.specs.Prelude.{Result, Ok, Err, Some, nat_lt, ◌==◌}
use Rattle.std.specs.declared.option.Option.{Option}
use Rattle.std.specs.Ordering.{nat_cmp, is_lt}
use Rattle.std.specs.Cmp.Lexicographic.{slice_cmp}
use Rattle.le.specs.Le.{le4}
use Rattle.part.specs.Slice.{after}
use Rattle.part.specs.Outcome.{outcome, and_then}
use Rattle.refusal.specs.Refusal.{limit, most_aliases}
use Rattle.refusal.specs.declared.Mode.{Mode}
use Rattle.refusal.specs.declared.Refusal.{Refusal}
use Rattle.refusal.specs.declared.Refusal.TheVariants.{TooLarge, BadPath, WrongDimensions, NoOffset}
use Rattle.symbol.specs.Symbol.{symbol_of}
use Rattle.names.specs.Names.{folded}
use Rattle.names.specs.Meaning.{SameLetters}
use Rattle.names.proofs.Laws.{same_folded, same_either}
use Rattle.names.proofs.Meaning.{same_by_letters}
use Rattle.path.specs.declared.Split.{Split}
use Rattle.path.specs.declared.Part.{Part}
use Rattle.path.specs.Path.{first_part}
use Rattle.name_order.specs.declared.places.NamePlaces.{NamePlaces}
use Rattle.name_order.specs.Order.{name_at, name_cmp, named_before}
use Rattle.name_order.specs.Halving.{halved}
use Rattle.named.specs.Kinds.{symbol_places}
use Rattle.name_find.specs.Find.{find_indexed}
use Rattle.name_find.proofs.Meaning.{any_case_of}
use Rattle.bind.specs.declared.Upload.{Upload}
use Rattle.bind.specs.declared.reading.Entry.{Entry}
use Rattle.bind.specs.declared.steps.Here.{Here}
use Rattle.bind.specs.Found.{symbol_found}
use Rattle.bind.specs.Reading.{behind, symbol_entry, symbol_group, type_entry, name_of}
use Rattle.bind.specs.Binding.{Finder, dimensions, member_of, at_member, to_member, to_part, settled, along, longest, start_at, below, told, from_symbol, within_limit, binding}
use Rattle.bindings_meant.specs.Cases.{FindsAnyCase, AnyCase}
use Rattle.bindings_meant.proofs.Letters.{long_same, take_same, drop_same, ends_same, SamePart, by_name, by_number, SameFirst, both, none, first_part_same}

module _ (a b : List ℕ) (l : SameLetters a b) where
  item_same : (n : ℕ) (s : Bor (List ℕ)) (end : ℕ) → member_of a n s end ≡ member_of b n s end
  unfolding member_of
  item_same zero s end = refl
  item_same (suc n) s end =
      ap₂ (λ (t : Bool) (o : Option Entry). if t then Some (type_entry s end) else o) (same_either a b (name_of s).now ((same_by_letters a b).1 l)) (item_same n (behind s (le4 s.now 0)) end)

  to_member_same : (here : Here) (at : ℕ) → to_member here a at ≡ to_member here b at
  unfolding to_member
  to_member_same here at =
      ap (λ (o : Option Entry). if nat_lt 7 (length here.left.now) then Err (WrongDimensions at (dimensions here.entry)) else at_member here at o) (item_same here.entry.items.count here.entry.items.bytes here.entry.end)

to_part_same : (here : Here) (p q : Part) (at : ℕ) → SamePart p q → to_part here p at ≡ to_part here q at
unfolding to_part
to_part_same here p q at (by_name {a = a} {b = b} l) = to_member_same a.now b.now l here at
to_part_same here p q at by_number = refl

module _ (find : Finder) (types : Bor (List ℕ)) (long : ℕ) where
  -- the part that was split off, and what is behind it
  abbrev on : (Here → Bor (List ℕ) → Result Here Refusal) → Here → ℕ → Result Split ℕ → Result Here Refusal
  on go here at f =
      outcome f
      (λ p. and_then (settled find types most_aliases here at) (λ next. and_then (to_part next p.part at) (λ there. go there p.rest)))
      (λ left. Err (BadPath (long - left)))

  on_same : (go : Here → Bor (List ℕ) → Result Here Refusal) → ((there : Here) (s t : Bor (List ℕ)) → SameLetters s.now t.now → go there s ≡ go there t)
      → (here : Here) (at : ℕ) (f g : Result Split ℕ) → SameFirst f g → on go here at f ≡ on go here at g
  on_same go same here at f g none = refl
  on_same go same here at f g (both {p = p} {q = q} {s = s} {t = t} parts rests) = goes (settled find types most_aliases here at)
    where
      last : (r : Result Here Refusal) → and_then r (λ there. go there s) ≡ and_then r (λ there. go there t)
      last (Ok there) = same there s t rests
      last (Err why) = refl

      goes : (r : Result Here Refusal) → and_then r (λ next. and_then (to_part next p at) (λ there. go there s)) ≡ and_then r (λ next. and_then (to_part next q at) (λ there. go there t))
      goes (Ok next) = ap (λ (r : Result Here Refusal). and_then r (λ there. go there s)) (to_part_same next p q at parts) ∙ last (to_part next q at)
      goes (Err why) = refl

  along_same : (n : ℕ) (here : Here) (s t : Bor (List ℕ)) → SameLetters s.now t.now → along find types long n here s ≡ along find types long n here t
  unfolding along
  along_same zero here s t l = refl
  along_same (suc n) here s t l =
      ap (λ (k : ℕ). if k == 0 then Ok here else on (along find types long n) here (long + 1 - k) (first_part s)) (long_same l)
      ∙ ap (λ (r : Result Here Refusal). if length t.now == 0 then Ok here else r) (on_same (along find types long n) (along_same n) here (long + 1 - length t.now) (first_part s) (first_part t) (first_part_same s t l))

  below_same : (e : Entry) (s t : Bor (List ℕ)) → SameLetters s.now t.now → below find types long e s ≡ below find types long e t
  unfolding below
  below_same e s t l =
      ap (λ (k : ℕ). if k == 0 then Ok (start_at e) else if e.mark == 0 then along find types long k (start_at e) s else Err (NoOffset (long + 1 - k) e.mark)) (long_same l)
      ∙ ap (λ (r : Result Here Refusal). if length t.now == 0 then Ok (start_at e) else if e.mark == 0 then r else Err (NoOffset (long + 1 - length t.now) e.mark)) (along_same (length t.now) (start_at e) s t l)

module _ (find : Finder) (any : FindsAnyCase find) (path typed : List ℕ) (l : SameLetters path typed) where
  longest_same : (n : ℕ) → longest find path n ≡ longest find typed n
  unfolding longest
  longest_same zero = refl
  longest_same (suc end) =
      λ i.
      if ends_same (drop_same end l) i then outcome (any (take end path) (take end typed) (take_same end l) i) (λ start. Ok (end, start)) (λ why. longest_same end i)
      else longest_same end i

from_symbol_same : (find : Finder) (symbols types path typed : Bor (List ℕ)) (found : ℕ × ℕ) → SameLetters path.now typed.now → from_symbol find symbols types path found ≡ from_symbol find symbols types typed found
unfolding from_symbol
from_symbol_same find symbols types path typed found l =
    let e : Entry = symbol_entry symbols found.1 in
    ap (λ (k : ℕ). and_then (below find types k e (after path found.0)) (λ here. told k (symbol_group symbols found.1) here)) (long_same l)
    ∙ ap (λ (r : Result Here Refusal). and_then r (λ here. told (length typed.now) (symbol_group symbols found.1) here)) (below_same find types (length typed.now) e (after path found.0) (after typed found.0) (drop_same found.0 l))

binding_same : (find_symbol find_type : Finder) (symbols types path typed : Bor (List ℕ)) → FindsAnyCase find_symbol → SameLetters path.now typed.now
    → binding find_symbol find_type symbols types path ≡ binding find_symbol find_type symbols types typed
unfolding binding
binding_same find_symbol find_type symbols types path typed any l =
    let small : within_limit path.now ≡ within_limit typed.now = ap (λ (n : ℕ). if nat_lt limit n then Err (TooLarge n) else Ok tt) (long_same l) in
    let start : longest find_symbol path.now (length path.now + 1) ≡ longest find_symbol typed.now (length typed.now + 1) =
    ap (λ (n : ℕ). longest find_symbol path.now (n + 1)) (long_same l) ∙ longest_same find_symbol any path.now typed.now l (length typed.now + 1) in
    λ i.
    and_then (within_limit symbols.now) (λ u.
    and_then (within_limit types.now) (λ v.
    and_then (small i) (λ w.
    and_then (start i) (λ found. from_symbol_same find_type symbols types path typed found l i))))

-- halving by the names, whichever case the name has that is looked for
before_same : (w : NamePlaces) (s name typed : List ℕ) → SameLetters name typed → named_before w s name ≡ named_before w s typed
unfolding name_cmp
before_same w s name typed l = λ i at. is_lt (slice_cmp nat_cmp (folded (name_at w s at)) (same_folded name typed ((same_by_letters name typed).1 l) i))

symbols_same : (mode : Mode) (u : Upload) → FindsAnyCase (symbol_found mode u)
unfolding symbol_found
symbols_same mode u name typed l =
    let one : (ℕ → Bool) → List ℕ = λ before. take 1 (drop (halved before u.slots.now) u.slots.now) in
    ap (λ (before : ℕ → Bool). find_indexed (λ r. r.name.now) (symbol_of mode) u.bytes (one before) name) (before_same symbol_places u.bytes.now name typed l)
    ∙ sym ((any_case_of symbol_of (λ r. r.name.now)).index mode u.bytes (one (named_before symbol_places u.bytes.now typed)) name typed ((same_by_letters name typed).1 l))

pub any_case : AnyCase
any_case =
    record {
      finders = binding_same;
      found = λ mode symbols types path typed l. binding_same (symbol_found mode symbols) _ symbols.bytes types.bytes path typed (symbols_same mode symbols) l;
    }
