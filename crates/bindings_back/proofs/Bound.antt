-- A member of a symbol that was written is bound to what was written: proved.
use Rattle.std.proofs.Common.{ℕ, ◌+◌, ◌-◌, ◌*◌, ◌/◌, ◌%◌, ◌<◌, ◌≤◌, ◌≡◌, refl, sym, ap, ap₂, subst, ◌∙◌, false, List, [], ◌∷◌, ◌++◌, length, length-append, take, drop, drop-drop, arith, Bor, if◌then◌else◌}
use Rattle.std.proofs.Math.Nat.{div-add-mod}
use Rattle.std.proofs.Math.Seq.{drop-append_seam, take-append_seam, take-length, drop-length}
use mathlib.Core.List.{append-nil}
use Rattle.le.specs.Le.{le2, le4, has}
use Rattle.part.specs.Slice.{part, after}
use Rattle.part.proofs.Slice.{end_self, end_after}
use Rattle.refusal.specs.Refusal.{limit}
use Rattle.refusal.specs.declared.Mode.{Mode}
use Rattle.names.specs.Meaning.{SameLetters, itself, letter}
use Rattle.names.specs.Meaning as letters_of
use Rattle.path.specs.declared.Part.TheVariants.{Member}
use Rattle.path.specs.Path.{split_at}
use Rattle.path.specs.Texts.{Ends, ended, IsName, IsPart}
use Rattle.path.specs.Texts as texts
use Rattle.path.proofs.Texts.{stops_at_end}
use Rattle.symbol.specs.declared.AdsSymbolInfo.{AdsSymbolInfo}
use Rattle.symbol.specs.Symbol.{symbol_of}
use Rattle.symbol.specs.Told as symbol
use Rattle.symbol.specs.Writing.{symbol_bytes}
use Rattle.symbols_regrown.specs.Kind as symbols
use Rattle.data_type.specs.Told as data_type
use Rattle.data_type.specs.DataType.{type_of}
use Rattle.named.specs.Kinds.{symbol_places, field_places}
use Rattle.name_index.proofs.Meaning.{within_limit as small_index}
use Rattle.symbol_find.proofs.Meaning.{symbols_by_steps}
use Rattle.type_find.proofs.Meaning.{types_by_steps}
use Rattle.bind.specs.declared.Address.{Address}
use Rattle.bind.specs.declared.Upload.{Upload}
use Rattle.bind.specs.declared.reading.Entry.{Entry}
use Rattle.bind.specs.Reading.{behind, own_of, name_of, symbol_entry, type_entry}
use Rattle.bind.specs.Adding.{items_of}
use Rattle.bindings_meant.specs.Longest.{NamesSymbol}
use Rattle.bindings_meant.specs.Leads.{Spot, HasOffset, ToMember, ToType, Leads, Settles, members}
use Rattle.bindings_meant.specs.Leads as leads
use Rattle.bindings_meant.specs.Reaches.{at_symbol, Whole, Tells, Reaches, SymbolNamed, TypeNamed}
use Rattle.bindings_meant.specs.Reaches as reaches
use Rattle.bindings_meant.specs.Entries.{IsSymbol, IsType}
use Rattle.bindings_meant.proofs.Entries.{entries_meant}
use Rattle.bindings_meant.proofs.Reaches.{binding_meant}
use Rattle.bindings_back.specs.Written.{FitSymbol, FitField, SymbolsWritten, MembersWritten, HaveAddress, bits_before, IsBoth, IsPath, WrittenBound}
use Rattle.bindings_back.proofs.Uploads as uploads
use Rattle.bindings_back.proofs.Symbols as written_symbols
use Rattle.bindings_back.proofs.Symbols.{is_named, nobody_named}
use Rattle.bindings_back.proofs.Members as written_members
use Rattle.bindings_back.proofs.Members.{Reads, first_of}

letters : (a : List ℕ) → SameLetters a a
letters [] = letters_of.SameLetters.end
letters (x ∷ a) = letter itself (letters a)

-- a symbol's entry is no array, is no pointer, and has no member
record Bare (e : Entry) : Type 0 where
  no_array : length e.arrays.now ≡ 0
  no_member : e.items.count ≡ 0
  no_pointer : e.pointer ≡ 0

bare : (s : Bor (List ℕ)) (at : ℕ) → Bare (symbol_entry s at)
unfolding symbol_entry
bare s at = record { no_array = refl; no_member = refl; no_pointer = refl }

-- the symbol, as it is read
record IsRead (mode : Mode) (s : Bor (List ℕ)) (at : ℕ) (g : FitSymbol) : Type 0 where
  back : AdsSymbolInfo
  is : IsSymbol back (own_of (behind s at)).now (symbol_entry s at)
  tells : symbol.told_of back ≡ symbol.meant g.parts g.extra

symbol_read : (mode : Mode) (s : Bor (List ℕ)) (before : List FitSymbol) (g : FitSymbol) (later : List FitSymbol) → length s.now ≤ limit → s.now ≡ written_symbols.all (before ++ (g ∷ later))
    → IsRead mode s (length (written_symbols.all before)) g
symbol_read mode s before g later small is =
    let e : List ℕ = written_symbols.entry g in
    let p : List ℕ = written_symbols.all before in
    let q : List ℕ = written_symbols.all later in
    let split : s.now ≡ p ++ (e ++ q) = is ∙ uploads.upload_split symbols.IsFit symbol_bytes written_symbols.body written_symbols.entry_is before g later in
    let long : length s.now ≡ length p + (length e + length q) = ap (λ (l : List ℕ). length l) split ∙ length-append p (e ++ q) ∙ ap (λ (k : ℕ). length p + k) (length-append e q) in
    let short : length e ≤ limit = omega (arith, small, long) in
    let own : (own_of (behind s (length p))).now ≡ e = uploads.own_among s p e q split (uploads.whole symbols.IsFit symbol_bytes written_symbols.body written_symbols.entry_is g short) in
    let b = symbols.reads_back mode g.parts g.extra (own_of (behind s (length p))) g.fit own (subst (λ (l : List ℕ). length l ≤ limit) (sym own) short) in
    record { back = b.back; is = entries_meant.symbol mode s (length p) b.back b.is; tells = b.tells }

-- a path that is a name, a dot and another
module _ (path : Bor (List ℕ)) (name member : List ℕ) (is : path.now ≡ name ++ (46 ∷ member)) (fit : IsName member) where
  abbrev text : Bor (List ℕ)
  text = after path (length name)

  text_is : text.now ≡ 46 ∷ member
  text_is = ap (drop (length name)) is ∙ drop-append_seam name (46 ∷ member)

  long : length path.now ≡ length name + (1 + length member)
  long =
      let inner : length (46 ∷ member) ≡ 1 + length member = omega arith in
      ap (λ (l : List ℕ). length l) is ∙ length-append name (46 ∷ member) ∙ ap (λ (k : ℕ). length name + k) inner

  name_first : take (length name) path.now ≡ name
  name_first = ap (take (length name)) is ∙ take-append_seam name (46 ∷ member)

  abbrev member_part : Bor (List ℕ)
  member_part = part text 1 (length member)

  abbrev rest : Bor (List ℕ)
  rest = after text (1 + length member)

  member_is : member_part.now ≡ member
  member_is = ap (λ (l : List ℕ). take (length member) (drop 1 l)) text_is ∙ take-length member

  text_long : length text.now ≡ 1 + length member
  text_long = let inner : length (46 ∷ member) ≡ 1 + length member = omega arith in ap (λ (l : List ℕ). length l) text_is ∙ inner

  rest_is : rest.now ≡ []
  rest_is = ap (λ (k : ℕ). drop k text.now) (sym text_long) ∙ drop-length text.now

  is_part : IsPart text (split_at (Member member_part) rest)
  is_part =
      let size : length member_part.now ≡ length member = ap (λ (l : List ℕ). length l) member_is in
      let bytes : text.now ≡ 46 ∷ (member_part.now ++ rest.now) = text_is ∙ ap (λ (l : List ℕ). 46 ∷ l) (sym (append-nil member)) ∙ ap₂ (λ (x y : List ℕ). 46 ∷ (x ++ y)) (sym member_is) (sym rest_is) in
      texts.IsPart.member member_part rest (subst IsName (sym member_is) fit) (subst Ends (sym rest_is) ended) bytes (ap (part text 1) (sym size)) (end_after (1 + length member) (omega (arith, text_long)) (end_self text))

  -- between the name and the end no name ends
  whole_only : (n : ℕ) → length name < n → n ≤ length path.now → Ends (drop n path.now) → take n path.now ≡ path.now
  whole_only n h k e =
      let split : n ≡ length name + (1 + (n - length name - 1)) = omega (arith, h) in
      let there : drop n path.now ≡ drop (n - length name - 1) member =
      ap (λ (i : ℕ). drop i path.now) split ∙ sym (drop-drop (1 + (n - length name - 1)) (length name) path.now) ∙ ap (drop (1 + (n - length name - 1))) text_is
      ∙ sym (drop-drop (n - length name - 1) 1 (46 ∷ member)) in
      let over : length member ≤ n - length name - 1 = stops_at_end member (n - length name - 1) fit.1 (subst Ends there e) in
      let all : n ≡ length path.now = omega (arith, h, k, over, long) in
      ap (λ (i : ℕ). take i path.now) all ∙ take-length path.now

module _ (mode : Mode) (symbols types : Upload) (path : Bor (List ℕ)) (before : List FitSymbol) (g : FitSymbol) (later : List FitSymbol) (others : List FitField) (f : FitField) (more : List FitField)
    (a : SymbolsWritten mode symbols before g later) (b : MembersWritten mode types g.parts.type_name.now others f more) (p : IsPath g.parts f.parts (before ++ (g ∷ later)) path.now) (h : HaveAddress g.parts f.parts) where
  abbrev s : Bor (List ℕ)
  s = symbols.bytes

  abbrev t : Bor (List ℕ)
  t = types.bytes

  small_symbols : length s.now ≤ limit
  small_symbols = small_index symbol_places (symbol_of mode) (symbols_by_steps mode) s a.indexed.old a.indexed.new a.indexed.count a.indexed.built

  small_types : length t.now ≤ limit
  small_types = small_index field_places (type_of mode) (types_by_steps mode) t b.indexed.old b.indexed.new b.indexed.count b.indexed.built

  abbrev at : ℕ
  at = length (written_symbols.all before)

  abbrev name : List ℕ
  name = g.parts.name.now

  names : NamesSymbol (SymbolNamed mode s) path.now (length name, at)
  names =
      let there : SymbolNamed mode s name at = is_named mode s small_symbols name before g later a.bytes refl a.first in
      record {
        within = omega (arith, long path name f.parts.name.now p.is p.name);
        is_found = subst (λ (x : List ℕ). SymbolNamed mode s x at) (sym (name_first path name f.parts.name.now p.is p.name)) there;
        is_whole = subst Ends (sym (text_is path name f.parts.name.now p.is p.name)) texts.Ends.dotted;
        none_longer = λ n l k e at x.
            nobody_named mode s small_symbols path.now (before ++ (g ∷ later)) a.bytes p.nobodys at (subst (λ (y : List ℕ). SymbolNamed mode s y at) (whole_only path name f.parts.name.now p.is p.name n l k e) x);
      }

  read : IsRead mode s at g
  read = symbol_read mode s before g later small_symbols a.bytes

  -- the data type in the symbol's place
  abbrev e : Entry
  e = type_entry (behind t b.start) (length t.now)

  type_is : IsType b.data_type (own_of (behind t b.start)).now (name_of (behind t b.start)).now e
  type_is = entries_meant.data_type mode 15 (behind t b.start) (length t.now) b.data_type b.read

  abbrev next : Spot
  next = record { entry = e; bits = (at_symbol s at).bits; size = le4 (own_of (behind t b.start)).now 16; left = e.arrays.now }

  flag : (bit : ℕ) → has b.data_type.field.flags.0 bit ≡ false → has (le4 (own_of (behind t b.start)).now 28) bit ≡ false
  flag bit k = ap (λ x. has x.0 bit) (sym type_is.bits) ∙ k

  no_dimension : length next.left < 8
  no_dimension = let none : length e.arrays.now ≡ 0 = ap (λ (x : Bor (List ℕ)). length x.now) type_is.arrays ∙ ap (λ (x : List ℕ). length x) b.no_array in omega (arith, none)

  to_type : ToType (TypeNamed mode t) t (at_symbol s at) next
  to_type =
      let type_name : (symbol_entry s at).type_name.now ≡ g.parts.type_name.now = ap (λ (x : Bor (List ℕ)). x.now) read.is.type_name ∙ ap (λ (x : symbol.Told). x.type_name) read.tells in
      let clear = bare s at in
      record {
        no_dimension = omega arith;
        no_member = clear.no_member;
        no_pointer = clear.no_pointer;
        start = b.start;
        named = subst (λ (x : List ℕ). TypeNamed mode t x b.start) (sym type_name) b.named;
        has_offset = record { reference = flag 0x4 b.reference; property = flag 0x40 b.property; static_member = flag 0x20000 b.static_member };
        entry = refl;
        bits = refl;
        size = refl;
        asks = leads.Asks.anew (λ x. omega (arith, x.some, clear.no_array)) refl;
      }

  settles : Settles (TypeNamed mode t) t 16 (at_symbol s at) next
  settles =
      let count : e.items.count ≡ length (others ++ (f ∷ more)) = ap (λ x. x.count) type_is.items ∙ b.count in
      let some : 0 < e.items.count = omega (arith, count, length-append others (f ∷ more)) in
      leads.Settles.through to_type (leads.Settles.rests (members some))

  -- the member
  first : written_members.First f.parts.name.now f (items_of e.items.count e.items.bytes)
  first =
      let bytes : e.items.bytes.now ≡ written_members.all (others ++ (f ∷ more)) ++ b.rest = ap (λ x. x.bytes.now) type_is.items ∙ b.bytes in
      let count : e.items.count ≡ length (others ++ (f ∷ more)) = ap (λ x. x.count) type_is.items ∙ b.count in
      subst (λ (n : ℕ). written_members.First f.parts.name.now f (items_of n e.items.bytes)) (sym count) (first_of mode f.parts.name.now others f more b.rest e.items.bytes bytes b.small b.first)

  abbrev item : Bor (List ℕ)
  item = first.item

  abbrev own : List ℕ
  own = (own_of item).now

  item_is : IsType first.reads_it.back own (name_of item).now (type_entry item e.end)
  item_is = first.reads_it.is e.end

  flags_are : le4 own 28 ≡ f.parts.flags.0
  flags_are = ap (λ x. x.0) (sym item_is.bits ∙ ap (λ (x : data_type.Told). x.field.flags) first.reads_it.tells)

  offset_is : le4 own 20 ≡ f.parts.offset
  offset_is = sym item_is.numbers.1 ∙ ap (λ (x : data_type.Told). x.field.offset) first.reads_it.tells

  size_is : le4 own 16 ≡ f.parts.size
  size_is = sym item_is.numbers.0 ∙ ap (λ (x : data_type.Told). x.field.size) first.reads_it.tells

  member_flag : (bit : ℕ) → has f.parts.flags.0 bit ≡ false → has (le4 own 28) bit ≡ false
  member_flag bit k = ap (λ (x : ℕ). has x bit) flags_are ∙ k

  abbrev last : Spot
  last =
      record {
        entry = type_entry item e.end;
        bits = next.bits + le4 own 20 * (if has (le4 own 28) 0x20 then 1 else 8);
        size = le4 own 16;
        left = (type_entry item e.end).arrays.now;
      }

  symbol_offset : le4 (own_of (behind s at)).now 8 ≡ g.parts.index_offset.0
  symbol_offset = ap (λ x. x.0) (sym read.is.start ∙ ap (λ (x : symbol.Told). x.index_offset) read.tells)

  bits_are : last.bits ≡ bits_before g.parts f.parts
  bits_are =
      ap₂ (λ (x y : ℕ). 8 * x + y * (if has (le4 own 28) 0x20 then 1 else 8)) symbol_offset offset_is
      ∙ ap (λ (x : ℕ). 8 * g.parts.index_offset.0 + f.parts.offset * (if has x 0x20 then 1 else 8)) flags_are

  to_member : ToMember next (member_part path name f.parts.name.now p.is p.name).now last
  to_member =
      let typed : (member_part path name f.parts.name.now p.is p.name).now ≡ f.parts.name.now = member_is path name f.parts.name.now p.is p.name in
      let named : (name_of item).now ≡ f.parts.name.now = item_is.named ∙ ap (λ (x : data_type.Told). x.field.name) first.reads_it.tells in
      subst (λ (x : List ℕ). ToMember next x last) (sym typed)
      record {
        no_dimension = no_dimension;
        before = first.before;
        item = item;
        later = first.later;
        among = first.among;
        first = first.first;
        same = subst (λ (x : List ℕ). SameLetters x f.parts.name.now) (sym named) (letters f.parts.name.now);
        has_offset = record { reference = member_flag 0x4 h.reference; property = member_flag 0x40 h.property; static_member = member_flag 0x20000 h.static_member };
        entry = refl;
        bits = refl;
        in_group = subst (λ (x : ℕ). x < 8 * 4294967296) (sym bits_are) h.in_group;
        size = refl;
        left = refl;
      }

  leads_there : Leads (TypeNamed mode t) t (at_symbol s at) (text path name f.parts.name.now p.is p.name) last
  leads_there =
      leads.Leads.on (is_part path name f.parts.name.now p.is p.name) settles (leads.ToPart.to_member to_member) (leads.Leads.at_end (rest_is path name f.parts.name.now p.is p.name))

  abbrev address : Address
  address =
      record {
        group = record { 0 = le4 (own_of (behind s at)).now 4 };
        offset = record { 0 = last.bits / 8 };
        bit = last.bits % 8;
        size = last.size;
        size_in_bits = last.entry.in_bits;
        type_name = last.entry.type_name;
        place = last.entry.place;
      }

  in_bytes : 8 * (last.bits / 8) + last.bits % 8 ≡ last.bits
  in_bytes = div-add-mod last.bits 8

  symbol_flag : (bit : ℕ) → has g.parts.flags.0 bit ≡ false → has (le2 (own_of (behind s at)).now 20) bit ≡ false
  symbol_flag bit k = ap (λ x. has x.0 bit) (sym read.is.flags ∙ ap (λ (x : symbol.Told). x.flags) read.tells) ∙ k

  reached : Reaches (SymbolNamed mode s) (TypeNamed mode t) s t path address
  reached =
      record {
        symbols_within = small_symbols;
        types_within = small_types;
        path_within = p.small;
        symbol = (length name, at);
        names = names;
        bit = λ k. symbol_flag 0x2 h.bit;
        reference = λ k. symbol_flag 0x4 h.symbol_reference;
        last = last;
        leads = leads_there;
        whole = reaches.Whole.none (omega arith);
        tells = record { in_group = refl; bits = in_bytes; in_byte = omega arith; size = refl; size_in_bits = refl; type_name = refl; place = refl };
      }

  is_both : IsBoth g.parts f.parts address
  is_both =
      record {
        group = sym read.is.group ∙ ap (λ (x : symbol.Told). x.index_group) read.tells;
        bits = in_bytes ∙ bits_are;
        in_byte = omega arith;
        size = size_is;
        size_in_bits = item_is.in_bits ∙ ap (λ (x : data_type.Told). has x.field.flags.0 0x20) first.reads_it.tells;
        type_name = ap (λ (x : Bor (List ℕ)). x.now) item_is.type_name ∙ ap (λ (x : data_type.Told). x.field.type_name) first.reads_it.tells;
      }

pub written_bound : WrittenBound
written_bound mode symbols types path before g later others f more a b p h = (
  address mode symbols types path before g later others f more a b p h,
  (
    (binding_meant.by_names mode symbols types path (address mode symbols types path before g later others f more a b p h) a.indexed b.indexed).1 (reached mode symbols types path before g later others f more a b p h),
    is_both mode symbols types path before g later others f more a b p h,
  ),
)
