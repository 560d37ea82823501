-- docs/FORMAT.md, "Binding": where a path leads, part by part, by the bytes of the entries. Which data type has a name is given by a relation.
use Rattle.std.specs.Prelude.{ℕ, suc, ◌+◌, ◌*◌, ◌/◌, ◌%◌, ◌<◌, ◌≤◌, ◌≡◌, false, List, [], ◌∷◌, ◌++◌, length, drop, if◌then◌else◌}
use Rattle.std.specs.Borrow.{Bor}
use Rattle.le.specs.Le.{le4, has}
use Rattle.names.specs.Meaning.{SameLetters}
use Rattle.path.specs.declared.Subscript.{Subscript}
use Rattle.path.specs.declared.Split.{Split}
use Rattle.path.specs.declared.Part.{Part}
use Rattle.path.specs.declared.Part.TheVariants.{Member, Element}
use Rattle.path.specs.Texts.{IsPart}
use Rattle.bind.specs.declared.reading.Entry.{Entry}
use Rattle.bind.specs.Reading.{behind, own_of, name_of, type_entry}
use Rattle.bind.specs.Adding.{items_of, NoneNamed, IsAbove}

-- where a path has led: an entry, how many bits from the start of the index group, the size there, and the array records of the dimensions that have no number yet
pub record Spot : Type 0 where
  pub entry : Entry
  pub bits : ℕ
  pub size : ℕ
  pub left : List ℕ

-- a place in an index group, whose offsets have 32 bits
abbrev pub InGroup : ℕ → Type 0
InGroup bits = bits < 8 * 4294967296

-- an entry's own bytes say neither a reference, nor a property, nor static
pub record HasOffset (own : List ℕ) : Type 0 where
  pub reference : has (le4 own 28) 0x4 ≡ false
  pub property : has (le4 own 28) 0x40 ≡ false
  pub static_member : has (le4 own 28) 0x20000 ≡ false

-- to a member: the first sub-item of the name, letter by letter, behind its parent's start by its offset, in bytes, or in bits if it says so
pub record ToMember (here : Spot) (name : List ℕ) (there : Spot) : Type 0 where
  pub no_dimension : length here.left < 8
  pub before : List (Bor (List ℕ))
  pub item : Bor (List ℕ)
  pub later : List (Bor (List ℕ))
  pub among : items_of here.entry.items.count here.entry.items.bytes ≡ before ++ (item ∷ later)
  pub first : NoneNamed name before
  pub same : SameLetters (name_of item).now name
  pub has_offset : HasOffset (own_of item).now
  pub entry : there.entry ≡ type_entry item here.entry.end
  pub bits : there.bits ≡ here.bits + le4 (own_of item).now 20 * (if has (le4 (own_of item).now 28) 0x20 then 1 else 8)
  pub in_group : InGroup there.bits
  pub size : there.size ≡ le4 (own_of item).now 16
  pub left : there.left ≡ there.entry.arrays.now

-- to an element of the first dimension that has no number yet, whose array record is a lower bound, of 32 bits with a sign, and a number of elements: as many rows further as the number is above the bound, each of the size divided by the elements. A larger number than a subscript tells is none
pub record ToElement (here : Spot) (n : Subscript) (there : Spot) : Type 0 where
  pub dimension : 8 ≤ length here.left
  pub index : ℕ
  pub inside : index < le4 here.left 4
  pub told : n.magnitude < 8589934592
  pub above : IsAbove (le4 here.left 0 % 4294967296) index n
  pub entry : there.entry ≡ here.entry
  pub size : there.size ≡ here.size / le4 here.left 4
  pub bits : there.bits ≡ here.bits + index * there.size * (if here.entry.in_bits then 1 else 8)
  pub in_group : InGroup there.bits
  pub left : there.left ≡ drop 8 here.left

pub data ToPart (here : Spot) : Part → Spot → Type 0 where
  to_member : {name : Bor (List ℕ)} {there : Spot} → ToMember here name.now there → ToPart here (Member name) there
  to_element : {n : Subscript} {there : Spot} → ToElement here n there → ToPart here (Element n) there

-- a data type says an array again; then its dimensions are not asked for again
pub record SaysAgain (e named : Entry) : Type 0 where
  pub some : 0 < length e.arrays.now
  pub size : named.size ≡ e.size
  pub arrays : named.arrays.now ≡ e.arrays.now

pub data Asks (e named : Entry) (left : List ℕ) : Type 0 where
  again : SaysAgain e named → left ≡ [] → Asks e named left
  anew : ¬ SaysAgain e named → left ≡ named.arrays.now → Asks e named left

-- an entry has dimensions left or members
pub data Rests (here : Spot) : Type 0 where
  dimensions : 8 ≤ length here.left → Rests here
  members : 0 < here.entry.items.count → Rests here

module _ (TypeAt : List ℕ → ℕ → Type 0) (types : Bor (List ℕ)) where
  -- the data type of an entry's type name takes the entry's place, and adds nothing; the entry is no pointer
  pub record ToType (here there : Spot) : Type 0 where
    pub no_dimension : length here.left < 8
    pub no_member : here.entry.items.count ≡ 0
    pub no_pointer : here.entry.pointer ≡ 0
    pub start : ℕ
    pub named : TypeAt here.entry.type_name.now start
    pub has_offset : HasOffset (own_of (behind types start)).now
    pub entry : there.entry ≡ type_entry (behind types start) (length types.now)
    pub bits : there.bits ≡ here.bits
    pub size : there.size ≡ le4 (own_of (behind types start)).now 16
    pub asks : Asks here.entry there.entry there.left

  -- and so on, so many times at most, to an entry that has dimensions left or members
  pub data Settles : ℕ → Spot → Spot → Type 0 where
    rests : {most : ℕ} {here : Spot} → Rests here → Settles most here here
    through : {most : ℕ} {here next there : Spot} → ToType here next → Settles most next there → Settles (suc most) here there

  -- part by part to the end of a text
  pub data Leads : Spot → Bor (List ℕ) → Spot → Type 0 where
    at_end : {here : Spot} {text : Bor (List ℕ)} → text.now ≡ [] → Leads here text here
    on : {here next there last : Spot} {text : Bor (List ℕ)} {p : Split} → IsPart text p → Settles 16 here next → ToPart next p.part there → Leads there p.rest last → Leads here text last
