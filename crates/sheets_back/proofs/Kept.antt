-- The entry of a row, as the symbol writer writes it, and the row of that entry.
use Rattle.std.proofs.Common.{ℕ, ◌+◌, ◌<◌, ◌≡◌, refl, sym, ap, subst, ◌∙◌, true, false, List, [], ◌++◌, append_assoc, append-nil, length, get_or, Ok, Err, None, Bor, Result, arith}
use borrow.Author.Tests.{le-ltb}
use Rattle.le.specs.Le.{le2, le4, has, bytes4, part}
use Rattle.refusal.specs.Refusal.{limit}
use Rattle.refusal.specs.declared.Refusal.{Refusal}
use Rattle.refusal.specs.declared.Mode.TheVariants.{Present}
use Rattle.writing.specs.Layout.{lengths_bytes, strings_bytes, attributes_bytes, entry_bytes}
use Rattle.writing.specs.Checks.{entry_checked}
use Rattle.writing.proofs.Entry.{length_entry}
use Rattle.writing.proofs.Laid as laid
use Rattle.attribute.specs.Block as attribute-block
use Rattle.refactor.specs.Block as refactor-block
use Rattle.symbol.specs.declared.writer.NewSymbol.{NewSymbol}
use Rattle.symbol.specs.Symbol.{type_guid_flag, attributes_flag, extended_flags_flag, symbol_of}
use Rattle.symbol.specs.Told.{IsTyped}
use Rattle.symbol.specs.Writing.{flagged, numbers_bytes as symbol_numbers, header_bytes, sections_bytes, sections_checked, symbol_bytes, symbol_checked, symbol_written}
use Rattle.symbol.proofs.Accepted.{Accepted}
use Rattle.symbol.proofs.Back as back
use Rattle.symbol.proofs.Header as header
use Rattle.symbol.proofs.Header.{body_of}
use Rattle.symbol.proofs.Writable.{test_same, none_unflagged, strings_pass}
use Rattle.sheet.specs.CellsMeant.{IsCell, IsRow}
use Rattle.sheet.specs.ExportMeant.{IsWhole, IsAdmitted, guid, attributes, extended_flags, held, not_whole}
use Rattle.sheet_rows.specs.Rows.{Line}
use Rattle.sheet_rows.specs.SheetMeant.{HasNumbers}
use Rattle.sheet_import.specs.Strings.{string_of}
use Rattle.sheet_import.specs.Import.{numbers_bytes, entry_of}
use Rattle.sheet_import.specs.ImportMeant.{Fit}
use Rattle.sheet_import.proofs.Sizes.{entry_long}
use Rattle.sheet_import.proofs.Meaning.{string_told}
use Rattle.sheets_back.specs.Again.{IsAgain}
use Rattle.sheets_back.specs.Entries.{IsOf}

abbrev pub lying : List ℕ → Bor (List ℕ)
lying s = record { ref_ptr = (0, 0); now = s }

never : true ≡ false → ⊥
never h = cc

module _ (l : Line) (h : HasNumbers l.cells l.numbers) (f : Fit l.cells) where
  -- the symbol of the row
  abbrev pub m : NewSymbol
  m =
      record {
        index_group = record { 0 = l.numbers.index_group };
        index_offset = record { 0 = l.numbers.index_offset };
        size = l.numbers.size;
        data_type_id = l.numbers.data_type_id;
        flags = record { 0 = l.numbers.flags };
        high = l.numbers.high;
        name = lying f.strings.name;
        type_name = lying f.strings.type_name;
        comment = lying f.strings.comment;
        guid = None;
        attributes = record { bytes = lying []; count = 0 };
        extended_flags = record { 0 = 0 };
        refactor_infos = record { bytes = lying []; count = 0 };
      }

  pub typed : IsTyped m
  typed = record {
    index_group = h.index_group.fits;
    index_offset = h.index_offset.fits;
    size = h.size.fits;
    data_type_id = h.data_type_id.fits;
    flags = h.flags.value.fits;
    high = h.high.fits;
    extended_flags = omega arith;
    guid = tt;
  }

  -- it has no sections
  no_sections : sections_bytes m ≡ []
  unfolding sections_bytes attributes_bytes
  no_sections = simp (h.flags.attributes, h.flags.extended_flags)

  abbrev pub e : List ℕ
  e = entry_bytes (body_of m ++ [])

  parts : body_of m ++ [] ≡ symbol_numbers m ++ (lengths_bytes f.strings.name f.strings.type_name f.strings.comment ++ strings_bytes f.strings.name f.strings.type_name f.strings.comment)
  unfolding header_bytes
  parts = simp (no_sections, append-nil, append_assoc)

  name_told : string_of l.cells.strings.first.now ≡ f.strings.name
  name_told = string_told f.strings.name l.cells.strings.first.now f.strings.name_bytes f.strings.name_text

  type_told : string_of l.cells.strings.second.now ≡ f.strings.type_name
  type_told = string_told f.strings.type_name l.cells.strings.second.now f.strings.type_bytes f.strings.type_text

  comment_told : string_of l.cells.strings.third.now ≡ f.strings.comment
  comment_told = string_told f.strings.comment l.cells.strings.third.now f.strings.comment_bytes f.strings.comment_text

  pub entry_is : entry_of l.numbers l.cells.strings ≡ e
  unfolding entry_of numbers_bytes symbol_numbers
  entry_is = simp (name_told, type_told, comment_told) (ap entry_bytes (sym parts))

  pub entry_size : length e ≡ 33 + length f.strings.name + length f.strings.type_name + length f.strings.comment
  entry_size = ap length (sym entry_is) ∙ entry_long l.numbers l.cells.strings ∙ omega (arith, ap length name_told, ap length type_told, ap length comment_told)

  long : length (body_of m ++ []) + 4 ≡ length e
  long = sym (length_entry (body_of m ++ []))

  pub fits : length (body_of m ++ []) + 4 < 4294967296
  fits = omega (arith, long, entry_size, f.name, f.type_name, f.comment)

  pub accepted : Accepted m
  unfolding attribute-block.exact refactor-block.exact symbol_bytes
  accepted = record {
    short = record { name_fits = f.name; type_fits = f.type_name; comment_fits = f.comment };
    count = omega arith;
    attributes_good = refl;
    chain_good = refl;
    guid_agrees = test_same false (flagged m type_guid_flag) (sym h.flags.guid);
    attributes_agree = none_unflagged (flagged m attributes_flag) 0 (λ _. refl);
    extended_agree = none_unflagged (flagged m extended_flags_flag) 0 (λ _. refl);
    chain_agrees = refl;
    small = omega (arith, ap length (sym (append-nil (body_of m))), length_entry (body_of m), long, entry_size, f.name, f.type_name, f.comment);
  }

  -- the writer writes it
  checked : symbol_checked m ≡ Ok tt
  unfolding symbol_checked sections_checked attribute-block.exact refactor-block.exact
  checked = simp (
    strings_pass f.strings.name f.strings.type_name f.strings.comment accepted.short,
    accepted.guid_agrees,
    accepted.attributes_agree,
    accepted.extended_agree,
  )

  bytes_are : symbol_bytes m ≡ e
  unfolding symbol_bytes
  bytes_are = ap entry_bytes (sym (append-nil (body_of m)))

  pub written : symbol_written m ≡ Ok e
  unfolding symbol_written entry_checked
  written = simp (checked, le-ltb limit (length (symbol_bytes m)) accepted.small) (ap (λ (b : List ℕ). Ok b) bytes_are)

  pub is_of : IsOf l m
  is_of = record {
    index_group = refl;
    index_offset = refl;
    size = refl;
    data_type_id = refl;
    flags = refl;
    high = refl;
    strings = f.strings;
    name = refl;
    type_name = refl;
    comment = refl;
  }

  -- where it lies it is read
  pub read : (t : Bor (List ℕ)) (is : t.now ≡ e) → symbol_of Present t ≡ Ok (back.back m typed accepted [] fits t is)
  read t is = back.read_is m typed accepted [] fits t is Present

  -- its claim, and the places of its strings
  pub claims : (rest : List ℕ) → le4 (e ++ rest) 0 ≡ length e
  unfolding entry_bytes le4
  claims rest = omega (arith, long, fits)

  flags : le2 e 20 ≡ l.numbers.flags
  flags = header.flags m typed accepted [] fits

  name_long : le2 e 24 ≡ length f.strings.name
  name_long = header.name_length m typed accepted [] fits

  type_long : le2 e 26 ≡ length f.strings.type_name
  type_long = header.type_length m typed accepted [] fits

  comment_long : le2 e 28 ≡ length f.strings.comment
  comment_long = header.comment_length m typed accepted [] fits

  places : laid.Laid e (bytes4 (length (body_of m ++ []) + 4) ++ header_bytes m) f.strings.name f.strings.type_name f.strings.comment (sections_bytes m ++ []) 30
  places = header.laid m typed accepted [] fits

  whole : IsWhole e
  whole = record {
    long = omega (arith, entry_size, name_long, type_long, comment_long);
    name_ended = ap (λ (k : ℕ). get_or e k 0) (omega (arith, name_long)) ∙ laid.name_end places;
    type_ended = ap (λ (k : ℕ). get_or e k 0) (omega (arith, name_long, type_long)) ∙ laid.type_end places;
    comment_ended = ap (λ (k : ℕ). get_or e k 0) (omega (arith, name_long, type_long, comment_long)) ∙ laid.comment_end places;
  }

  bare : (flag : ℕ) → has l.numbers.flags flag ≡ false → has (le2 e 20) flag ≡ true → ⊥
  bare flag x y = never (sym y ∙ ap (λ (w : ℕ). has w flag) flags ∙ x)

  -- a sheet holds it
  pub admitted : {k : ℕ} {w : Result Unit Refusal} (why : Refusal) → IsAdmitted e k w → w ≡ Err why → ⊥
  admitted why (guid a) i = bare 0x0008 h.flags.guid a
  admitted why (attributes a b) i = bare 0x1000 h.flags.attributes b
  admitted why (extended_flags a b c) i = bare 0x8000 h.flags.extended_flags c
  admitted why (held a b c d) i = cc
  admitted why (not_whole a b c d) i = d whole

  -- and its row is that of the line
  name_is : part e 30 (le2 e 24) ≡ f.strings.name
  name_is = ap (part e 30) name_long ∙ laid.name_is places

  type_is : part e (31 + le2 e 24) (le2 e 26) ≡ f.strings.type_name
  type_is =
      let at : 31 + le2 e 24 ≡ 30 + 1 + length f.strings.name = omega (arith, name_long) in
      ap (λ (k : ℕ). part e k (le2 e 26)) at ∙ ap (part e (30 + 1 + length f.strings.name)) type_long ∙ laid.type_is places

  comment_is : part e (32 + le2 e 24 + le2 e 26) (le2 e 28) ≡ f.strings.comment
  comment_is =
      let at : 32 + le2 e 24 + le2 e 26 ≡ 30 + 2 + length f.strings.name + length f.strings.type_name = omega (arith, name_long, type_long) in
      ap (λ (k : ℕ). part e k (le2 e 28)) at ∙ ap (part e (30 + 2 + length f.strings.name + length f.strings.type_name)) comment_long ∙ laid.comment_is places

  pub again : (text : List ℕ) → IsRow e text → IsAgain l text
  again text r = record {
    strings = f.strings;
    name = r.name;
    type_name = r.type_name;
    comment = r.comment;
    name_cell = subst (λ (s : List ℕ). IsCell s r.name) name_is r.name_cell;
    type_cell = subst (λ (s : List ℕ). IsCell s r.type_name) type_is r.type_cell;
    comment_cell = subst (λ (s : List ℕ). IsCell s r.comment) comment_is r.comment_cell;
    is = r.is ∙ simp (
      header.index_group m typed accepted [] fits,
      header.index_offset m typed accepted [] fits,
      header.size m typed accepted [] fits,
      header.data_type_id m typed accepted [] fits,
      flags,
      header.high m typed accepted [] fits,
    );
  }
