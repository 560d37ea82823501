-- What the words of a line mean: proved.
use Rattle.std.proofs.Common.{ℕ, ◌≡◌, refl, sym, ap, subst, ◌∙◌, Bool, true, false, List, [], ◌∷◌, length, arith, Ok, Err}
use Rattle.std.specs.Prelude.{◌≢◌, ◌||◌, slice_get, option_and_then, ◌==◌, ◌&&◌, nat_lt, codes, drop, Option, Some, None, Result}
use Rattle.std.specs.List.{list_any}
use Rattle.std.specs.Str.{bytes_eq}
use Rattle.std.specs.Borrow.{Bor}
use Rattle.std.proofs.lemmas.Slice.Eq.{bytes_eq-Decides}
use borrow.Author.Tests.{eqb-true, eqb-false, ne_eqb, lt-ltb}
use Rattle.std.proofs.lemmas.Bool.{true≢false}
use Rattle.upload.specs.declared.Form.{Form}
use Rattle.upload.specs.declared.Form.TheVariants.{Binary, Hexadecimal}
use Rattle.arguments.specs.declared.options.Options.{Options}
use Rattle.arguments.specs.declared.options.Said.{Said}
use Rattle.arguments.specs.declared.options.Said.TheVariants.{Help, Version, Given}
use Rattle.arguments.specs.declared.misuse.Misuse.{Misuse}
use Rattle.arguments.specs.Words.{Word, is_option, ends_options, operands_of}
use Rattle.arguments.specs.Options.{taken, long, short, alone, marked, in_form, without_value, with_flag, word_of, flag_of, and_then, none_given, options_from, options_of}
use Rattle.arguments.specs.Command.{unsuited, unsuited_to_room, command_of, task_of}
use Rattle.arguments.specs.Request.{read_of, request_of, suited, without_more, run_of, asked_of, of_a_word, bind_of, compare_of, find_of, other_file, sheet_of, import_of, export_of, captures_of, against_captures, make_of, room_of, length_of, as_said, of_word, of_command}
use Rattle.arguments.specs.declared.options.Flag.{Flag}
use Rattle.arguments.specs.declared.options.Flag.TheVariants as flag
use Rattle.arguments.specs.declared.misuse.Misuse.TheVariants.{Against, Unfit}
use Rattle.arguments.specs.declared.misuse.Expected.TheVariants.{Command}
use Rattle.arguments.specs.declared.misuse.Rule.TheVariants.{OneForm}
use Rattle.refusal.specs.declared.Mode.TheVariants.{Checked}
use Rattle.arguments.specs.Meant.{IsOperand, dash, empty, other, IsSorted, nothing, operand, option, ended, WordsSorted, IsFlag, binary, hex, checked, json, sorted, OptionsMeant, CommandsMeant, names}
use Rattle.arguments.specs.Examples.{RequestsMeant}
use Rattle.arguments.proofs.OperandLaws.{cons_met}
use Rattle.arguments.proofs.OptionLaws.{cons_past, cons_end, cons_taken}

-- ---- a word by its bytes
and_false : (x y : Bool) → y ≡ false → (x && y) ≡ false
and_false true y h = h
and_false false y h = refl

not_option : (t : List ℕ) → IsOperand t → is_option t ≡ false
not_option t dash = refl
not_option t empty = refl
not_option t (other {b = b} {more = more} h) = and_false (nat_lt 1 (length (b ∷ more))) (b == 45) (ne_eqb b 45 h)

long_enough : (b : ℕ) (more : List ℕ) → is_option (45 ∷ b ∷ more) ≡ true
long_enough b more = rw (lt-ltb 1 (length (45 ∷ b ∷ more)) (omega arith)) refl

an_option : (t : List ℕ) (b : ℕ) (more : List ℕ) → t ≡ 45 ∷ b ∷ more → is_option t ≡ true
an_option t b more e = ap is_option e ∙ long_enough b more

end_is : (t : List ℕ) → t ≡ codes "--" → ends_options t ≡ true
end_is t e = (bytes_eq-Decides t (codes "--")).1 e

no_end : (t : List ℕ) → t ≢ codes "--" → ends_options t ≡ false
no_end t h = by (ends_options t) refl
  where
    by : (e : Bool) → ends_options t ≡ e → ends_options t ≡ false
    by true e = absurd (h ((bytes_eq-Decides t (codes "--")).0 e))
    by false e = e

end_is_option : (t : List ℕ) → t ≡ codes "--" → is_option t ≡ true
end_is_option t e = ap is_option e

-- ---- each line is sorted
module _ (w : Word) (line : List Word) where
  met : is_option w.now ≡ false → operands_of (w ∷ line) ≡ w ∷ operands_of line
  met h = cons_met true w line h

  past : is_option w.now ≡ true → ends_options w.now ≡ false → operands_of (w ∷ line) ≡ operands_of line
  unfolding operands_of
  past h e = rw (h, e) refl

  past_end : is_option w.now ≡ true → ends_options w.now ≡ true → operands_of (w ∷ line) ≡ line
  unfolding operands_of
  past_end h e = rw (h, e) refl

abbrev Sorting : List Word → Type 0
Sorting line = (options : List Word) × IsSorted line options (operands_of line)

with_operand : (w : Word) (line : List Word) → IsOperand w.now → Sorting line → Sorting (w ∷ line)
with_operand w line h s = (s.0, subst (IsSorted (w ∷ line) s.0) (sym (met w line (not_option w.now h))) (operand h s.1))

with_option : (w : Word) (line : List Word) (b : ℕ) (more : List ℕ) → w.now ≡ 45 ∷ b ∷ more → Sorting line → Sorting (w ∷ line)
with_option w line b more i s = by (ends_options w.now) refl
  where
    is : is_option w.now ≡ true
    is = an_option w.now b more i

    by : (e : Bool) → ends_options w.now ≡ e → Sorting (w ∷ line)
    by true e = ([], subst (IsSorted (w ∷ line) []) (sym (past_end w line is e)) (ended ((bytes_eq-Decides w.now (codes "--")).0 e)))
    by false e =
        let n : w.now ≢ codes "--" = λ q. absurd (true≢false (sym (end_is w.now q) ∙ e)) in
        (w ∷ s.0, subst (IsSorted (w ∷ line) (w ∷ s.0)) (sym (past w line is e)) (option i n s.1))

with_word : (w : Word) (line : List Word) (t : List ℕ) → w.now ≡ t → Sorting line → Sorting (w ∷ line)
with_word w line [] e s = with_operand w line (subst IsOperand (sym e) empty) s
with_word w line (b ∷ more) e s = by (b == 45) refl more e
  where
    by : (d : Bool) → (b == 45) ≡ d → (m : List ℕ) → w.now ≡ b ∷ m → Sorting (w ∷ line)
    by false d m i = with_operand w line (subst IsOperand (sym i) (other (eqb-false b 45 d))) s
    by true d [] i = with_operand w line (subst IsOperand (sym (i ∙ ap (λ (c : ℕ). c ∷ []) (eqb-true b 45 d))) dash) s
    by true d (c ∷ m) i = with_option w line c m (i ∙ ap (λ (a : ℕ). a ∷ c ∷ m) (eqb-true b 45 d)) s

each : (line : List Word) → Sorting line
unfolding operands_of
each [] = ([], nothing)
each (w ∷ line) = with_word w line w.now refl (each line)

-- ---- and in one way
and_then_same : (f g : Options → Result Said Misuse) (r : Result Said Misuse) → ((o : Options) → f o ≡ g o) → and_then f r ≡ and_then g r
and_then_same f g (Ok (Given o)) h = h o
and_then_same f g (Ok Help) h = refl
and_then_same f g (Ok Version) h = refl
and_then_same f g (Err why) h = refl

same_operands : (line options operands : List Word) → IsSorted line options operands → operands_of line ≡ operands
unfolding operands_of
same_operands line options operands nothing = refl
same_operands line options operands (operand {w = w} {line = more} h s) = met w more (not_option w.now h) ∙ ap (λ ws. w ∷ ws) (same_operands _ _ _ s)
same_operands line options operands (option {w = w} {line = more} {b = b} {more = m} i n s) = past w more (an_option w.now b m i) (no_end w.now n) ∙ same_operands _ _ _ s
same_operands line options operands (ended {w = w} {rest = rest} i) = past_end w rest (end_is_option w.now i) (end_is w.now i)

same_options : (line options operands : List Word) → IsSorted line options operands → (o : Options) → options_from o line ≡ options_from o options
unfolding options_from
same_options line options operands nothing o = refl
same_options line options operands (operand {w = w} {line = more} h s) o = cons_past o w more (not_option w.now h) ∙ same_options _ _ _ s o
same_options line options operands (option {w = w} {line = more} {options = given} {b = b} {more = m} i n s) o =
    let is = an_option w.now b m i in let go = no_end w.now n in
    cons_taken o w more (taken o w) is go refl
    ∙ and_then_same (λ p. options_from p more) (λ p. options_from p given) (taken o w) (λ p. same_options _ _ _ s p)
    ∙ sym (cons_taken o w given (taken o w) is go refl)
same_options line options operands (ended {w = w} {rest = rest} i) o = cons_end o w rest (end_is_option w.now i) (end_is w.now i)

pub words_sorted : WordsSorted
words_sorted = record {
  each = each;
  one = λ line options operands s. (same_operands line options operands s, same_options line options operands s none_given);
}

-- ---- the order of options
-- one flag after another
abbrev onto : Flag → Options → Option Options
onto f o = with_flag o f

-- what leaves the form alone may come before it or behind
past_form : (f : Form) (set : Options → Options) → ((p : Options) (b : Option Form) → set (record p { form = b }) ≡ record (set p) { form = b })
    → (o : Options) (before : Option Form) → option_and_then (λ p. Some (set p)) (in_form f o before) ≡ in_form f (set o) before
past_form Binary set k o None = ap (λ p. Some p) (k o (Some Binary))
past_form Binary set k o (Some Binary) = ap (λ p. Some p) (k o (Some Binary))
past_form Binary set k o (Some Hexadecimal) = refl
past_form Hexadecimal set k o None = ap (λ p. Some p) (k o (Some Hexadecimal))
past_form Hexadecimal set k o (Some Binary) = refl
past_form Hexadecimal set k o (Some Hexadecimal) = ap (λ p. Some p) (k o (Some Hexadecimal))

both_forms : (o : Options) (before : Option Form)
    → option_and_then (onto flag.Hexadecimal) (in_form Binary o before) ≡ option_and_then (onto flag.Binary) (in_form Hexadecimal o before)
unfolding with_flag
both_forms o None = refl
both_forms o (Some Binary) = refl
both_forms o (Some Hexadecimal) = refl

exchanged : (o : Options) (f g : Flag) → option_and_then (onto g) (with_flag o f) ≡ option_and_then (onto f) (with_flag o g)
unfolding with_flag
exchanged o flag.Binary flag.Binary = refl
exchanged o flag.Binary flag.Hexadecimal = both_forms o o.form
exchanged o flag.Binary flag.Checked = past_form Binary (λ p. record p { mode = Checked }) (λ p before. refl) o o.form
exchanged o flag.Binary flag.Json = past_form Binary (λ p. record p { json = true }) (λ p before. refl) o o.form
exchanged o flag.Binary flag.Sorted = past_form Binary (λ p. record p { sorted = true }) (λ p before. refl) o o.form
exchanged o flag.Hexadecimal flag.Binary = sym (both_forms o o.form)
exchanged o flag.Hexadecimal flag.Hexadecimal = refl
exchanged o flag.Hexadecimal flag.Checked = past_form Hexadecimal (λ p. record p { mode = Checked }) (λ p before. refl) o o.form
exchanged o flag.Hexadecimal flag.Json = past_form Hexadecimal (λ p. record p { json = true }) (λ p before. refl) o o.form
exchanged o flag.Hexadecimal flag.Sorted = past_form Hexadecimal (λ p. record p { sorted = true }) (λ p before. refl) o o.form
exchanged o flag.Checked flag.Binary = sym (past_form Binary (λ p. record p { mode = Checked }) (λ p before. refl) o o.form)
exchanged o flag.Checked flag.Hexadecimal = sym (past_form Hexadecimal (λ p. record p { mode = Checked }) (λ p before. refl) o o.form)
exchanged o flag.Checked flag.Checked = refl
exchanged o flag.Checked flag.Json = refl
exchanged o flag.Checked flag.Sorted = refl
exchanged o flag.Json flag.Binary = sym (past_form Binary (λ p. record p { json = true }) (λ p before. refl) o o.form)
exchanged o flag.Json flag.Hexadecimal = sym (past_form Hexadecimal (λ p. record p { json = true }) (λ p before. refl) o o.form)
exchanged o flag.Json flag.Checked = refl
exchanged o flag.Json flag.Json = refl
exchanged o flag.Json flag.Sorted = refl
exchanged o flag.Sorted flag.Binary = sym (past_form Binary (λ p. record p { sorted = true }) (λ p before. refl) o o.form)
exchanged o flag.Sorted flag.Hexadecimal = sym (past_form Hexadecimal (λ p. record p { sorted = true }) (λ p before. refl) o o.form)
exchanged o flag.Sorted flag.Checked = refl
exchanged o flag.Sorted flag.Json = refl
exchanged o flag.Sorted flag.Sorted = refl

-- what a flag's word does
abbrev said : Option Options → Result Said Misuse
said None = Err (Against OneForm)
said (Some o) = Ok (Given o)

record Does (text : List ℕ) : Type 0 where
  which : Flag
  does : (o : Options) (p : ℕ × ℕ) → taken o (record { ref_ptr = p; now = text }) ≡ said (with_flag o which)
  begins : is_option text ≡ true
  goes_on : ends_options text ≡ false

valueless : (r : Option Options) (w : Word) → list_any (λ b. b == 61) w.now ≡ false → without_value w r ≡ said r
unfolding alone
valueless None w h = refl
valueless (Some o) w h = rw h refl

does : (text : List ℕ) → IsFlag text → Does text
unfolding taken long marked flag_of
does text binary = record { which = flag.Binary; does = λ o p. valueless (with_flag o flag.Binary) (record { ref_ptr = p; now = codes "--binary" }) refl; begins = refl; goes_on = refl }
does text hex = record { which = flag.Hexadecimal; does = λ o p. valueless (with_flag o flag.Hexadecimal) (record { ref_ptr = p; now = codes "--hex" }) refl; begins = refl; goes_on = refl }
does text checked = record { which = flag.Checked; does = λ o p. valueless (with_flag o flag.Checked) (record { ref_ptr = p; now = codes "--checked" }) refl; begins = refl; goes_on = refl }
does text json = record { which = flag.Json; does = λ o p. valueless (with_flag o flag.Json) (record { ref_ptr = p; now = codes "--json" }) refl; begins = refl; goes_on = refl }
does text sorted = record { which = flag.Sorted; does = λ o p. valueless (with_flag o flag.Sorted) (record { ref_ptr = p; now = codes "--sorted" }) refl; begins = refl; goes_on = refl }

first_of_two : (k : Options → Result Said Misuse) (g : Flag) (r : Option Options) → and_then (λ o. and_then k (said (with_flag o g))) (said r) ≡ and_then k (said (option_and_then (onto g) r))
first_of_two k g None = refl
first_of_two k g (Some o) = refl

two : (o : Options) (v w : Word) (line : List Word) (a : Does v.now) (b : Does w.now)
    → options_from o (v ∷ w ∷ line) ≡ and_then (λ p. options_from p line) (said (option_and_then (onto b.which) (with_flag o a.which)))
two o v w line a b =
    cons_taken o v (w ∷ line) (said (with_flag o a.which)) a.begins a.goes_on (a.does o v.ref_ptr)
    ∙ and_then_same (λ p. options_from p (w ∷ line)) (λ p. and_then (λ q. options_from q line) (said (with_flag p b.which))) (said (with_flag o a.which))
    (λ p. cons_taken p w line (said (with_flag p b.which)) b.begins b.goes_on (b.does p w.ref_ptr))
    ∙ first_of_two (λ p. options_from p line) b.which (with_flag o a.which)

any_order : (o : Options) (v w : Word) (line : List Word) → IsFlag v.now → IsFlag w.now → options_from o (v ∷ w ∷ line) ≡ options_from o (w ∷ v ∷ line)
any_order o v w line f g =
    let a = does v.now f in let b = does w.now g in
    two o v w line a b ∙ ap (λ r. and_then (λ p. options_from p line) (said r)) (exchanged o a.which b.which) ∙ sym (two o w v line b a)

told : (f : Flag) → flag_of (word_of f) ≡ Some f
unfolding flag_of
told flag.Binary = refl
told flag.Hexadecimal = refl
told flag.Checked = refl
told flag.Json = refl
told flag.Sorted = refl

pub options_meant : OptionsMeant
unfolding options_from taken long short alone marked with_flag flag_of
options_meant = record {
  told = told;
  any_order = any_order;
  no_word = refl;
  binary = refl;
  hex = refl;
  checked = refl;
  json = refl;
  sorted = refl;
  both = refl;
  twice = refl;
  help = refl;
  short_help = refl;
  version = refl;
  short_version = refl;
  unknown = refl;
  letter = refl;
  letters = refl;
  more_letters = refl;
  valued = refl;
  valued_help = refl;
  valued_version = refl;
}

-- ---- the commands
neither : (x y : Bool) → (x || y) ≡ false → (x ≡ false) × (y ≡ false)
neither true y h = grind arith
neither false y h = (refl, h)

-- a word that is none of some is not the first of them, nor of the others
front : (t n : List ℕ) (ns : List (List ℕ)) → list_any (bytes_eq t) (n ∷ ns) ≡ false → (bytes_eq t n ≡ false) × (list_any (bytes_eq t) ns ≡ false)
front t n ns h = neither (bytes_eq t n) (list_any (bytes_eq t) ns) h

no_command : (t : List ℕ) → list_any (bytes_eq t) names ≡ false → command_of t ≡ None
unfolding command_of task_of
no_command t h =
    let find = front t (codes "find") (drop 1 names) h in
    let show = front t (codes "show") (drop 2 names) find.1 in
    let why = front t (codes "why") (drop 3 names) show.1 in
    let lists = front t (codes "list") (drop 4 names) why.1 in
    let branch = front t (codes "branch") (drop 5 names) lists.1 in
    let types = front t (codes "type") (drop 6 names) branch.1 in
    let check = front t (codes "check") (drop 7 names) types.1 in
    let plain = front t (codes "plain") (drop 8 names) check.1 in
    let compare = front t (codes "compare") (drop 9 names) plain.1 in
    let salvage = front t (codes "salvage") (drop 10 names) compare.1 in
    let bind = front t (codes "bind") (drop 11 names) salvage.1 in
    let captures = front t (codes "captures") (drop 12 names) bind.1 in
    let sheet = front t (codes "sheet") (drop 13 names) captures.1 in
    let room = front t (codes "room") (drop 14 names) sheet.1 in
    rw (room.0, captures.0, sheet.0, find.0, show.0, why.0, lists.0, branch.0, types.0, check.0, plain.0, compare.0, salvage.0, bind.0) refl

named : (p : ℕ × ℕ) (w : Word) (line : List Word) (o : Options) → IsOperand w.now → list_any (bytes_eq w.now) names ≡ false → options_of line ≡ Ok (Given o)
    → read_of (record { ref_ptr = p; now = w ∷ line }) ≡ Err (Unfit Command w)
unfolding read_of request_of
named p w line o h u g =
    let words : Bor (List Word) = record { ref_ptr = p; now = w ∷ line } in
    ap (as_said words) (cons_past none_given w line (not_option w.now h) ∙ g)
    ∙ ap (λ ops. of_word words o (slice_get ops 0)) (met w line (not_option w.now h))
    ∙ ap (of_command words o w) (no_command w.now u)

pub commands_meant : CommandsMeant
unfolding read_of request_of suited without_more run_of asked_of of_a_word bind_of compare_of find_of other_file sheet_of import_of export_of captures_of against_captures make_of room_of length_of options_from taken long short alone marked with_flag flag_of operands_of unsuited unsuited_to_room command_of task_of
commands_meant = record { operands = refl; options = refl; unknown = named }

pub requests_meant : RequestsMeant
unfolding read_of request_of suited without_more run_of asked_of of_a_word bind_of compare_of find_of other_file sheet_of import_of export_of captures_of against_captures make_of room_of length_of options_from taken long short alone marked with_flag flag_of operands_of unsuited unsuited_to_room command_of task_of
requests_meant = record {
  find = refl;
  attribute = refl;
  show = refl;
  why = refl;
  list = refl;
  in_json = refl;
  branch = refl;
  types = refl;
  one_type = refl;
  check = refl;
  plain = refl;
  compare = refl;
  salvage = refl;
  bind = refl;
  split = refl;
  each = refl;
  join = refl;
  sheet = refl;
  upload = refl;
  room = refl;
  longest = refl;
  options = refl;
  help = refl;
  version = refl;
  dashes = refl;
  find_given = refl;
  show_given = refl;
  why_given = refl;
  branch_given = refl;
  types_given = refl;
  check_given = refl;
  compare_given = refl;
  salvage_given = refl;
  bind_given = refl;
  plain_given = refl;
  zeros = refl;
  no_command = refl;
  lacks = refl;
  extra = refl;
  not_for = refl;
  once = refl;
  bound_once = refl;
  signed = refl;
  longer = refl;
}
