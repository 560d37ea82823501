-- The lines of JSON have their members.
use Rattle.std.proofs.Common.{◌≡◌, ℕ, List, [], ◌∷◌, ◌++◌, codes, decimal, refl, sym, ap, ◌∙◌, append_assoc, if◌then◌else◌}
use Rattle.std.specs.Prelude.{Option, Result}
use Rattle.std.specs.List.{join_with_byte}
use Rattle.std.specs.Borrow.{Bor}
use Rattle.refusal.specs.Refusal.{figures_of}
use Rattle.refusal.specs.declared.Refusal.{Refusal}
use Rattle.wording.specs.Text.{quoted}
use Rattle.report.specs.Meant.{member, object}
use Rattle.bind.specs.declared.Address.{Address}
use Rattle.bind.specs.declared.reading.Place.{Place}
use Rattle.bind.specs.declared.reading.Place.TheVariants.{Symbol, DataType}
use Rattle.bind_report.specs.Words.{reason_text}
use Rattle.bind_report.specs.Json.{numbers_text, entry_text, address_text, part_text, figures_text, refused_text, answer_by, json_line}
use Rattle.bind_report.specs.Meant.{entry_members, address_members, refused_members, PathLinesMeant}

-- members with commas between them, before some text
written : List (List ℕ) → List ℕ → List ℕ
written [] t = t
written (x ∷ []) t = x ++ t
written (x ∷ y ∷ xs) t = x ++ (44 ∷ written (y ∷ xs) t)

closed : (xs : List (List ℕ)) (t : List ℕ) → join_with_byte 44 xs ++ t ≡ written xs t
unfolding written
closed [] t = refl
closed (x ∷ []) t = refl
closed (x ∷ y ∷ xs) t = append_assoc x (44 ∷ join_with_byte 44 (y ∷ xs)) t ∙ ap (λ (z : List ℕ). x ++ (44 ∷ z)) (closed (y ∷ xs) t)

-- an object that ends a line
line_is : (xs : List (List ℕ)) → codes "{" ++ written xs (codes "}\n") ≡ object xs ++ codes "\n"
line_is xs = ap (λ (t : List ℕ). codes "{" ++ t) (sym (append_assoc (join_with_byte 44 xs) (codes "}") (codes "\n") ∙ closed xs (codes "}\n")))

entry_is : (p : Place) → entry_text p ≡ object (entry_members p)
unfolding entry_text
entry_is (Symbol at) = refl
entry_is (DataType at) = refl

abbrev numbers : Address → List (List ℕ)
numbers a =
    member (codes "group") (decimal a.group.0)
    ∷ member (codes "offset") (decimal a.offset.0)
    ∷ member (codes "bit") (decimal a.bit)
    ∷ member (codes "size") (decimal a.size)
    ∷ member (codes "size_in_bits") (if a.size_in_bits then codes "true" else codes "false")
    ∷ []

numbers_are : (a : Address) → numbers_text a ≡ join_with_byte 44 (numbers a)
unfolding numbers_text
numbers_are a = refl

abbrev address_rest : Address → List ℕ → List ℕ
address_rest a t = codes ",\"type\":" ++ (quoted a.type_name.now ++ (codes ",\"entry\":" ++ (object (entry_members a.place) ++ t)))

address_is : (a : Address) (t : List ℕ) → address_text a ++ t ≡ written (numbers a) (address_rest a t)
unfolding address_text
address_is a t =
    append_assoc (numbers_text a) (codes ",\"type\":" ++ (quoted a.type_name.now ++ (codes ",\"entry\":" ++ entry_text a.place))) t
    ∙ ap (λ (x : List ℕ). numbers_text a ++ (codes ",\"type\":" ++ x)) (append_assoc (quoted a.type_name.now) (codes ",\"entry\":" ++ entry_text a.place) t)
    ∙ ap (λ (x : List ℕ). numbers_text a ++ (codes ",\"type\":" ++ (quoted a.type_name.now ++ (codes ",\"entry\":" ++ (x ++ t))))) (entry_is a.place)
    ∙ ap (λ (x : List ℕ). x ++ address_rest a t) (numbers_are a)
    ∙ closed (numbers a) (address_rest a t)

bound_is : (path : List ℕ) (a : Address) → codes "{\"path\":" ++ (quoted path ++ (codes "," ++ (address_text a ++ codes "}\n"))) ≡ object (address_members path a) ++ codes "\n"
unfolding written
bound_is path a = ap (λ (x : List ℕ). codes "{\"path\":" ++ (quoted path ++ (codes "," ++ x))) (address_is a (codes "}\n")) ∙ line_is (address_members path a)

abbrev figures : Refusal → List (List ℕ)
figures why =
    member (codes "refused") (decimal (figures_of why).number)
    ∷ member (codes "expected") (decimal (figures_of why).expected)
    ∷ member (codes "got") (decimal (figures_of why).got)
    ∷ []

figures_are : (why : Refusal) → figures_text why ≡ join_with_byte 44 (figures why)
unfolding figures_text
figures_are why = refl

abbrev refused_rest : Refusal → List ℕ → List ℕ → List ℕ
refused_rest why part t = codes ",\"reason\":\"" ++ (reason_text why ++ (codes "\",\"part\":" ++ (part ++ t)))

abbrev said : Refusal → List ℕ → List ℕ
said why part = figures_text why ++ (codes ",\"reason\":\"" ++ (reason_text why ++ (codes "\",\"part\":" ++ part)))

said_is : (why : Refusal) (part t : List ℕ) → said why part ++ t ≡ written (figures why) (refused_rest why part t)
said_is why part t =
    append_assoc (figures_text why) (codes ",\"reason\":\"" ++ (reason_text why ++ (codes "\",\"part\":" ++ part))) t
    ∙ ap (λ (x : List ℕ). figures_text why ++ (codes ",\"reason\":\"" ++ x)) (append_assoc (reason_text why) (codes "\",\"part\":" ++ part) t)
    ∙ ap (λ (x : List ℕ). x ++ refused_rest why part t) (figures_are why)
    ∙ closed (figures why) (refused_rest why part t)

refused_is : (path : List ℕ) (why : Refusal) (part : List ℕ) → codes "{\"path\":" ++ (quoted path ++ (codes "," ++ (said why part ++ codes "}\n"))) ≡ object (refused_members path why part) ++ codes "\n"
unfolding written
refused_is path why part =
    let q : reason_text why ++ (codes "\"" ++ (codes ",\"part\":" ++ (part ++ codes "}\n"))) ≡ (reason_text why ++ codes "\"") ++ (codes ",\"part\":" ++ (part ++ codes "}\n"))
    = sym (append_assoc (reason_text why) (codes "\"") (codes ",\"part\":" ++ (part ++ codes "}\n"))) in
    ap (λ (x : List ℕ). codes "{\"path\":" ++ (quoted path ++ (codes "," ++ x))) (said_is why part (codes "}\n") ∙ ap (λ (x : List ℕ). written (figures why) (codes ",\"reason\":\"" ++ x)) q)
    ∙ line_is (refused_members path why part)

abbrev line_by : List ℕ → List ℕ → List ℕ
line_by path answer = codes "{\"path\":" ++ (quoted path ++ (codes "," ++ (answer ++ codes "}\n")))

pub path_lines_meant : PathLinesMeant
unfolding json_line refused_text
path_lines_meant = record {
  bound = λ b a h. ap (λ (r : Result Address Refusal). line_by b.path.now (answer_by b.path r)) h ∙ bound_is b.path.now a;
  part = λ b why p h e. ap (λ (r : Result Address Refusal). line_by b.path.now (answer_by b.path r)) h
      ∙ ap (λ (o : Option (Bor (List ℕ))). line_by b.path.now (said why (part_text o))) e ∙ refused_is b.path.now why (quoted p.now);
  none = λ b why h e. ap (λ (r : Result Address Refusal). line_by b.path.now (answer_by b.path r)) h
      ∙ ap (λ (o : Option (Bor (List ℕ))). line_by b.path.now (said why (part_text o))) e ∙ refused_is b.path.now why (codes "null");
}
