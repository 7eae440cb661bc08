-- Where no individual is listed, no line of a model's text is one of an individual.
use Rattle.std.proofs.Common.{◌≡◌, ℕ, Bool, true, false, not, ◌&&◌, List, [], ◌∷◌, Option, Some, None, cond, refl, ap}
use Rattle.std.proofs.Common.{sym, ◌∙◌}
use Rattle.std.specs.Prelude.{nat_eq, codes, position, option_and_then, if◌then◌else◌}
use Rattle.std.specs.List.{list_all, onto_first}
use Rattle.std.specs.Str.{bytes_eq}
use Rattle.std.proofs.lemmas.Bool.{and_parts, and_from, eqb-true}
use Rattle.std.proofs.lemmas.Slice.Eq.{bytes_eq-Decides}
use Rattle.certificate_lines.specs.Lines.{is_space, is_blank, words, iri_in}
use Rattle.certificate_lines.specs.Names.{name_place}
use Rattle.certificate_lines.specs.Body.{is_end_line, blank_end}
use Rattle.certificate_lines.proofs.Body.{body_end, body_line}
use Rattle.shq_terms.specs.Listed.{Listed}
use Rattle.finite_model.specs.ModelLists.{ModelLists}
use Rattle.finite_model.specs.ModelText.{individual_line_in, placed_in, Body, with_placed, is_role_line}
use Rattle.finite_model.specs.ModelText.{is_individual_line, class_read, role_read, individual_read, model_words_read}
use Rattle.finite_model.specs.ModelText.{model_line_read, model_body, size_line, size_in, empty_body, model_of}
use Rattle.finite_model.specs.Unplaced.{places_none, role_or_class_read}

-- the words of a line of an individual
begins_so : (ws : List (List ℕ)) → is_individual_line ws ≡ true
    → (rest : List (List ℕ)) × (ws ≡ codes "individual" ∷ rest)
begins_so [] h = absurd (cc h)
begins_so (k ∷ rest) h = (rest, ap (λ w. w ∷ rest) ((bytes_eq-Decides k (codes "individual")).0 h))

-- words that are read to nothing where they are of an individual, and to something
read_so : {A : Type 0} (read : List (List ℕ) → Option A) (ws : List (List ℕ)) (a : A)
    → ((rest : List (List ℕ)) → read (codes "individual" ∷ rest) ≡ None) → read ws ≡ Some a
    → not (is_individual_line ws) ≡ true
read_so {A = A} read ws a none is = by (is_individual_line ws) refl
  where
    by : (b : Bool) → is_individual_line ws ≡ b → not (is_individual_line ws) ≡ true
    by false other = ap not other
    by true so =
        let begins = begins_so ws so in
        let clash : ◌≡◌ {A = Option A} None (Some a) = sym (none begins.0) ∙ sym (ap read begins.1) ∙ is in
        absurd (cc clash)

-- ---- a line

no_place : (name : List ℕ) → name_place [] name ≡ None
no_place name = by (iri_in name)
  where
    by : (iri : Option (List ℕ)) → option_and_then (λ i. position (bytes_eq i) []) iri ≡ None
    by None = refl
    by (Some i) = refl

module _ (o : Listed) (unlisted : o.individuals ≡ []) where
  none_placed : (size : ℕ) (name w : List ℕ) → placed_in o size name w ≡ None
  none_placed size name w = ap (option_and_then _) (ap (λ names. name_place names name) unlisted ∙ no_place name)

  none_in : (size : ℕ) (rest : List (List ℕ)) → individual_line_in o size (codes "individual" ∷ rest) ≡ None
  none_in size [] = refl
  none_in size (name ∷ []) = refl
  none_in size (name ∷ w ∷ []) = none_placed size name w
  none_in size (name ∷ w ∷ v ∷ vs) = refl

  none_read : (b : Body) (rest : List (List ℕ)) → model_words_read o b (codes "individual" ∷ rest) ≡ None
  none_read b rest = ap (option_and_then (with_placed b)) (none_in b.model.size rest)

  none_of_class : (b : Body) (rest : List (List ℕ)) → role_or_class_read o b (codes "individual" ∷ rest) ≡ None
  none_of_class b [] = refl
  none_of_class b (w ∷ []) = refl
  none_of_class b (w ∷ v ∷ vs) = refl

  pub line_read_alike : (b : Body) (ws : List (List ℕ)) → model_words_read o b ws ≡ role_or_class_read o b ws
  line_read_alike b ws = by (is_individual_line ws) refl
    where
      by : (v : Bool) → is_individual_line ws ≡ v → model_words_read o b ws ≡ role_or_class_read o b ws
      by false other =
          ap (λ (v : Bool). if is_role_line ws then role_read o b ws else if v then individual_read o b ws
          else class_read o b ws)
          other
      by true so =
          let begins = begins_so ws so in
          ap (model_words_read o b) begins.1 ∙ none_read b begins.0
          ∙ sym (ap (role_or_class_read o b) begins.1 ∙ none_of_class b begins.0)

  line_places_none : (b next : Body) (line : List ℕ) → model_line_read o b line ≡ Some next → places_none line ≡ true
  line_places_none b next line is = read_so (model_words_read o b) (words line) next (none_read b) is

-- ---- the first line, the last, and blank ones

size_places_none : (line : List ℕ) (n : ℕ) → size_in line ≡ Some n → places_none line ≡ true
size_places_none line n is = read_so size_line (words line) n none is
  where
    none : (rest : List (List ℕ)) → size_line (codes "individual" ∷ rest) ≡ None
    none [] = refl
    none (w ∷ []) = refl
    none (w ∷ v ∷ vs) = refl

end_places_none : (line : List ℕ) → is_end_line line ≡ true → places_none line ≡ true
end_places_none line is = ap places_none ((bytes_eq-Decides line (codes "end")).0 is)

other_letter : (b : ℕ) (parts : List (List ℕ)) → nat_eq b 105 ≡ false → is_individual_line (onto_first b parts) ≡ false
other_letter b [] other = ap (λ (v : Bool). v && bytes_eq [] (codes "ndividual")) other
other_letter b (w ∷ ws) other = ap (λ (v : Bool). v && bytes_eq w (codes "ndividual")) other

no_letter : (b : ℕ) → is_space b ≡ true → nat_eq b 105 ≡ false
no_letter b space = by (nat_eq b 105) refl
  where
    by : (e : Bool) → nat_eq b 105 ≡ e → nat_eq b 105 ≡ false
    by false other = other
    by true is = let clash : false ≡ true = sym (ap is_space (eqb-true b 105 is)) ∙ space in absurd (cc clash)

blank_places_none : (line : List ℕ) → is_blank line ≡ true → places_none line ≡ true
blank_places_none [] blank = refl
blank_places_none (b ∷ bs) blank = by (nat_eq b 32) refl
  where
    other : nat_eq b 105 ≡ false
    other = no_letter b (and_parts (is_space b) (is_blank bs) blank).0

    cut : Bool → Bool
    cut v = not (is_individual_line (cond v ([] ∷ words bs) (onto_first b (words bs))))

    by : (v : Bool) → nat_eq b 32 ≡ v → places_none (b ∷ bs) ≡ true
    by true is = ap cut is
    by false is = ap cut is ∙ ap not (other_letter b (words bs) other)

blanks_place_none : (ls : List (List ℕ)) → list_all is_blank ls ≡ true → list_all places_none ls ≡ true
blanks_place_none [] blank = refl
blanks_place_none (l ∷ ls) blank =
    let parts = and_parts (is_blank l) (list_all is_blank ls) blank in
    and_from (places_none l) (list_all places_none ls) (blank_places_none l parts.0) (blanks_place_none ls parts.1)

-- ---- the text

blank_after : (j k : ModelLists) (ls : List (List ℕ)) → blank_end j ls ≡ Some k → list_all is_blank ls ≡ true
blank_after j k ls is = by (list_all is_blank ls) refl
  where
    by : (b : Bool) → list_all is_blank ls ≡ b → list_all is_blank ls ≡ true
    by true blank = blank
    by false word =
        let clash : ◌≡◌ {A = Option ModelLists} None (Some k) =
        sym (ap (λ (v : Bool). if v then Some j else None) word) ∙ is in
        absurd (cc clash)

module _ (o : Listed) (unlisted : o.individuals ≡ []) where
  body_places_none : (b : Body) (ls : List (List ℕ)) (k : ModelLists) → model_body o b ls ≡ Some k
      → list_all places_none ls ≡ true
  body_places_none b [] k is = let clash : ◌≡◌ {A = Option ModelLists} None (Some k) = is in absurd (cc clash)
  body_places_none b (l ∷ ls) k is = by_end (λ next. body_places_none next ls k) (is_end_line l) refl
    where
      by_end : ((next : Body) → model_body o next ls ≡ Some k → list_all places_none ls ≡ true) → (e : Bool)
          → is_end_line l ≡ e → list_all places_none (l ∷ ls) ≡ true
      by_end later true ends =
          and_from (places_none l) (list_all places_none ls) (end_places_none l ends)
          (blanks_place_none ls
          (blank_after b.model k ls (sym (body_end (model_line_read o) (λ c. c.model) b l ls ends) ∙ is)))
      by_end later false goes = by_line (model_line_read o b l) refl
        where
          by_line : (r : Option Body) → model_line_read o b l ≡ r → list_all places_none (l ∷ ls) ≡ true
          by_line None bad =
              let clash : ◌≡◌ {A = Option ModelLists} None (Some k) =
              sym (body_line (model_line_read o) (λ c. c.model) b l ls None goes bad) ∙ is in
              absurd (cc clash)
          by_line (Some next) good =
              and_from (places_none l) (list_all places_none ls) (line_places_none o unlisted b next l good)
              (later next (sym (body_line (model_line_read o) (λ c. c.model) b l ls (Some next) goes good) ∙ is))

pub text_places_none : (o : Listed) → o.individuals ≡ [] → (ls : List (List ℕ)) (k : ModelLists)
    → model_of o ls ≡ Some k → list_all places_none ls ≡ true
text_places_none o unlisted [] k is = let clash : ◌≡◌ {A = Option ModelLists} None (Some k) = is in absurd (cc clash)
text_places_none o unlisted (l ∷ ls) k is = by (size_in l) refl
  where
    reads_as : (r : Option ℕ) → size_in l ≡ r
        → model_of o (l ∷ ls) ≡ option_and_then (λ n. model_body o (empty_body n) ls) r
    reads_as r first = ap (option_and_then (λ n. model_body o (empty_body n) ls)) first

    by : (r : Option ℕ) → size_in l ≡ r → list_all places_none (l ∷ ls) ≡ true
    by None bad =
        let clash : ◌≡◌ {A = Option ModelLists} None (Some k) = sym (reads_as None bad) ∙ is in absurd (cc clash)
    by (Some n) good =
        and_from (places_none l) (list_all places_none ls) (size_places_none l n good)
        (body_places_none o unlisted (empty_body n) ls k (sym (reads_as (Some n) good) ∙ is))
