-- Rule lines are read back.
use Rattle.std.proofs.Common.{◌≡◌, ℕ, ◌^◌, true, false, List, [], ◌∷◌, ◌++◌, length, refl, ap, ◌∙◌, Some, None}
use Rattle.std.proofs.Common.{option_map}
use Rattle.std.specs.Prelude.{nat_lt, codes, decimal, option_and_then, if◌then◌else◌}
use Rattle.std.specs.List.{list_all, flat_map}
use Rattle.std.specs.Str.{bytes_eq}
use Rattle.std.proofs.lemmas.Bool.{and_parts, and_from}
use Rattle.certificate_lines.specs.Lines.{words, number_in}
use Rattle.certificate_lines.specs.Body.{is_end_line}
use Rattle.certificate_lines.specs.Written.{is_line}
use Rattle.certificate_lines.specs.Listed.{Listed}
use Rattle.shq_nnf.specs.Line.{Line}
use Rattle.shq_nnf.specs.Line.Line.{start_line, and_line, or_line, all_line, carry_line, row_line, range_line}
use Rattle.shq_nnf.specs.Line.Line.{some_line, least_line, choose_line, pair_line, bottom_line, clash_line}
use Rattle.shq_nnf.specs.Line.Line.{most_line, fact_line, differ_line}
use Rattle.certificate_lines.specs.Names.{is_word_byte, AreNames}
use Rattle.certificate_lines.proofs.Plain.{plain_words, plain_line}
use Rattle.refutation_tree.specs.RuleLine.{names_concepts}
use Rattle.refutation_tree.specs.RefutationLists.{RefutationLists}
use Rattle.refutation_tree.specs.Keywords.{line_kind}
use Rattle.refutation_tree.specs.RefutationText.{restriction_in, numbered_line, rule_in, rule_line, concept_read}
use Rattle.refutation_tree.specs.RefutationText.{with_line, refutation_words_read, refutation_line_read}
use Rattle.refutation_tree.specs.Written.{listed_word, line_keyword, line_fields, rule_text, line_is_listed}
use Rattle.refutation_tree.specs.ReadBack.{has_nodes, is_small}
use Rattle.refutation_tree.specs.declared.keywords.LineKind.{LineKind}
use Rattle.refutation_tree.specs.declared.keywords.LineKind.TheVariants as L
use Rattle.refutation_tree.specs.declared.fields.Restriction.{Restriction}
use Rattle.refutation_tree.proofs.FieldsBack.{are_small, number_back, numbers_back, number_plain, numbers_plain}
use Rattle.refutation_tree.proofs.ConceptsBack.{restriction_back, restriction_plain}

-- the kind of a line
abbrev kind_of : Line → LineKind
kind_of start_line = L.Start
kind_of (and_line x c) = L.And
kind_of (or_line x c) = L.Or
kind_of (all_line x y c) = L.All
kind_of (carry_line x y r c) = L.Carry
kind_of (row_line x a p is) = L.Row
kind_of (range_line x y a) = L.Range
kind_of (some_line x y c) = L.SomeOf
kind_of (least_line x y c) = L.Least
kind_of (choose_line y c) = L.Choose
kind_of (pair_line y z) = L.Pair
kind_of (bottom_line x) = L.Bottom
kind_of (clash_line x c) = L.Clash
kind_of (most_line x c ys) = L.Most
kind_of (fact_line a p) = L.Fact
kind_of (differ_line y z) = L.Differ

-- what its keyword says
record IsKeywordOf (line : Line) : Type 0 where
  kind : line_kind (line_keyword line) ≡ Some (kind_of line)
  plain : list_all is_word_byte (line_keyword line) ≡ true
  no_concept : bytes_eq (line_keyword line) (codes "concept") ≡ false
  no_end : (more : List ℕ) → is_end_line (line_keyword line ++ more) ≡ false

keyword_is : (line : Line) → IsKeywordOf line
unfolding line_kind
keyword_is start_line = record { kind = refl; plain = refl; no_concept = refl; no_end = λ more. refl }
keyword_is (and_line x c) = record { kind = refl; plain = refl; no_concept = refl; no_end = λ more. refl }
keyword_is (or_line x c) = record { kind = refl; plain = refl; no_concept = refl; no_end = λ more. refl }
keyword_is (all_line x y c) = record { kind = refl; plain = refl; no_concept = refl; no_end = λ more. refl }
keyword_is (carry_line x y r c) = record { kind = refl; plain = refl; no_concept = refl; no_end = λ more. refl }
keyword_is (row_line x a p is) = record { kind = refl; plain = refl; no_concept = refl; no_end = λ more. refl }
keyword_is (range_line x y a) = record { kind = refl; plain = refl; no_concept = refl; no_end = λ more. refl }
keyword_is (some_line x y c) = record { kind = refl; plain = refl; no_concept = refl; no_end = λ more. refl }
keyword_is (least_line x y c) = record { kind = refl; plain = refl; no_concept = refl; no_end = λ more. refl }
keyword_is (choose_line y c) = record { kind = refl; plain = refl; no_concept = refl; no_end = λ more. refl }
keyword_is (pair_line y z) = record { kind = refl; plain = refl; no_concept = refl; no_end = λ more. refl }
keyword_is (bottom_line x) = record { kind = refl; plain = refl; no_concept = refl; no_end = λ more. refl }
keyword_is (clash_line x c) = record { kind = refl; plain = refl; no_concept = refl; no_end = λ more. refl }
keyword_is (most_line x c ys) = record { kind = refl; plain = refl; no_concept = refl; no_end = λ more. refl }
keyword_is (fact_line a p) = record { kind = refl; plain = refl; no_concept = refl; no_end = λ more. refl }
keyword_is (differ_line y z) = record { kind = refl; plain = refl; no_concept = refl; no_end = λ more. refl }

most_back : (x c : ℕ) (ys : List ℕ) → has_nodes (most_line x c ys) ≡ true
    → numbered_line L.Most (x ∷ c ∷ ys) ≡ Some (most_line x c ys)
most_back x c [] h = cc
most_back x c (y ∷ ys) h = refl

module _ (o : Listed) (classes : AreNames o.classes) (roles : AreNames o.roles) where
  carry_back : (x y r c : ℕ) → nat_lt r (length o.roles) ≡ true → are_small (x ∷ y ∷ c ∷ []) ≡ true
      → rule_in o L.Carry (decimal x ∷ decimal y ∷ listed_word o.roles r ∷ decimal c ∷ []) ≡ Some (carry_line x y r c)
  carry_back x y r c listed small =
      let first = and_parts (nat_lt x (2 ^ 32)) (are_small (y ∷ c ∷ [])) small in
      let second = and_parts (nat_lt y (2 ^ 32)) (are_small (c ∷ [])) first.1 in
      let third = and_parts (nat_lt c (2 ^ 32)) true second.1 in
      let fields = listed_word o.roles r ∷ decimal c ∷ [] in
      ap (option_and_then
      (λ m. option_and_then
      (λ n. option_map (λ (q : Restriction). carry_line m n q.role q.filler) (restriction_in o fields))
      (number_in (decimal y))))
      (number_back x first.0)
      ∙ ap (option_and_then
      (λ n. option_map (λ (q : Restriction). carry_line x n q.role q.filler) (restriction_in o fields)))
      (number_back y second.0)
      ∙ ap (option_map (λ (q : Restriction). carry_line x y q.role q.filler))
      (restriction_back o classes roles r c listed third.0)

  fields_back : (line : Line) → line_is_listed o line ≡ true → has_nodes line ≡ true → is_small line ≡ true
      → rule_in o (kind_of line) (line_fields o line) ≡ Some line
  fields_back start_line listed nodes small = refl
  fields_back (and_line x c) listed nodes small =
      ap (option_and_then (numbered_line L.And)) (numbers_back (x ∷ c ∷ []) small)
  fields_back (or_line x c) listed nodes small =
      ap (option_and_then (numbered_line L.Or)) (numbers_back (x ∷ c ∷ []) small)
  fields_back (all_line x y c) listed nodes small =
      ap (option_and_then (numbered_line L.All)) (numbers_back (x ∷ y ∷ c ∷ []) small)
  fields_back (carry_line x y r c) listed nodes small = carry_back x y r c listed small
  fields_back (row_line x a p is) listed nodes small =
      ap (option_and_then (numbered_line L.Row)) (numbers_back (x ∷ a ∷ p ∷ is) small)
  fields_back (range_line x y a) listed nodes small =
      ap (option_and_then (numbered_line L.Range)) (numbers_back (x ∷ y ∷ a ∷ []) small)
  fields_back (some_line x y c) listed nodes small =
      ap (option_and_then (numbered_line L.SomeOf)) (numbers_back (x ∷ y ∷ c ∷ []) small)
  fields_back (least_line x y c) listed nodes small =
      ap (option_and_then (numbered_line L.Least)) (numbers_back (x ∷ y ∷ c ∷ []) small)
  fields_back (choose_line y c) listed nodes small =
      ap (option_and_then (numbered_line L.Choose)) (numbers_back (y ∷ c ∷ []) small)
  fields_back (pair_line y z) listed nodes small =
      ap (option_and_then (numbered_line L.Pair)) (numbers_back (y ∷ z ∷ []) small)
  fields_back (bottom_line x) listed nodes small =
      ap (option_and_then (numbered_line L.Bottom)) (numbers_back (x ∷ []) small)
  fields_back (clash_line x c) listed nodes small =
      ap (option_and_then (numbered_line L.Clash)) (numbers_back (x ∷ c ∷ []) small)
  fields_back (most_line x c ys) listed nodes small =
      ap (option_and_then (numbered_line L.Most)) (numbers_back (x ∷ c ∷ ys) small) ∙ most_back x c ys nodes
  fields_back (fact_line a p) listed nodes small =
      ap (option_and_then (numbered_line L.Fact)) (numbers_back (a ∷ p ∷ []) small)
  fields_back (differ_line y z) listed nodes small =
      ap (option_and_then (numbered_line L.Differ)) (numbers_back (y ∷ z ∷ []) small)

  carry_plain : (x y r c : ℕ) → nat_lt r (length o.roles) ≡ true → are_small (x ∷ y ∷ c ∷ []) ≡ true
      → list_all (list_all is_word_byte) (decimal x ∷ decimal y ∷ listed_word o.roles r ∷ decimal c ∷ []) ≡ true
  carry_plain x y r c listed small =
      let first = and_parts (nat_lt x (2 ^ 32)) (are_small (y ∷ c ∷ [])) small in
      let second = and_parts (nat_lt y (2 ^ 32)) (are_small (c ∷ [])) first.1 in
      and_from (list_all is_word_byte (decimal x))
      (list_all (list_all is_word_byte) (decimal y ∷ listed_word o.roles r ∷ decimal c ∷ [])) (number_plain x first.0)
      (and_from (list_all is_word_byte (decimal y))
      (list_all (list_all is_word_byte) (listed_word o.roles r ∷ decimal c ∷ [])) (number_plain y second.0)
      (restriction_plain o classes roles r c listed second.1))

  fields_plain : (line : Line) → line_is_listed o line ≡ true → is_small line ≡ true
      → list_all (list_all is_word_byte) (line_fields o line) ≡ true
  fields_plain (carry_line x y r c) listed small = carry_plain x y r c listed small
  fields_plain start_line listed small = refl
  fields_plain (and_line x c) listed small = numbers_plain (x ∷ c ∷ []) small
  fields_plain (or_line x c) listed small = numbers_plain (x ∷ c ∷ []) small
  fields_plain (all_line x y c) listed small = numbers_plain (x ∷ y ∷ c ∷ []) small
  fields_plain (row_line x a p is) listed small = numbers_plain (x ∷ a ∷ p ∷ is) small
  fields_plain (range_line x y a) listed small = numbers_plain (x ∷ y ∷ a ∷ []) small
  fields_plain (some_line x y c) listed small = numbers_plain (x ∷ y ∷ c ∷ []) small
  fields_plain (least_line x y c) listed small = numbers_plain (x ∷ y ∷ c ∷ []) small
  fields_plain (choose_line y c) listed small = numbers_plain (y ∷ c ∷ []) small
  fields_plain (pair_line y z) listed small = numbers_plain (y ∷ z ∷ []) small
  fields_plain (bottom_line x) listed small = numbers_plain (x ∷ []) small
  fields_plain (clash_line x c) listed small = numbers_plain (x ∷ c ∷ []) small
  fields_plain (most_line x c ys) listed small = numbers_plain (x ∷ c ∷ ys) small
  fields_plain (fact_line a p) listed small = numbers_plain (a ∷ p ∷ []) small
  fields_plain (differ_line y z) listed small = numbers_plain (y ∷ z ∷ []) small

  module _ (line : Line) (listed : line_is_listed o line ≡ true) (nodes : has_nodes line ≡ true)
      (small : is_small line ≡ true) where
    all_plain : list_all (list_all is_word_byte) (line_keyword line ∷ line_fields o line) ≡ true
    all_plain =
        and_from (list_all is_word_byte (line_keyword line)) (list_all (list_all is_word_byte) (line_fields o line))
        (keyword_is line).plain (fields_plain line listed small)

    pub rule_is_line : is_line (rule_text o line) ≡ true
    rule_is_line = plain_line (line_keyword line) (line_fields o line) all_plain

    rule_words : words (rule_text o line) ≡ line_keyword line ∷ line_fields o line
    rule_words = plain_words (line_keyword line) (line_fields o line) all_plain

    rule_back : rule_line o (line_keyword line ∷ line_fields o line) ≡ Some line
    rule_back =
        ap (option_and_then (λ kind. rule_in o kind (line_fields o line))) (keyword_is line).kind
        ∙ fields_back line listed nodes small

    pub line_back : (k : RefutationLists) → names_concepts k.shapes line ≡ true
        → refutation_line_read o k (rule_text o line) ≡ Some (record k { lines = k.lines ++ line ∷ [] })
    line_back k known =
        ap (refutation_words_read o k) rule_words
        ∙ ap (λ b. if b then concept_read o k k.lines (line_keyword line ∷ line_fields o line)
        else option_and_then (with_line k) (rule_line o (line_keyword line ∷ line_fields o line)))
        (keyword_is line).no_concept
        ∙ ap (option_and_then (with_line k)) rule_back
        ∙ ap (λ b. if b then Some (record k { lines = k.lines ++ line ∷ [] }) else None) known

    pub line_goes_on : is_end_line (rule_text o line) ≡ false
    line_goes_on = (keyword_is line).no_end (flat_map (λ w. 32 ∷ w) (line_fields o line))
