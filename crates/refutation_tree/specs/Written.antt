-- The text that is written of a refutation.
use Rattle.std.specs.Prelude.{ℕ, ◌+◌, Bool, true, ◌&&◌, List, [], ◌∷◌, ◌++◌, map, length, codes, decimal, nat_lt}
use Rattle.std.specs.Prelude.{slice_index_or}
use Rattle.std.specs.List.{list_all}
use Rattle.axiom_sets.specs.Sets.{Limited, member_list}
use Rattle.certificate_lines.specs.Names.{name_word}
use Rattle.certificate_lines.specs.Written.{spaced, line_of, fed, text_of}
use Rattle.certificate_lines.specs.Listed.{Listed}
use Rattle.shq_nnf.specs.Shape.{Shape}
use Rattle.shq_nnf.specs.Shape.Shape.{top, bottom, name, not_name, intersection, union, some_of, all_of}
use Rattle.shq_nnf.specs.Shape.Shape.{at_least, at_most}
use Rattle.shq_nnf.specs.Line.{Line}
use Rattle.shq_nnf.specs.Line.Line.{start_line, and_line, or_line, all_line, carry_line, row_line, range_line}
use Rattle.shq_nnf.specs.Line.Line.{some_line, least_line, choose_line, pair_line, bottom_line, clash_line}
use Rattle.shq_nnf.specs.Line.Line.{most_line, fact_line, differ_line}
use Rattle.refutation_tree.specs.RefutationLists.{RefutationLists}

-- the name of a number between brackets
abbrev pub listed_word : List (List ℕ) → ℕ → List ℕ
listed_word names n = name_word (slice_index_or names n [])

-- a class after a keyword, and a role with a concept
abbrev pub class_words : Listed → List ℕ → ℕ → List (List ℕ)
class_words o keyword a = keyword ∷ listed_word o.classes a ∷ []

-- the words of a role and a number of a concept
abbrev pub role_words : Listed → ℕ → ℕ → List (List ℕ)
role_words o r c = listed_word o.roles r ∷ decimal c ∷ []

-- ` KIND ROLE I` and ` KIND N ROLE I`
abbrev pub restriction_text : Listed → List ℕ → ℕ → ℕ → List ℕ
restriction_text o keyword r c = spaced (keyword ∷ role_words o r c)

-- the words of a number restriction: its keyword, its number, its role and its filler
abbrev pub cardinality_text : Listed → List ℕ → ℕ → ℕ → ℕ → List ℕ
cardinality_text o keyword n r c = spaced (keyword ∷ decimal n ∷ role_words o r c)

-- ---- concept lines

-- the word that names the kind of a shape
abbrev pub shape_keyword : Shape → List ℕ
shape_keyword top = codes "top"
shape_keyword bottom = codes "bottom"
shape_keyword (name a) = codes "name"
shape_keyword (not_name a) = codes "not"
shape_keyword (intersection cs) = codes "and"
shape_keyword (union cs) = codes "or"
shape_keyword (some_of r c) = codes "some"
shape_keyword (all_of r c) = codes "all"
shape_keyword (at_least n r c) = codes "least"
shape_keyword (at_most n r c) = codes "most"

-- the words after the keyword
abbrev pub shape_fields : Listed → Shape → List (List ℕ)
shape_fields o top = []
shape_fields o bottom = []
shape_fields o (name a) = listed_word o.classes a ∷ []
shape_fields o (not_name a) = listed_word o.classes a ∷ []
shape_fields o (intersection cs) = map decimal cs
shape_fields o (union cs) = map decimal cs
shape_fields o (some_of r c) = listed_word o.roles r ∷ decimal c ∷ []
shape_fields o (all_of r c) = listed_word o.roles r ∷ decimal c ∷ []
shape_fields o (at_least n r c) = decimal n ∷ listed_word o.roles r ∷ decimal c ∷ []
shape_fields o (at_most n r c) = decimal n ∷ listed_word o.roles r ∷ decimal c ∷ []

-- the keyword and what follows it
abbrev pub shape_words : Listed → Shape → List (List ℕ)
shape_words o s = shape_keyword s ∷ shape_fields o s

-- `concept K KIND ..`
abbrev pub concept_line : Listed → ℕ → Shape → List ℕ
concept_line o n s = line_of (codes "concept") (decimal n ∷ shape_keyword s ∷ shape_fields o s)

-- the line of a concept, ended by a line feed
abbrev pub concept_row : Listed → ℕ → Shape → List ℕ
concept_row o n s = fed (concept_line o n s)

-- the lines of concepts, of which the first has the number n
abbrev pub concept_lines : Listed → ℕ → List Shape → List (List ℕ)
concept_lines o n [] = []
concept_lines o n (s ∷ ss) = concept_line o n s ∷ concept_lines o (n + 1) ss

-- the lines of all concepts
abbrev pub concepts_text : Listed → List Shape → List ℕ
concepts_text o shapes = text_of (concept_lines o 1 shapes)

-- ---- rule lines

-- the word that names the kind of a rule line
abbrev pub line_keyword : Line → List ℕ
line_keyword start_line = codes "start"
line_keyword (and_line x c) = codes "and"
line_keyword (or_line x c) = codes "or"
line_keyword (all_line x y c) = codes "all"
line_keyword (carry_line x y r c) = codes "carry"
line_keyword (row_line x a p is) = codes "row"
line_keyword (range_line x y a) = codes "range"
line_keyword (some_line x y c) = codes "some"
line_keyword (least_line x y c) = codes "least"
line_keyword (choose_line y c) = codes "choose"
line_keyword (pair_line y z) = codes "pair"
line_keyword (bottom_line x) = codes "bottom"
line_keyword (clash_line x c) = codes "clash"
line_keyword (most_line x c ys) = codes "most"
line_keyword (fact_line a p) = codes "fact"
line_keyword (differ_line y z) = codes "differ"

-- the numbers after the keyword
abbrev pub line_numbers : Line → List ℕ
line_numbers start_line = []
line_numbers (and_line x c) = x ∷ c ∷ []
line_numbers (or_line x c) = x ∷ c ∷ []
line_numbers (all_line x y c) = x ∷ y ∷ c ∷ []
line_numbers (carry_line x y r c) = x ∷ y ∷ c ∷ []
line_numbers (row_line x a p is) = x ∷ a ∷ p ∷ is
line_numbers (range_line x y a) = x ∷ y ∷ a ∷ []
line_numbers (some_line x y c) = x ∷ y ∷ c ∷ []
line_numbers (least_line x y c) = x ∷ y ∷ c ∷ []
line_numbers (choose_line y c) = y ∷ c ∷ []
line_numbers (pair_line y z) = y ∷ z ∷ []
line_numbers (bottom_line x) = x ∷ []
line_numbers (clash_line x c) = x ∷ c ∷ []
line_numbers (most_line x c ys) = x ∷ c ∷ ys
line_numbers (fact_line a p) = a ∷ p ∷ []
line_numbers (differ_line y z) = y ∷ z ∷ []

-- the words after the keyword: numbers alone, but for the role of `carry X Y ROLE C`
abbrev pub line_fields : Listed → Line → List (List ℕ)
line_fields o (carry_line x y r c) = decimal x ∷ decimal y ∷ listed_word o.roles r ∷ decimal c ∷ []
line_fields o line = map decimal (line_numbers line)

-- the text of a rule line
abbrev pub rule_text : Listed → Line → List ℕ
rule_text o line = line_of (line_keyword line) (line_fields o line)

-- the lines of all rule lines
abbrev pub rules_text : Listed → List Line → List ℕ
rules_text o lines = text_of (map (rule_text o) lines)

-- ---- the whole text

-- the line `axioms`
abbrev pub axioms_text : Limited → List ℕ
axioms_text axioms = line_of (codes "axioms") (map decimal (member_list axioms))

-- the lines of a refutation, from `refutation` to `end`
abbrev pub refutation_lines : Listed → RefutationLists → List (List ℕ)
refutation_lines o k =
    codes "refutation" ∷ axioms_text k.axioms ∷ concept_lines o 1 k.shapes ++ map (rule_text o) k.lines
    ++ codes "end" ∷ []

-- the line `refutation`, the axioms, the concepts, the rule lines and the line `end`
abbrev pub refutation_text : Listed → RefutationLists → List ℕ
refutation_text o k = text_of (refutation_lines o k)

-- ---- names that are listed

-- the name or role of a shape is listed
abbrev pub shape_is_listed : Listed → Shape → Bool
shape_is_listed o (name a) = nat_lt a (length o.classes)
shape_is_listed o (not_name a) = nat_lt a (length o.classes)
shape_is_listed o (some_of r c) = nat_lt r (length o.roles)
shape_is_listed o (all_of r c) = nat_lt r (length o.roles)
shape_is_listed o (at_least n r c) = nat_lt r (length o.roles)
shape_is_listed o (at_most n r c) = nat_lt r (length o.roles)
shape_is_listed o _ = true

-- the role of a rule line, where it has one, is listed
abbrev pub line_is_listed : Listed → Line → Bool
line_is_listed o start_line = true
line_is_listed o (and_line x c) = true
line_is_listed o (or_line x c) = true
line_is_listed o (all_line x y c) = true
line_is_listed o (carry_line x y r c) = nat_lt r (length o.roles)
line_is_listed o (row_line x a p is) = true
line_is_listed o (range_line x y a) = true
line_is_listed o (some_line x y c) = true
line_is_listed o (least_line x y c) = true
line_is_listed o (choose_line y c) = true
line_is_listed o (pair_line y z) = true
line_is_listed o (bottom_line x) = true
line_is_listed o (clash_line x c) = true
line_is_listed o (most_line x c ys) = true
line_is_listed o (fact_line a p) = true
line_is_listed o (differ_line y z) = true

-- the classes and roles that the refutation names are listed
abbrev pub names_are_listed : Listed → RefutationLists → Bool
names_are_listed o k = list_all (shape_is_listed o) k.shapes && list_all (line_is_listed o) k.lines
