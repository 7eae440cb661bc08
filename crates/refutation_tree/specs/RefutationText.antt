-- The text of a refutation in a certificate, from its line `refutation` on, and what it stands for.
use Rattle.std.specs.Prelude.{ℕ, ◌+◌, Bool, true, false, ◌&&◌, nat_eq, nat_lt, nat_le, List, [], ◌∷◌, ◌++◌, length}
use Rattle.std.specs.Prelude.{codes, position, Option, Some, None, option_map, option_and_then, if◌then◌else◌}
use Rattle.std.specs.List.{list_all}
use Rattle.std.specs.Str.{bytes_eq}
use Rattle.std.specs.FinSet as set
use Rattle.axiom_sets.specs.NumberSets.{NumberSet}
use Rattle.axiom_sets.specs.Sets.{Limited}
use Rattle.certificate_lines.specs.Lines.{words, number_in}
use Rattle.certificate_lines.specs.Names.{name_place}
use Rattle.certificate_lines.specs.Body.{after_line, read_body}
use Rattle.certificate_lines.specs.Listed.{Listed}
use Rattle.shq_nnf.specs.TheoryRows.{is_ascending}
use Rattle.shq_nnf.specs.Shape.{Shape}
use Rattle.shq_nnf.specs.Shape.Shape.{top, bottom, name, not_name, intersection, union, some_of, all_of}
use Rattle.shq_nnf.specs.Shape.Shape.{at_least, at_most}
use Rattle.shq_nnf.specs.Line.{Line}
use Rattle.shq_nnf.specs.Line.Line.{start_line, and_line, or_line, all_line, carry_line, row_line, range_line}
use Rattle.shq_nnf.specs.Line.Line.{some_line, least_line, choose_line, pair_line, bottom_line, clash_line}
use Rattle.shq_nnf.specs.Line.Line.{most_line, fact_line, differ_line}
use Rattle.refutation_tree.specs.Shapes.{admits}
use Rattle.refutation_tree.specs.RuleLine.{names_concepts}
use Rattle.refutation_tree.specs.RefutationLists.{RefutationLists}
use Rattle.refutation_tree.specs.Keywords.{shape_kind, line_kind}
use Rattle.refutation_tree.specs.declared.keywords.ShapeKind.{ShapeKind}
use Rattle.refutation_tree.specs.declared.keywords.ShapeKind.TheVariants as S
use Rattle.refutation_tree.specs.declared.keywords.LineKind.{LineKind}
use Rattle.refutation_tree.specs.declared.keywords.LineKind.TheVariants as L
use Rattle.refutation_tree.specs.declared.fields.Restriction.{Restriction}
use Rattle.refutation_tree.specs.declared.fields.Counted.{Counted}

-- ---- words

-- the numbers of words
abbrev pub numbers_in : List (List ℕ) → Option (List ℕ)
numbers_in [] = Some []
numbers_in (w ∷ ws) = elim (number_in w) [ None ↦ None | Some n ↦ option_map (λ ns. n ∷ ns) (numbers_in ws) ]

-- there is a number, and it is n
abbrev pub is_number : ℕ → Option ℕ → Bool
is_number n None = false
is_number n (Some m) = nat_eq m n

-- ---- the line of axioms

-- numbers of axioms of the document, strictly ascending
abbrev pub are_axiom_numbers : ℕ → List ℕ → Bool
are_axiom_numbers count ns = list_all (λ n. nat_lt 0 n && nat_le n count) ns && is_ascending ns

-- the set with some numbers more
abbrev pub with_numbers : List ℕ → NumberSet → NumberSet
with_numbers [] s = s
with_numbers (n ∷ ns) s = with_numbers ns (set.insert s n)

-- the set of these numbers, among those of so many axioms
abbrev pub axiom_set : ℕ → List ℕ → Limited
axiom_set count ns = record { limit = count; members = with_numbers ns set.empty }

-- the set of these numbers, where they are ascending numbers of axioms
abbrev pub axioms_numbered : ℕ → List ℕ → Option Limited
axioms_numbered count ns = if are_axiom_numbers count ns then Some (axiom_set count ns) else None

-- `axioms K ..`
abbrev pub axioms_line : ℕ → List (List ℕ) → Option Limited
axioms_line count [] = None
axioms_line count (k ∷ ws) =
    if bytes_eq k (codes "axioms") then option_and_then (axioms_numbered count) (numbers_in ws) else None

-- ---- concept lines

-- a listed class alone
abbrev pub class_in : Listed → List (List ℕ) → Option ℕ
class_in o (w ∷ []) = name_place o.classes w
class_in o _ = None

-- a listed role and a number
abbrev pub restriction_in : Listed → List (List ℕ) → Option Restriction
restriction_in o (r ∷ c ∷ []) =
    option_and_then (λ role. option_map (λ filler. record { role = role; filler = filler }) (number_in c))
    (name_place o.roles r)
restriction_in o _ = None

-- a cardinality before them
abbrev pub counted_in : Listed → List (List ℕ) → Option Counted
counted_in o [] = None
counted_in o (n ∷ ws) =
    option_and_then (λ count. option_map (λ rest. record { count = count; rest = rest }) (restriction_in o ws))
    (number_in n)

-- nothing more
abbrev pub when_none : {A : Type 0} → List (List ℕ) → A → Option A
when_none [] a = Some a
when_none (w ∷ ws) a = None

-- the shape of a kind with as many fields as each of its kind has
abbrev pub short_shape : Listed → ShapeKind → List (List ℕ) → Option Shape
short_shape o S.Top ws = when_none ws top
short_shape o S.Bottom ws = when_none ws bottom
short_shape o S.Name ws = option_map name (class_in o ws)
short_shape o S.NotName ws = option_map not_name (class_in o ws)
short_shape o S.And ws = None
short_shape o S.Or ws = None
short_shape o S.SomeOf ws = option_map (λ q. some_of q.role q.filler) (restriction_in o ws)
short_shape o S.AllOf ws = option_map (λ q. all_of q.role q.filler) (restriction_in o ws)
short_shape o S.Least ws = option_map (λ q. at_least q.count q.rest.role q.rest.filler) (counted_in o ws)
short_shape o S.Most ws = option_map (λ q. at_most q.count q.rest.role q.rest.filler) (counted_in o ws)

-- the shape of a kind that words say
abbrev pub shape_in : Listed → ShapeKind → List (List ℕ) → Option Shape
shape_in o S.And ws = option_map intersection (numbers_in ws)
shape_in o S.Or ws = option_map union (numbers_in ws)
shape_in o kind ws = short_shape o kind ws

-- `concept K KIND ..`, where K is the number n
abbrev pub concept_in : Listed → ℕ → List (List ℕ) → Option Shape
concept_in o n (c ∷ k ∷ kind ∷ ws) =
    if is_number n (number_in k) then option_and_then (λ s. shape_in o s ws) (shape_kind kind) else None
concept_in o n _ = None

-- the concept after a count of others
abbrev pub next_concept_in : Listed → ℕ → List (List ℕ) → Option Shape
next_concept_in o count ws = concept_in o (count + 1) ws

-- ---- rule lines

-- the number, where there is just one
abbrev pub one_of : List ℕ → Option ℕ
one_of (x ∷ []) = Some x
one_of _ = None

-- the two numbers, where there are just two
abbrev pub two_of : List ℕ → Option (ℕ × ℕ)
two_of (x ∷ y ∷ []) = Some (x, y)
two_of _ = None

-- the three numbers, where there are just three
abbrev pub three_of : List ℕ → Option (ℕ × ℕ × ℕ)
three_of (x ∷ y ∷ z ∷ []) = Some (x, y, z)
three_of _ = None

-- the rule line `start`, where no number stands behind the word
abbrev pub start_in : List ℕ → Option Line
start_in [] = Some start_line
start_in _ = None

-- a line of as many numbers as each line of its kind has
abbrev pub short_line : LineKind → List ℕ → Option Line
short_line L.Start ns = start_in ns
short_line L.And ns = option_map (λ t. and_line t.0 t.1) (two_of ns)
short_line L.Or ns = option_map (λ t. or_line t.0 t.1) (two_of ns)
short_line L.All ns = option_map (λ t. all_line t.0 t.1 t.2) (three_of ns)
short_line L.Carry ns = None
short_line L.Row ns = None
short_line L.Range ns = option_map (λ t. range_line t.0 t.1 t.2) (three_of ns)
short_line L.SomeOf ns = option_map (λ t. some_line t.0 t.1 t.2) (three_of ns)
short_line L.Least ns = option_map (λ t. least_line t.0 t.1 t.2) (three_of ns)
short_line L.Choose ns = option_map (λ t. choose_line t.0 t.1) (two_of ns)
short_line L.Pair ns = option_map (λ t. pair_line t.0 t.1) (two_of ns)
short_line L.Bottom ns = option_map bottom_line (one_of ns)
short_line L.Clash ns = option_map (λ t. clash_line t.0 t.1) (two_of ns)
short_line L.Most ns = None
short_line L.Fact ns = option_map (λ t. fact_line t.0 t.1) (two_of ns)
short_line L.Differ ns = option_map (λ t. differ_line t.0 t.1) (two_of ns)

-- `X A P I ..`
abbrev pub row_in : List ℕ → Option Line
row_in (x ∷ a ∷ p ∷ is) = Some (row_line x a p is)
row_in _ = None

-- `X C Y ..`, with one node Y at least
abbrev pub most_in : List ℕ → Option Line
most_in (x ∷ c ∷ y ∷ ys) = Some (most_line x c (y ∷ ys))
most_in _ = None

-- the rule line of a kind with these numbers behind its name, if there is one
abbrev pub numbered_line : LineKind → List ℕ → Option Line
numbered_line L.Row ns = row_in ns
numbered_line L.Most ns = most_in ns
numbered_line kind ns = short_line kind ns

-- `X Y ROLE C`
abbrev pub carry_in : Listed → List (List ℕ) → Option Line
carry_in o (x ∷ y ∷ ws) =
    option_and_then
    (λ m. option_and_then (λ n. option_map (λ q. carry_line m n q.role q.filler) (restriction_in o ws)) (number_in y))
    (number_in x)
carry_in o _ = None

-- the rule line of a kind with these words behind its name, if there is one
abbrev pub rule_in : Listed → LineKind → List (List ℕ) → Option Line
rule_in o L.Carry ws = carry_in o ws
rule_in o kind ws = option_and_then (numbered_line kind) (numbers_in ws)

-- the rule line that some words are, if they are one
abbrev pub rule_line : Listed → List (List ℕ) → Option Line
rule_line o [] = None
rule_line o (k ∷ ws) = option_and_then (λ kind. rule_in o kind ws) (line_kind k)

-- ---- the lines of a text

-- one concept more, whose shape is new
abbrev pub with_shape : RefutationLists → Shape → Option RefutationLists
with_shape k s = if admits k.shapes s then Some (record k { shapes = k.shapes ++ s ∷ [] }) else None

-- one rule line more, whose concepts are there
abbrev pub with_line : RefutationLists → Line → Option RefutationLists
with_line k line = if names_concepts k.shapes line then Some (record k { lines = k.lines ++ line ∷ [] }) else None

-- concept lines stand before all rule lines
abbrev pub concept_read : Listed → RefutationLists → List Line → List (List ℕ) → Option RefutationLists
concept_read o k [] ws = option_and_then (with_shape k) (concept_in o (length k.shapes + 1) ws)
concept_read o k (line ∷ lines) ws = None

-- what was read after a concept line, if it is one that may stand there
abbrev pub concept_added : Listed → RefutationLists → List (List ℕ) → Option RefutationLists
concept_added o k ws = concept_read o k k.lines ws

-- what was read after a rule line, if it is one
abbrev pub rule_added : Listed → RefutationLists → List (List ℕ) → Option RefutationLists
rule_added o k ws = option_and_then (with_line k) (rule_line o ws)

-- the line begins with the word `concept`
abbrev pub is_concept_line : List (List ℕ) → Bool
is_concept_line [] = false
is_concept_line (k ∷ ws) = bytes_eq k (codes "concept")

-- what was read after a line, given as its words: a concept line or a rule line
abbrev pub refutation_words_read : Listed → RefutationLists → List (List ℕ) → Option RefutationLists
refutation_words_read o k ws = if is_concept_line ws then concept_added o k ws else rule_added o k ws

-- what was read after a line
abbrev pub refutation_line_read : Listed → RefutationLists → List ℕ → Option RefutationLists
refutation_line_read o k line = refutation_words_read o k (words line)

-- the lines after that of the axioms: concept lines, rule lines, then the line `end`, and then blank lines
abbrev pub refutation_body : Listed → RefutationLists → List (List ℕ) → Option RefutationLists
refutation_body o k ls = read_body (refutation_line_read o) (λ last. last) k ls

-- a refutation without concepts and lines
abbrev pub begun : Limited → RefutationLists
begun axioms = record { axioms = axioms; shapes = []; lines = [] }

-- the set of axioms that a line `axioms` names
abbrev pub axioms_in : Listed → List ℕ → Option Limited
axioms_in o line = axioms_line (length o.axioms) (words line)

-- the refutation that lines from `axioms` on are, if they are one
abbrev pub axioms_from : Listed → List (List ℕ) → Option RefutationLists
axioms_from o ls = after_line (axioms_in o) (λ a. refutation_body o (begun a)) ls

-- `refutation`
abbrev pub head_in : List ℕ → Option (Unit {0})
head_in line = if bytes_eq line (codes "refutation") then Some tt else None

-- the refutation that the lines stand for, where they are the text of one
abbrev pub refutation_of : Listed → List (List ℕ) → Option RefutationLists
refutation_of o ls = after_line head_in (λ u. axioms_from o) ls
