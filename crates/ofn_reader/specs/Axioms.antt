-- The tests of the axioms of an ontology in the order of the walk, and what the axioms say.
use Rattle.std.specs.Prelude.{◌≡◌, ℕ, ◌+◌, ◌-◌, ◌*◌, ◌/◌, Bool, false, List, [], ◌∷◌, ◌++◌, Some, None, nat_eq, nat_le}
use Rattle.shq_terms.specs.Concept.{part_list}
use Rattle.shq_terms.specs.declared.axioms.Axiom.{Axiom}
use Rattle.shq_terms.specs.declared.axioms.Axiom.TheVariants as A
use Rattle.shq_terms.specs.declared.axioms.Numbered.{Numbered}
use Rattle.ofn_tree.specs.Items.{Item, name_item, iri_item, literal_item, sign_item, group_item, Items, no_items, item}
use Rattle.ofn_tree.specs.Items.{items_of}
use Rattle.ofn_expressions.specs.Counts.{Counts, State}
use Rattle.ofn_expressions.specs.Walk.{Test, shape, outside, numbered, parts}
use Rattle.ofn_expressions.specs.Names.{Prefix, iri_of}
use Rattle.ofn_expressions.specs.Classes.{item_count, each_class, joined, class_tests, classes_tests, class_name_tests}
use Rattle.ofn_expressions.specs.Classes.{role_tests, roles_tests, class_named, concept_of, concepts_of, role_of}
use Rattle.ofn_expressions.specs.Classes.{roles_of, Keeps, IsListedAxiom}
use Rattle.ofn_expressions.specs.Individuals.{individual_tests, individuals_tests, individual_of, individuals_of}
use Rattle.ofn_reader.specs.Keywords.{axiom_keyword}
use Rattle.ofn_reader.specs.Groups.{without_annotations}
use Rattle.ofn_reader.specs.Declarations.{declaration_tests}
use Rattle.ofn_reader.specs.declared.keywords.AxiomKind.{AxiomKind}
use Rattle.ofn_reader.specs.declared.keywords.AxiomKind.TheVariants as K
use Rattle.ofn_reader.specs.declared.keywords.AxiomKeyword.{AxiomKeyword}
use Rattle.ofn_reader.specs.declared.keywords.AxiomKeyword.TheVariants as W

-- how many items a kind of axiom has, besides annotations
abbrev pub axiom_fits : AxiomKind → ℕ → Bool
axiom_fits K.SubClassOf n = nat_eq n 2
axiom_fits K.EquivalentClasses n = nat_le 2 n
axiom_fits K.DisjointClasses n = nat_le 2 n
axiom_fits K.DisjointUnion n = nat_le 3 n
axiom_fits K.SubRole n = nat_eq n 2
axiom_fits K.EquivalentRoles n = nat_le 2 n
axiom_fits K.Domain n = nat_eq n 2
axiom_fits K.Range n = nat_eq n 2
axiom_fits K.Functional n = nat_eq n 1
axiom_fits K.Transitive n = nat_eq n 1
axiom_fits K.Member n = nat_eq n 2
axiom_fits K.Pair n = nat_eq n 3
axiom_fits K.SameAll n = nat_le 2 n
axiom_fits K.Different n = nat_le 2 n

-- how many pairs there are of n things
abbrev pub pair_count : ℕ → ℕ
pair_count n = n * (n - 1) / 2

-- How many parts an axiom will have, told by its kind and the number of its items, before they are read. The parts of
-- an axiom are the inclusions and ranges of which a search makes rows, and the facts that an assertion gives; a law of
-- a crate above says that an axiom that is made of so many items has exactly so many. Equivalent classes are each in
-- the next, and the last in the first; disjoint classes are each in the complement of each later one; of a disjoint
-- union, its first class is in the union of the others, each of them is in the first, and they are disjoint.
-- Individuals that are the same are each the same as the next, and those that are different are each apart from each
-- later one.
abbrev pub parts_by_item_count : AxiomKind → ℕ → ℕ
parts_by_item_count K.SubClassOf n = 1
parts_by_item_count K.EquivalentClasses n = n
parts_by_item_count K.DisjointClasses n = pair_count n
parts_by_item_count K.DisjointUnion n = n + pair_count (n - 1)
parts_by_item_count K.SubRole n = 0
parts_by_item_count K.EquivalentRoles n = 0
parts_by_item_count K.Domain n = 1
parts_by_item_count K.Range n = 1
parts_by_item_count K.Functional n = 1
parts_by_item_count K.Transitive n = 0
parts_by_item_count K.Member n = 1
parts_by_item_count K.Pair n = 1
parts_by_item_count K.SameAll n = n - 1
parts_by_item_count K.Different n = pair_count n

-- a role, and then class expressions
abbrev pub role_and_class_tests : List Prefix → Items → List Test
role_and_class_tests ps no_items = []
role_and_class_tests ps (item r is) = role_tests ps r ++ joined (each_class ps is)

-- a class name, and then class expressions
abbrev pub name_and_class_tests : List Prefix → Items → List Test
name_and_class_tests ps no_items = []
name_and_class_tests ps (item c is) = class_name_tests ps c ++ joined (each_class ps is)

-- a class expression, and then individuals
abbrev pub class_and_individual_tests : List Prefix → Items → List Test
class_and_individual_tests ps no_items = []
class_and_individual_tests ps (item c is) = class_tests ps c ++ individuals_tests ps is

-- a role, and then individuals
abbrev pub role_and_individual_tests : List Prefix → Items → List Test
role_and_individual_tests ps no_items = []
role_and_individual_tests ps (item r is) = role_tests ps r ++ individuals_tests ps is

-- The items of an axiom. Where they are fewer or more than its kind asks, a test before them fails.
abbrev pub operand_tests : List Prefix → AxiomKind → Items → List Test
operand_tests ps K.SubClassOf is = joined (each_class ps is)
operand_tests ps K.EquivalentClasses is = joined (each_class ps is)
operand_tests ps K.DisjointClasses is = joined (each_class ps is)
operand_tests ps K.DisjointUnion is = name_and_class_tests ps is
operand_tests ps K.SubRole is = roles_tests ps is
operand_tests ps K.EquivalentRoles is = roles_tests ps is
operand_tests ps K.Domain is = role_and_class_tests ps is
operand_tests ps K.Range is = role_and_class_tests ps is
operand_tests ps K.Functional is = roles_tests ps is
operand_tests ps K.Transitive is = roles_tests ps is
operand_tests ps K.Member is = class_and_individual_tests ps is
operand_tests ps K.Pair is = role_and_individual_tests ps is
operand_tests ps K.SameAll is = individuals_tests ps is
operand_tests ps K.Different is = individuals_tests ps is

-- the same for two or three items, by what each must be, and for a class name before class expressions
abbrev pub class_pair_tests : List Prefix → Item → Item → List Test
class_pair_tests ps c d = class_tests ps c ++ (class_tests ps d ++ [])

-- the tests of two roles
abbrev pub role_pair_tests : List Prefix → Item → Item → List Test
role_pair_tests ps r s = role_tests ps r ++ (role_tests ps s ++ [])

-- the tests of a role and a class expression
abbrev pub role_then_class_tests : List Prefix → Item → Item → List Test
role_then_class_tests ps r c = role_tests ps r ++ (class_tests ps c ++ [])

-- the tests of a class expression and an individual
abbrev pub member_tests : List Prefix → Item → Item → List Test
member_tests ps c a = class_tests ps c ++ (individual_tests ps a ++ [])

-- the tests of a role and two individuals
abbrev pub pair_tests : List Prefix → Item → Item → Item → List Test
pair_tests ps r a b = role_tests ps r ++ (individual_tests ps a ++ (individual_tests ps b ++ []))

-- the tests of a name of a class, and then of class expressions
abbrev pub name_then_classes_tests : List Prefix → Item → List Item → List Test
name_then_classes_tests ps c is = class_name_tests ps c ++ classes_tests ps is

-- what is tested of a numbered axiom before its items: the count of axioms, the number of its items, the count of parts
abbrev pub head_tests : AxiomKind → ℕ → ℕ → List Test
head_tests k line n = numbered line ∷ shape line (axiom_fits k n) ∷ parts line (parts_by_item_count k n) ∷ []

-- the tests of a numbered axiom: those of its head, and then those of its items
abbrev pub numbered_tests : List Prefix → AxiomKind → ℕ → Items → List Test
numbered_tests ps k line is = head_tests k line (item_count is) ++ operand_tests ps k is

-- a group by its keyword, with its items after the annotations in front of them
abbrev pub axiom_group_tests : List Prefix → AxiomKeyword → ℕ → Items → List Test
axiom_group_tests ps (W.Numbered k) line is = numbered_tests ps k line is
axiom_group_tests ps W.Declaration line is = declaration_tests ps line is
axiom_group_tests ps W.Annotation line is = []
axiom_group_tests ps (W.Excluded c) line is = outside line c ∷ []
axiom_group_tests ps W.Unknown line is = shape line false ∷ []

-- the same for items as a list
abbrev pub axiom_items_tests : List Prefix → AxiomKeyword → ℕ → List Item → List Test
axiom_items_tests ps k line is = axiom_group_tests ps k line (items_of is)

-- the tests of an item where an axiom stands
abbrev pub axiom_tests : List Prefix → Item → List Test
axiom_tests ps (group_item (Some w) is line) = axiom_group_tests ps (axiom_keyword w) line (without_annotations is)
axiom_tests ps (group_item None is line) = shape line false ∷ []
axiom_tests ps (name_item w line) = shape line false ∷ []
axiom_tests ps (iri_item w line) = shape line false ∷ []
axiom_tests ps (literal_item line) = shape line false ∷ []
axiom_tests ps (sign_item k line) = shape line false ∷ []

-- the tests of some axioms, in order
abbrev pub axioms_tests : List Prefix → Items → List Test
axioms_tests ps no_items = []
axioms_tests ps (item i is) = axiom_tests ps i ++ axioms_tests ps is

-- what the items of an axiom say, if they are as many as its kind asks

-- the inclusion of two class expressions, from its items
abbrev pub sub_class_made : List Prefix → Counts → Items → List Axiom
sub_class_made ps s (item c (item d is)) = A.SubClassOf (concept_of ps s c) (concept_of ps s d) ∷ []
sub_class_made ps s _ = []

-- the disjoint union, from its items
abbrev pub union_made : List Prefix → Counts → Items → List Axiom
union_made ps s (item c is) = A.DisjointUnion (class_named s (iri_of ps c)) (part_list (concepts_of ps s is)) ∷ []
union_made ps s no_items = []

-- the inclusion of two roles, from its items
abbrev pub sub_role_made : List Prefix → Counts → Items → List Axiom
sub_role_made ps s (item p (item q is)) = A.SubRole (role_of ps s p) (role_of ps s q) ∷ []
sub_role_made ps s _ = []

-- the domain of a role, from its items
abbrev pub domain_made : List Prefix → Counts → Items → List Axiom
domain_made ps s (item r (item c is)) = A.Domain (role_of ps s r) (concept_of ps s c) ∷ []
domain_made ps s _ = []

-- the range of a role, from its items
abbrev pub range_made : List Prefix → Counts → Items → List Axiom
range_made ps s (item r (item c is)) = A.Range (role_of ps s r) (concept_of ps s c) ∷ []
range_made ps s _ = []

-- the axiom that a role is functional, from its items
abbrev pub functional_made : List Prefix → Counts → Items → List Axiom
functional_made ps s (item r is) = A.Functional (role_of ps s r) ∷ []
functional_made ps s no_items = []

-- the axiom that a role is transitive, from its items
abbrev pub transitive_made : List Prefix → Counts → Items → List Axiom
transitive_made ps s (item r is) = A.Transitive (role_of ps s r) ∷ []
transitive_made ps s no_items = []

-- the assertion that an individual is in a class expression, from its items
abbrev pub member_made : List Prefix → Counts → Items → List Axiom
member_made ps s (item c (item a is)) = A.Member (concept_of ps s c) (individual_of ps s a) ∷ []
member_made ps s _ = []

-- the assertion that a role leads from one individual to another, from its items
abbrev pub pair_made : List Prefix → Counts → Items → List Axiom
pair_made ps s (item r (item a (item b is))) =
    A.Pair (role_of ps s r) (individual_of ps s a) (individual_of ps s b) ∷ []
pair_made ps s _ = []

-- the axiom of a kind that items stand for, as a list of one, or of none
abbrev pub axiom_made : List Prefix → Counts → AxiomKind → Items → List Axiom
axiom_made ps s K.SubClassOf is = sub_class_made ps s is
axiom_made ps s K.EquivalentClasses is = A.EquivalentClasses (part_list (concepts_of ps s is)) ∷ []
axiom_made ps s K.DisjointClasses is = A.DisjointClasses (part_list (concepts_of ps s is)) ∷ []
axiom_made ps s K.DisjointUnion is = union_made ps s is
axiom_made ps s K.SubRole is = sub_role_made ps s is
axiom_made ps s K.EquivalentRoles is = A.EquivalentRoles (roles_of ps s is) ∷ []
axiom_made ps s K.Domain is = domain_made ps s is
axiom_made ps s K.Range is = range_made ps s is
axiom_made ps s K.Functional is = functional_made ps s is
axiom_made ps s K.Transitive is = transitive_made ps s is
axiom_made ps s K.Member is = member_made ps s is
axiom_made ps s K.Pair is = pair_made ps s is
axiom_made ps s K.SameAll is = A.SameAll (individuals_of ps s is) ∷ []
axiom_made ps s K.Different is = A.Different (individuals_of ps s is) ∷ []

-- the axioms, each with this line
abbrev pub numbered_at : ℕ → List Axiom → List Numbered
numbered_at line [] = []
numbered_at line (a ∷ more) = record { «axiom» = a; line = line } ∷ numbered_at line more

-- the numbered axiom of a group, if it is one
abbrev pub axiom_group_in : List Prefix → Counts → AxiomKeyword → ℕ → Items → List Numbered
axiom_group_in ps s (W.Numbered k) line is = numbered_at line (axiom_made ps s k is)
axiom_group_in ps s W.Declaration line is = []
axiom_group_in ps s W.Annotation line is = []
axiom_group_in ps s (W.Excluded c) line is = []
axiom_group_in ps s W.Unknown line is = []

-- the numbered axiom that an item stands for, with its line, or none
abbrev pub axiom_in : List Prefix → Counts → Item → List Numbered
axiom_in ps s (group_item (Some w) is line) = axiom_group_in ps s (axiom_keyword w) line (without_annotations is)
axiom_in ps s (group_item None is line) = []
axiom_in ps s (name_item w line) = []
axiom_in ps s (iri_item w line) = []
axiom_in ps s (literal_item line) = []
axiom_in ps s (sign_item k line) = []

-- the numbered axioms of items, in order
abbrev pub axioms_in : List Prefix → Counts → Items → List Numbered
axioms_in ps s no_items = []
axioms_in ps s (item i is) = axiom_in ps s i ++ axioms_in ps s is

-- axioms, by the names that are listed, were read and put last
abbrev pub AddsAxioms : State → State → (Counts → List Numbered) → Type 0
AddsAxioms old new axioms = old.read ++ axioms new.counts ≡ new.read

-- the same whatever names are listed later
abbrev pub AddsAxiomsLater : State → State → (Counts → List Numbered) → Type 0
AddsAxiomsLater old new axioms = (later : Counts) → Keeps new.counts later → old.read ++ axioms later ≡ new.read

-- the same of the axiom of a group, if it is one
abbrev pub AddsGroup : List Prefix → State → State → AxiomKeyword → ℕ → List Item → Type 0
AddsGroup ps old new k line is = AddsAxiomsLater old new (λ later. axiom_group_in ps later k line (items_of is))

-- which axiom the items of a group say, whatever names are listed later
abbrev pub MeansAxiom : List Prefix → Counts → AxiomKind → Items → Axiom → Type 0
MeansAxiom ps s k is a = (later : Counts) → Keeps s later → (axiom_made ps later k is ≡ a ∷ []) × IsListedAxiom later a

-- the same for items as a list
abbrev pub ItemsSay : List Prefix → Counts → AxiomKind → List Item → Axiom → Type 0
ItemsSay ps s k is a = MeansAxiom ps s k (items_of is) a
