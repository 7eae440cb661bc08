-- The tests of class expressions and roles in the order of the walk, and what they stand for.
use Rattle.std.specs.Prelude.{◌≡◌, ℕ, ◌+◌, Bool, true, false, ◌&&◌, ◌||◌, List, [], ◌∷◌, ◌++◌, drop, length, Option}
use Rattle.std.specs.Prelude.{Some, None, nat_le, nat_lt, nat_eq, position, codes, if◌then◌else◌}
use Rattle.std.specs.List.{list_all}
use Rattle.std.specs.Str.{bytes_eq}
use Rattle.std.specs.Str.Parse.{digits_value}
use Rattle.shq_terms.specs.Concept.{Concept, top, bottom, name, complement, intersection, union, some_of, all_of}
use Rattle.shq_terms.specs.Concept.{at_least, at_most, exactly, Parts, no_parts, part}
use Rattle.shq_terms.specs.Uses.{uses_listed, parts_use_listed, axiom_uses_listed}
use Rattle.shq_terms.specs.declared.axioms.Axiom.{Axiom}
use Rattle.ofn_tree.specs.Items.{Item, name_item, iri_item, literal_item, sign_item, group_item, Items, no_items, item}
use Rattle.ofn_tree.specs.Items.{items_of}
use Rattle.ofn_expressions.specs.Counts.{Counts}
use Rattle.ofn_expressions.specs.Walk.{Test, shape, outside, nodes, class, role, number}
use Rattle.ofn_expressions.specs.Names.{Prefix, item_line, name_tests, iri_of}
use Rattle.ofn_expressions.specs.Constructs.{excluded_role, excluded_role_name}
use Rattle.ofn_expressions.specs.Keywords.{class_keyword}
use Rattle.ofn_expressions.specs.declared.construct.Construct.{Construct}
use Rattle.ofn_expressions.specs.declared.refusal.Refusal.{Refusal}
use Rattle.ofn_expressions.specs.declared.refusal.Refusal.TheVariants.{Outside, BadShape}
use Rattle.ofn_expressions.specs.declared.keywords.ClassKeyword.{ClassKeyword}
use Rattle.ofn_expressions.specs.declared.keywords.ClassKeyword.TheVariants.{Intersection, Union, Complement}
use Rattle.ofn_expressions.specs.declared.keywords.ClassKeyword.TheVariants.{Restriction, Cardinality}
use Rattle.ofn_expressions.specs.declared.keywords.Quantifier.{Quantifier}
use Rattle.ofn_expressions.specs.declared.keywords.Quantifier.TheVariants as Q
use Rattle.ofn_expressions.specs.declared.keywords.Bound.{Bound}
use Rattle.ofn_expressions.specs.declared.keywords.Bound.TheVariants as B
use Rattle.ofn_expressions.specs.declared.keywords.Keyword.{Keyword}
use Rattle.ofn_expressions.specs.declared.keywords.Keyword.TheVariants.{Class, Excluded, Unknown}

-- how many items there are
abbrev pub item_count : Items → ℕ
item_count no_items = 0
item_count (item i is) = item_count is + 1

-- how many items a keyword has
abbrev pub fits : ClassKeyword → ℕ → Bool
fits Intersection n = nat_le 2 n
fits Union n = nat_le 2 n
fits Complement n = nat_eq n 1
fits (Restriction q) n = nat_eq n 2
fits (Cardinality b) n = nat_eq n 2 || nat_eq n 3

-- By how many nodes a group raises the count. A cardinality of two items has the filler `owl:Thing`, which is a node
-- too.
abbrev pub node_count : ClassKeyword → ℕ → ℕ
node_count (Cardinality b) n = if nat_eq n 2 then 2 else 1
node_count _ n = 1

-- names of classes

-- the bytes of an IRI are these
unfoldable pub is_spelled : List ℕ → List ℕ → Bool
is_spelled iri word = bytes_eq iri word

-- the IRI is that of owl:Thing
abbrev pub is_thing : List ℕ → Bool
is_thing iri = is_spelled iri (codes "http://www.w3.org/2002/07/owl#Thing")

-- the IRI is that of owl:Nothing
abbrev pub is_nothing : List ℕ → Bool
is_nothing iri = is_spelled iri (codes "http://www.w3.org/2002/07/owl#Nothing")

-- `owl:Thing` and `owl:Nothing` are never listed
abbrev pub listed_class : ℕ → List ℕ → List Test
listed_class line iri = if is_thing iri then [] else if is_nothing iri then [] else class line iri ∷ []

-- a class name that stands for a class expression
abbrev pub class_name_tests : List Prefix → Item → List Test
class_name_tests ps i = name_tests ps i ++ (nodes (item_line i) 1 ∷ listed_class (item_line i) (iri_of ps i))

-- a class name that is declared
abbrev pub declared_class_tests : List Prefix → Item → List Test
declared_class_tests ps i = name_tests ps i ++ listed_class (item_line i) (iri_of ps i)

-- roles

-- the roles that are left out are known by their IRIs
abbrev pub listed_role : Option Construct → ℕ → List ℕ → List Test
listed_role (Some c) line iri = outside line c ∷ []
listed_role None line iri = role line iri ∷ []

-- the tests of a name of a role: those of a name, that it is not left out, and the count of roles
abbrev pub role_name_tests : List Prefix → Item → List Test
role_name_tests ps i = name_tests ps i ++ listed_role (excluded_role_name (iri_of ps i)) (item_line i) (iri_of ps i)

-- the tests of a group where a role stands: it is left out where its keyword is, and else of no shape
abbrev pub role_group_tests : Option Construct → ℕ → List Test
role_group_tests (Some c) line = outside line c ∷ []
role_group_tests None line = shape line false ∷ []

-- the refusal of such a group
abbrev pub role_group_refusal : Option Construct → ℕ → Refusal
role_group_refusal (Some c) line = Outside line c
role_group_refusal None line = BadShape line

-- a role: its name, or a group, which is left out or no role
abbrev pub role_tests : List Prefix → Item → List Test
role_tests ps (group_item (Some w) is line) = role_group_tests (excluded_role w) line
role_tests ps (group_item None is line) = shape line false ∷ []
role_tests ps i = role_name_tests ps i

-- a role that is declared is listed, unless it is one of those that are left out
abbrev pub unless_excluded : Option Construct → ℕ → List ℕ → List Test
unless_excluded (Some c) line iri = []
unless_excluded None line iri = role line iri ∷ []

-- the tests of a role that is declared; a built-in one is not listed
abbrev pub declared_role_tests : List Prefix → Item → List Test
declared_role_tests ps i =
    name_tests ps i ++ unless_excluded (excluded_role_name (iri_of ps i)) (item_line i) (iri_of ps i)

-- the tests of some roles, in order
abbrev pub roles_tests : List Prefix → Items → List Test
roles_tests ps no_items = []
roles_tests ps (item i is) = role_tests ps i ++ roles_tests ps is

-- numbers

-- the byte is a decimal digit
abbrev pub is_digit : ℕ → Bool
is_digit b = nat_le 48 b && nat_le b 57

-- the number that a name of ASCII digits stands for; leading zeros do not matter
abbrev pub cardinality_in : List ℕ → Option ℕ
cardinality_in [] = None
cardinality_in (b ∷ bs) = if list_all is_digit (b ∷ bs) then Some (digits_value 10 (b ∷ bs)) else None

-- the test of a cardinality that was read, or that none could be read
abbrev pub number_tests_of : ℕ → Option ℕ → List Test
number_tests_of line (Some n) = number line n ∷ []
number_tests_of line None = shape line false ∷ []

-- the tests of an item where a cardinality stands
abbrev pub number_tests : Item → List Test
number_tests (name_item w line) = number_tests_of line (cardinality_in w)
number_tests (iri_item w line) = shape line false ∷ []
number_tests (literal_item line) = shape line false ∷ []
number_tests (sign_item k line) = shape line false ∷ []
number_tests (group_item h is line) = shape line false ∷ []

-- groups

-- the tests of some lists, one list after the other
abbrev pub joined : List (List Test) → List Test
joined [] = []
joined (ts ∷ rest) = ts ++ joined rest

-- The items of a group, from the tests of each item as a class expression. Where they are fewer or more than the
-- keyword asks, a test before them fails.
abbrev pub operand_tests : List Prefix → ClassKeyword → Items → List (List Test) → List Test
operand_tests ps (Restriction q) (item r is) each = role_tests ps r ++ joined (drop 1 each)
operand_tests ps (Cardinality b) (item n (item r is)) each = number_tests n ++ (role_tests ps r ++ joined (drop 2 each))
operand_tests ps k is each = joined each

-- what is tested of a group before its items: its keyword, the count of nodes, the number of its items
abbrev pub head_tests : Keyword → ℕ → ℕ → List Test
head_tests (Class k) line count = nodes line (node_count k count) ∷ shape line (fits k count) ∷ []
head_tests (Excluded c) line count = outside line c ∷ []
head_tests Unknown line count = shape line false ∷ []

-- the tests of the items, where the group has a keyword
abbrev pub inner_tests : List Prefix → Keyword → Items → List (List Test) → List Test
inner_tests ps (Class k) is each = operand_tests ps k is each
inner_tests ps (Excluded c) is each = []
inner_tests ps Unknown is each = []

-- the tests of a group where a class expression stands: those of its head, and then those of its items
abbrev pub group_tests : List Prefix → Keyword → ℕ → Items → List (List Test) → List Test
group_tests ps k line is each = head_tests k line (item_count is) ++ inner_tests ps k is each

abbrev mutual
  -- the tests of an item where a class expression stands
  pub class_tests : List Prefix → Item → List Test
  class_tests ps (iri_item iri line) = class_name_tests ps (iri_item iri line)
  class_tests ps (name_item w line) = class_name_tests ps (name_item w line)
  class_tests ps (literal_item line) = class_name_tests ps (literal_item line)
  class_tests ps (sign_item k line) = class_name_tests ps (sign_item k line)
  class_tests ps (group_item None is line) = class_name_tests ps (group_item None is line)
  class_tests ps (group_item (Some w) is line) = group_tests ps (class_keyword w) line is (each_class ps is)

  -- for each item its tests as a class expression
  pub each_class : List Prefix → Items → List (List Test)
  each_class ps no_items = []
  each_class ps (item i is) = class_tests ps i ∷ each_class ps is

-- the tests of class expressions in a row, of the items of a group after its head, and of the whole group by its text
abbrev pub classes_tests : List Prefix → List Item → List Test
classes_tests ps is = joined (each_class ps (items_of is))

-- the tests of the operands of a class expression of this keyword
abbrev pub operands_tests : List Prefix → ClassKeyword → List Item → List Test
operands_tests ps k is = operand_tests ps k (items_of is) (each_class ps (items_of is))

-- the tests of a group by the text of its keyword
abbrev pub text_group_tests : List Prefix → List ℕ → ℕ → List Item → List Test
text_group_tests ps text line is = group_tests ps (class_keyword text) line (items_of is) (each_class ps (items_of is))

-- the tests of a role and a filler, and those of a number, a role and the filler that there may be
abbrev pub restriction_tests : List Prefix → Item → Item → List Test
restriction_tests ps r filler = role_tests ps r ++ class_tests ps filler

-- the tests of a number restriction: its number, its role, and its filler where there is one
abbrev pub cardinality_tests : List Prefix → Item → Item → List Item → List Test
cardinality_tests ps n r filler = number_tests n ++ (role_tests ps r ++ classes_tests ps filler)

-- What items stand for. The number of a name is its place in the list of names.
abbrev pub place : List ℕ → List (List ℕ) → Option ℕ
place w names = position (bytes_eq w) names

-- the number, and 0 where there is none
abbrev pub or_zero : Option ℕ → ℕ
or_zero (Some n) = n
or_zero None = 0

-- the class expression that an IRI names: owl:Thing, owl:Nothing, or the class at its place in the list
abbrev pub class_named : Counts → List ℕ → Concept
class_named s iri =
    if is_thing iri then top else if is_nothing iri then bottom else name (or_zero (place iri s.classes))

-- the number of the role that an IRI names: its place in the list
abbrev pub role_named : Counts → List ℕ → ℕ
role_named s iri = or_zero (place iri s.roles)

-- the number of the role that an item names
abbrev pub role_of : List Prefix → Counts → Item → ℕ
role_of ps s i = role_named s (iri_of ps i)

-- the numbers of the roles that some items name, in order
abbrev pub roles_of : List Prefix → Counts → Items → List ℕ
roles_of ps s no_items = []
roles_of ps s (item i is) = role_of ps s i ∷ roles_of ps s is

-- the number that an item says, and 0 where it says none
abbrev pub cardinality_of : Item → ℕ
cardinality_of (name_item w line) = or_zero (cardinality_in w)
cardinality_of (iri_item w line) = 0
cardinality_of (literal_item line) = 0
cardinality_of (sign_item k line) = 0
cardinality_of (group_item h is line) = 0

-- The first of some parts. A cardinality without a filler has none, and its filler is `owl:Thing`.
abbrev pub first : Parts → Concept
first no_parts = top
first (part c cs) = c

abbrev pub behind_one : Parts → Parts
behind_one no_parts = no_parts
behind_one (part c cs) = cs

-- the restriction 'some' or 'all' over a role and a filler
abbrev pub quantified : Quantifier → ℕ → Concept → Concept
quantified Q.Some r c = some_of r c
quantified Q.All r c = all_of r c

-- the restriction 'at least', 'at most' or 'exactly' by a number, a role and a filler
abbrev pub bounded : Bound → ℕ → ℕ → Concept → Concept
bounded B.AtLeast n r c = at_least n r c
bounded B.AtMost n r c = at_most n r c
bounded B.Exactly n r c = exactly n r c

-- what a group stands for, by its items and by what these stand for as class expressions
abbrev pub made_of : List Prefix → Counts → ClassKeyword → Items → Parts → Concept
made_of ps s Intersection is cs = intersection cs
made_of ps s Union is cs = union cs
made_of ps s Complement is cs = complement (first cs)
made_of ps s (Restriction q) (item r is) cs = quantified q (role_of ps s r) (first (behind_one cs))
made_of ps s (Cardinality b) (item n (item r is)) cs =
    bounded b (cardinality_of n) (role_of ps s r) (first (behind_one (behind_one cs)))
made_of ps s k is cs = top

-- the class expression that a group stands for, by its keyword, its items, and these as class expressions
abbrev pub made : List Prefix → Counts → Keyword → Items → Parts → Concept
made ps s (Class k) is cs = made_of ps s k is cs
made ps s (Excluded c) is cs = top
made ps s Unknown is cs = top

abbrev mutual
  -- the class expression that an item stands for
  pub concept_of : List Prefix → Counts → Item → Concept
  concept_of ps s (iri_item iri line) = class_named s (iri_of ps (iri_item iri line))
  concept_of ps s (name_item w line) = class_named s (iri_of ps (name_item w line))
  concept_of ps s (literal_item line) = class_named s (iri_of ps (literal_item line))
  concept_of ps s (sign_item k line) = class_named s (iri_of ps (sign_item k line))
  concept_of ps s (group_item None is line) = class_named s (iri_of ps (group_item None is line))
  concept_of ps s (group_item (Some w) is line) = made ps s (class_keyword w) is (concepts_of ps s is)

  -- the class expressions that some items stand for, in order
  pub concepts_of : List Prefix → Counts → Items → Parts
  concepts_of ps s no_items = no_parts
  concepts_of ps s (item i is) = part (concept_of ps s i) (concepts_of ps s is)

-- each name keeps its number
pub record Keeps (old new : Counts) : Type 0 where
  pub classes : (w : List ℕ) (k : ℕ) → place w old.classes ≡ Some k → place w new.classes ≡ Some k
  pub roles : (w : List ℕ) (k : ℕ) → place w old.roles ≡ Some k → place w new.roles ≡ Some k
  pub individuals : (w : List ℕ) (k : ℕ) → place w old.individuals ≡ Some k → place w new.individuals ≡ Some k

-- the names of the expression are listed
abbrev pub IsListed : Counts → Concept → Type 0
IsListed s c = uses_listed (length s.classes) (length s.roles) c ≡ true

-- the class expressions use listed names alone
abbrev pub AreListed : Counts → Parts → Type 0
AreListed s cs = parts_use_listed (length s.classes) (length s.roles) cs ≡ true

-- the role is listed
abbrev pub IsListedRole : Counts → ℕ → Type 0
IsListedRole s r = nat_lt r (length s.roles) ≡ true

-- each of the roles is listed
abbrev pub AreListedRoles : Counts → List ℕ → Type 0
AreListedRoles s rs = list_all (λ r. nat_lt r (length s.roles)) rs ≡ true

-- the names of the axiom are listed
abbrev pub IsListedAxiom : Counts → Axiom → Type 0
IsListedAxiom s a = axiom_uses_listed (length s.classes) (length s.roles) (length s.individuals) a ≡ true

-- Which class expression is meant by the names, whatever names are listed later. Its own names are listed.
abbrev pub MeansClass : Counts → (Counts → Concept) → Concept → Type 0
MeansClass s meant c = (later : Counts) → Keeps s later → (meant later ≡ c) × IsListed later c

-- what an item stands for as a class expression
abbrev pub Means : List Prefix → Counts → Item → Concept → Type 0
Means ps s i c = MeansClass s (λ later. concept_of ps later i) c

-- the items stand for these class expressions, also by later counts that keep the names
abbrev pub MeanAll : List Prefix → Counts → Items → Parts → Type 0
MeanAll ps s is cs = (later : Counts) → Keeps s later → (concepts_of ps later is ≡ cs) × AreListed later cs

-- what a group stands for, by its keyword and its items
abbrev pub MeansGroup : List Prefix → Counts → Keyword → List Item → Concept → Type 0
MeansGroup ps s k is c = MeansClass s (λ later. made ps later k (items_of is) (concepts_of ps later (items_of is))) c

-- the same by its parts: a quantifier, a role and a filler, or a bound, a number, a role and the filler that there may
-- be
abbrev pub MeansRestriction : List Prefix → Counts → Quantifier → Item → Item → Concept → Type 0
MeansRestriction ps s q r filler c =
    MeansClass s (λ later. quantified q (role_of ps later r) (concept_of ps later filler)) c

-- a number, a role and a filler, where there is one, stand for this number restriction
abbrev pub MeansCardinality : List Prefix → Counts → Bound → Item → Item → List Item → Concept → Type 0
MeansCardinality ps s b n r filler c =
    MeansClass s
    (λ later. bounded b (cardinality_of n) (role_of ps later r) (first (concepts_of ps later (items_of filler)))) c

-- the filler after a number and a role, or else `owl:Thing`
abbrev pub MeansFiller : List Prefix → Counts → List Item → Concept → Type 0
MeansFiller ps s filler c = MeansClass s (λ later. first (concepts_of ps later (items_of filler))) c

-- what an IRI stands for as a class name, or as a role
abbrev pub NamesClass : Counts → List ℕ → Concept → Type 0
NamesClass s iri c = MeansClass s (λ later. class_named later iri) c

-- the IRI names this role, also by later counts that keep the names
abbrev pub NamesRole : Counts → List ℕ → ℕ → Type 0
NamesRole s iri r = (later : Counts) → Keeps s later → (role_named later iri ≡ r) × IsListedRole later r

-- and what an item does
abbrev pub MeansName : List Prefix → Counts → Item → Concept → Type 0
MeansName ps s i c = NamesClass s (iri_of ps i) c

-- the item names this role, also by later counts that keep the names
abbrev pub MeansRole : List Prefix → Counts → Item → ℕ → Type 0
MeansRole ps s i r = NamesRole s (iri_of ps i) r

-- the items name these roles, also by later counts that keep the names
abbrev pub MeanRoles : List Prefix → Counts → Items → List ℕ → Type 0
MeanRoles ps s is rs = (later : Counts) → Keeps s later → (roles_of ps later is ≡ rs) × AreListedRoles later rs
