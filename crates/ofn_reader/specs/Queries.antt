-- What a text says as a query on a document: an axiom, or a class expression.
use Rattle.std.specs.Prelude.{◌≡◌, ◌≢◌, ℕ, ◌^◌, ◌≤◌, ◌<◌, Bool, true, false, List, [], ◌∷◌, ◌++◌, length, Some, None}
use Rattle.std.specs.Prelude.{Result, Ok, Err, IfOk, nat_eq}
use Rattle.shq_terms.specs.Concept.{Concept, top}
use Rattle.shq_terms.specs.Listed.{Listed}
use Rattle.shq_terms.specs.declared.axioms.Numbered.{Numbered}
use Rattle.shq_terms.specs.declared.axioms.On.{On}
use Rattle.shq_terms.specs.declared.axioms.On.TheVariants.{Any, Individual}
use Rattle.shq_terms.specs.declared.axioms.Query.{Query}
use Rattle.role_box.specs.Counted.{counted_roles, counted_by_query}
use Rattle.role_box.specs.Simple.{are_simple, all_role_axioms}
use Rattle.ofn_tree.specs.Lexemes.{end_line}
use Rattle.ofn_tree.specs.Items.{Item, name_item, iri_item, literal_item, sign_item, group_item, Items, item, items_of}
use Rattle.ofn_expressions.specs.Counts.{Counts}
use Rattle.ofn_expressions.specs.Walk.{Test, shape, outside, simple, after_all, walked, Judged}
use Rattle.ofn_expressions.specs.Names.{Prefix, item_line}
use Rattle.ofn_expressions.specs.Classes.{item_count, each_class, joined, class_tests, concept_of, Keeps, IsListed}
use Rattle.ofn_expressions.specs.Individuals.{individual_of, IsListedIndividual}
use Rattle.ofn_expressions.specs.declared.refusal.Refusal.{Refusal}
use Rattle.ofn_expressions.specs.declared.refusal.Refusal.TheVariants.{BadShape, NotSimple, Limit, NoMemory}
use Rattle.ofn_expressions.specs.declared.refusal.Which.TheVariants as which
use Rattle.ofn_reader.specs.Keywords.{axiom_keyword}
use Rattle.ofn_reader.specs.DocumentContext.{DocumentContext}
use Rattle.ofn_reader.specs.Groups.{without_annotations}
use Rattle.ofn_reader.specs.Axioms.{class_and_individual_tests}
use Rattle.ofn_reader.specs.Texts.{HasItems, IsRefusedBy}
use Rattle.ofn_reader.specs.declared.keywords.AxiomKind.TheVariants as K
use Rattle.ofn_reader.specs.declared.keywords.AxiomKeyword.{AxiomKeyword}
use Rattle.ofn_reader.specs.declared.keywords.AxiomKeyword.TheVariants as W

-- A query is an axiom `SubClassOf` or `ClassAssertion`, which is not numbered and has no parts. One that is left out is
-- outside; each other is no query.
abbrev pub query_group_tests : List Prefix → AxiomKeyword → ℕ → Items → List Test
query_group_tests ps (W.Numbered K.SubClassOf) line is =
    shape line (nat_eq (item_count is) 2) ∷ joined (each_class ps is)
query_group_tests ps (W.Numbered K.Member) line is =
    shape line (nat_eq (item_count is) 2) ∷ class_and_individual_tests ps is
query_group_tests ps (W.Excluded c) line is = outside line c ∷ []
query_group_tests ps _ line is = shape line false ∷ []

-- the same for items as a list
abbrev pub query_items_tests : List Prefix → AxiomKeyword → ℕ → List Item → List Test
query_items_tests ps k line is = query_group_tests ps k line (items_of is)

-- the tests of an item where a query stands
abbrev pub axiom_query_tests : List Prefix → Item → List Test
axiom_query_tests ps (group_item (Some w) is line) =
    query_group_tests ps (axiom_keyword w) line (without_annotations is)
axiom_query_tests ps (group_item None is line) = shape line false ∷ []
axiom_query_tests ps (name_item w line) = shape line false ∷ []
axiom_query_tests ps (iri_item w line) = shape line false ∷ []
axiom_query_tests ps (literal_item line) = shape line false ∷ []
axiom_query_tests ps (sign_item k line) = shape line false ∷ []

-- nothing may stand here
abbrev pub nothing_tests : List Item → List Test
nothing_tests [] = []
nothing_tests (i ∷ is) = shape (item_line i) false ∷ []

-- one item alone, with its tests, in a text that ends on a line
abbrev pub alone_tests : (Item → List Test) → ℕ → List Item → List Test
alone_tests tests end [] = shape end false ∷ []
alone_tests tests end (i ∷ is) = tests i ++ nothing_tests is

-- the tests of a query, and of a class expression, in the order of the text
abbrev pub query_form_tests : List Prefix → ℕ → List Item → List Test
query_form_tests ps end is = alone_tests (axiom_query_tests ps) end is

-- the tests of items of which the first is a class expression, and that are to be no more than one
abbrev pub class_form_tests : List Prefix → ℕ → List Item → List Test
class_form_tests ps end is = alone_tests (class_tests ps) end is

-- the two class expressions of a query on each element
abbrev pub pair_in : List Prefix → Counts → Items → List Query
pair_in ps s (item c (item d is)) = record { sub = concept_of ps s c; sup = concept_of ps s d; on = Any } ∷ []
pair_in ps s _ = []

-- the class expression and the individual of a query on this individual alone: whether it is in the class
abbrev pub member_in : List Prefix → Counts → Items → List Query
member_in ps s (item c (item a is)) =
    record { sub = top; sup = concept_of ps s c; on = Individual (individual_of ps s a) } ∷ []
member_in ps s _ = []

abbrev pub group_query : List Prefix → Counts → AxiomKeyword → Items → List Query
group_query ps s (W.Numbered K.SubClassOf) is = pair_in ps s is
group_query ps s (W.Numbered K.Member) is = member_in ps s is
group_query ps s _ is = []

-- the query that an item stands for, as a list of one, or of none
abbrev pub query_in : List Prefix → Counts → Item → List Query
query_in ps s (group_item (Some w) is line) = group_query ps s (axiom_keyword w) (without_annotations is)
query_in ps s (group_item None is line) = []
query_in ps s (name_item w line) = []
query_in ps s (iri_item w line) = []
query_in ps s (literal_item line) = []
query_in ps s (sign_item k line) = []

-- the query that the first item stands for, as a list of one, or of none
abbrev pub first_query : List Prefix → Counts → List Item → List Query
first_query ps s [] = []
first_query ps s (i ∷ is) = query_in ps s i

-- the class expression that the first item stands for, as a list of one, or of none
abbrev pub first_class : List Prefix → Counts → List Item → List Concept
first_class ps s [] = []
first_class ps s (i ∷ is) = concept_of ps s i ∷ []

-- the line of the first item, or that of the end
abbrev pub first_line : ℕ → List Item → ℕ
first_line end [] = end
first_line end (i ∷ is) = item_line i

-- the roles that the first of these counts
abbrev pub counted_by_first : List Query → List ℕ
counted_by_first [] = []
counted_by_first (q ∷ qs) = counted_by_query q

-- the roles that are counted in the first class expression
abbrev pub counted_in_first : List Concept → List ℕ
counted_in_first [] = []
counted_in_first (c ∷ cs) = counted_roles c

-- that these roles are simple by the axioms of the document
abbrev pub roles_test : List Numbered → ℕ → List ℕ → List Test
roles_test axioms line rs = simple line (are_simple (all_role_axioms axioms) rs) ∷ []

-- the tests of a query on a document with these prefixes, axioms and counts: those in the order of its text, and after
-- them that the roles which it counts are simple
abbrev pub query_tests : List Prefix → List Numbered → Counts → ℕ → List Item → List Test
query_tests ps axioms s end is =
    query_form_tests ps end is
    ++ roles_test axioms (first_line end is)
    (counted_by_first (first_query ps (after_all s (query_form_tests ps end is)) is))

-- the same for a class expression
abbrev pub class_query_tests : List Prefix → List Numbered → Counts → ℕ → List Item → List Test
class_query_tests ps axioms s end is =
    class_form_tests ps end is
    ++ roles_test axioms (first_line end is)
    (counted_in_first (first_class ps (after_all s (class_form_tests ps end is)) is))

-- the counts from which a query on the document goes on
abbrev pub query_start : Listed → ℕ → Counts
query_start o nodes = record {
  axioms = length o.axioms;
  parts = 0;
  nodes = nodes;
  classes = o.classes;
  roles = o.roles;
  individuals = o.individuals;
}

-- the text is a query on a document with these prefixes, axioms and counts, no test of which fails; after it are those
pub record IsQuery (ps : List Prefix) (axioms : List Numbered) (s : Counts) (text : List ℕ) (behind : Counts)
    (q : Query) : Type 0 where
  pub short : length text ≤ 2 ^ 24
  pub items : List Item
  pub end : ℕ
  pub made : HasItems text items end
  pub holds : walked s (query_tests ps axioms s (end_line text) items) ≡ Ok behind
  pub pair : first_query ps behind items ≡ q ∷ []

-- the same for a class expression
pub record IsClass (ps : List Prefix) (axioms : List Numbered) (s : Counts) (text : List ℕ) (behind : Counts)
    (c : Concept) : Type 0 where
  pub short : length text ≤ 2 ^ 24
  pub items : List Item
  pub end : ℕ
  pub made : HasItems text items end
  pub holds : walked s (class_query_tests ps axioms s (end_line text) items) ≡ Ok behind
  pub class : first_class ps behind items ≡ c ∷ []

-- why a text is refused whose items have these tests: for its length, else as above
pub data IsRefused (tests : List Item → List Test) (s : Counts) (text : List ℕ) : Refusal → Type 0 where
  long : 2 ^ 24 < length text → IsRefused tests s text (Limit which.Text 0)
  refused : (e : Refusal) → length text ≤ 2 ^ 24 → IsRefusedBy tests s text e → IsRefused tests s text e

-- why a text is no query, or no class expression, on a document with these prefixes, axioms and counts
abbrev pub IsNoQuery : List Prefix → List Numbered → Counts → List ℕ → Refusal → Type 0
IsNoQuery ps axioms s text e = IsRefused (query_tests ps axioms s (end_line text)) s text e

-- why a text is no class expression on the ontology
abbrev pub IsNoClass : List Prefix → List Numbered → Counts → List ℕ → Refusal → Type 0
IsNoClass ps axioms s text e = IsRefused (class_query_tests ps axioms s (end_line text)) s text e

-- why a text is no query, whatever is tested of its items, unless memory was refused
abbrev pub QueryTextIsRefused : List ℕ → Refusal → Type 0
QueryTextIsRefused text e = (tests : List Item → List Test) (s : Counts) → e ≢ NoMemory → IsRefused tests s text e

-- what was read, unless something stands after it
abbrev pub read_alone : {X : Type 0} → List Item → Result X Refusal → Result X Refusal
read_alone [] r = r
read_alone (i ∷ is) (Ok x) = Err (BadShape (item_line i))
read_alone (i ∷ is) (Err e) = Err e

-- what was read, if the roles that it counts are simple
abbrev pub read_simple : {X E : Type 0} → ℕ → X → Result Bool E → Result X Refusal
read_simple line x (Ok true) = Ok x
read_simple line x (Ok false) = Err (NotSimple line)
read_simple line x (Err e) = Err NoMemory

-- whatever tests say of what was read, they and the test of the roles that it counts say it of the result
abbrev pub TestsRoles : {X : Type 0} → (List X → List ℕ) → List Numbered → ℕ → Result X Refusal → Result X Refusal
    → Type 0
TestsRoles {X = X} counted axioms line read result =
    (s new : Counts) (ts : List Test) (xs : List X)
    → Judged read s ts new
    → IfOk read (λ x. xs ≡ x ∷ [])
    → Judged result s (ts ++ roles_test axioms line (counted xs)) new

-- the individual that a query is on, if it is on one, is listed
abbrev pub IsListedOn : Counts → On → Type 0
IsListedOn s Any = Unit {0}
IsListedOn s (Individual a) = IsListedIndividual s a

-- the names of both expressions are listed, and so is the individual
abbrev pub IsListedQuery : Counts → Query → Type 0
IsListedQuery s q = IsListed s q.sub × IsListed s q.sup × IsListedOn s q.on

-- what is asked, whatever names are listed later
abbrev pub Asks : Counts → (Counts → List Query) → Query → Type 0
Asks s asked q = (later : Counts) → Keeps s later → (asked later ≡ q ∷ []) × IsListedQuery later q

-- which two class expressions the items of a query stand for, and which query the items of a group with this keyword
abbrev pub MeansPair : List Prefix → Counts → Items → Query → Type 0
MeansPair ps s is q = Asks s (λ later. pair_in ps later is) q

-- a group with this keyword and these items asks the query, also by later counts that keep the names
abbrev pub MeansGroupQuery : List Prefix → Counts → AxiomKeyword → Items → Query → Type 0
MeansGroupQuery ps s k is q = Asks s (λ later. group_query ps later k is) q

-- the item asks the query, also by later counts that keep the names
abbrev pub MeansQuery : List Prefix → Counts → Item → Query → Type 0
MeansQuery ps s i q = Asks s (λ later. query_in ps later i) q

-- which class expression and which individual two items stand for
abbrev pub MeansMember : List Prefix → Counts → Item → Item → Concept → ℕ → Type 0
MeansMember ps s c a d n =
    (later : Counts) → Keeps s later
    → (concept_of ps later c ≡ d) × (individual_of ps later a ≡ n) × IsListed later d × IsListedIndividual later n

-- what the tests of a query on a document with these names and axioms say, whose expressions have so many nodes
abbrev pub query_walk : List Prefix → ℕ → Listed → ℕ → List Item → Result Counts Refusal
query_walk ps nodes o end is = walked (query_start o nodes) (query_tests ps o.axioms (query_start o nodes) end is)

-- the walk over the tests of a class expression, from the counts of the document on
abbrev pub class_walk : List Prefix → ℕ → Listed → ℕ → List Item → Result Counts Refusal
class_walk ps nodes o end is = walked (query_start o nodes) (class_query_tests ps o.axioms (query_start o nodes) end is)

-- the items are a query, whose names are listed last
abbrev pub QueryIsRead : List Prefix → ℕ → Listed → ℕ → List Item → Listed → Query → Type 0
QueryIsRead ps nodes old end is new q =
    (behind : Counts) × (query_walk ps nodes old end is ≡ Ok behind) × (first_query ps behind is ≡ q ∷ [])
    × IsListedQuery behind q
    × (new ≡ record old { classes = behind.classes; roles = behind.roles; individuals = behind.individuals })

-- the items are read as a class expression, and its new names are listed last
abbrev pub ClassIsRead : List Prefix → ℕ → Listed → ℕ → List Item → Listed → Concept → Type 0
ClassIsRead ps nodes old end is new c =
    (behind : Counts) × (class_walk ps nodes old end is ≡ Ok behind) × (first_class ps behind is ≡ c ∷ [])
    × IsListed behind c
    × (new ≡ record old { classes = behind.classes; roles = behind.roles; individuals = behind.individuals })

-- The text is a query on a document, with the names and axioms of the old ontology. Its names are listed in the new
-- one, which else is the old one.
abbrev pub IsQueryOn : DocumentContext → Listed → List ℕ → Listed → Query → Type 0
IsQueryOn kept old text new q =
    (behind : Counts) × IsQuery kept.prefixes old.axioms (query_start old kept.nodes) text behind q
    × IsListedQuery behind q
    × (new ≡ record old { classes = behind.classes; roles = behind.roles; individuals = behind.individuals })

-- why a text is no query on this document
abbrev pub IsNoQueryOn : DocumentContext → Listed → List ℕ → Refusal → Type 0
IsNoQueryOn kept old text e = IsNoQuery kept.prefixes old.axioms (query_start old kept.nodes) text e

-- the same for a class expression
abbrev pub IsClassOn : DocumentContext → Listed → List ℕ → Listed → Concept → Type 0
IsClassOn kept old text new c =
    (behind : Counts) × IsClass kept.prefixes old.axioms (query_start old kept.nodes) text behind c × IsListed behind c
    × (new ≡ record old { classes = behind.classes; roles = behind.roles; individuals = behind.individuals })

-- why a text is no class expression on this document
abbrev pub IsNoClassOn : DocumentContext → Listed → List ℕ → Refusal → Type 0
IsNoClassOn kept old text e = IsNoClass kept.prefixes old.axioms (query_start old kept.nodes) text e
