-- The tests of individuals in the order of the walk, and what they stand for.
use Rattle.std.specs.Prelude.{◌≡◌, ℕ, Bool, true, false, List, [], ◌∷◌, ◌++◌, length, nat_lt, is_some}
use Rattle.std.specs.List.{list_all}
use Rattle.ofn_tree.specs.Items.{Item, name_item, iri_item, literal_item, sign_item, group_item, Items, no_items, item}
use Rattle.ofn_expressions.specs.Counts.{Counts}
use Rattle.ofn_expressions.specs.Walk.{Test, shape, prefix, outside, individual}
use Rattle.ofn_expressions.specs.Names.{Prefix, item_line, name_tests, iri_of, has_colon, is_anonymous, prefix_iri}
use Rattle.ofn_expressions.specs.Names.{prefix_part}
use Rattle.ofn_expressions.specs.Classes.{Keeps, place, or_zero}
use Rattle.ofn_expressions.specs.declared.construct.Construct.TheVariants as C

-- the item is a name that begins like that of an individual without a name of its own
abbrev pub is_anonymous_item : Item → Bool
is_anonymous_item (name_item w line) = is_anonymous w
is_anonymous_item (iri_item w line) = false
is_anonymous_item (literal_item line) = false
is_anonymous_item (sign_item k line) = false
is_anonymous_item (group_item h is line) = false

-- an anonymous individual is left out
abbrev pub anonymous_tests : ℕ → Bool → List Test
anonymous_tests line true = outside line C.AnonymousIndividual ∷ []
anonymous_tests line false = []

-- where the name of an individual must stand: its shape, that it is not anonymous, and then that its prefix is declared
abbrev pub individual_name_tests : List Prefix → Item → List Test
individual_name_tests ps (name_item w line) =
    shape line (has_colon w)
    ∷ (anonymous_tests line (is_anonymous w) ++ (prefix line (is_some (prefix_iri ps (prefix_part w))) ∷ []))
individual_name_tests ps (iri_item w line) = name_tests ps (iri_item w line)
individual_name_tests ps (literal_item line) = name_tests ps (literal_item line)
individual_name_tests ps (sign_item k line) = name_tests ps (sign_item k line)
individual_name_tests ps (group_item h is line) = name_tests ps (group_item h is line)

-- an individual is listed wherever it stands, also where it is declared
abbrev pub individual_tests : List Prefix → Item → List Test
individual_tests ps i = individual_name_tests ps i ++ (individual (item_line i) (iri_of ps i) ∷ [])

-- the tests of some individuals, in order
abbrev pub individuals_tests : List Prefix → Items → List Test
individuals_tests ps no_items = []
individuals_tests ps (item i is) = individual_tests ps i ++ individuals_tests ps is

-- What items stand for. The number of an individual is the place of its IRI in the list of names.
abbrev pub individual_named : Counts → List ℕ → ℕ
individual_named s iri = or_zero (place iri s.individuals)

-- the number of the individual that an item names
abbrev pub individual_of : List Prefix → Counts → Item → ℕ
individual_of ps s i = individual_named s (iri_of ps i)

-- the numbers of the individuals that some items name, in order
abbrev pub individuals_of : List Prefix → Counts → Items → List ℕ
individuals_of ps s no_items = []
individuals_of ps s (item i is) = individual_of ps s i ∷ individuals_of ps s is

-- the individual is listed
abbrev pub IsListedIndividual : Counts → ℕ → Type 0
IsListedIndividual s a = nat_lt a (length s.individuals) ≡ true

-- each of the individuals is listed
abbrev pub AreListedIndividuals : Counts → List ℕ → Type 0
AreListedIndividuals s as_ = list_all (λ a. nat_lt a (length s.individuals)) as_ ≡ true

-- which individual is meant by a name, whatever names are listed later
abbrev pub MeansIndividual : List Prefix → Counts → Item → ℕ → Type 0
MeansIndividual ps s i a = (later : Counts) → Keeps s later
    → (individual_of ps later i ≡ a) × IsListedIndividual later a

-- the items name these individuals, also by later counts that keep the names
abbrev pub MeanIndividuals : List Prefix → Counts → Items → List ℕ → Type 0
MeanIndividuals ps s is as_ = (later : Counts) → Keeps s later
    → (individuals_of ps later is ≡ as_) × AreListedIndividuals later as_
