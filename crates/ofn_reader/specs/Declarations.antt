-- The tests of declarations of entities.
use Rattle.std.specs.Prelude.{ℕ, false, List, [], ◌∷◌, Some, None, nat_eq}
use Rattle.ofn_tree.specs.Items.{Item, name_item, iri_item, literal_item, sign_item, group_item, Items, no_items, item}
use Rattle.ofn_tree.specs.Items.{items_of}
use Rattle.ofn_expressions.specs.Walk.{Test, shape}
use Rattle.ofn_expressions.specs.Names.{Prefix}
use Rattle.ofn_expressions.specs.Classes.{item_count, declared_class_tests, declared_role_tests}
use Rattle.ofn_expressions.specs.Individuals.{individual_tests}
use Rattle.ofn_reader.specs.Keywords.{entity_keyword}
use Rattle.ofn_reader.specs.declared.keywords.EntityKeyword.{EntityKeyword}
use Rattle.ofn_reader.specs.declared.keywords.EntityKeyword.TheVariants as E

-- the tests of the first item as a class that is declared
abbrev pub declared_classes_tests : List Prefix → Items → List Test
declared_classes_tests ps no_items = []
declared_classes_tests ps (item i is) = declared_class_tests ps i

-- the tests of the first item as a role that is declared
abbrev pub declared_roles_tests : List Prefix → Items → List Test
declared_roles_tests ps no_items = []
declared_roles_tests ps (item i is) = declared_role_tests ps i

-- the tests of the first item as an individual that is declared
abbrev pub declared_individuals_tests : List Prefix → Items → List Test
declared_individuals_tests ps no_items = []
declared_individuals_tests ps (item i is) = individual_tests ps i

-- An entity is a group of one item. A class, a role and an individual are listed as names; of the others the item is
-- not looked at.
abbrev pub entity_group_tests : List Prefix → EntityKeyword → ℕ → Items → List Test
entity_group_tests ps E.Class line is = shape line (nat_eq (item_count is) 1) ∷ declared_classes_tests ps is
entity_group_tests ps E.Role line is = shape line (nat_eq (item_count is) 1) ∷ declared_roles_tests ps is
entity_group_tests ps E.Individual line is = shape line (nat_eq (item_count is) 1) ∷ declared_individuals_tests ps is
entity_group_tests ps E.Unlisted line is = shape line (nat_eq (item_count is) 1) ∷ []
entity_group_tests ps E.Unknown line is = shape line false ∷ []

-- the same for items as a list
abbrev pub entity_items_tests : List Prefix → EntityKeyword → ℕ → List Item → List Test
entity_items_tests ps k line is = entity_group_tests ps k line (items_of is)

-- the tests of an item where an entity stands that is declared
abbrev pub entity_tests : List Prefix → Item → List Test
entity_tests ps (group_item (Some w) is line) = entity_group_tests ps (entity_keyword w) line is
entity_tests ps (group_item None is line) = shape line false ∷ []
entity_tests ps (name_item w line) = shape line false ∷ []
entity_tests ps (iri_item w line) = shape line false ∷ []
entity_tests ps (literal_item line) = shape line false ∷ []
entity_tests ps (sign_item k line) = shape line false ∷ []

-- the tests of the first item as an entity that is declared
abbrev pub first_entity_tests : List Prefix → Items → List Test
first_entity_tests ps no_items = []
first_entity_tests ps (item i is) = entity_tests ps i

-- a declaration: the number of its items, and then its entity
abbrev pub declaration_tests : List Prefix → ℕ → Items → List Test
declaration_tests ps line is = shape line (nat_eq (item_count is) 1) ∷ first_entity_tests ps is
