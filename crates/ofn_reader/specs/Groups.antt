-- Groups by their names, and what stands in front of their items.
use Rattle.std.specs.Prelude.{ℕ, Bool, true, false, cond, List, Option, Some, None, codes}
use Rattle.std.specs.Str.{bytes_eq}
use Rattle.ofn_tree.specs.Items.{Item, name_item, iri_item, literal_item, sign_item, group_item, Items, no_items, item}

abbrev pub has_text : List ℕ → Option (List ℕ) → Bool
has_text head (Some w) = bytes_eq w head
has_text head None = false

-- the item is a group of this name
abbrev pub is_group : List ℕ → Item → Bool
is_group head (group_item h is line) = has_text head h
is_group head (name_item w line) = false
is_group head (iri_item w line) = false
is_group head (literal_item line) = false
is_group head (sign_item k line) = false

-- the items of a group; any other item has none
abbrev pub inner_items : Item → Items
inner_items (group_item h is line) = is
inner_items (name_item w line) = no_items
inner_items (iri_item w line) = no_items
inner_items (literal_item line) = no_items
inner_items (sign_item k line) = no_items

-- the item is an annotation
abbrev pub is_annotation : Item → Bool
is_annotation i = is_group (codes "Annotation") i

-- the items after the annotations in front of them
abbrev pub without_annotations : Items → Items
without_annotations no_items = no_items
without_annotations (item i is) = cond (is_annotation i) (without_annotations is) (item i is)

-- the item is an IRI or a name
abbrev pub is_iri_or_name : Item → Bool
is_iri_or_name (name_item w line) = true
is_iri_or_name (iri_item w line) = true
is_iri_or_name (literal_item line) = false
is_iri_or_name (sign_item k line) = false
is_iri_or_name (group_item h is line) = false

-- the items after an IRI or a name, if one stands in front
abbrev pub behind_name : Items → Items
behind_name no_items = no_items
behind_name (item i is) = cond (is_iri_or_name i) is (item i is)

-- The axioms of an ontology: the items of its group after its IRI and its version, which are not looked at.
abbrev pub axiom_items : Items → Items
axiom_items is = behind_name (behind_name is)
