-- The tests of declarations of prefixes, and what they declare.
use Rattle.std.specs.Prelude.{ℕ, Bool, true, false, ◌&&◌, List, [], ◌∷◌, ◌++◌, length, nat_eq, Option, Some, None}
use Rattle.std.specs.Prelude.{is_some}
use Rattle.std.specs.Str.{bytes_eq}
use Rattle.ofn_tree.specs.declared.token.Kind.{Kind}
use Rattle.ofn_tree.specs.declared.token.Kind.TheVariants.{Equals}
use Rattle.ofn_tree.specs.Items.{Item, name_item, iri_item, literal_item, sign_item, group_item, Items, item}
use Rattle.ofn_expressions.specs.Walk.{Test, shape, clash}
use Rattle.ofn_expressions.specs.Names.{Prefix, item_line, prefix_iri, has_colon, prefix_part, local_part}
use Rattle.ofn_expressions.specs.Classes.{item_count}
use Rattle.ofn_reader.specs.Groups.{inner_items}

abbrev pub name_before : Bool → List ℕ → Option (List ℕ)
name_before true w = Some (prefix_part w)
name_before false w = None

-- the prefix name that a name declares, without its colon, which is its only one and its last character
abbrev pub prefix_in : List ℕ → Option (List ℕ)
prefix_in w = name_before (has_colon w && nat_eq (length (local_part w)) 0) w

-- the prefix name that an item declares
abbrev pub declared_name : Item → Option (List ℕ)
declared_name (name_item w line) = prefix_in w
declared_name (iri_item w line) = None
declared_name (literal_item line) = None
declared_name (sign_item k line) = None
declared_name (group_item h is line) = None

-- the sign is an equals sign
abbrev pub is_equals_kind : Kind → Bool
is_equals_kind Equals = true
is_equals_kind _ = false

-- the item is an equals sign
abbrev pub is_equals : Item → Bool
is_equals (sign_item k line) = is_equals_kind k
is_equals (name_item w line) = false
is_equals (iri_item w line) = false
is_equals (literal_item line) = false
is_equals (group_item h is line) = false

-- the IRI that an item is, if it is one
abbrev pub declared_iri : Item → Option (List ℕ)
declared_iri (iri_item w line) = Some w
declared_iri (name_item w line) = None
declared_iri (literal_item line) = None
declared_iri (sign_item k line) = None
declared_iri (group_item h is line) = None

-- the text, and the empty one where there is none
abbrev pub or_empty : Option (List ℕ) → List ℕ
or_empty (Some w) = w
or_empty None = []

-- a prefix name is not declared, or with this IRI
abbrev pub agrees : Option (List ℕ) → List ℕ → Bool
agrees None iri = true
agrees (Some known) iri = bytes_eq known iri

-- that a prefix name has no other IRI than this
abbrev pub clash_tests : List Prefix → ℕ → List ℕ → List ℕ → List Test
clash_tests ps line name iri = clash line (agrees (prefix_iri ps name) iri) ∷ []

-- the name, the equals sign and the IRI by their shapes, and then that the prefix has no other IRI
abbrev pub entry_tests : List Prefix → Item → Item → Item → List Test
entry_tests ps n e i =
    shape (item_line n) (is_some (declared_name n))
    ∷ (shape (item_line e) (is_equals e)
    ∷ (shape (item_line i) (is_some (declared_iri i))
    ∷ clash_tests ps (item_line n) (or_empty (declared_name n)) (or_empty (declared_iri i))))

-- The items of a declaration. Where they are fewer or more than three, a test before them fails.
abbrev pub prefix_items_tests : List Prefix → Items → List Test
prefix_items_tests ps (item n (item e (item i is))) = entry_tests ps n e i
prefix_items_tests ps _ = []

-- the tests of a declaration of a prefix: it has three items, and then those of these
abbrev pub prefix_tests : List Prefix → Item → List Test
prefix_tests ps i = shape (item_line i) (nat_eq (item_count (inner_items i)) 3) ∷ prefix_items_tests ps (inner_items i)

-- a new prefix name goes last, and one that is declared changes nothing
abbrev pub declared_at : Option (List ℕ) → List Prefix → List ℕ → List ℕ → List Prefix
declared_at (Some known) ps name iri = ps
declared_at None ps name iri = ps ++ record { name = name; iri = iri } ∷ []

-- the prefixes after a prefix name was declared with an IRI
abbrev pub with_declared : List Prefix → List ℕ → List ℕ → List Prefix
with_declared ps name iri = declared_at (prefix_iri ps name) ps name iri

-- the prefixes with the one that a name and an IRI declare
abbrev pub with_entry : List Prefix → Item → Item → List Prefix
with_entry ps n i = with_declared ps (or_empty (declared_name n)) (or_empty (declared_iri i))

-- the prefixes with the one that three items declare
abbrev pub with_prefix_items : List Prefix → Items → List Prefix
with_prefix_items ps (item n (item e (item i is))) = with_entry ps n i
with_prefix_items ps _ = ps

-- the prefixes after a declaration
abbrev pub with_prefix : List Prefix → Item → List Prefix
with_prefix ps i = with_prefix_items ps (inner_items i)

-- declarations one after another, each tested with the prefixes before it
abbrev pub prefixes_tests : List Prefix → List Item → List Test
prefixes_tests ps [] = []
prefixes_tests ps (i ∷ is) = prefix_tests ps i ++ prefixes_tests (with_prefix ps i) is

-- the prefixes after some declarations, in order
abbrev pub prefixes_behind : List Prefix → List Item → List Prefix
prefixes_behind ps [] = ps
prefixes_behind ps (i ∷ is) = prefixes_behind (with_prefix ps i) is
