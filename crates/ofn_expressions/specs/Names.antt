-- Names as they stand in a text: which tests they meet, and which IRI they stand for.
use Rattle.std.specs.Prelude.{ℕ, Bool, false, List, [], ◌∷◌, ◌++◌, map, nat_eq, Option, Some, None, is_some, codes}
use Rattle.std.specs.Prelude.{if◌then◌else◌, String, string_bytes}
use Rattle.std.specs.List.{list_any, before_first, after_first, starts_with}
use Rattle.std.specs.Str.{bytes_eq}
use Rattle.ofn_tree.specs.Items.{Item, name_item, iri_item, literal_item, sign_item, group_item}
use Rattle.ofn_expressions.specs.Walk.{Test, shape, prefix}

-- a prefix name without its colon, and the IRI that it stands for
pub record Prefix : Type 0 where
  pub name : List ℕ
  pub iri : List ℕ

-- a prefix of texts
abbrev pub entry : {Y Z : Type 0} → String Y × String Z → Prefix
entry e = record { name = string_bytes e.0; iri = string_bytes e.1 }

-- the prefixes of texts, and one more put last
abbrev pub with_last : {Y Z : Type 0} → List (String Y × String Z) → String Y → String Z → List Prefix
with_last es name iri = map entry es ++ entry (name, iri) ∷ []

-- the prefixes that every document begins with
unfoldable pub predeclared : List Prefix
predeclared =
    record { name = codes "rdf"; iri = codes "http://www.w3.org/1999/02/22-rdf-syntax-ns#" }
    ∷ record { name = codes "rdfs"; iri = codes "http://www.w3.org/2000/01/rdf-schema#" }
    ∷ record { name = codes "xsd"; iri = codes "http://www.w3.org/2001/XMLSchema#" }
    ∷ record { name = codes "owl"; iri = codes "http://www.w3.org/2002/07/owl#" }
    ∷ []

-- the IRI of a prefix name, where it is declared
abbrev pub prefix_iri : List Prefix → List ℕ → Option (List ℕ)
prefix_iri [] name = None
prefix_iri (p ∷ ps) name = if bytes_eq name p.name then Some p.iri else prefix_iri ps name

-- the byte is a colon
abbrev pub is_colon : ℕ → Bool
is_colon b = nat_eq b 58

-- the text has a colon
abbrev pub has_colon : List ℕ → Bool
has_colon w = list_any is_colon w

-- whether a name is that of an anonymous individual (OWL 2 Structural Specification, section 5.6.2)
unfoldable pub is_anonymous : List ℕ → Bool
is_anonymous w = starts_with nat_eq w (codes "_:")

-- what stands before the first colon of a name, and what after it
abbrev pub prefix_part : List ℕ → List ℕ
prefix_part w = before_first is_colon w

-- what stands behind the first colon of a name
abbrev pub local_part : List ℕ → List ℕ
local_part w = after_first is_colon w

-- the line of an item
abbrev pub item_line : Item → ℕ
item_line (name_item w line) = line
item_line (iri_item w line) = line
item_line (literal_item line) = line
item_line (sign_item k line) = line
item_line (group_item h is line) = line

-- where a name must stand: its shape, and then that its prefix is declared
abbrev pub name_tests : List Prefix → Item → List Test
name_tests ps (iri_item w line) = []
name_tests ps (name_item w line) = shape line (has_colon w) ∷ prefix line (is_some (prefix_iri ps (prefix_part w))) ∷ []
name_tests ps (literal_item line) = shape line false ∷ []
name_tests ps (sign_item k line) = shape line false ∷ []
name_tests ps (group_item h is line) = shape line false ∷ []

-- the IRI of a prefix, and then the rest of the name
abbrev pub full_iri : Option (List ℕ) → List ℕ → List ℕ
full_iri (Some iri) rest = iri ++ rest
full_iri None rest = []

-- the IRI that a name stands for; any other item has none
abbrev pub iri_of : List Prefix → Item → List ℕ
iri_of ps (iri_item w line) = w
iri_of ps (name_item w line) = full_iri (prefix_iri ps (prefix_part w)) (local_part w)
iri_of ps (literal_item line) = []
iri_of ps (sign_item k line) = []
iri_of ps (group_item h is line) = []
