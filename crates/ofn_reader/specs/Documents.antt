-- What a text says as a document.
use Rattle.std.specs.Prelude.{◌≡◌, ℕ, Bool, false, List, [], ◌∷◌, ◌++◌, take, drop, Ok, codes}
use Rattle.std.specs.List.{prefix_len}
use Rattle.ofn_tree.specs.Lexemes.{end_line}
use Rattle.ofn_tree.specs.Items.{Item}
use Rattle.shq_terms.specs.Listed.{Listed}
use Rattle.shq_terms.specs.declared.axioms.Numbered.{Numbered}
use Rattle.role_box.specs.declared.role_axiom.RoleAxiom.{RoleAxiom}
use Rattle.role_box.specs.Simple.{counts_simple, all_role_axioms}
use Rattle.ofn_expressions.specs.Counts.{Counts}
use Rattle.ofn_expressions.specs.Walk.{Test, shape, simple, after_all, walked}
use Rattle.ofn_expressions.specs.Names.{Prefix, item_line, predeclared}
use Rattle.ofn_expressions.specs.declared.refusal.Refusal.{Refusal}
use Rattle.ofn_reader.specs.Groups.{is_group, inner_items, axiom_items}
use Rattle.ofn_reader.specs.Prefixes.{prefixes_tests, prefixes_behind}
use Rattle.ofn_reader.specs.Axioms.{axioms_tests, axioms_in}
use Rattle.ofn_reader.specs.DocumentContext.{DocumentContext}
use Rattle.ofn_reader.specs.Texts.{HasItems, IsRefusedBy}

-- nothing was counted or listed
abbrev pub start : Counts
start = record { axioms = 0; parts = 0; nodes = 0; classes = []; roles = []; individuals = [] }

-- the item declares a prefix
abbrev pub is_prefix_group : Item → Bool
is_prefix_group i = is_group (codes "Prefix") i

-- A document begins with the declarations of its prefixes.
abbrev pub prefix_groups : List Item → List Item
prefix_groups is = take (prefix_len is_prefix_group is) is

-- the items behind the declarations of prefixes in front
abbrev pub behind_prefixes : List Item → List Item
behind_prefixes is = drop (prefix_len is_prefix_group is) is

-- the prefixes of a document that begins with some
abbrev pub document_prefixes : List Prefix → List Item → List Prefix
document_prefixes ps is = prefixes_behind ps (prefix_groups is)

-- after them stands one group `Ontology`; nothing is read after it
abbrev pub ontology_tests : List Prefix → ℕ → List Item → List Test
ontology_tests ps end [] = shape end false ∷ []
ontology_tests ps end (i ∷ is) =
    shape (item_line i) (is_group (codes "Ontology") i) ∷ axioms_tests ps (axiom_items (inner_items i))

-- the numbered axioms of the group that stands first
abbrev pub ontology_axioms : List Prefix → Counts → List Item → List Numbered
ontology_axioms ps s [] = []
ontology_axioms ps s (i ∷ is) = axioms_in ps s (axiom_items (inner_items i))

-- the tests of a document whose text ends on a line, in the order of the text
abbrev pub form_tests : List Prefix → ℕ → List Item → List Test
form_tests ps end is =
    prefixes_tests ps (prefix_groups is) ++ ontology_tests (document_prefixes ps is) end (behind_prefixes is)

-- its numbered axioms
abbrev pub document_axioms : List Prefix → Counts → List Item → List Numbered
document_axioms ps s is = ontology_axioms (document_prefixes ps is) s (behind_prefixes is)

-- for each of these axioms in order, that the roles which it counts are simple
abbrev pub simple_tests : List RoleAxiom → List Numbered → List Test
simple_tests roles [] = []
simple_tests roles (n ∷ ns) = simple n.line (counts_simple roles n) ∷ simple_tests roles ns

-- the same for all axioms of a document, by the role axioms among them
abbrev pub all_simple_tests : List Numbered → List Test
all_simple_tests axioms = simple_tests (all_role_axioms axioms) axioms

-- the tests of a document: those in the order of its text, and after them those for simple roles
abbrev pub document_tests : List Prefix → ℕ → List Item → List Test
document_tests ps end is =
    form_tests ps end is ++ all_simple_tests (document_axioms ps (after_all start (form_tests ps end is)) is)

-- these tests of the items hold, and the items say an ontology and what a query takes over
abbrev pub DocumentIsRead : (List Item → List Test) → List Item → Listed → DocumentContext → Type 0
DocumentIsRead tests is o kept =
    (behind : Counts)
    × (walked start (tests is) ≡ Ok behind)
    × (o ≡ record {
      axioms = document_axioms predeclared behind is;
      classes = behind.classes;
      roles = behind.roles;
      individuals = behind.individuals;
    })
    × (kept ≡ record { prefixes = document_prefixes predeclared is; nodes = behind.nodes })

-- The text up to the end is a document, no test of which fails. It lists the axioms and names of o. A query on it takes
-- over its prefixes, and the count of the nodes of its expressions.
pub record IsDocument (text : List ℕ) (o : Listed) (kept : DocumentContext) (end : ℕ) : Type 0 where
  pub items : List Item
  pub made : HasItems text items end
  pub behind : Counts
  pub holds : walked start (document_tests predeclared (end_line text) items) ≡ Ok behind
  pub listed : o
      ≡ record {
        axioms = document_axioms predeclared behind items;
        classes = behind.classes;
        roles = behind.roles;
        individuals = behind.individuals;
      }
  pub takes : kept ≡ record { prefixes = document_prefixes predeclared items; nodes = behind.nodes }

-- why a text is no document
abbrev pub IsNoDocument : List ℕ → Refusal → Type 0
IsNoDocument text e = IsRefusedBy (document_tests predeclared (end_line text)) start text e
