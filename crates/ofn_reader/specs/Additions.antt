-- What a text says as a numbered axiom that is put last into an ontology.
use Rattle.std.specs.Prelude.{◌≡◌, ℕ, ◌+◌, ◌^◌, ◌≤◌, Bool, false, List, [], ◌∷◌, ◌++◌, take, length, Some, None, Result}
use Rattle.std.specs.Prelude.{Ok, Err, IfOk, IsTrue}
use Rattle.std.specs.List.{list_all}
use Rattle.shq_terms.specs.Listed.{Listed, with_axiom}
use Rattle.shq_terms.specs.Uses.{axiom_uses_listed, all_use_listed}
use Rattle.shq_terms.specs.declared.axioms.Axiom.{Axiom}
use Rattle.shq_terms.specs.declared.axioms.Numbered.{Numbered}
use Rattle.role_box.specs.Simple.{counts_simple, all_role_axioms}
use Rattle.ofn_tree.specs.Lexemes.{end_line}
use Rattle.ofn_tree.specs.Items.{Item, name_item, iri_item, literal_item, sign_item, group_item, Items, items_of}
use Rattle.ofn_expressions.specs.Counts.{Counts, State}
use Rattle.ofn_expressions.specs.Walk.{Test, shape, outside, simple, after_all, walked, Judged}
use Rattle.ofn_expressions.specs.Names.{Prefix}
use Rattle.ofn_expressions.specs.Classes.{Keeps, IsListedAxiom}
use Rattle.ofn_expressions.specs.declared.refusal.Refusal.{Refusal}
use Rattle.ofn_expressions.specs.declared.refusal.Refusal.TheVariants.{NoMemory}
use Rattle.ofn_reader.specs.DocumentContext.{DocumentContext}
use Rattle.ofn_reader.specs.Keywords.{axiom_keyword}
use Rattle.ofn_reader.specs.Groups.{without_annotations}
use Rattle.ofn_reader.specs.Axioms.{numbered_tests, axiom_made, numbered_at}
use Rattle.ofn_reader.specs.Held.{counts_of}
use Rattle.ofn_reader.specs.Texts.{HasItems}
use Rattle.ofn_reader.specs.Queries.{alone_tests, first_line, IsRefused}
use Rattle.ofn_reader.specs.declared.keywords.AxiomKeyword.{AxiomKeyword}
use Rattle.ofn_reader.specs.declared.keywords.AxiomKeyword.TheVariants as W

-- A numbered axiom has the tests that it has in a document. One that is left out is outside; a declaration, an
-- annotation and each other group is no numbered axiom.
abbrev pub added_group_tests : List Prefix → AxiomKeyword → ℕ → Items → List Test
added_group_tests ps (W.Numbered k) line is = numbered_tests ps k line is
added_group_tests ps W.Declaration line is = shape line false ∷ []
added_group_tests ps W.Annotation line is = shape line false ∷ []
added_group_tests ps (W.Excluded c) line is = outside line c ∷ []
added_group_tests ps W.Unknown line is = shape line false ∷ []

-- the same for items as a list
abbrev pub added_items_tests : List Prefix → AxiomKeyword → ℕ → List Item → List Test
added_items_tests ps k line is = added_group_tests ps k line (items_of is)

-- the tests of an item that is to be put in as an axiom; anything but a numbered axiom has no shape there
abbrev pub added_tests : List Prefix → Item → List Test
added_tests ps (group_item (Some w) is line) = added_group_tests ps (axiom_keyword w) line (without_annotations is)
added_tests ps (group_item None is line) = shape line false ∷ []
added_tests ps (name_item w line) = shape line false ∷ []
added_tests ps (iri_item w line) = shape line false ∷ []
added_tests ps (literal_item line) = shape line false ∷ []
added_tests ps (sign_item k line) = shape line false ∷ []

-- one axiom alone, in the order of the text
abbrev pub added_form_tests : List Prefix → ℕ → List Item → List Test
added_form_tests ps end is = alone_tests (added_tests ps) end is

-- the axiom that the items say
abbrev pub group_axiom : List Prefix → Counts → AxiomKeyword → Items → List Axiom
group_axiom ps s (W.Numbered k) is = axiom_made ps s k is
group_axiom ps s W.Declaration is = []
group_axiom ps s W.Annotation is = []
group_axiom ps s (W.Excluded c) is = []
group_axiom ps s W.Unknown is = []

-- the axiom that an item stands for, as a list of one, or of none
abbrev pub added_axiom : List Prefix → Counts → Item → List Axiom
added_axiom ps s (group_item (Some w) is line) = group_axiom ps s (axiom_keyword w) (without_annotations is)
added_axiom ps s (group_item None is line) = []
added_axiom ps s (name_item w line) = []
added_axiom ps s (iri_item w line) = []
added_axiom ps s (literal_item line) = []
added_axiom ps s (sign_item k line) = []

-- the axiom that the first item stands for, as a list of one, or of none
abbrev pub first_axiom : List Prefix → Counts → List Item → List Axiom
first_axiom ps s [] = []
first_axiom ps s (i ∷ is) = added_axiom ps s i

-- whether each role that one of these axioms counts is simple by all of them
abbrev pub all_count_simple : List Numbered → Bool
all_count_simple axioms = list_all (counts_simple (all_role_axioms axioms)) axioms

-- an axiom that was put last stands on line 1
abbrev pub with_added : List Numbered → List Axiom → List Numbered
with_added axioms new = axioms ++ numbered_at 1 new

-- That each role is simple which one of the axioms counts, the old ones and the new one. By a role axiom a role may be
-- simple no more that an old axiom counts.
abbrev pub all_simple_test : List Numbered → ℕ → List Axiom → List Test
all_simple_test axioms line new = simple line (all_count_simple (with_added axioms new)) ∷ []

-- the tests of an axiom that is put into an ontology with these axioms and counts: those in the order of its text, and
-- after them that for simple roles
abbrev pub addition_tests : List Prefix → List Numbered → Counts → ℕ → List Item → List Test
addition_tests ps axioms s end is =
    added_form_tests ps end is
    ++ all_simple_test axioms (first_line end is) (first_axiom ps (after_all s (added_form_tests ps end is)) is)

-- the text is an axiom with these prefixes, for an ontology with these axioms and counts, no test of which fails; after
-- it are those behind
pub record IsAddition (ps : List Prefix) (axioms : List Numbered) (s : Counts) (text : List ℕ) (behind : Counts)
    (a : Axiom) : Type 0 where
  pub short : length text ≤ 2 ^ 24
  pub items : List Item
  pub end : ℕ
  pub made : HasItems text items end
  pub holds : walked s (addition_tests ps axioms s (end_line text) items) ≡ Ok behind
  pub says : first_axiom ps behind items ≡ a ∷ []

-- why a text is no such axiom
abbrev pub IsNoAddition : List Prefix → List Numbered → Counts → List ℕ → Refusal → Type 0
IsNoAddition ps axioms s text e = IsRefused (addition_tests ps axioms s (end_line text)) s text e

-- the ontology with this axiom put last and the names that are listed then
abbrev pub added_to : Listed → Counts → Axiom → Listed
added_to o behind a = record {
  axioms = with_added o.axioms (a ∷ []);
  classes = behind.classes;
  roles = behind.roles;
  individuals = behind.individuals;
}

-- The text is an axiom, put last into the old ontology. It has the next number, its names are listed in the new one,
-- and queries go on from the count of nodes behind it.
abbrev pub IsAdditionTo : DocumentContext → Listed → List ℕ → Listed → DocumentContext → ℕ → Type 0
IsAdditionTo kept old text new after number =
    (behind : Counts)
    × (a : Axiom)
    × IsAddition kept.prefixes old.axioms (counts_of old) text behind a
    × (new ≡ added_to old behind a)
    × (after ≡ record kept { nodes = behind.nodes })
    × (number ≡ length old.axioms + 1)

-- why a text is no axiom that may be put into this ontology
abbrev pub IsNoAdditionTo : DocumentContext → Listed → List ℕ → Refusal → Type 0
IsNoAdditionTo kept old text e = IsNoAddition kept.prefixes old.axioms (counts_of old) text e

-- ---- what the steps of the reader say

-- the counts of axioms and parts alone have changed
abbrev pub CountsAlone : State → State → Type 0
CountsAlone old new =
    new ≡ record old { counts = record old.counts { axioms = new.counts.axioms; parts = new.counts.parts } }

-- What stands after an axiom was read, also where it is refused: the names that were listed stand first, and no axiom
-- was put.
pub record ListsMore (old new : State) : Type 0 where
  pub classes : take (length old.counts.classes) new.counts.classes ≡ old.counts.classes
  pub roles : take (length old.counts.roles) new.counts.roles ≡ old.counts.roles
  pub individuals : take (length old.counts.individuals) new.counts.individuals ≡ old.counts.individuals
  pub read : new.read ≡ old.read

-- which axiom the items of a group, or an item, say, whatever names are listed later
abbrev pub SaysAxiom : Counts → (Counts → List Axiom) → Axiom → Type 0
SaysAxiom s said a = (later : Counts) → Keeps s later → (said later ≡ a ∷ []) × IsListedAxiom later a

-- a group with this keyword and these items says the axiom, also by later counts that keep the names
abbrev pub GroupSays : List Prefix → Counts → AxiomKeyword → List Item → Axiom → Type 0
GroupSays ps s k is a = SaysAxiom s (λ later. group_axiom ps later k (items_of is)) a

-- the item says the axiom, also by later counts that keep the names
abbrev pub ItemSays : List Prefix → Counts → Item → Axiom → Type 0
ItemSays ps s i a = SaysAxiom s (λ later. added_axiom ps later i) a

-- whatever tests say of what was read, they and the test for simple roles say it of the result
abbrev pub TestsAllRoles : List Numbered → ℕ → Result Axiom Refusal → Result Axiom Refusal → Type 0
TestsAllRoles axioms line read result =
    (s new : Counts) (ts : List Test) (as_ : List Axiom) → Judged read s ts new → IfOk read (λ a. as_ ≡ a ∷ [])
    → Judged result s (ts ++ all_simple_test axioms line as_) new

-- the names of the axiom are listed in the ontology
abbrev pub IsListedIn : Listed → Axiom → Type 0
IsListedIn o a = IsTrue (axiom_uses_listed (length o.classes) (length o.roles) (length o.individuals) a)

-- what was read is put last and has the next number, unless memory was refused
abbrev pub PutsAxiom : Listed → Result Axiom Refusal → Listed → Result ℕ Refusal → Type 0
PutsAxiom old (Ok a) new (Ok k) = (new ≡ with_axiom old a 1) × (k ≡ length old.axioms + 1)
PutsAxiom old (Ok a) new (Err e) = e ≡ NoMemory
PutsAxiom old (Err e) new (Ok k) = ⊥
PutsAxiom old (Err e) new (Err f) = e ≡ f

-- there are so many names, and the axioms use no others
abbrev pub MayCut : Listed → ℕ → ℕ → ℕ → Type 0
MayCut o classes roles individuals = (classes ≤ length o.classes) × (roles ≤ length o.roles)
    × (individuals ≤ length o.individuals) × IsTrue (all_use_listed classes roles individuals o.axioms)

-- what the tests of an axiom say on an ontology
abbrev pub addition_walk : List Prefix → Listed → ℕ → List Item → Result Counts Refusal
addition_walk ps o end is = walked (counts_of o) (addition_tests ps o.axioms (counts_of o) end is)

-- the items are an axiom, which was put last
abbrev pub AdditionIsRead : List Prefix → Listed → ℕ → List Item → Listed → ℕ → ℕ → Type 0
AdditionIsRead ps old end is new number nodes =
    (behind : Counts)
    × (a : Axiom)
    × (addition_walk ps old end is ≡ Ok behind)
    × (first_axiom ps behind is ≡ a ∷ [])
    × (new ≡ added_to old behind a)
    × (nodes ≡ behind.nodes)
    × (number ≡ length old.axioms + 1)
