-- What normal forms, tables and parts mean.
use Rattle.std.specs.Prelude.{◌≡◌, ℕ, ◌<◌, not, true, false, List, length}
use Rattle.std.specs.List.{list_all}
use Rattle.shq_meaning.specs.Concept.{Concept}
use Rattle.shq_meaning.specs.Axiom.{Axiom}
use Rattle.shq_meaning.specs.Query.{Query}
use Rattle.shq_meaning.specs.On.TheVariants.{Any}
use Rattle.calculus_specs.specs.Normal.{normal_form, negated_form}
use Rattle.calculus_specs.specs.Shape.{Shape, IsTable}
use Rattle.calculus_specs.specs.Tree.{tree_of}
use Rattle.shq_meaning.specs.Truth.{Interpretation, holds, meets, refutes_at}
use Rattle.shq_nnf.specs.Parts.{axiom_parts}
use Rattle.shq_nnf.specs.Facts.{facts_of}
use Rattle.shq_nnf.specs.Meeting.{meets_parts, is_true, is_role_axiom, is_assertion, placed_elsewhere}

-- in each finite interpretation, at each element, the normal form of a class expression has its truth, and the normal
-- form of its complement the opposite truth
abbrev pub NormalFormsKeepTruth : Type 0
NormalFormsKeepTruth = (i : Interpretation) (c : Concept) (x : ℕ)
    → (holds i (normal_form c) x ≡ holds i c x) × (holds i (negated_form c) x ≡ not (holds i c x))

-- each finite interpretation meets an axiom that is neither of roles alone nor an assertion exactly where it meets all
-- of its parts
abbrev pub AxiomsAreTheirParts : Type 0
AxiomsAreTheirParts = (i : Interpretation) (a : Axiom) → is_role_axiom a ≡ false → is_assertion a ≡ false
    → meets i a ≡ meets_parts i (axiom_parts a)

-- and it meets an assertion exactly where all facts of it are true of its individuals
abbrev pub AssertionsAreTheirFacts : Type 0
AssertionsAreTheirFacts = (i : Interpretation) (a : Axiom) → is_assertion a ≡ true
    → meets i a ≡ list_all (is_true i i.individual) (facts_of a)

-- Whichever numbers the individuals are, what asserts nothing of them is met all the same, and a query on any has the
-- same counter-elements. So where nothing is asserted of individuals, a model that was a counter-model before there
-- were any is one still.
abbrev pub IndividualsBearOnAssertionsAlone : Type 0
IndividualsBearOnAssertionsAlone = (i : Interpretation) (place : ℕ → ℕ)
    → ((a : Axiom) → is_assertion a ≡ false → meets (placed_elsewhere i place) a ≡ meets i a)
    × ((q : Query) (x : ℕ) → q.on ≡ Any → refutes_at (placed_elsewhere i place) q x ≡ refutes_at i q x)

-- what a number of a table stands for is its own normal form
abbrev pub NumbersAreNormal : Type 0
NumbersAreNormal = (table : List Shape) → IsTable table → (n : ℕ) → n < length table
    → normal_form (tree_of table n) ≡ tree_of table n
