-- Laws of the interpretation that a saturated trail gives.
use Rattle.std.specs.Prelude.{◌≡◌, ℕ, ◌<◌, ◌≤◌, ◌==◌, Bool, true, false, List, length}
use Rattle.shq_terms.specs.Listed.{Listed}
use Rattle.shq_terms.specs.declared.axioms.Query.{Query}
use Rattle.ontology_limits.specs.Below.{count_below}
use Rattle.ontology_limits.specs.Truth.{Interpretation, PlacesIndividuals, holds, meets_all, refutes_at, Entails}
use Rattle.calculus_specs.specs.Shape.{Shape, shape_of}
use Rattle.calculus_specs.specs.Shape.Shape.{at_most}
use Rattle.calculus_specs.specs.Tree.{tree_of}
use Rattle.calculus_specs.specs.Rows.{Row}
use Rattle.ontology_limits.specs.Limits.{IsInLimit}
use Rattle.calculus_specs.specs.declared.facts.Fact.{Fact}
use Rattle.calculus_specs.specs.Joins.{rep}
use Rattle.calculus_specs.specs.State.{node_count_from, has}
use Rattle.refutation_truth.specs.Theory.{named_axioms, theory_of, question_in}
use Rattle.tableau_specs.specs.declared.Item.{Item}
use Rattle.tableau_specs.specs.Items.{facts_of}
use Rattle.tableau_specs.specs.Steps.{SearchContext, IsSaturated}
use Rattle.tableau_specs.specs.Reached.{start, Follows, IsReached, context_of}
use Rattle.search_laws.specs.Theories.{MeetsRoles, MeetsParts, MeetsFacts}
use Rattle.search_laws.specs.Elements.{elements, node_at, IsNumberOf, original}
use Rattle.search_laws.specs.Pairs.{LeadsTo, IsChain}
use Rattle.search_laws.specs.Built.{IsBuilt}
use Rattle.search_laws.specs.Computed.{built}

-- no transitive role is below a role that some 'at most' of a label counts
abbrev pub CountsSimple : SearchContext → List (Fact ℕ) → Type 0
CountsSimple w fs = (x c n s e t : ℕ) → x < node_count_from w.first fs → has fs x c ≡ true
    → shape_of w.table c ≡ at_most n s e
    → w.theory.is_transitive t ≡ true → w.theory.below t s ≡ false

-- a search over the axioms of these numbers of an ontology in limit reaches the saturated trail, and i is its
-- interpretation
pub record IsSaturatedSearch (o : Listed) (ks : List ℕ) (q : Query) (table : List Shape) (rows : List Row) (k : ℕ)
    (trail : List Item) (i : Interpretation) : Type 0 where
  pub in_limit : IsInLimit o q
  pub reached : IsReached (question_in o ks q) table rows k trail
  pub is_saturated : IsSaturated (context_of (question_in o ks q) table rows) trail
  pub is_built : IsBuilt (context_of (question_in o ks q) table rows) (facts_of trail) i

-- ---- elements

-- there is one, and there are at most as many as representatives
pub record AreFew (first : ℕ) (fs : List (Fact ℕ)) : Type 0 where
  pub is_some : 1 ≤ length (elements first fs)
  pub not_more : length (elements first fs) ≤ count_below (node_count_from first fs) (λ x. rep fs x == x)

-- where there is a first node, there is an element, and there are at most as many as representatives
abbrev pub ElementsAreFew : Type 0
ElementsAreFew = (first : ℕ) (fs : List (Fact ℕ)) → 0 < first → AreFew first fs

-- a first node is one with an element, which is like itself
pub record IsOneWithElement (first : ℕ) (fs : List (Fact ℕ)) (x : ℕ) : Type 0 where
  pub number : ℕ
  pub is_its : IsNumberOf first fs x number
  pub is_like_itself : original first fs (rep fs x) ≡ rep fs x

-- each of the first nodes is one with an element
abbrev pub FirstNodesAreElements : Type 0
FirstNodesAreElements = (first : ℕ) (fs : List (Fact ℕ)) (x : ℕ) → x < first → IsOneWithElement first fs x

-- different elements are different nodes, so that different successors of a node are different elements
abbrev pub ElementsDiffer : Type 0
ElementsDiffer = (first : ℕ) (fs : List (Fact ℕ)) (v u : ℕ) → v < u → u < length (elements first fs)
    → node_at first fs v < node_at first fs u

-- each successor of the node that an element is like is an element
abbrev pub SuccessorsAreElements : Type 0
SuccessorsAreElements =
    (o : Listed) (ks : List ℕ) (q : Query) (table : List Shape) (rows : List Row) (k : ℕ) (trail : List Item)
    (i : Interpretation)
    → IsSaturatedSearch o ks q table rows k trail i → (s v y : ℕ) → v < i.size
    → LeadsTo (context_of (question_in o ks q) table rows) (facts_of trail) s
    (node_at (question_in o ks q).first (facts_of trail) v) y
    → (u : ℕ) × (u < i.size) × (node_at (question_in o ks q).first (facts_of trail) u ≡ y)

-- the label of an element is part of that of the node which it is like
abbrev pub LabelsArePart : Type 0
LabelsArePart =
    (o : Listed) (ks : List ℕ) (q : Query) (table : List Shape) (rows : List Row) (k : ℕ) (trail : List Item)
    (i : Interpretation)
    → IsSaturatedSearch o ks q table rows k trail i → (v c : ℕ) → v < i.size
    → has (facts_of trail) (node_at (question_in o ks q).first (facts_of trail) v) c ≡ true
    → has (facts_of trail)
    (original (question_in o ks q).first (facts_of trail) (node_at (question_in o ks q).first (facts_of trail) v)) c
    ≡ true

-- ---- truth

-- an element is in each concept that the node which it is like has
abbrev pub LabelsAreTrue : Type 0
LabelsAreTrue =
    (o : Listed) (ks : List ℕ) (q : Query) (table : List Shape) (rows : List Row) (k : ℕ) (trail : List Item)
    (i : Interpretation)
    → IsSaturatedSearch o ks q table rows k trail i → (v c : ℕ) → v < i.size → c < length table
    → has (facts_of trail)
    (original (question_in o ks q).first (facts_of trail) (node_at (question_in o ks q).first (facts_of trail) v)) c
    ≡ true
    → holds i (tree_of table c) v ≡ true

-- each part of the axioms is met, by the row that is chosen for it
abbrev pub PartsAreMet : Type 0
PartsAreMet =
    (o : Listed) (ks : List ℕ) (q : Query) (table : List Shape) (rows : List Row) (k : ℕ) (trail : List Item)
    (i : Interpretation)
    → IsSaturatedSearch o ks q table rows k trail i → MeetsParts (theory_of o.axioms ks) i

-- so are their roles
abbrev pub RolesAreMet : Type 0
RolesAreMet =
    (o : Listed) (ks : List ℕ) (q : Query) (table : List Shape) (rows : List Row) (k : ℕ) (trail : List Item)
    (i : Interpretation)
    → IsSaturatedSearch o ks q table rows k trail i → MeetsRoles (theory_of o.axioms ks) i

-- and what they assert of individuals
abbrev pub AssertionsAreMet : Type 0
AssertionsAreMet =
    (o : Listed) (ks : List ℕ) (q : Query) (table : List Shape) (rows : List Row) (k : ℕ) (trail : List Item)
    (i : Interpretation)
    → IsSaturatedSearch o ks q table rows k trail i → MeetsFacts (question_in o ks q).fact_of i

-- ---- the interpretation is computed

-- in each reached trail, where each transitive role is below a limit, what is computed is the built interpretation
abbrev pub ComputedIsBuilt : Type 0
ComputedIsBuilt = (w : SearchContext) (at sub not_sup k : ℕ) (trail : List Item) → at < w.first
    → Follows w (start at sub not_sup) k trail
    → (limit : ℕ) → ((t : ℕ) → w.theory.is_transitive t ≡ true → t < limit)
    → IsBuilt w (facts_of trail) (built w (facts_of trail) limit)

-- a set that has what edges from x lead to, and what edges from its members lead to, has the end of each chain from x
abbrev pub ChainsStayWithin : Type 0
ChainsStayWithin = (w : SearchContext) (fs : List (Fact ℕ)) (t : ℕ) (s : ℕ → Bool)
    → ((y z : ℕ) → s y ≡ true → LeadsTo w fs t y z → s z ≡ true)
    → (x y : ℕ) → ((z : ℕ) → LeadsTo w fs t x z → s z ≡ true) → IsChain w fs t x y → s y ≡ true

-- ---- counter-models

-- in each reached trail the labels count simple roles alone
abbrev pub LabelsCountSimple : Type 0
LabelsCountSimple =
    (o : Listed) (ks : List ℕ) (q : Query) (table : List Shape) (rows : List Row) (k : ℕ) (trail : List Item)
    → IsInLimit o q → IsReached (question_in o ks q) table rows k trail
    → CountsSimple (context_of (question_in o ks q) table rows) (facts_of trail)

-- the element that the node in question is one with is a counter-example
abbrev pub NodeInQuestionRefutes : Type 0
NodeInQuestionRefutes =
    (o : Listed) (ks : List ℕ) (q : Query) (table : List Shape) (rows : List Row) (k : ℕ) (trail : List Item)
    (i : Interpretation)
    → IsSaturatedSearch o ks q table rows k trail i → (v : ℕ)
    → IsNumberOf (question_in o ks q).first (facts_of trail) (question_in o ks q).at v
    → refutes_at i q v ≡ true

-- the classes that have elements and the roles that have pairs are listed, and so is each individual that is another
-- element than 0
pub record UsesListed (o : Listed) (i : Interpretation) : Type 0 where
  pub class_is : (a v : ℕ) → v < i.size → i.in_class a v ≡ true → a < length o.classes
  pub role_is : (s v u : ℕ) → v < i.size → u < i.size → i.in_role s v u ≡ true → s < length o.roles
  pub individual_is : (a : ℕ) → length o.individuals ≤ a → i.individual a ≡ 0

-- The interpretation uses listed names alone, has an element, and the individuals among its elements, meets the axioms
-- of these numbers, and has a counter-example to the query.
pub record IsCounterModel (o : Listed) (ks : List ℕ) (q : Query) (i : Interpretation) : Type 0 where
  pub names_are_listed : UsesListed o i
  pub has_element : 1 ≤ i.size
  pub places : PlacesIndividuals i
  pub meets_axioms : meets_all i (named_axioms o.axioms ks) ≡ true
  pub counter_example : ℕ
  pub is_element : counter_example < i.size
  pub refutes : refutes_at i q counter_example ≡ true

-- the interpretation of a saturated trail that a search reaches is a counter-model
abbrev pub SaturatedIsCounterModel : Type 0
SaturatedIsCounterModel =
    (o : Listed) (ks : List ℕ) (q : Query) (table : List Shape) (rows : List Row) (k : ℕ) (trail : List Item)
    (i : Interpretation)
    → IsSaturatedSearch o ks q table rows k trail i → IsCounterModel o ks q i

-- so where a search saturates, the axioms of these numbers do not entail the query
abbrev pub SaturatedDoesNotEntail : Type 0
SaturatedDoesNotEntail =
    (o : Listed) (ks : List ℕ) (q : Query) (table : List Shape) (rows : List Row) (k : ℕ) (trail : List Item)
    → IsInLimit o q → IsReached (question_in o ks q) table rows k trail
    → IsSaturated (context_of (question_in o ks q) table rows) trail → ¬ Entails (named_axioms o.axioms ks) q
