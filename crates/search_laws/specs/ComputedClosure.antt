-- The closure as a list, where the transitive roles and the concepts of given facts are listed.
use Rattle.std.specs.Prelude.{◌≡◌, ℕ, zero, suc, ◌-◌, max, true, ◌==◌, ◌↔◌, nat_lt, List, [], ◌∷◌, ◌++◌, map, filter}
use Rattle.std.specs.Prelude.{slice_get, Option, Some, None, if◌then◌else◌, Contains}
use Rattle.std.specs.List.{list_any, flat_map}
use Rattle.shq_terms.specs.Concept.{Concept, top, bottom, name, complement, intersection, union, some_of, all_of}
use Rattle.shq_terms.specs.Concept.{at_least, at_most, exactly, Parts, no_parts, part}
use Rattle.calculus_specs.specs.Normal.{normal_form, negated_form, or_of}
use Rattle.calculus_specs.specs.Same.{is_same}
use Rattle.calculus_specs.specs.Rows.{Part, is_name}
use Rattle.calculus_specs.specs.Rows.Part.{inclusion, range}
use Rattle.calculus_specs.specs.declared.facts.Fact.{Fact}
use Rattle.calculus_specs.specs.declared.facts.Fact.TheVariants.{Has, Edge, Apart, Same}
use Rattle.calculus_specs.specs.Rules.{Question}
use Rattle.calculus_specs.specs.Depth.{role_depth}
use Rattle.shq_terms.specs.declared.axioms.Numbered.{Numbered}
use Rattle.shq_terms.specs.declared.axioms.Query.{Query}
use Rattle.ontology_limits.specs.RoleAxiom.{RoleAxiom}
use Rattle.ontology_limits.specs.RoleAxiom.TheVariants.{Inclusion, Equivalence, Transitivity}
use Rattle.ontology_limits.specs.RoleAxioms.{role_axioms}
use Rattle.ontology_limits.specs.Facts.{facts_of}
use Rattle.refutation_truth.specs.Theory.{nodes_pass, question_of}
use Rattle.search_laws.specs.Closure.{IsClosure}

-- ---- the concepts of parts

-- the conjuncts that stay where some that are names are left out, for each choice of these
abbrev pub others_of : List Concept → List (List Concept)
others_of [] = [] ∷ []
others_of (c ∷ cs) =
    if is_name c then map (λ ds. c ∷ ds) (others_of cs) ++ others_of cs else map (λ ds. c ∷ ds) (others_of cs)

-- what remains of an inclusion: the right side, or the complement of one of the other conjuncts
abbrev pub row_of_others : Concept → List Concept → Concept
row_of_others right others = or_of (map negated_form others ++ right ∷ [])

-- the concepts that a part of an axiom may give to a node
abbrev pub part_concepts : Part → List Concept
part_concepts (inclusion cs d) = map (row_of_others d) (others_of cs)
part_concepts (range r d) = d ∷ []

-- ---- the concepts within concepts

-- the concept, and what it gives where `deeper` says what its fillers give
abbrev mutual
  pub given_by : (Concept → List Concept) → List ℕ → Concept → List Concept
  given_by deeper ts top = top ∷ []
  given_by deeper ts bottom = bottom ∷ []
  given_by deeper ts (name a) = name a ∷ []
  given_by deeper ts (complement c) = complement c ∷ []
  given_by deeper ts (intersection cs) = intersection cs ∷ given_by_each deeper ts cs
  given_by deeper ts (union cs) = union cs ∷ given_by_each deeper ts cs
  given_by deeper ts (some_of r c) = some_of r c ∷ deeper c
  given_by deeper ts (all_of r c) = all_of r c ∷ (map (λ t. all_of t c) ts ++ deeper c)
  given_by deeper ts (at_least n r c) = at_least n r c ∷ deeper c
  given_by deeper ts (at_most n r c) = at_most n r c ∷ (deeper c ++ deeper (negated_form c))
  given_by deeper ts (exactly n r c) = exactly n r c ∷ []

  pub given_by_each : (Concept → List Concept) → List ℕ → Parts → List Concept
  given_by_each deeper ts no_parts = []
  given_by_each deeper ts (part c cs) = given_by deeper ts c ++ given_by_each deeper ts cs

-- what concepts give whose roles nest at most n deep
abbrev pub given : List ℕ → ℕ → Concept → List Concept
given ts zero c = given_by (λ e. []) ts c
given ts (suc n) c = given_by (given ts n) ts c

-- ---- given facts

-- the list has each fact that an axiom gives
abbrev pub HasFacts : Question → List (Fact Concept) → Type 0
HasFacts q facts = (a p : ℕ) (f : Fact Concept) → q.fact_of a p ≡ Some f → Contains facts f

-- the concept that a fact gives to its node, in a list of one
abbrev pub given_concept : Fact Concept → List Concept
given_concept (Has x c) = c ∷ []
given_concept (Edge r x y) = []
given_concept (Apart x y) = []
given_concept (Same x y) = []

-- an axiom gives a node the concept
pub record IsMember (q : Question) (c : Concept) : Type 0 where
  pub axiom_number : ℕ
  pub place : ℕ
  pub node : ℕ
  pub is_given : q.fact_of axiom_number place ≡ Some (Has node c)

-- ---- the closure

-- the concepts with which the closure begins: those of the query, of the parts and of the given facts
abbrev pub roots : Question → List Concept → List Concept
roots q members =
    top ∷ normal_form q.sub ∷ negated_form q.sup ∷ (flat_map (λ n. part_concepts n.part) q.theory.parts ++ members)

-- the greatest role depth of some concepts
abbrev pub deepest : List Concept → ℕ
deepest [] = 0
deepest (c ∷ cs) = max (role_depth c) (deepest cs)

-- the concepts, each once
abbrev pub each_once : List Concept → List Concept
each_once [] = []
each_once (c ∷ cs) = if list_any (is_same c) cs then each_once cs else c ∷ each_once cs

-- the closure of a question, as a list
abbrev pub closure : Question → List ℕ → List Concept → List Concept
closure q ts members = each_once (flat_map (given ts (deepest (roots q members))) (roots q members))

-- where the first list has the transitive roles, and the second the concepts that axioms give to nodes, this is the
-- closure
abbrev pub ClosureIsComputed : Type 0
ClosureIsComputed = (q : Question) (ts : List ℕ) (members : List Concept)
    → ((t : ℕ) → (q.theory.is_transitive t ≡ true) ↔ (list_any (λ s. t == s) ts ≡ true))
    → ((c : Concept) → IsMember q c ↔ (list_any (is_same c) members ≡ true))
    → IsClosure q (closure q ts members)

-- ---- of axioms

-- the roles that axioms make transitive
abbrev pub transitive_roles : List RoleAxiom → List ℕ
transitive_roles [] = []
transitive_roles (Transitivity r ∷ axioms) = r ∷ transitive_roles axioms
transitive_roles (Inclusion r s ∷ axioms) = transitive_roles axioms
transitive_roles (Equivalence rs ∷ axioms) = transitive_roles axioms

-- the facts of an axiom that are of the first n individuals alone
abbrev pub facts_in : ℕ → Option Numbered → List (Fact Concept)
facts_in n None = []
facts_in n (Some a) = filter (nodes_pass (λ x. nat_lt x n)) (facts_of a.axiom)

-- the facts that the axioms of these numbers give, where n individuals are listed
abbrev pub given_facts : ℕ → List Numbered → List ℕ → List (Fact Concept)
given_facts n axioms ks = flat_map (λ k. facts_in n (slice_get axioms (k - 1))) ks

-- the closure of the axioms of these numbers and a query, where n individuals are listed
abbrev pub closure_of : ℕ → List Numbered → List ℕ → Query → List Concept
closure_of n axioms ks q =
    closure (question_of n axioms ks q) (transitive_roles (role_axioms axioms ks))
    (flat_map given_concept (given_facts n axioms ks))

-- each list is what it is said to be
pub record IsComputed (n : ℕ) (axioms : List Numbered) (ks : List ℕ) (q : Query) : Type 0 where
  pub facts : HasFacts (question_of n axioms ks q) (given_facts n axioms ks)
  pub concepts : IsClosure (question_of n axioms ks q) (closure_of n axioms ks q)

-- the closure of axioms and a query is the list that is computed of them
abbrev pub ClosureOfAxiomsIsComputed : Type 0
ClosureOfAxiomsIsComputed = (n : ℕ) (axioms : List Numbered) (ks : List ℕ) (q : Query) → IsComputed n axioms ks q
