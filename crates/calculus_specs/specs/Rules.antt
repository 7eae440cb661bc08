-- What a rule line adds to what is known in its branch, where its premises hold. Facts are read through the nodes that
-- are joined, and every node has top. A line whose number of a concept stands for none has no premises that hold.
use Rattle.std.specs.Prelude.{ℕ, ◌+◌, ◌^◌, ◌==◌, nat_lt, nat_le, ◌&&◌, not, Bool, List, [], ◌∷◌, ◌++◌, map, length}
use Rattle.std.specs.Prelude.{Option, Some, None, if◌then◌else◌}
use Rattle.std.specs.List.{list_any, list_all, range_with_len}
use Rattle.shq_base.specs.Concept.{Concept, bottom, name, complement, intersection, union, some_of, all_of, at_least}
use Rattle.shq_base.specs.Concept.{at_most, part_list}
use Rattle.calculus_specs.specs.Normal.{normal_form, negated_form}
use Rattle.calculus_specs.specs.Rows.{Part, Theory, part_at, conjunct_at, are_name_positions, row_concept}
use Rattle.calculus_specs.specs.Rows.Part.{inclusion, range}
use Rattle.calculus_specs.specs.declared.facts.Fact.{Fact}
use Rattle.calculus_specs.specs.declared.facts.Fact.TheVariants.{Has, Apart, Same}
use Rattle.calculus_specs.specs.Joins.{rep}
use Rattle.calculus_specs.specs.State.{has_tree, has_edge, are_apart, all_apart, fresh_facts}
use Rattle.calculus_specs.specs.Line.{Line}
use Rattle.calculus_specs.specs.Line.Line.{start_line, and_line, or_line, all_line, carry_line, row_line, range_line}
use Rattle.calculus_specs.specs.Line.Line.{some_line, least_line, choose_line, pair_line, bottom_line, clash_line}
use Rattle.calculus_specs.specs.Line.Line.{most_line, fact_line, differ_line}

-- What a refutation is of: that something is in `sub` and not in `sup`, over the axioms of a theory. The first nodes
-- are those below `first`: one for each individual, and one for an element without a name. Node `at` is the one in
-- question, and `fact_of a p` is the p-th fact, from 1, of axiom a, where axiom a says something of individuals.
pub record Question : Type 0 where
  pub theory : Theory
  pub sub : Concept
  pub sup : Concept
  pub first : ℕ
  pub at : ℕ
  pub fact_of : ℕ → ℕ → Option (Fact Concept)

-- the question without individuals: node 0 is the only first node
abbrev pub on_any : Theory → Concept → Concept → Question
on_any theory sub sup = record { theory = theory; sub = sub; sup = sup; first = 1; at = 0; fact_of = λ a p. None }

-- the nodes and the facts that a branch knows
pub record Known : Type 0 where
  pub nodes : List ℕ
  pub facts : List (Fact Concept)

-- the node is one of those that are known
abbrev pub knows : Known → ℕ → Bool
knows k x = list_any (λ y. y == x) k.nodes

-- whether one of the n nodes from y on is known
abbrev pub knows_some_from : Known → ℕ → ℕ → Bool
knows_some_from k y n = list_any (λ z. nat_le y z && nat_lt z (y + n)) k.nodes

-- the same nodes, and facts more
abbrev pub with_facts : Known → List (Fact Concept) → Known
with_facts k fs = record { nodes = k.nodes; facts = k.facts ++ fs }

-- n nodes more from y on, below x by role s and with concept e, and pairwise apart
abbrev pub with_nodes : Known → ℕ → ℕ → Concept → ℕ → ℕ → Known
with_nodes k x s e y n = record { nodes = k.nodes ++ range_with_len y n; facts = k.facts ++ fresh_facts x s e y n }

-- the answer where the test holds
abbrev pub when : {A : Type 0} → Bool → Option A → Option A
when b answer = if b then answer else None

-- the answer for the concept, where there is one and the known node x has it
abbrev pub at_concept : {A : Type 0} → Known → ℕ → Option Concept → (Concept → Option A) → Option A
at_concept k x None answer = None
at_concept k x (Some c) answer = when (knows k x && has_tree k.facts x c) (answer c)

-- ---- the children of each line by the concept that its premises name

-- what follows a line `and`: the node is in each part of the intersection
abbrev pub and_children : Known → ℕ → Concept → Option (List Known)
and_children k x (intersection cs) = Some (with_facts k (map (Has x) (part_list cs)) ∷ [])
and_children k x _ = None

-- what follows a line `or`: a child for each part of the union, in which the node is in it
abbrev pub or_children : Known → ℕ → Concept → Option (List Known)
or_children k x (union cs) = Some (map (λ d. with_facts k (Has x d ∷ [])) (part_list cs))
or_children k x _ = None

-- what follows a line `all`: the end of an edge of a role below that of 'all' is in the filler
abbrev pub all_children : Theory → Known → ℕ → ℕ → Concept → Option (List Known)
all_children theory k x y (all_of s e) =
    when (knows k y && has_edge k.facts (λ r. theory.below r s) x y) (Some (with_facts k (Has y e ∷ []) ∷ []))
all_children theory k x y _ = None

-- what follows a line `carry`: the end of an edge below a transitive role is in the same 'all' over that role
abbrev pub carry_children : Theory → Known → ℕ → ℕ → ℕ → Concept → Option (List Known)
carry_children theory k x y t (all_of s e) =
    when (theory.is_transitive t && theory.below t s && knows k y && has_edge k.facts (λ r. theory.below r t) x y)
    (Some (with_facts k (Has y (all_of t e) ∷ []) ∷ []))
carry_children theory k x y t _ = None

-- what follows a line `row`: the node, which is in the names at the positions, is in what remains of the inclusion
abbrev pub row_children : Known → ℕ → List ℕ → Option Part → Option (List Known)
row_children k x positions (Some (inclusion cs d)) =
    when
    (are_name_positions cs positions && knows k x && list_all (λ i. has_tree k.facts x (conjunct_at cs i)) positions)
    (Some (with_facts k (Has x (row_concept cs d positions) ∷ []) ∷ []))
row_children k x positions _ = None

-- what follows a line `range`: the end of an edge of a role below that of the range is in its class
abbrev pub range_children : Theory → Known → ℕ → ℕ → Option Part → Option (List Known)
range_children theory k x y (Some (range s d)) =
    when (knows k x && knows k y && has_edge k.facts (λ r. theory.below r s) x y)
    (Some (with_facts k (Has y d ∷ []) ∷ []))
range_children theory k x y _ = None

-- what follows a line `some`: a new node at the end of an edge, in the filler
abbrev pub some_children : Known → ℕ → ℕ → Concept → Option (List Known)
some_children k x y (some_of s e) = when (not (knows k y)) (Some (with_nodes k x s e y 1 ∷ []))
some_children k x y _ = None

-- what follows a line `least`: n new nodes at the ends of edges, in the filler and pairwise apart
abbrev pub least_children : Known → ℕ → ℕ → Concept → Option (List Known)
least_children k x y (at_least n s e) =
    when (nat_le (y + n) (2 ^ 32) && not (knows_some_from k y n)) (Some (with_nodes k x s e y n ∷ []))
least_children k x y _ = None

-- what follows a line `choose`: a child with the concept, and one with its complement
abbrev pub choose_children : Known → ℕ → Option Concept → Option (List Known)
choose_children k y (Some c) =
    when (knows k y) (Some (with_facts k (Has y c ∷ []) ∷ with_facts k (Has y (negated_form c) ∷ []) ∷ []))
choose_children k y None = None

-- a line `clash` closes the branch: the node is in a name and in its complement
abbrev pub clash_children : Known → ℕ → Concept → Option (List Known)
clash_children k x (name a) = when (has_tree k.facts x (complement (name a))) (Some [])
clash_children k x _ = None

-- whether each of the known nodes is the end of an edge below s from x and has e
abbrev pub are_fillers : Theory → Known → ℕ → ℕ → Concept → List ℕ → Bool
are_fillers theory k x s e ys =
    list_all (λ y. knows k y && has_edge k.facts (λ r. theory.below r s) x y && has_tree k.facts y e) ys

-- a line `most` closes the branch: n + 1 successors are in the filler, pairwise apart
abbrev pub most_children : Theory → Known → ℕ → List ℕ → Concept → Option (List Known)
most_children theory k x ys (at_most n s e) =
    when (length ys == n + 1 && are_fillers theory k x s e ys && all_apart k.facts ys) (Some [])
most_children theory k x ys _ = None

-- ---- lines without a concept

-- the fact that an axiom gives, once the first nodes are known
abbrev pub fact_children : Known → Option (Fact Concept) → Option (List Known)
fact_children k None = None
fact_children k (Some f) = when (knows k 0) (Some (with_facts k (f ∷ []) ∷ []))

-- the branch ends where two nodes are apart and one
abbrev pub differ_children : Known → ℕ → ℕ → Option (List Known)
differ_children k y z =
    when (knows k y && knows k z && are_apart k.facts y z && rep k.facts y == rep k.facts z) (Some [])

-- ---- any line

-- nothing is known before the line `start`
abbrev pub nothing_known : Known
nothing_known = record { nodes = []; facts = [] }

-- node x is in `sub` and not in `sup`
abbrev pub asked_facts : ℕ → Concept → Concept → List (Fact Concept)
asked_facts x sub sup = Has x (normal_form sub) ∷ Has x (negated_form sup) ∷ []

-- the first nodes, of which the one in question is in `sub` and not in `sup`
abbrev pub started : Question → Known
started q = record { nodes = range_with_len 0 q.first; facts = asked_facts q.at q.sub q.sup }

-- by the nodes that are known: nothing stands before `start`, and the node in question has to be a first one
abbrev pub start_children : Question → List ℕ → Option (List Known)
start_children q [] = when (nat_lt q.at q.first) (Some (started q ∷ []))
start_children q (x ∷ xs) = None

-- what is known in each child of the line, where its premises hold, in a refutation of the question whose concept
-- numbers read as `concept` says
abbrev pub children_of : Question → (ℕ → Option Concept) → Known → Line → Option (List Known)
children_of q concept k start_line = start_children q k.nodes
children_of q concept k (and_line x c) = at_concept k x (concept c) (and_children k x)
children_of q concept k (or_line x c) = at_concept k x (concept c) (or_children k x)
children_of q concept k (all_line x y c) = at_concept k x (concept c) (all_children q.theory k x y)
children_of q concept k (carry_line x y t c) = at_concept k x (concept c) (carry_children q.theory k x y t)
children_of q concept k (row_line x a p positions) = row_children k x positions (part_at q.theory a p)
children_of q concept k (range_line x y a) = range_children q.theory k x y (part_at q.theory a 1)
children_of q concept k (some_line x y c) = at_concept k x (concept c) (some_children k x y)
children_of q concept k (least_line x y c) = at_concept k x (concept c) (least_children k x y)
children_of q concept k (choose_line y c) = choose_children k y (concept c)
children_of q concept k (pair_line y z) =
    when (knows k y && knows k z) (Some (with_facts k (Same y z ∷ []) ∷ with_facts k (Apart y z ∷ []) ∷ []))
children_of q concept k (bottom_line x) = when (knows k x && has_tree k.facts x bottom) (Some [])
children_of q concept k (clash_line x c) = at_concept k x (concept c) (clash_children k x)
children_of q concept k (most_line x c ys) = at_concept k x (concept c) (most_children q.theory k x ys)
children_of q concept k (fact_line a p) = fact_children k (q.fact_of a p)
children_of q concept k (differ_line y z) = differ_children k y z
