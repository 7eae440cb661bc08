-- What a rule line asks of a branch, fact by fact, and what each of its children adds, whatever the branch.
use Rattle.std.specs.Prelude.{ℕ, ◌+◌, ◌^◌, ◌==◌, nat_le, ◌&&◌, not, Bool, true, false, List, [], ◌∷◌, ◌++◌, map, length}
use Rattle.std.specs.Prelude.{Option, None, Some}
use Rattle.std.specs.List.{list_all}
use Rattle.calculus_specs.specs.Concept.{Concept, bottom, name, complement, intersection, union, some_of, all_of}
use Rattle.calculus_specs.specs.Concept.{at_least, at_most, part_list}
use Rattle.calculus_specs.specs.Normal.{negated_form}
use Rattle.calculus_specs.specs.Rows.{Part, Theory, part_at, conjunct_at, are_name_positions, row_concept}
use Rattle.calculus_specs.specs.Rows.Part.{inclusion, range}
use Rattle.calculus_specs.specs.declared.facts.Fact.{Fact}
use Rattle.calculus_specs.specs.declared.facts.Fact.TheVariants.{Has, Apart, Same}
use Rattle.calculus_specs.specs.Joins.{rep}
use Rattle.calculus_specs.specs.State.{has_tree, has_edge, are_apart}
use Rattle.calculus_specs.specs.Line.{Line}
use Rattle.calculus_specs.specs.Line.Line.{start_line, and_line, or_line, all_line, carry_line, row_line, range_line}
use Rattle.calculus_specs.specs.Line.Line.{some_line, least_line, choose_line, pair_line, bottom_line, clash_line}
use Rattle.calculus_specs.specs.Line.Line.{most_line, fact_line, differ_line}
use Rattle.calculus_specs.specs.Rules.{Question, Known, knows, knows_some_from, with_facts, with_nodes, when}

-- ---- premises

-- what a rule line asks of its branch: a node, a concept of it, an edge, or that two nodes are apart or one
pub data Premise : Type 0 where
  is_node : (x : ℕ) → Premise
  has_concept : (x : ℕ) (c : Concept) → Premise
  has_edge_below : (s x y : ℕ) → Premise
  is_apart : (x y : ℕ) → Premise
  is_one : (x y : ℕ) → Premise

-- whether a premise holds in a branch; facts are read through joins
abbrev pub holds : Theory → Known → Premise → Bool
holds theory k (is_node x) = knows k x
holds theory k (has_concept x c) = has_tree k.facts x c
holds theory k (has_edge_below s x y) = has_edge k.facts (λ r. theory.below r s) x y
holds theory k (is_apart x y) = are_apart k.facts x y
holds theory k (is_one x y) = rep k.facts x == rep k.facts y

-- ---- what a child adds

-- what a child of a rule line adds: facts, or new nodes
pub data Added : Type 0 where
  more_facts : (fs : List (Fact Concept)) → Added
  more_nodes : (x s : ℕ) (e : Concept) (y n : ℕ) → Added

-- the branch with what is added
abbrev pub with_added : Known → Added → Known
with_added k (more_facts fs) = with_facts k fs
with_added k (more_nodes x s e y n) = with_nodes k x s e y n

-- whether none of the nodes that are added is known
abbrev pub is_new : Known → Added → Bool
is_new k (more_facts fs) = true
is_new k (more_nodes x s e y n) = not (knows_some_from k y n)

-- ---- rules

-- a rule line as its premises, and what each of its children adds
pub record Rule : Type 0 where
  pub premises : List Premise
  pub children : List Added

-- the rule line `and`
abbrev pub and_rule : ℕ → Option Concept → Option Rule
and_rule x (Some (intersection cs)) = Some (record {
  premises = is_node x ∷ has_concept x (intersection cs) ∷ [];
  children = more_facts (map (Has x) (part_list cs)) ∷ [];
})
and_rule x _ = None

-- the rule line `or`
abbrev pub or_rule : ℕ → Option Concept → Option Rule
or_rule x (Some (union cs)) = Some (record {
  premises = is_node x ∷ has_concept x (union cs) ∷ [];
  children = map (λ d. more_facts (Has x d ∷ [])) (part_list cs);
})
or_rule x _ = None

-- the rule line `all`
abbrev pub all_rule : ℕ → ℕ → Option Concept → Option Rule
all_rule x y (Some (all_of s e)) = Some (record {
  premises = is_node x ∷ has_concept x (all_of s e) ∷ is_node y ∷ has_edge_below s x y ∷ [];
  children = more_facts (Has y e ∷ []) ∷ [];
})
all_rule x y _ = None

-- the rule line `carry`
abbrev pub carry_rule : Theory → ℕ → ℕ → ℕ → Option Concept → Option Rule
carry_rule theory x y t (Some (all_of s e)) = when (theory.is_transitive t && theory.below t s) (Some (record {
  premises = is_node x ∷ has_concept x (all_of s e) ∷ is_node y ∷ has_edge_below t x y ∷ [];
  children = more_facts (Has y (all_of t e) ∷ []) ∷ [];
}))
carry_rule theory x y t _ = None

-- the rule line `row`
abbrev pub row_rule : ℕ → List ℕ → Option Part → Option Rule
row_rule x positions (Some (inclusion cs d)) = when (are_name_positions cs positions) (Some (record {
  premises = is_node x ∷ map (λ i. has_concept x (conjunct_at cs i)) positions;
  children = more_facts (Has x (row_concept cs d positions) ∷ []) ∷ [];
}))
row_rule x positions _ = None

-- the rule line `range`
abbrev pub range_rule : ℕ → ℕ → Option Part → Option Rule
range_rule x y (Some (range s d)) = Some
    (record { premises = is_node x ∷ is_node y ∷ has_edge_below s x y ∷ []; children = more_facts (Has y d ∷ []) ∷ [] })
range_rule x y _ = None

-- the rule line `some`
abbrev pub some_rule : ℕ → ℕ → Option Concept → Option Rule
some_rule x y (Some (some_of s e)) =
    Some (record { premises = is_node x ∷ has_concept x (some_of s e) ∷ []; children = more_nodes x s e y 1 ∷ [] })
some_rule x y _ = None

-- the rule line `least`
abbrev pub least_rule : ℕ → ℕ → Option Concept → Option Rule
least_rule x y (Some (at_least n s e)) = when (nat_le (y + n) (2 ^ 32))
    (Some (record { premises = is_node x ∷ has_concept x (at_least n s e) ∷ []; children = more_nodes x s e y n ∷ [] }))
least_rule x y _ = None

-- the rule line `choose`
abbrev pub choose_rule : ℕ → Option Concept → Option Rule
choose_rule y (Some c) = Some (record {
  premises = is_node y ∷ [];
  children = more_facts (Has y c ∷ []) ∷ more_facts (Has y (negated_form c) ∷ []) ∷ [];
})
choose_rule y None = None

-- the rule line `clash`
abbrev pub clash_rule : ℕ → Option Concept → Option Rule
clash_rule x (Some (name a)) = Some
    (record { premises = is_node x ∷ has_concept x (name a) ∷ has_concept x (complement (name a)) ∷ []; children = [] })
clash_rule x _ = None

-- y is a known node at the end of an edge below s from x, and has e
abbrev pub filler_premises : ℕ → ℕ → Concept → List ℕ → List Premise
filler_premises x s e [] = []
filler_premises x s e (y ∷ ys) = is_node y ∷ has_edge_below s x y ∷ has_concept y e ∷ filler_premises x s e ys

-- each two of the nodes are apart
abbrev pub apart_premises : List ℕ → List Premise
apart_premises [] = []
apart_premises (y ∷ ys) = map (is_apart y) ys ++ apart_premises ys

-- the rule line `most`
abbrev pub most_rule : ℕ → List ℕ → Option Concept → Option Rule
most_rule x ys (Some (at_most n s e)) = when (length ys == n + 1) (Some (record {
  premises = is_node x ∷ has_concept x (at_most n s e) ∷ (filler_premises x s e ys ++ apart_premises ys);
  children = [];
}))
most_rule x ys _ = None

-- the fact that an axiom gives, once the first nodes are known
abbrev pub fact_rule : Option (Fact Concept) → Option Rule
fact_rule None = None
fact_rule (Some f) = Some (record { premises = is_node 0 ∷ []; children = more_facts (f ∷ []) ∷ [] })

-- the rule that a line uses in a refutation of the question, but for `start`, which has its own branch
abbrev pub rule_of : Question → (ℕ → Option Concept) → Line → Option Rule
rule_of q concept start_line = None
rule_of q concept (and_line x c) = and_rule x (concept c)
rule_of q concept (or_line x c) = or_rule x (concept c)
rule_of q concept (all_line x y c) = all_rule x y (concept c)
rule_of q concept (carry_line x y t c) = carry_rule q.theory x y t (concept c)
rule_of q concept (row_line x a p positions) = row_rule x positions (part_at q.theory a p)
rule_of q concept (range_line x y a) = range_rule x y (part_at q.theory a 1)
rule_of q concept (some_line x y c) = some_rule x y (concept c)
rule_of q concept (least_line x y c) = least_rule x y (concept c)
rule_of q concept (choose_line y c) = choose_rule y (concept c)
rule_of q concept (pair_line y z) = Some (record {
  premises = is_node y ∷ is_node z ∷ [];
  children = more_facts (Same y z ∷ []) ∷ more_facts (Apart y z ∷ []) ∷ [];
})
rule_of q concept (bottom_line x) = Some (record { premises = is_node x ∷ has_concept x bottom ∷ []; children = [] })
rule_of q concept (clash_line x c) = clash_rule x (concept c)
rule_of q concept (most_line x c ys) = most_rule x ys (concept c)
rule_of q concept (fact_line a p) = fact_rule (q.fact_of a p)
rule_of q concept (differ_line y z) =
    Some (record { premises = is_node y ∷ is_node z ∷ is_apart y z ∷ is_one y z ∷ []; children = [] })

-- the children that a rule gives to a branch
abbrev pub children_by : Question → Known → Option Rule → Option (List Known)
children_by q k None = None
children_by q k (Some r) =
    when (list_all (holds q.theory k) r.premises)
    (when (list_all (is_new k) r.children) (Some (map (with_added k) r.children)))

-- ---- kinds of lines

-- the line is `start`
abbrev pub is_start : Line → Bool
is_start start_line = true
is_start (and_line x c) = false
is_start (or_line x c) = false
is_start (all_line x y c) = false
is_start (carry_line x y t c) = false
is_start (row_line x a p positions) = false
is_start (range_line x y a) = false
is_start (some_line x y c) = false
is_start (least_line x y c) = false
is_start (choose_line y c) = false
is_start (pair_line y z) = false
is_start (bottom_line x) = false
is_start (clash_line x c) = false
is_start (most_line x c ys) = false
is_start (fact_line a p) = false
is_start (differ_line y z) = false

-- the line has two children or more: `or`, `choose` or `pair`
abbrev pub is_branching : Line → Bool
is_branching (or_line x c) = true
is_branching (choose_line y c) = true
is_branching (pair_line y z) = true
is_branching start_line = false
is_branching (and_line x c) = false
is_branching (all_line x y c) = false
is_branching (carry_line x y t c) = false
is_branching (row_line x a p positions) = false
is_branching (range_line x y a) = false
is_branching (some_line x y c) = false
is_branching (least_line x y c) = false
is_branching (bottom_line x) = false
is_branching (clash_line x c) = false
is_branching (most_line x c ys) = false
is_branching (fact_line a p) = false
is_branching (differ_line y z) = false

-- the line closes its branch: `bottom`, `clash`, `most` or `differ`
abbrev pub is_clash : Line → Bool
is_clash (bottom_line x) = true
is_clash (clash_line x c) = true
is_clash (most_line x c ys) = true
is_clash (differ_line y z) = true
is_clash start_line = false
is_clash (and_line x c) = false
is_clash (or_line x c) = false
is_clash (all_line x y c) = false
is_clash (carry_line x y t c) = false
is_clash (row_line x a p positions) = false
is_clash (range_line x y a) = false
is_clash (some_line x y c) = false
is_clash (least_line x y c) = false
is_clash (choose_line y c) = false
is_clash (pair_line y z) = false
is_clash (fact_line a p) = false

-- whether a line has exactly one child, where its premises hold
abbrev pub is_single : Line → Bool
is_single line = not (is_branching line) && not (is_clash line)
