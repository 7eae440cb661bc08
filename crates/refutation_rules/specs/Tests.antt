-- What rule lines ask of a branch, over concepts by number.
use Rattle.std.specs.Prelude.{ℕ, ◌+◌, ◌^◌, ◌==◌, ◌&&◌, nat_le, nat_lt, not, Bool, List, length, Option, Some}
use Rattle.std.specs.List.{list_any, range_with_len}
use Rattle.calculus_specs.specs.Tree.{tree_of}
use Rattle.branch_facts.specs.NumberedBranch.{NumberedBranch as Branch, has_node}
use Rattle.calculus_specs.specs.Joins.{rep}
use Rattle.calculus_specs.specs.State.{has_tree, has_edge, are_apart, all_apart}
use Rattle.calculus_specs.specs.Rules.{knows, when, are_fillers}
use Rattle.refutation_rules.specs.declared.outcome.NewNodes.{NewNodes}
use Rattle.refutation_rules.specs.declared.outcome.Outcome.{Outcome}
use Rattle.refutation_rules.specs.declared.outcome.Outcome.TheVariants.{Nodes}
use Rattle.refutation_rules.specs.Outcomes.{known_of}
use Rattle.refutation_rules.specs.RefutationContext.{RefutationContext, theory, question}

-- the node in question, where it is a first node
abbrev pub node_asked : RefutationContext → Option ℕ
node_asked f = when (nat_lt (question f).at (question f).first) (Some (question f).at)

-- the two nodes are known, apart and one
abbrev pub are_differing : Branch → ℕ → ℕ → Bool
are_differing k x y = has_node k x && has_node k y && are_apart k.facts x y && rep k.facts x == rep k.facts y

-- the node has the concept of the number, and the node is known as well
abbrev pub has_number : RefutationContext → Branch → ℕ → ℕ → Bool
has_number f k x n = has_tree (known_of f.table k).facts x (tree_of f.table n)

-- the node is known, and is in the concept
abbrev pub is_in : RefutationContext → Branch → ℕ → ℕ → Bool
is_in f k x n = knows (known_of f.table k) x && has_tree (known_of f.table k).facts x (tree_of f.table n)

-- an edge of a role below this one leads from one node to the other, and this is known as well
abbrev pub leads : RefutationContext → Branch → ℕ → ℕ → ℕ → Bool
leads f k role x y = has_edge (known_of f.table k).facts (λ r. (theory f).below r role) x y

-- the other node is known, and an edge of a role below this one leads to it
abbrev pub leads_to : RefutationContext → Branch → ℕ → ℕ → ℕ → Bool
leads_to f k role x y =
    knows (known_of f.table k) y && has_edge (known_of f.table k).facts (λ r. (theory f).below r role) x y

-- the same by the roles below a bound alone
abbrev pub leads_within : RefutationContext → Branch → ℕ → ℕ → ℕ → ℕ → Bool
leads_within f k bound role x y =
    list_any (λ lower. (theory f).below lower role && has_edge k.facts (λ r. r == lower) x y) (range_with_len 0 bound)

-- and by a transitive role that is below the upper one
abbrev pub carries : RefutationContext → Branch → ℕ → ℕ → ℕ → ℕ → Bool
carries f k role upper x y =
    (theory f).is_transitive role && (theory f).below role upper && knows (known_of f.table k) y
    && has_edge (known_of f.table k).facts (λ r. (theory f).below r role) x y

-- the node y is known, the end of such an edge, and in the filler
abbrev pub is_filler : RefutationContext → Branch → ℕ → ℕ → ℕ → ℕ → Bool
is_filler f k x role filler y =
    knows (known_of f.table k) y && has_edge (known_of f.table k).facts (λ r. (theory f).below r role) x y
    && has_tree (known_of f.table k).facts y (tree_of f.table filler)

-- each of the nodes is in the filler, at the end of an edge of a role below this one
abbrev pub fill : RefutationContext → Branch → ℕ → ℕ → ℕ → List ℕ → Bool
fill f k x role filler ys = are_fillers (theory f) (known_of f.table k) x role (tree_of f.table filler) ys

-- these are one more than so many fillers, and pairwise apart
abbrev pub exceed : RefutationContext → Branch → ℕ → ℕ → ℕ → ℕ → List ℕ → Bool
exceed f k x count role filler ys =
    length ys == count + 1 && are_fillers (theory f) (known_of f.table k) x role (tree_of f.table filler) ys
    && all_apart k.facts ys

-- the new nodes, where there are numbers for them and none is known
abbrev pub made_if_new : Branch → NewNodes → Option Outcome
made_if_new k n =
    when (nat_le (n.first + n.count) (2 ^ 32) && not (list_any (has_node k) (range_with_len n.first n.count)))
    (Some (Nodes n))
