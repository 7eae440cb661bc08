-- The branches that are open: one that is read, and those that wait.
use Rattle.std.specs.Prelude.{◌≡◌, ℕ, ◌+◌, ◌^◌, ◌≤◌, Bool, true, false, List, [], ◌∷◌, ◌++◌, map, take, reverse, All}
use Rattle.std.specs.List.{list_any, range_with_len}
use Rattle.calculus_specs.specs.Shape.{Shape}
use Rattle.refutation_rules.specs.NumberedBranch.{NumberedBranch as Branch, has_node}
use Rattle.calculus_specs.specs.Rules.{Known}
use Rattle.calculus_specs.specs.declared.facts.Fact.{Fact}
use Rattle.calculus_specs.specs.State.{new_nodes}
use Rattle.refutation_rules.specs.declared.outcome.NewNodes.{NewNodes}
use Rattle.refutation_rules.specs.declared.outcome.Outcome.{Outcome}
use Rattle.refutation_rules.specs.declared.outcome.Outcome.TheVariants.{Closed, Started, More, Nodes, Branches}
use Rattle.refutation_rules.specs.Outcomes.{known_of, branch_with_facts, branch_with_nodes, IsBranch}
use Rattle.refutation_check.specs.declared.open_branches.Pending.{Pending}

-- the branch that is read, unless it is closed, and those that wait
pub record Open : Type 0 where
  pub branch : Branch
  pub waiting : List Branch
  pub closed : Bool

-- the open branches, of which the first is left out where it is closed
abbrev pub branches_of : Bool → Branch → List Branch → List Branch
branches_of true k ks = []
branches_of false k ks = k ∷ ks

-- all open branches
abbrev pub branches : Open → List Branch
branches o = branches_of o.closed o.branch o.waiting

-- what is known in each of the branches
abbrev pub are_known : List Shape → List Branch → List Known
are_known table ks = map (known_of table) ks

-- the concepts of each branch have numbers below the bound
abbrev pub AreNumberedBranches : ℕ → List Branch → Type 0
AreNumberedBranches bound ks = All (IsBranch bound) ks

-- the branch that is read with nodes more, and with facts more
abbrev pub knowing_nodes : Open → List ℕ → Open
knowing_nodes o xs = record {
  branch = record { nodes = o.branch.nodes ++ xs; facts = o.branch.facts };
  waiting = o.waiting;
  closed = o.closed;
}

-- the same with facts more in the branch that is read
abbrev pub knowing : Open → List (Fact ℕ) → Open
knowing o fs = record { branch = branch_with_facts o.branch fs; waiting = o.waiting; closed = o.closed }

-- the branch that is read with new nodes and what is said of them: of each the edge that leads to it, and its concept
abbrev pub with_new_nodes : Open → NewNodes → Open
with_new_nodes o n = record {
  branch = branch_with_nodes o.branch n.from n.role n.concept n.first n.count;
  waiting = o.waiting;
  closed = o.closed;
}

-- the facts of new nodes
abbrev pub facts_of_new : NewNodes → List (Fact ℕ)
facts_of_new n = new_nodes n.from n.role n.concept n.first n.count

-- a branch for each of the facts, and one for a fact that waits as well
abbrev pub branches_for : Branch → List (Fact ℕ) → List Branch
branches_for k fs = map (λ f. branch_with_facts k (f ∷ [])) fs

-- the same with one branch more that waits, which has a fact more
abbrev pub waiting_with : Open → Fact ℕ → Open
waiting_with o f =
    record { branch = o.branch; waiting = branch_with_facts o.branch (f ∷ []) ∷ o.waiting; closed = o.closed }

-- what a line leaves can be put in the place of the branch: only one that knows nothing is started, and new nodes are
-- new
abbrev pub IsReady : Branch → Outcome → Type 0
IsReady k Closed = Unit {0}
IsReady k (Started n) = (k.nodes ≡ []) × (k.facts ≡ []) × (n.count ≤ 2 ^ 32)
IsReady k (More fs) = Unit {0}
IsReady k (Nodes n) = (n.first + n.count ≤ 2 ^ 32) × (list_any (has_node k) (range_with_len n.first n.count) ≡ false)
IsReady k (Branches fs) = Unit {0}

-- ---- how those that wait are kept

-- the branch that begins as the first one did up to a mark, and has a fact of its own there
abbrev pub branch_at : Branch → Pending → Branch
branch_at k p = record { nodes = take p.mark.nodes k.nodes; facts = take p.mark.facts k.facts ++ p.fact ∷ [] }

-- the branches that wait, the next one first; the last that was put comes next
abbrev pub branches_at : Branch → List Pending → List Branch
branches_at k ps = map (branch_at k) (reverse ps)

-- marks, the latest first, lie within each other
abbrev pub AreWithin : ℕ → ℕ → List Pending → Type 0
AreWithin nodes facts [] = Unit {0}
AreWithin nodes facts (p ∷ ps) = (p.mark.nodes ≤ nodes) × (p.mark.facts ≤ facts)
    × AreWithin p.mark.nodes p.mark.facts ps
