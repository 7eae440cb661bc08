-- What a rule line does to the branch to which it belongs, over concepts by number.
use Rattle.std.specs.Prelude.{◌≡◌, ℕ, ◌+◌, ◌^◌, ◌<◌, ◌≤◌, nat_eq, true, false, List, [], ◌∷◌, ◌++◌, map, Option, Some}
use Rattle.std.specs.Prelude.{None}
use Rattle.std.specs.List.{list_any, range_with_len}
use Rattle.calculus_specs.specs.Shape.{Shape}
use Rattle.calculus_specs.specs.Tree.{tree_of}
use Rattle.calculus_specs.specs.declared.facts.Fact.{Fact}
use Rattle.calculus_specs.specs.declared.facts.Fact.TheVariants.{Has}
use Rattle.calculus_specs.specs.State.{fresh_facts}
use Rattle.calculus_specs.specs.Reading.{read_facts, are_listed}
use Rattle.branch_facts.specs.NumberedBranch.{NumberedBranch as Numbered}
use Rattle.calculus_specs.specs.Rules.{Known}
use Rattle.refutation_rules.specs.declared.outcome.FirstNodes.{FirstNodes}
use Rattle.refutation_rules.specs.declared.outcome.Outcome.{Outcome}
use Rattle.refutation_rules.specs.declared.outcome.Outcome.TheVariants.{Closed, Started, More, Nodes, Branches}

-- a branch whose concepts are numbers of a table
abbrev pub known_of : List Shape → Numbered → Known
known_of table k = record { nodes = k.nodes; facts = read_facts (tree_of table) k.facts }

-- the branch with facts more
abbrev pub branch_with_facts : Numbered → List (Fact ℕ) → Numbered
branch_with_facts k fs = record { nodes = k.nodes; facts = k.facts ++ fs }

-- n nodes more, with their facts
abbrev pub branch_with_nodes : Numbered → ℕ → ℕ → ℕ → ℕ → ℕ → Numbered
branch_with_nodes k x role c first n =
    record { nodes = k.nodes ++ range_with_len first n; facts = k.facts ++ fresh_facts x role c first n }

-- the first nodes, of which the one in question is in both concepts
abbrev pub started_branch : FirstNodes → Numbered
started_branch n = record { nodes = range_with_len 0 n.count; facts = Has n.asked n.sub ∷ Has n.asked n.not_sup ∷ [] }

-- the branches that take the place of the one
abbrev pub branches_after : Numbered → Outcome → List Numbered
branches_after k Closed = []
branches_after k (Started n) = started_branch n ∷ []
branches_after k (More fs) = branch_with_facts k fs.items ∷ []
branches_after k (Nodes n) = branch_with_nodes k n.from n.role n.concept n.first n.count ∷ []
branches_after k (Branches fs) = map (λ f. branch_with_facts k (f ∷ [])) fs.items

-- none where the premises of the line do not hold
abbrev pub children_after : List Shape → Numbered → Option Outcome → Option (List Known)
children_after table k None = None
children_after table k (Some o) = Some (map (known_of table) (branches_after k o))

-- what new facts and nodes keep to: concepts are numbers below the bound, and new nodes are new
abbrev pub IsFit : ℕ → Numbered → Outcome → Type 0
IsFit bound k Closed = Unit {0}
IsFit bound k (Started n) = (k.nodes ≡ []) × (n.sub < bound) × (n.not_sup < bound) × (n.count ≤ 2 ^ 32)
IsFit bound k (More fs) = are_listed bound fs.items ≡ true
IsFit bound k (Nodes n) = (n.concept < bound) × (n.first + n.count ≤ 2 ^ 32)
    × (list_any (λ z. list_any (λ y. nat_eq y z) k.nodes) (range_with_len n.first n.count) ≡ false)
IsFit bound k (Branches fs) = are_listed bound fs.items ≡ true

-- the outcome, if there is one, fits the branch
abbrev pub IsFitIfSome : ℕ → Numbered → Option Outcome → Type 0
IsFitIfSome bound k None = Unit {0}
IsFitIfSome bound k (Some o) = IsFit bound k o

-- a branch whose concepts are below the bound, and which has no facts before it has nodes
pub record IsBranch (bound : ℕ) (k : Numbered) : Type 0 where
  pub listed : are_listed bound k.facts ≡ true
  pub begun : k.nodes ≡ [] → k.facts ≡ []

-- ---- outcomes with few facts

-- the node in the concept and no more, where there is a concept
abbrev pub AddsIfSome : ℕ → Option ℕ → Option Outcome → Type 0
AddsIfSome x None o = o ≡ None
AddsIfSome x (Some c) (Some (More fs)) = fs.items ≡ Has x c ∷ []
AddsIfSome x (Some c) _ = ⊥

-- the branch with a fact more, where there is one
abbrev pub AddsFactIfSome : Option (Fact ℕ) → Option Outcome → Type 0
AddsFactIfSome None o = o ≡ None
AddsFactIfSome (Some f) (Some (More fs)) = fs.items ≡ f ∷ []
AddsFactIfSome (Some f) _ = ⊥

-- a branch for each of these facts
abbrev pub BranchesInto : List (Fact ℕ) → Option Outcome → Type 0
BranchesInto facts (Some (Branches fs)) = fs.items ≡ facts
BranchesInto facts _ = ⊥
