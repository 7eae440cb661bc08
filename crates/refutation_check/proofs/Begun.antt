-- Only the first line finds a branch that knows no node, and every line leaves branches that know some.
use Rattle.std.proofs.Common.{◌≡◌, ℕ, zero, suc, ◌<◌, ◌&&◌, ltb, Bool, true, false, List, [], ◌∷◌, map, length, Option}
use Rattle.std.proofs.Common.{Some, None, refl, ap, ◌∙◌, sym, arith}
use Rattle.std.specs.List.{All, range_with_len}
use Rattle.std.proofs.lemmas.Bool.{ltb-true}
use Rattle.std.proofs.lemmas.List.Elements.{All-nil, All-cons}
use Rattle.shq_terms.specs.Concept.{Concept}
use Rattle.calculus_specs.specs.Shape.{Shape}
use Rattle.calculus_specs.specs.Rows.{Part, Theory, part_at, are_name_positions}
use Rattle.calculus_specs.specs.Rows.Part.{inclusion, range}
use Rattle.calculus_specs.specs.declared.facts.Fact.{Fact}
use Rattle.refutation_rules.specs.NumberedBranch.{NumberedBranch as Branch}
use Rattle.calculus_specs.specs.Line.{Line}
use Rattle.calculus_specs.specs.Line.Line.{start_line, and_line, or_line, all_line, carry_line, row_line, range_line}
use Rattle.calculus_specs.specs.Line.Line.{some_line, least_line, choose_line, pair_line, bottom_line, clash_line}
use Rattle.calculus_specs.specs.Line.Line.{most_line, fact_line, differ_line}
use Rattle.calculus_specs.specs.Rules.{Question, Known, when, at_concept, and_children, or_children, all_children}
use Rattle.calculus_specs.specs.Rules.{carry_children, row_children, range_children, some_children, least_children}
use Rattle.calculus_specs.specs.Rules.{choose_children, clash_children, most_children, fact_children, started}
use Rattle.calculus_specs.specs.Rules.{children_of}
use Rattle.refutation_rules.specs.declared.outcome.Outcome.{Outcome}
use Rattle.refutation_rules.specs.declared.outcome.Outcome.TheVariants.{Closed, Started, More, Nodes, Branches}
use Rattle.refutation_rules.specs.Outcomes.{known_of, branch_with_facts, branches_after, IsFit}

-- ---- a branch that knows no node

module _ (facts : List (Fact Concept)) where
  abbrev bare : Known
  bare = record { nodes = []; facts = facts }

  no_concept : (x : ℕ) (o : Option Concept) (answer : Concept → Option (List Known)) → at_concept bare x o answer ≡ None
  no_concept x None answer = refl
  no_concept x (Some c) answer = refl

  none_when : (b c : Bool) (answer : Option (List Known)) → when (b && false && c) answer ≡ None
  none_when true c answer = refl
  none_when false c answer = refl

  no_row : (x : ℕ) (positions : List ℕ) (o : Option Part) → row_children bare x positions o ≡ None
  no_row x positions None = refl
  no_row x positions (Some (range s d)) = refl
  no_row x positions (Some (inclusion cs d)) = none_when (are_name_positions cs positions) _ _

  no_range : (theory : Theory) (x y : ℕ) (o : Option Part) → range_children theory bare x y o ≡ None
  no_range theory x y None = refl
  no_range theory x y (Some (inclusion cs d)) = refl
  no_range theory x y (Some (range s d)) = refl

  no_choice : (y : ℕ) (o : Option Concept) → choose_children bare y o ≡ None
  no_choice y None = refl
  no_choice y (Some c) = refl

  no_fact : (o : Option (Fact Concept)) → fact_children bare o ≡ None
  no_fact None = refl
  no_fact (Some f) = refl

  module _ (q : Question) (concept : ℕ → Option Concept) where
    -- the first nodes are some
    abbrev Starts : Option (List Known) → Type 0
    Starts o = (ks : List Known) → o ≡ Some ks → (ks ≡ started q ∷ []) × (q.at < q.first)

    start_when : (b : Bool) → ltb q.at q.first ≡ b → Starts (when b (Some (started q ∷ [])))
    start_when true is ks h = (cc, ltb-true q.at q.first is)
    start_when false is ks h = cc

    none_starts : (o : Option (List Known)) → o ≡ None → Starts o
    none_starts o e ks h = let clash : None ≡ Some ks = sym e ∙ h in cc

    pub only_starts : (line : Line) → Starts (children_of q concept bare line)
    only_starts start_line = start_when (ltb q.at q.first) refl
    only_starts (and_line x c) = none_starts _ (no_concept x (concept c) (and_children bare x))
    only_starts (or_line x c) = none_starts _ (no_concept x (concept c) (or_children bare x))
    only_starts (all_line x y c) = none_starts _ (no_concept x (concept c) (all_children q.theory bare x y))
    only_starts (carry_line x y t c) = none_starts _ (no_concept x (concept c) (carry_children q.theory bare x y t))
    only_starts (row_line x a p positions) = none_starts _ (no_row x positions (part_at q.theory a p))
    only_starts (range_line x y a) = none_starts _ (no_range q.theory x y (part_at q.theory a 1))
    only_starts (some_line x y c) = none_starts _ (no_concept x (concept c) (some_children bare x y))
    only_starts (least_line x y c) = none_starts _ (no_concept x (concept c) (least_children bare x y))
    only_starts (choose_line y c) = none_starts _ (no_choice y (concept c))
    only_starts (pair_line y z) = none_starts _ refl
    only_starts (bottom_line x) = none_starts _ refl
    only_starts (clash_line x c) = none_starts _ (no_concept x (concept c) (clash_children bare x))
    only_starts (most_line x c ys) = none_starts _ (no_concept x (concept c) (most_children q.theory bare x ys))
    only_starts (fact_line a p) = none_starts _ (no_fact (q.fact_of a p))
    only_starts (differ_line y z) = none_starts _ refl

-- ---- what lines leave knows some node

abbrev pub IsBegun : Branch → Type 0
IsBegun k = k.nodes ≡ [] → ⊥

from_started : (table : List Shape) (q : Question) (ks : List Branch) → q.at < q.first
    → map (known_of table) ks ≡ started q ∷ [] → All IsBegun ks
from_started table q [] lt h = cc
from_started table q (k ∷ []) lt h =
    let head : known_of table k ≡ started q = cc in
    let nodes : k.nodes ≡ range_with_len 0 q.first = ap (λ (j : Known). j.nodes) head in
    All-cons IsBegun k [] (λ e. some_first q.first lt (sym nodes ∙ e)) (All-nil IsBegun)
  where
    some_first : (n : ℕ) → q.at < n → range_with_len 0 n ≡ [] → ⊥
    some_first zero less e = absurd (omega arith)
    some_first (suc n) less e = cc
from_started table q (k ∷ j ∷ ks) lt h = cc

not_empty : (k : Branch) (x : ℕ) (xs : List ℕ) → k.nodes ≡ x ∷ xs → IsBegun k
not_empty k x xs h e = let clash : [] ≡ x ∷ xs = sym e ∙ h in cc

each_more : (k : Branch) (fs : List (Fact ℕ)) → IsBegun k → All IsBegun (map (λ f. branch_with_facts k (f ∷ [])) fs)
each_more k [] h = All-nil IsBegun
each_more k (f ∷ fs) h =
    All-cons IsBegun (branch_with_facts k (f ∷ [])) (map (λ g. branch_with_facts k (g ∷ [])) fs) h (each_more k fs h)

one : (k : Branch) → IsBegun k → All IsBegun (k ∷ [])
one k h = All-cons IsBegun k [] h (All-nil IsBegun)

from_begun : (bound x : ℕ) (xs : List ℕ) (facts : List (Fact ℕ)) (o : Outcome)
    → IsFit bound (record { nodes = x ∷ xs; facts = facts }) o
    → All IsBegun (branches_after (record { nodes = x ∷ xs; facts = facts }) o)
from_begun bound x xs facts Closed fit = All-nil IsBegun
from_begun bound x xs facts (Started n) fit = let none : x ∷ xs ≡ [] = fit.0 in cc
from_begun bound x xs facts (More fs) fit = one _ (λ e. cc)
from_begun bound x xs facts (Nodes n) fit = one _ (λ e. cc)
from_begun bound x xs facts (Branches fs) fit = each_more (record { nodes = x ∷ xs; facts = facts }) fs.items (λ e. cc)

module _ (q : Question) (concept : ℕ → Option Concept) (table : List Shape) (line : Line) (o : Outcome) where
  pub all_begun : (nodes : List ℕ) (facts : List (Fact ℕ))
      → children_of q concept (known_of table (record { nodes = nodes; facts = facts })) line
      ≡ Some (map (known_of table) (branches_after (record { nodes = nodes; facts = facts }) o))
      → IsFit (length table) (record { nodes = nodes; facts = facts }) o
      → All IsBegun (branches_after (record { nodes = nodes; facts = facts }) o)
  all_begun [] facts h fit =
      let starts = only_starts (known_of table (record { nodes = []; facts = facts })).facts q concept line _ h in
      from_started table q _ starts.1 starts.0
  all_begun (x ∷ xs) facts h fit = from_begun (length table) x xs facts o fit
