-- A branch that grows by some facts, or some nodes, and then by more.
use Rattle.std.proofs.Common.{◌≡◌, ℕ, suc, ◌+◌, ◌-◌, ◌<◌, List, [], ◌∷◌, ◌++◌, drop, length, get_or, ap, ◌∙◌, sym}
use Rattle.std.proofs.Common.{append_assoc, arith, drop-cons}
use Rattle.calculus_specs.specs.declared.facts.Fact.{Fact}
use Rattle.refutation_rules.specs.Outcomes.{branch_with_facts}
use Rattle.refutation_check.specs.Open.{Open, branches_for, knowing, knowing_nodes}

pub know_step : (o p all : Open) (fs gs rest : List (Fact ℕ)) → p ≡ knowing o fs → rest ≡ fs ++ gs
    → knowing o rest ≡ all → knowing p gs ≡ all
know_step o p all fs gs rest e left h =
    let facts : (o.branch.facts ++ fs) ++ gs ≡ o.branch.facts ++ rest =
    append_assoc o.branch.facts fs gs ∙ ap (λ (l : List (Fact ℕ)). o.branch.facts ++ l) (sym left) in
    ap (λ (q : Open). knowing q gs) e
    ∙ ap (λ (l : List (Fact ℕ)). record {
      branch = record { nodes = o.branch.nodes; facts = l };
      waiting = o.waiting;
      closed = o.closed;
    })
    facts
    ∙ h

pub node_step : (o p all : Open) (x : ℕ) (xs rest : List ℕ) → p ≡ knowing_nodes o (x ∷ []) → rest ≡ x ∷ xs
    → knowing_nodes o rest ≡ all → knowing_nodes p xs ≡ all
node_step o p all x xs rest e left h =
    let nodes : (o.branch.nodes ++ x ∷ []) ++ xs ≡ o.branch.nodes ++ rest =
    append_assoc o.branch.nodes (x ∷ []) xs ∙ ap (λ (l : List ℕ). o.branch.nodes ++ l) (sym left) in
    ap (λ (q : Open). knowing_nodes q xs) e
    ∙ ap (λ (l : List ℕ). record {
      branch = record { nodes = l; facts = o.branch.facts };
      waiting = o.waiting;
      closed = o.closed;
    })
    nodes
    ∙ h

-- ---- branches for facts, put from the last one on

from_end : (fs : List (Fact ℕ)) (place : ℕ) (d : Fact ℕ) → place < length fs
    → drop (length fs - (place + 1)) fs ≡ get_or fs (length fs - 1 - place) d ∷ drop (length fs - place) fs
from_end fs place d l =
    let here : length fs - (place + 1) ≡ length fs - 1 - place = omega arith in
    let next : suc (length fs - 1 - place) ≡ length fs - place = omega arith in
    let within : length fs - 1 - place < length fs = omega arith in
    ap (λ n. drop n fs) here ∙ drop-cons fs (length fs - 1 - place) d within
    ∙ ap (λ n. get_or fs (length fs - 1 - place) d ∷ drop n fs) next

pub put_step : (o p now : Open) (fs : List (Fact ℕ)) (place : ℕ) (d : Fact ℕ) → place < length fs
    → p ≡ record o { waiting = branch_with_facts o.branch (get_or fs (length fs - 1 - place) d ∷ []) ∷ o.waiting }
    → o ≡ record now { waiting = branches_for now.branch (drop (length fs - place) fs) ++ now.waiting }
    → p ≡ record now { waiting = branches_for now.branch (drop (length fs - (place + 1)) fs) ++ now.waiting }
put_step o p now fs place d l e h =
    let f = get_or fs (length fs - 1 - place) d in
    let add : Open → Open =
    λ q. record { branch = q.branch; waiting = branch_with_facts q.branch (f ∷ []) ∷ q.waiting; closed = q.closed } in
    e ∙ ap add h
    ∙ ap (λ (l : List (Fact ℕ)). record {
      branch = now.branch;
      waiting = branches_for now.branch l ++ now.waiting;
      closed = now.closed;
    })
    (sym (from_end fs place d l))
