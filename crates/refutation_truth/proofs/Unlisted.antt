-- A question whose node is no first one is not even begun.
use Rattle.std.proofs.Common.{◌≡◌, ℕ, ◌+◌, ◌≤◌, ◌&&◌, Bool, List, [], ◌∷◌, Option, Some, None, refl, ap, ◌∙◌, subst}
use Rattle.std.proofs.Common.{arith}
use Rattle.std.specs.Prelude.{if◌then◌else◌}
use Rattle.std.specs.List.{list_all}
use Rattle.std.proofs.lemmas.Bool.{le-ltb}
use Rattle.std.proofs.Math.Bool.{and-false}
use Rattle.shq_nnf.specs.Concept.{Concept}
use Rattle.role_box.specs.On.TheVariants.{Individual}
use Rattle.role_box.specs.TheoryRows.{Part, Theory, part_at, conjunct_at, are_name_positions, row_concept}
use Rattle.role_box.specs.TheoryRows.Part.{inclusion, range}
use Rattle.role_box.specs.Fact.{Fact}
use Rattle.role_box.specs.Fact.TheVariants.{Has}
use Rattle.role_box.specs.State.{has_tree}
use Rattle.role_box.specs.Line.{Line, Tree, node}
use Rattle.role_box.specs.Line.Line.{start_line, and_line, or_line, all_line, carry_line, row_line, range_line}
use Rattle.role_box.specs.Line.Line.{some_line, least_line, choose_line, pair_line, bottom_line, clash_line}
use Rattle.role_box.specs.Line.Line.{most_line, fact_line, differ_line}
use Rattle.role_box.specs.Rules.{Question, Known, nothing_known, when, with_facts, at_concept, and_children}
use Rattle.role_box.specs.Rules.{or_children, all_children, carry_children, row_children, range_children}
use Rattle.role_box.specs.Rules.{some_children, least_children, choose_children, clash_children, most_children}
use Rattle.role_box.specs.Rules.{fact_children, started, children_of}
use Rattle.role_box.specs.Valid.{concept_at, AreShut, IsShut}
use Rattle.refutation_truth.specs.Theory.{node_in_question, question_of}
use Rattle.refutation_truth.specs.Laws.{UnlistedAreNotRefuted}

-- ---- where nothing is known no line but `start` has its premises

unknown_concept : (x : ℕ) (o : Option Concept) (answer : Concept → Option (List Known))
    → at_concept nothing_known x o answer ≡ None
unknown_concept x None answer = refl
unknown_concept x (Some c) answer = refl

unknown_row : (x : ℕ) (positions : List ℕ) (o : Option Part) → row_children nothing_known x positions o ≡ None
unknown_row x positions (Some (inclusion cs d)) =
    ap (λ (b : Bool). when (b && list_all (λ i. has_tree [] x (conjunct_at cs i)) positions)
    (Some (with_facts nothing_known (Has x (row_concept cs d positions) ∷ []) ∷ [])))
    (and-false (are_name_positions cs positions))
unknown_row x positions (Some (range s d)) = refl
unknown_row x positions None = refl

unknown_range : (theory : Theory) (x y : ℕ) (o : Option Part) → range_children theory nothing_known x y o ≡ None
unknown_range theory x y (Some (range s d)) = refl
unknown_range theory x y (Some (inclusion cs d)) = refl
unknown_range theory x y None = refl

unknown_choice : (y : ℕ) (o : Option Concept) → choose_children nothing_known y o ≡ None
unknown_choice y (Some c) = refl
unknown_choice y None = refl

unknown_fact : (o : Option (Fact Concept)) → fact_children nothing_known o ≡ None
unknown_fact (Some f) = refl
unknown_fact None = refl

module _ (q : Question) (late : q.first ≤ q.at) (concept : ℕ → Option Concept) where
  not_begun : (line : Line) → children_of q concept nothing_known line ≡ None
  not_begun start_line = ap (λ (b : Bool). when b (Some (started q ∷ []))) (le-ltb q.at q.first late)
  not_begun (and_line x c) = unknown_concept x (concept c) (and_children nothing_known x)
  not_begun (or_line x c) = unknown_concept x (concept c) (or_children nothing_known x)
  not_begun (all_line x y c) = unknown_concept x (concept c) (all_children q.theory nothing_known x y)
  not_begun (carry_line x y t c) = unknown_concept x (concept c) (carry_children q.theory nothing_known x y t)
  not_begun (row_line x a p positions) = unknown_row x positions (part_at q.theory a p)
  not_begun (range_line x y a) = unknown_range q.theory x y (part_at q.theory a 1)
  not_begun (some_line x y c) = unknown_concept x (concept c) (some_children nothing_known x y)
  not_begun (least_line x y c) = unknown_concept x (concept c) (least_children nothing_known x y)
  not_begun (choose_line y c) = unknown_choice y (concept c)
  not_begun (pair_line y z) = refl
  not_begun (bottom_line x) = refl
  not_begun (clash_line x c) = unknown_concept x (concept c) (clash_children nothing_known x)
  not_begun (most_line x c ys) = unknown_concept x (concept c) (most_children q.theory nothing_known x ys)
  not_begun (fact_line a p) = unknown_fact (q.fact_of a p)
  not_begun (differ_line y z) = refl

  none_is_shut : (t : Tree) → IsShut q concept nothing_known t → ⊥
  none_is_shut (node line kids) h = subst (λ (o : Option (List Known)). AreShut q concept o kids) (not_begun line) h

-- ---- an individual that is not listed

has_no_node : (k a : ℕ) → k ≤ a → node_in_question k (Individual a) ≡ k + 1
has_no_node k a le = ap (λ (b : Bool). if b then a else k + 1) (le-ltb a k le)

pub unlisted : UnlistedAreNotRefuted
unlisted k axioms ks q a shapes lines asked le h =
    let node : node_in_question k q.on ≡ k + 1 = ap (node_in_question k) asked ∙ has_no_node k a le in
    none_is_shut (question_of k axioms ks q) (omega (arith, node)) (concept_at shapes) h.tree h.is_shut
