-- Lines of choices, and of clashes but for those of too many successors.
use Rattle.std.proofs.Common.{◌≡◌, ℕ, ◌+◌, eqb, Bool, true, List, [], ◌∷◌, map, refl, ap, ◌∙◌, sym, subst, eq-eqb}
use Rattle.std.specs.Prelude.{slice_get}
use Rattle.std.specs.List.{list_all}
use Rattle.std.proofs.lemmas.List.{length-map}
use Rattle.std.proofs.lemmas.Option.{same_Some}
use Rattle.shq_terms.specs.Concept.{Concept, top as top_tree, bottom as bottom_tree, at_most as most_tree}
use Rattle.lane_sieve.specs.Sets.{NumberSet}
use Rattle.calculus_specs.specs.Normal.{negated_form}
use Rattle.calculus_specs.specs.Shape.{IsTable}
use Rattle.calculus_specs.specs.Shape.Shape.{bottom, name, not_name, union, at_most}
use Rattle.calculus_specs.specs.Tree.{tree_of}
use Rattle.calculus_specs.specs.declared.facts.Fact.{Fact}
use Rattle.calculus_specs.specs.declared.facts.Fact.TheVariants.{Has, Edge, Same, Apart}
use Rattle.calculus_specs.specs.State.{has, are_apart, is_so}
use Rattle.calculus_specs.specs.Line.Line.{or_line, choose_line, pair_line, bottom_line, clash_line, differ_line}
use Rattle.tableau_specs.specs.declared.Branch.{Branch}
use Rattle.tableau_specs.specs.declared.Branch.TheVariants.{Or, Choose, Pair}
use Rattle.calculus_specs.specs.Joins.{rep}
use Rattle.calculus_specs.specs.Rules.{Question}
use Rattle.tableau_specs.specs.Lines.{asked_in}
use Rattle.tableau_specs.specs.Steps.{SearchContext, IsAlternative}
use Rattle.tableau_specs.proofs.Listed.{most_listed}
use Rattle.search_trace.specs.Alternatives.{branch_line, HasShape}
use Rattle.search_trace.specs.ByShape.{IsRule}
use Rattle.search_trace.specs.Premises.{Premise, is_node, has_concept, is_apart, is_one, holds, Added, more_facts, Rule}
use Rattle.search_trace.specs.Noted.{within}
use Rattle.search_trace.specs.Trail.{MarkedFact, trail_within, is_next}
use Rattle.search_trace.specs.Grounded.{is_known_within, AreGrounded}
use Rattle.search_trace.proofs.Alternatives.{alternative_put}
use Rattle.search_trace.proofs.ByShape.{rules_by_shape}
use Rattle.step_finders.specs.Choosing.{IsByUnion, IsByFiller, IsByPair}
use Rattle.step_finders.specs.Clashing.{HasBottom, HasBoth, HasDiffer}
use Rattle.step_lines.specs.Kinds.{IsChild, part_count, ServesChoice, ServesClash}
use Rattle.step_lines.proofs.ConceptLines.{concept_line, one_numbered, one_of_kind}
use Rattle.step_lines.proofs.Follows.{all_cons, all_first, all_rest, not_zero, is_listed, tree_is, concept_follows}
use Rattle.step_lines.proofs.Follows.{apart_follows, one_follows, node_of_has, end_of_edge}
use Rattle.step_lines.proofs.Apart.{apart_is_known}

-- a question over the axioms of a context
any_question : SearchContext → Question
any_question w =
    record { theory = w.theory; sub = top_tree; sup = top_tree; first = w.first; at = 0; fact_of = w.fact_of }

module _ (w : SearchContext) (fs : List (Fact ℕ)) (good : IsTable w.table) where
  abbrev asks : NumberSet → List MarkedFact → Premise → Bool
  asks u ms = holds w.theory (trail_within w.first w.table u ms)

  -- the children of a branch's line are its alternatives
  each_child : (b : Branch) → HasShape w.table b → (premises : List Premise) (children : List Added)
      → ((q : Question) → IsRule (asked_in w q) w.table (branch_line b) premises children)
      → (k : ℕ) (f : Fact ℕ) → IsAlternative w.table b (k + 1) f → IsChild w fs children k f
  each_child b listed premises children rule k f alt =
      let q : Question = any_question w in
      let p = alternative_put (asked_in w q) w.table good b listed (k + 1) f alt k refl in
      let mine : Rule = record { premises = premises; children = children } in
      let same : p.rule ≡ mine = same_Some p.rule mine (sym p.is_rule ∙ rule q) in
      record {
        added = p.added;
        stands = ap (λ (r : Rule). slice_get r.children k) (sym same) ∙ p.is_child;
        puts = p.puts;
      }

  -- no child of a choice makes nodes
  none_new : (ms : List MarkedFact) (made : ℕ → List (Fact Concept)) (parts : List ℕ)
      → list_all (is_next w.first ms) (map (λ d. more_facts (made d)) parts) ≡ true
  none_new ms made [] = refl
  none_new ms made (d ∷ ds) = none_new ms made ds

  pub union_serves : (x c : ℕ) → IsByUnion w fs x c → (gs : List (Fact ℕ)) → gs ≡ Has x c ∷ []
      → ServesChoice w fs (Or x c) (or_line x c) gs
  union_serves x c by gs e =
      let made : ℕ → List (Fact Concept) = λ d. Has x (tree_of w.table d) ∷ [] in
      let lt = is_listed w.table c (union by.parts) by.shape (λ k. cc) in
      let rule = λ (q : Question). (rules_by_shape (asked_in w q) w.table good).by_or x c by.parts lt by.shape in
      record {
        children = map (λ d. more_facts (made d)) by.parts;
        serves =
            concept_line w fs good (or_line x c) x c (union by.parts) (map (λ d. more_facts (made d)) by.parts) by.shape
            (λ k. cc) by.holds rule (λ ms same. none_new ms made by.parts) refl tt gs e;
        count = length-map by.parts (λ d. more_facts (made d)) ∙ ap part_count (sym by.shape);
        alternatives =
            each_child (Or x c) lt (is_node x ∷ has_concept x (tree_of w.table c) ∷ [])
            (map (λ d. more_facts (made d)) by.parts) rule;
        branching = refl;
      }

  pub filler_serves : (y e from r c : ℕ) → IsByFiller w fs y e from r c → (gs : List (Fact ℕ)) → gs ≡ Edge r from y ∷ []
      → ServesChoice w fs (Choose y e) (choose_line y e) gs
  filler_serves y e from r c by gs eq =
      let children : List Added =
      more_facts (Has y (tree_of w.table e) ∷ []) ∷ more_facts (Has y (negated_form (tree_of w.table e)) ∷ []) ∷ [] in
      let lt = most_listed w good c by.count by.role e by.shape in
      let rule = λ (q : Question). (rules_by_shape (asked_in w q) w.table good).by_choose y e lt in
      let tree : tree_of w.table c ≡ most_tree by.count by.role (tree_of w.table e) =
      tree_is w.table good c (at_most by.count by.role e) by.shape (λ k. cc) in
      subst (ServesChoice w fs (Choose y e) (choose_line y e)) (sym eq) (record {
        children = children;
        serves = record {
          are_so = all_cons (is_so fs) (Edge r from y) [] by.is_edge.leads refl;
          holds_by = λ q number u ms same grounded hold. record {
            rule = record { premises = is_node y ∷ []; children = children };
            holds = record {
              is_rule = rule q;
              premises =
                  all_cons (asks u ms) (is_node y) []
                  (end_of_edge w.first u ms grounded r from y (all_first (is_so (within u ms)) (Edge r from y) [] hold))
                  refl;
              are_next = refl;
            };
            children_are = refl;
          };
          knows =
              λ u ms grounded hold. all_cons (is_known_within w.first u ms) y []
              (end_of_edge w.first u ms grounded r from y (all_first (is_so (within u ms)) (Edge r from y) [] hold))
              refl;
          of_kind = λ p k kept kinds.
              one_of_kind w fs good (choose_line y e) e refl p
              (kept.filler_of_most by.count by.role (tree_of w.table e)
              (subst (λ (t : Concept). p t ≡ true) tree (kinds.concepts from c by.holds)));
          numbered = one_numbered w fs good (choose_line y e) e refl lt;
          has_part = tt;
        };
        count = refl;
        alternatives = each_child (Choose y e) lt (is_node y ∷ []) children rule;
        branching = refl;
      })

  pub pair_serves : (y z from r q c : ℕ) → IsByPair w fs y z from r q c → (gs : List (Fact ℕ))
      → gs ≡ Edge r from y ∷ Edge q from z ∷ [] → ServesChoice w fs (Pair y z) (pair_line y z) gs
  pair_serves y z from r q c by gs eq =
      let children : List Added = more_facts (Same y z ∷ []) ∷ more_facts (Apart y z ∷ []) ∷ [] in
      let both : (u : NumberSet) (ms : List MarkedFact) → AreGrounded w.first ms
      → list_all (is_so (within u ms)) (Edge r from y ∷ Edge q from z ∷ []) ≡ true
      → (is_known_within w.first u ms y ≡ true) × (is_known_within w.first u ms z ≡ true) =
      λ u ms grounded hold. (
        end_of_edge w.first u ms grounded r from y
            (all_first (is_so (within u ms)) (Edge r from y) (Edge q from z ∷ []) hold),
        end_of_edge w.first u ms grounded q from z
            (all_first (is_so (within u ms)) (Edge q from z) []
            (all_rest (is_so (within u ms)) (Edge r from y) (Edge q from z ∷ []) hold)),
      ) in
      subst (ServesChoice w fs (Pair y z) (pair_line y z)) (sym eq) (record {
        children = children;
        serves = record {
          are_so =
              all_cons (is_so fs) (Edge r from y) (Edge q from z ∷ []) by.first_edge.leads
              (all_cons (is_so fs) (Edge q from z) [] by.second_edge.leads refl);
          holds_by = λ asked number u ms same grounded hold.
              let t = both u ms grounded hold in
              record {
                rule = record { premises = is_node y ∷ is_node z ∷ []; children = children };
                holds = record {
                  is_rule = refl;
                  premises =
                      all_cons (asks u ms) (is_node y) (is_node z ∷ []) t.0
                      (all_cons (asks u ms) (is_node z) [] t.1 refl);
                  are_next = refl;
                };
                children_are = refl;
              };
          knows =
              λ u ms grounded hold. (let t = both u ms grounded hold in
              all_cons (is_known_within w.first u ms) y (z ∷ []) t.0
              (all_cons (is_known_within w.first u ms) z [] t.1 refl));
          of_kind = λ p k kept kinds. refl;
          numbered = refl;
          has_part = tt;
        };
        count = refl;
        alternatives = each_child (Pair y z) tt (is_node y ∷ is_node z ∷ []) children (λ q. refl);
        branching = refl;
      })

  -- ---- clashes

  pub bottom_serves : (x c : ℕ) → HasBottom w fs x c → (gs : List (Fact ℕ)) → gs ≡ Has x c ∷ []
      → ServesClash w fs (bottom_line x) gs
  bottom_serves x c by gs e =
      let tree : tree_of w.table c ≡ bottom_tree = tree_is w.table good c bottom by.shape (λ k. cc) in
      subst (ServesClash w fs (bottom_line x)) (sym e) (record {
        serves = record {
          are_so = all_cons (is_so fs) (Has x c) [] by.holds refl;
          holds_by = λ q number u ms same grounded hold.
              let at : has (within u ms) x c ≡ true = all_first (is_so (within u ms)) (Has x c) [] hold in
              record {
                rule = record { premises = is_node x ∷ has_concept x bottom_tree ∷ []; children = [] };
                holds = record {
                  is_rule = refl;
                  premises =
                      all_cons (asks u ms) (is_node x) (has_concept x bottom_tree ∷ [])
                      (node_of_has w.first u ms grounded x c (not_zero w.table good c bottom by.shape (λ k. cc)) at)
                      (all_cons (asks u ms) (has_concept x bottom_tree) []
                      (subst (λ (t : Concept). asks u ms (has_concept x t) ≡ true) tree
                      (concept_follows w good u ms x c at))
                      refl);
                  are_next = refl;
                };
                children_are = refl;
              };
          knows = λ u ms grounded hold. refl;
          of_kind = λ p k kept kinds. refl;
          numbered = refl;
          has_part = tt;
        };
        clash = refl;
      })

  pub both_serve : (x c d : ℕ) → HasBoth w fs x c d → (gs : List (Fact ℕ)) → gs ≡ Has x c ∷ Has x d ∷ []
      → ServesClash w fs (clash_line x c) gs
  both_serve x c d by gs e =
      let lt = is_listed w.table c (name by.class) by.shape (λ k. cc) in
      subst (ServesClash w fs (clash_line x c)) (sym e) (record {
        serves = record {
          are_so =
              all_cons (is_so fs) (Has x c) (Has x d ∷ []) by.holds
              (all_cons (is_so fs) (Has x d) [] by.holds_other refl);
          holds_by = λ q number u ms same grounded hold.
              let at : has (within u ms) x c ≡ true = all_first (is_so (within u ms)) (Has x c) (Has x d ∷ []) hold in
              let other : has (within u ms) x d ≡ true =
              all_first (is_so (within u ms)) (Has x d) []
              (all_rest (is_so (within u ms)) (Has x c) (Has x d ∷ []) hold) in
              record {
                rule = record {
                  premises = is_node x ∷ has_concept x (tree_of w.table c) ∷ has_concept x (tree_of w.table d) ∷ [];
                  children = [];
                };
                holds = record {
                  is_rule =
                      (rules_by_shape (asked_in w q) w.table good).by_clash x c d by.class lt by.shape
                      (is_listed w.table d (not_name by.class) by.shape_other (λ k. cc)) by.shape_other;
                  premises =
                      all_cons (asks u ms) (is_node x)
                      (has_concept x (tree_of w.table c) ∷ has_concept x (tree_of w.table d) ∷ [])
                      (node_of_has w.first u ms grounded x c
                      (not_zero w.table good c (name by.class) by.shape (λ k. cc)) at)
                      (all_cons (asks u ms) (has_concept x (tree_of w.table c)) (has_concept x (tree_of w.table d) ∷ [])
                      (concept_follows w good u ms x c at)
                      (all_cons (asks u ms) (has_concept x (tree_of w.table d)) []
                      (concept_follows w good u ms x d other) refl));
                  are_next = refl;
                };
                children_are = refl;
              };
          knows = λ u ms grounded hold. refl;
          of_kind = λ p k kept kinds. one_of_kind w fs good (clash_line x c) c refl p (kinds.concepts x c by.holds);
          numbered = one_numbered w fs good (clash_line x c) c refl lt;
          has_part = tt;
        };
        clash = refl;
      })

  pub differ_serves : (x y : ℕ) → HasDiffer w fs x y → (gs : List (Fact ℕ)) → gs ≡ Apart x y ∷ Same x y ∷ []
      → ServesClash w fs (differ_line x y) gs
  differ_serves x y by gs e =
      subst (ServesClash w fs (differ_line x y)) (sym e) (record {
        serves = record {
          are_so =
              all_cons (is_so fs) (Apart x y) (Same x y ∷ []) by.apart
              (all_cons (is_so fs) (Same x y) [] (eq-eqb (rep fs x) (rep fs y) by.one) refl);
          holds_by = λ q number u ms same grounded hold.
              let apart : are_apart (within u ms) x y ≡ true =
              all_first (is_so (within u ms)) (Apart x y) (Same x y ∷ []) hold in
              let one : eqb (rep (within u ms) x) (rep (within u ms) y) ≡ true =
              all_first (is_so (within u ms)) (Same x y) []
              (all_rest (is_so (within u ms)) (Apart x y) (Same x y ∷ []) hold) in
              let known = apart_is_known w.first u ms grounded x y apart in
              record {
                rule = record { premises = is_node x ∷ is_node y ∷ is_apart x y ∷ is_one x y ∷ []; children = [] };
                holds = record {
                  is_rule = (rules_by_shape (asked_in w q) w.table good).by_differ x y;
                  premises = all_cons (asks u ms) (is_node x) (is_node y ∷ is_apart x y ∷ is_one x y ∷ []) known.0
                      (all_cons (asks u ms) (is_node y) (is_apart x y ∷ is_one x y ∷ []) known.1
                      (all_cons (asks u ms) (is_apart x y) (is_one x y ∷ []) (apart_follows w good u ms x y apart)
                      (all_cons (asks u ms) (is_one x y) [] (one_follows w good u ms x y one) refl)));
                  are_next = refl;
                };
                children_are = refl;
              };
          knows = λ u ms grounded hold. refl;
          of_kind = λ p k kept kinds. refl;
          numbered = refl;
          has_part = tt;
        };
        clash = refl;
      })
