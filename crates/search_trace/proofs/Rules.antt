-- The children of a line are those that its rule gives.
use Rattle.std.proofs.Common.{◌≡◌, ℕ, ◌+◌, ◌^◌, ◌&&◌, ◌||◌, Bool, true, false, not, eqb, leb, ltb, List, [], ◌∷◌, ◌++◌}
use Rattle.std.proofs.Common.{map, length, Option, Some, None, refl, ap, ◌∙◌, sym, arith}
use Rattle.std.specs.List.{list_any, list_all}
use Rattle.std.proofs.lemmas.List.Folds.{list_all-map, list_all-append}
use Rattle.std.proofs.lemmas.Bool.Decides.{nat_tests}
use Rattle.std.proofs.Math.Bool.{and-true, and_assoc}
use Rattle.calculus_specs.specs.Concept.{Concept, bottom, name, complement, intersection, union, some_of, all_of}
use Rattle.calculus_specs.specs.Concept.{at_least, at_most, part_list}
use Rattle.calculus_specs.specs.Normal.{negated_form}
use Rattle.calculus_specs.specs.Rows.{Part, part_at, conjunct_at, are_name_positions, row_concept}
use Rattle.calculus_specs.specs.Rows.Part.{inclusion, range}
use Rattle.calculus_specs.specs.declared.facts.Fact.{Fact}
use Rattle.calculus_specs.specs.declared.facts.Fact.TheVariants.{Has, Apart, Same}
use Rattle.calculus_specs.specs.Joins.{rep}
use Rattle.calculus_specs.specs.State.{has_tree, has_edge, are_apart, all_apart}
use Rattle.calculus_specs.specs.Line.{Line}
use Rattle.calculus_specs.specs.Line.Line.{start_line, and_line, or_line, all_line, carry_line, row_line, range_line}
use Rattle.calculus_specs.specs.Line.Line.{some_line, least_line, choose_line, pair_line, bottom_line, clash_line}
use Rattle.calculus_specs.specs.Line.Line.{most_line, fact_line, differ_line}
use Rattle.calculus_specs.specs.Rules.{Question, Known, knows, knows_some_from, with_facts, with_nodes, when}
use Rattle.calculus_specs.specs.Rules.{at_concept, and_children, or_children, all_children, carry_children}
use Rattle.calculus_specs.specs.Rules.{row_children, range_children, some_children, least_children, choose_children}
use Rattle.calculus_specs.specs.Rules.{clash_children, are_fillers, most_children, fact_children, children_of}
use Rattle.search_trace.specs.Premises.{Premise, is_node, has_concept, has_edge_below, is_apart, holds, more_facts}
use Rattle.search_trace.specs.Premises.{more_nodes, with_added, is_new, Rule, and_rule, or_rule, all_rule, carry_rule}
use Rattle.search_trace.specs.Premises.{row_rule, range_rule, some_rule, least_rule, choose_rule, clash_rule}
use Rattle.search_trace.specs.Premises.{filler_premises, apart_premises, most_rule, fact_rule, rule_of, children_by}
use Rattle.search_trace.specs.Premises.{is_start}

-- ---- tests

when_none : {A : Type 0} → (b : Bool) → when {A = A} b None ≡ None
when_none true = refl
when_none false = refl

when_both : {A : Type 0} → (a b : Bool) (o : Option A) → when (a && b) o ≡ when a (when b o)
when_both true b o = refl
when_both false b o = refl

split_four : {A : Type 0} → (a b c d : Bool) (o : Option A)
    → when (a && b && c && d) o ≡ when (a && b) (when (c && (d && true)) o)
split_four true true true true o = refl
split_four true true true false o = refl
split_four true true false d o = refl
split_four true false c d o = refl
split_four false b c d o = refl

split_three : {A : Type 0} → (a b c : Bool) (o : Option A) → when (a && b && c) o ≡ when a (when (b && c) o)
split_three true b c o = refl
split_three false b c o = refl

chain_three : (a b c : Bool) → (a && b && c) ≡ (a && (b && (c && true)))
chain_three true true true = refl
chain_three true true false = refl
chain_three true false c = refl
chain_three false b c = refl

chain_four : (a b c d : Bool) → (a && b && c && d) ≡ (a && (b && (c && (d && true))))
chain_four true true true true = refl
chain_four true true true false = refl
chain_four true true false d = refl
chain_four true false c d = refl
chain_four false b c d = refl

one_known : (k : Known) (y : ℕ) → knows_some_from k y 1 ≡ knows k y
one_known k y = any_same k.nodes
  where
    any_same : (nodes : List ℕ) → list_any (λ z. leb y z && ltb z (y + 1)) nodes ≡ list_any (λ z. eqb z y) nodes
    any_same [] = refl
    any_same (z ∷ zs) =
        let e : (leb y z && ltb z (y + 1)) ≡ eqb z y = grind (arith, nat_tests) in
        ap (λ (b : Bool). b || list_any (λ w. leb y w && ltb w (y + 1)) zs) e
        ∙ ap (λ (b : Bool). eqb z y || b) (any_same zs)

all_new : (k : Known) (x : ℕ) (ds : List Concept) → list_all (is_new k) (map (λ d. more_facts (Has x d ∷ [])) ds) ≡ true
all_new k x [] = refl
all_new k x (d ∷ ds) = all_new k x ds

or_kids : (k : Known) (x : ℕ) (ds : List Concept)
    → map (λ d. with_facts k (Has x d ∷ [])) ds ≡ map (with_added k) (map (λ d. more_facts (Has x d ∷ [])) ds)
or_kids k x [] = refl
or_kids k x (d ∷ ds) = ap (λ (ks : List Known). with_facts k (Has x d ∷ []) ∷ ks) (or_kids k x ds)

module _ (q : Question) (k : Known) where
  abbrev by : Option Rule → Option (List Known)
  by r = children_by q k r

  -- a known node with a concept
  at_node : (x : ℕ) (c : Concept) (more : List Premise) (o : Option (List Known))
      → when (knows k x && has_tree k.facts x c) (when (list_all (holds q.theory k) more) o)
      ≡ when (list_all (holds q.theory k) (is_node x ∷ has_concept x c ∷ more)) o
  at_node x c more o =
      sym (when_both (knows k x && has_tree k.facts x c) (list_all (holds q.theory k) more) o)
      ∙ ap (λ (b : Bool). when b o) (and_assoc (knows k x) (has_tree k.facts x c) (list_all (holds q.theory k) more))

  by_when : (b : Bool) (r : Option Rule) → by (when b r) ≡ when b (by r)
  by_when true r = refl
  by_when false r = refl

  and_says : (x : ℕ) (o : Option Concept) → at_concept k x o (and_children k x) ≡ by (and_rule x o)
  and_says x None = refl
  and_says x (Some (intersection cs)) =
      at_node x (intersection cs) [] (Some (with_facts k (map (Has x) (part_list cs)) ∷ []))
  and_says x (Some c) = when_none (knows k x && has_tree k.facts x c)

  or_says : (x : ℕ) (o : Option Concept) → at_concept k x o (or_children k x) ≡ by (or_rule x o)
  or_says x None = refl
  or_says x (Some (union cs)) =
      let kids = map (with_added k) (map (λ d. more_facts (Has x d ∷ [])) (part_list cs)) in
      ap (λ (ks : List Known). when (knows k x && has_tree k.facts x (union cs)) (Some ks)) (or_kids k x (part_list cs))
      ∙ at_node x (union cs) [] (Some kids)
      ∙ ap (λ (b : Bool). when (list_all (holds q.theory k) (is_node x ∷ has_concept x (union cs) ∷ []))
      (when b (Some kids)))
      (sym (all_new k x (part_list cs)))
  or_says x (Some c) = when_none (knows k x && has_tree k.facts x c)

  all_says : (x y : ℕ) (o : Option Concept) → at_concept k x o (all_children q.theory k x y) ≡ by (all_rule x y o)
  all_says x y None = refl
  all_says x y (Some (all_of s e)) =
      let edge = has_edge k.facts (λ r. q.theory.below r s) x y in
      let kids : Option (List Known) = Some (with_facts k (Has y e ∷ []) ∷ []) in
      ap (λ (b : Bool). when (knows k x && has_tree k.facts x (all_of s e)) (when (knows k y && b) kids))
      (sym (and-true edge))
      ∙ at_node x (all_of s e) (is_node y ∷ has_edge_below s x y ∷ []) kids
  all_says x y (Some c) = when_none (knows k x && has_tree k.facts x c)

  swap : {A : Type 0} → (a b : Bool) (o : Option A) → when a (when b o) ≡ when b (when a o)
  swap true b o = refl
  swap false b o = sym (when_none b)

  carry_says : (x y t : ℕ) (o : Option Concept)
      → at_concept k x o (carry_children q.theory k x y t) ≡ by (carry_rule q.theory x y t o)
  carry_says x y t None = refl
  carry_says x y t (Some (all_of s e)) =
      let known = knows k x && has_tree k.facts x (all_of s e) in
      let is = q.theory.is_transitive t in
      let below = q.theory.below t s in
      let edge = has_edge k.facts (λ r. q.theory.below r t) x y in
      let kids : Option (List Known) = Some (with_facts k (Has y (all_of t e) ∷ []) ∷ []) in
      ap (when known) (split_four is below (knows k y) edge kids)
      ∙ swap known (is && below) (when (knows k y && (edge && true)) kids)
      ∙ ap (when (is && below)) (at_node x (all_of s e) (is_node y ∷ has_edge_below t x y ∷ []) kids)
      ∙ sym (by_when (is && below) (Some (record {
        premises = is_node x ∷ has_concept x (all_of s e) ∷ is_node y ∷ has_edge_below t x y ∷ [];
        children = more_facts (Has y (all_of t e) ∷ []) ∷ [];
      })))
  carry_says x y t (Some c) = when_none (knows k x && has_tree k.facts x c)

  row_says : (x : ℕ) (positions : List ℕ) (o : Option Part) → row_children k x positions o ≡ by (row_rule x positions o)
  row_says x positions None = refl
  row_says x positions (Some (range s d)) = refl
  row_says x positions (Some (inclusion cs d)) =
      let are = are_name_positions cs positions in
      let kids : Option (List Known) = Some (with_facts k (Has x (row_concept cs d positions) ∷ []) ∷ []) in
      split_three are (knows k x) (list_all (λ i. has_tree k.facts x (conjunct_at cs i)) positions) kids
      ∙ ap (λ (b : Bool). when are (when (knows k x && b) kids))
      (sym (list_all-map (holds q.theory k) (λ i. has_concept x (conjunct_at cs i)) positions))
      ∙ sym (by_when are (Some (record {
        premises = is_node x ∷ map (λ i. has_concept x (conjunct_at cs i)) positions;
        children = more_facts (Has x (row_concept cs d positions) ∷ []) ∷ [];
      })))

  range_says : (x y : ℕ) (o : Option Part) → range_children q.theory k x y o ≡ by (range_rule x y o)
  range_says x y None = refl
  range_says x y (Some (inclusion cs d)) = refl
  range_says x y (Some (range s d)) =
      ap (λ (b : Bool). when b (Some (with_facts k (Has y d ∷ []) ∷ [])))
      (chain_three (knows k x) (knows k y) (has_edge k.facts (λ r. q.theory.below r s) x y))

  some_says : (x y : ℕ) (o : Option Concept) → at_concept k x o (some_children k x y) ≡ by (some_rule x y o)
  some_says x y None = refl
  some_says x y (Some (some_of s e)) =
      ap (λ (b : Bool). when (knows k x && has_tree k.facts x (some_of s e))
      (when (not b) (Some (with_nodes k x s e y 1 ∷ []))))
      (sym (one_known k y))
      ∙ ap
      (λ (b : Bool). when (knows k x && has_tree k.facts x (some_of s e)) (when b (Some (with_nodes k x s e y 1 ∷ []))))
      (sym (and-true (not (knows_some_from k y 1))))
      ∙ at_node x (some_of s e) [] (when (not (knows_some_from k y 1) && true) (Some (with_nodes k x s e y 1 ∷ [])))
  some_says x y (Some c) = when_none (knows k x && has_tree k.facts x c)

  least_says : (x y : ℕ) (o : Option Concept) → at_concept k x o (least_children k x y) ≡ by (least_rule x y o)
  least_says x y None = refl
  least_says x y (Some (at_least n s e)) =
      let known = knows k x && has_tree k.facts x (at_least n s e) in
      let fits = leb (y + n) (2 ^ 32) in
      let fresh = not (knows_some_from k y n) in
      let kids : Option (List Known) = Some (with_nodes k x s e y n ∷ []) in
      ap (when known) (when_both fits fresh kids)
      ∙ swap known fits (when fresh kids)
      ∙ ap (λ (b : Bool). when fits (when known (when b kids))) (sym (and-true fresh))
      ∙ ap (when fits) (at_node x (at_least n s e) [] (when (fresh && true) kids))
      ∙ sym (by_when fits (Some
      (record { premises = is_node x ∷ has_concept x (at_least n s e) ∷ []; children = more_nodes x s e y n ∷ [] })))
  least_says x y (Some c) = when_none (knows k x && has_tree k.facts x c)

  choose_says : (y : ℕ) (o : Option Concept) → choose_children k y o ≡ by (choose_rule y o)
  choose_says y None = refl
  choose_says y (Some c) =
      ap (λ (b : Bool). when b (Some (with_facts k (Has y c ∷ []) ∷ with_facts k (Has y (negated_form c) ∷ []) ∷ [])))
      (sym (and-true (knows k y)))

  two_say : (a b : Bool) (o : Option (List Known)) → when (a && b) o ≡ when (a && (b && true)) o
  two_say a b o = ap (λ (c : Bool). when (a && c) o) (sym (and-true b))

  clash_says : (x : ℕ) (o : Option Concept) → at_concept k x o (clash_children k x) ≡ by (clash_rule x o)
  clash_says x None = refl
  clash_says x (Some (name a)) =
      ap (λ (b : Bool). when (knows k x && has_tree k.facts x (name a)) (when b (Some [])))
      (sym (and-true (has_tree k.facts x (complement (name a)))))
      ∙ at_node x (name a) (has_concept x (complement (name a)) ∷ []) (Some [])
  clash_says x (Some c) = when_none (knows k x && has_tree k.facts x c)

  fillers_say : (x s : ℕ) (e : Concept) (ys : List ℕ)
      → list_all (holds q.theory k) (filler_premises x s e ys) ≡ are_fillers q.theory k x s e ys
  fillers_say x s e [] = refl
  fillers_say x s e (y ∷ ys) =
      let edge = has_edge k.facts (λ r. q.theory.below r s) x y in
      let has = has_tree k.facts y e in
      ap (λ (b : Bool). knows k y && (edge && (has && b))) (fillers_say x s e ys)
      ∙ ap (λ (b : Bool). knows k y && b) (sym (and_assoc edge has (are_fillers q.theory k x s e ys)))
      ∙ sym (and_assoc (knows k y) (edge && has) (are_fillers q.theory k x s e ys))
      ∙ ap (λ (b : Bool). b && are_fillers q.theory k x s e ys) (sym (and_assoc (knows k y) edge has))

  aparts_say : (ys : List ℕ) → list_all (holds q.theory k) (apart_premises ys) ≡ all_apart k.facts ys
  aparts_say [] = refl
  aparts_say (y ∷ ys) =
      list_all-append (holds q.theory k) (map (is_apart y) ys) (apart_premises ys)
      ∙ ap (λ (b : Bool). b && list_all (holds q.theory k) (apart_premises ys))
      (list_all-map (holds q.theory k) (is_apart y) ys)
      ∙ ap (λ (b : Bool). list_all (are_apart k.facts y) ys && b) (aparts_say ys)

  most_says : (x : ℕ) (ys : List ℕ) (o : Option Concept)
      → at_concept k x o (most_children q.theory k x ys) ≡ by (most_rule x ys o)
  most_says x ys None = refl
  most_says x ys (Some (at_most n s e)) =
      let known = knows k x && has_tree k.facts x (at_most n s e) in
      let many = eqb (length ys) (n + 1) in
      let fill = are_fillers q.theory k x s e ys in
      let apart = all_apart k.facts ys in
      let more = filler_premises x s e ys ++ apart_premises ys in
      let say : list_all (holds q.theory k) more ≡ (fill && apart) =
      list_all-append (holds q.theory k) (filler_premises x s e ys) (apart_premises ys)
      ∙ ap (λ (b : Bool). b && list_all (holds q.theory k) (apart_premises ys)) (fillers_say x s e ys)
      ∙ ap (λ (b : Bool). fill && b) (aparts_say ys) in
      ap (when known) (split_three many fill apart (Some []))
      ∙ swap known many (when (fill && apart) (Some []))
      ∙ ap (λ (b : Bool). when many (when known (when b (Some [])))) (sym say)
      ∙ ap (when many) (at_node x (at_most n s e) more (Some []))
      ∙ sym
      (by_when many (Some (record { premises = is_node x ∷ has_concept x (at_most n s e) ∷ more; children = [] })))
  most_says x ys (Some c) = when_none (knows k x && has_tree k.facts x c)

fact_says : (q : Question) (k : Known) (o : Option (Fact Concept)) → fact_children k o ≡ children_by q k (fact_rule o)
fact_says q k None = refl
fact_says q k (Some f) = ap (λ (b : Bool). when b (Some (with_facts k (f ∷ []) ∷ []))) (sym (and-true (knows k 0)))

-- but for `start`, the children of a line are those that its rule gives
pub rules_say : (q : Question) (concept : ℕ → Option Concept) (k : Known) (line : Line) → is_start line ≡ false
    → children_of q concept k line ≡ children_by q k (rule_of q concept line)
rules_say q concept k start_line h = cc
rules_say q concept k (and_line x c) h = and_says q k x (concept c)
rules_say q concept k (or_line x c) h = or_says q k x (concept c)
rules_say q concept k (all_line x y c) h = all_says q k x y (concept c)
rules_say q concept k (carry_line x y t c) h = carry_says q k x y t (concept c)
rules_say q concept k (row_line x a p positions) h = row_says q k x positions (part_at q.theory a p)
rules_say q concept k (range_line x y a) h = range_says q k x y (part_at q.theory a 1)
rules_say q concept k (some_line x y c) h = some_says q k x y (concept c)
rules_say q concept k (least_line x y c) h = least_says q k x y (concept c)
rules_say q concept k (choose_line y c) h = choose_says q k y (concept c)
rules_say q concept k (pair_line y z) h =
    two_say q k (knows k y) (knows k z) (Some (with_facts k (Same y z ∷ []) ∷ with_facts k (Apart y z ∷ []) ∷ []))
rules_say q concept k (bottom_line x) h = two_say q k (knows k x) (has_tree k.facts x bottom) (Some [])
rules_say q concept k (clash_line x c) h = clash_says q k x (concept c)
rules_say q concept k (most_line x c ys) h = most_says q k x ys (concept c)
rules_say q concept k (fact_line a p) h = fact_says q k (q.fact_of a p)
rules_say q concept k (differ_line y z) h =
    ap (λ (b : Bool). when b (Some []))
    (chain_four (knows k y) (knows k z) (are_apart k.facts y z) (eqb (rep k.facts y) (rep k.facts z)))
