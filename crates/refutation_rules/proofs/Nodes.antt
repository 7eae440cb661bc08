-- New nodes, and whether some of them are known.
use Rattle.std.proofs.Common.{◌≡◌, ℕ, zero, suc, ◌+◌, ◌<◌, ◌≤◌, ◌^◌, ◌&&◌, ◌||◌, not, eqb, leb, ltb, Bool, true, false}
use Rattle.std.proofs.Common.{List, [], ◌∷◌, ◌++◌, length, Option, Some, None, refl, ap, subst, sym, ◌∙◌, inl, inr}
use Rattle.std.proofs.Common.{arith, add-one}
use Rattle.std.specs.List.{list_any, range_with_len}
use Rattle.std.proofs.lemmas.Bool.{and_parts, and_from, or_cases, or_left, or_right, eqb-true, eq-eqb, leb-true, le-leb}
use Rattle.std.proofs.lemmas.Bool.{ltb-true, lt-ltb, not-true, false≢true}
use Rattle.std.proofs.lemmas.List.{map-append}
use Rattle.std.proofs.Math.Bool.{or-false, or_assoc}
use Rattle.shq_terms.specs.Concept.{Concept}
use Rattle.shq_terms.proofs.Bools.{same_truth}
use Rattle.calculus_specs.specs.Shape.{Shape}
use Rattle.calculus_specs.specs.Shape.Shape.{some_of as some_shape, at_least as least_shape}
use Rattle.calculus_specs.specs.Tree.{tree_of}
use Rattle.shq_nnf.specs.Shapes.{form_of}
use Rattle.shq_nnf.specs.declared.shapes.Shape.{Shape as Shown}
use Rattle.shq_nnf.specs.declared.shapes.Shape.TheVariants as S
use Rattle.calculus_specs.specs.declared.facts.Fact.{Fact}
use Rattle.calculus_specs.specs.declared.facts.Fact.TheVariants.{Has, Edge, Apart}
use Rattle.calculus_specs.specs.State.{new_nodes, apart_from, pairwise_apart, fresh_facts}
use Rattle.calculus_specs.specs.Reading.{read_fact, read_facts}
use Rattle.branch_facts.specs.NumberedBranch.{NumberedBranch as Branch, has_node}
use Rattle.calculus_specs.specs.Line.{Line}
use Rattle.calculus_specs.specs.Line.Line.{some_line, least_line}
use Rattle.calculus_specs.specs.Rules.{Known, when, some_children, least_children}
use Rattle.calculus_specs.specs.Rules.{with_nodes as known_nodes}
use Rattle.refutation_rules.specs.declared.outcome.Outcome.{Outcome}
use Rattle.refutation_rules.specs.declared.outcome.Outcome.TheVariants.{Nodes}
use Rattle.refutation_rules.specs.declared.outcome.NewNodes.{NewNodes}
use Rattle.refutation_rules.specs.Outcomes.{known_of, branch_with_nodes, children_after, IsFitIfSome}
use Rattle.refutation_rules.specs.RefutationContext.{RefutationContext, line_children, IsOutcome, IsHeldShape}
use Rattle.refutation_rules.proofs.Edges.{range_any, any_range}

-- ---- one number more in a range

more_numbers : (p : ℕ → Bool) (a n : ℕ)
    → list_any p (range_with_len a (suc n)) ≡ (list_any p (range_with_len a n) || p (a + n))
more_numbers p a zero = let e : a ≡ a + 0 = omega arith in or-false (p a) ∙ ap p e
more_numbers p a (suc n) =
    let rest = list_any p (range_with_len (a + 1) n) in
    let e : a + 1 + n ≡ a + suc n = omega arith in
    ap (λ (b : Bool). p a || b) (more_numbers p (a + 1) n) ∙ sym (or_assoc (p a) rest (p (a + 1 + n)))
    ∙ ap (λ (k : ℕ). (p a || rest) || p k) e

pub any_range_more : (p : ℕ → Bool) (a n : ℕ)
    → list_any p (range_with_len a (n + 1)) ≡ (list_any p (range_with_len a n) || p (a + n))
any_range_more p a n = ap (λ (k : ℕ). list_any p (range_with_len a k)) (add-one n) ∙ more_numbers p a n

-- ---- nodes that are known

module _ (y n : ℕ) where
  abbrev is_new : ℕ → Bool
  is_new z = leb y z && ltb z (y + n)

  in_list : (nodes : List ℕ) → list_any is_new nodes ≡ true
      → list_any (λ z. list_any (λ w. eqb w z) nodes) (range_with_len y n) ≡ true
  in_list nodes h = by nodes h (λ z e. e)
    where
      by : (ms : List ℕ) → list_any is_new ms ≡ true
          → ((z : ℕ) → list_any (λ w. eqb w z) ms ≡ true → list_any (λ w. eqb w z) nodes ≡ true)
          → list_any (λ z. list_any (λ w. eqb w z) nodes) (range_with_len y n) ≡ true
      by [] h all = absurd (false≢true h)
      by (m ∷ ms) h all = elim (or_cases (is_new m) (list_any is_new ms) h) [
        | inl here ↦
            let p = and_parts (leb y m) (ltb m (y + n)) here in
            any_range (λ z. list_any (λ w. eqb w z) nodes) y n m (leb-true y m p.0) (ltb-true m (y + n) p.1)
            (all m (or_left (eqb m m) (list_any (λ w. eqb w m) ms) (eq-eqb m m refl)))
        | inr later ↦ by ms later (λ z e. all z (or_right (eqb m z) (list_any (λ w. eqb w z) ms) e))
      ]

  of_list : (nodes : List ℕ) (z : ℕ) → y ≤ z → z < y + n → list_any (λ w. eqb w z) nodes ≡ true
      → list_any is_new nodes ≡ true
  of_list [] z le lt h = absurd (false≢true h)
  of_list (m ∷ ms) z le lt h = elim (or_cases (eqb m z) (list_any (λ w. eqb w z) ms) h) [
    | inl here ↦
        let e = eqb-true m z here in
        or_left (is_new m) (list_any is_new ms)
        (and_from (leb y m) (ltb m (y + n)) (le-leb y m (omega arith)) (lt-ltb m (y + n) (omega arith)))
    | inr later ↦ or_right (is_new m) (list_any is_new ms) (of_list ms z le lt later)
  ]

  pub some_known : (nodes : List ℕ)
      → list_any is_new nodes ≡ list_any (λ z. list_any (λ w. eqb w z) nodes) (range_with_len y n)
  some_known nodes =
      same_truth (list_any is_new nodes) (list_any (λ z. list_any (λ w. eqb w z) nodes) (range_with_len y n))
      (in_list nodes)
      (λ h.
      let w = range_any (λ z. list_any (λ w. eqb w z) nodes) y n h in of_list nodes w.number w.low w.high w.passes)

-- ---- their facts

module _ (table : List Shape) (x s e : ℕ) where
  nodes_read : (first n : ℕ)
      → read_facts (tree_of table) (new_nodes x s e first n) ≡ new_nodes x s (tree_of table e) first n
  nodes_read first zero = refl
  nodes_read first (suc n) =
      ap (λ (l : List (Fact Concept)). Edge s x first ∷ Has first (tree_of table e) ∷ l) (nodes_read (first + 1) n)

  aparts_read : (y z n : ℕ) → read_facts (tree_of table) (apart_from y z n) ≡ apart_from y z n
  aparts_read y z zero = refl
  aparts_read y z (suc n) = ap (λ (l : List (Fact Concept)). Apart y z ∷ l) (aparts_read y (z + 1) n)

  pairs_read : (first n : ℕ) → read_facts (tree_of table) (pairwise_apart first n) ≡ pairwise_apart first n
  pairs_read first zero = refl
  pairs_read first (suc n) =
      map-append (read_fact (tree_of table)) (apart_from first (first + 1) n) (pairwise_apart (first + 1) n)
      ∙ (λ i. aparts_read first (first + 1) n i ++ pairs_read (first + 1) n i)

  fresh_read : (first n : ℕ)
      → read_facts (tree_of table) (fresh_facts x s e first n) ≡ fresh_facts x s (tree_of table e) first n
  fresh_read first n =
      map-append (read_fact (tree_of table)) (new_nodes x s e first n) (pairwise_apart first n)
      ∙ (λ i. nodes_read first n i ++ pairs_read first n i)

  pub nodes_more : (k : Branch) (first n : ℕ)
      → known_nodes (known_of table k) x s (tree_of table e) first n
      ≡ known_of table (branch_with_nodes k x s e first n)
  nodes_more k first n =
      ap (λ (fs : List (Fact Concept)). record { nodes = k.nodes ++ range_with_len first n; facts = fs })
      (ap (λ (l : List (Fact Concept)). read_facts (tree_of table) k.facts ++ l) (sym (fresh_read first n))
      ∙ sym (map-append (read_fact (tree_of table)) k.facts (fresh_facts x s e first n)))

-- ---- lines that make them

abbrev are_free : Branch → ℕ → ℕ → Bool
are_free k first n = leb (first + n) (2 ^ 32) && not (list_any (has_node k) (range_with_len first n))

made : (f : RefutationContext) (k : Branch) (line : Line) (nodes : NewNodes) (b : Bool) (o : Option Outcome)
    → line_children f k line
    ≡ when b (Some
    (known_nodes (known_of f.table k) nodes.from nodes.role (tree_of f.table nodes.concept) nodes.first nodes.count
    ∷ []))
    → nodes.concept < length f.table → b ≡ are_free k nodes.first nodes.count → o ≡ when b (Some (Nodes nodes))
    → IsOutcome f k line o
made f k line nodes true o e lt free is =
    let p =
    and_parts (leb (nodes.first + nodes.count) (2 ^ 32))
    (not (list_any (has_node k) (range_with_len nodes.first nodes.count))) (sym free) in
    record {
      children =
          e ∙ ap (λ (m : Known). Some (m ∷ []))
          (nodes_more f.table nodes.from nodes.role nodes.concept k nodes.first nodes.count)
          ∙ sym (ap (children_after f.table k) is);
      fit = subst (λ (q : Option Outcome). IsFitIfSome (length f.table) k q) (sym is) (
        lt,
        leb-true (nodes.first + nodes.count) (2 ^ 32) p.0,
        not-true (list_any (has_node k) (range_with_len nodes.first nodes.count)) p.1,
      );
    }
made f k line nodes false o e lt free is = record {
  children = e ∙ sym (ap (children_after f.table k) is);
  fit = subst (λ (q : Option Outcome). IsFitIfSome (length f.table) k q) (sym is) tt;
}

pub some_made : (f : RefutationContext) (k : Branch) (x y c s e : ℕ) (o : Option Outcome)
    → IsHeldShape f k x c (some_shape s e) → y < 2 ^ 32
    → o ≡ when (are_free k y 1) (Some (Nodes (record { from = x; role = s; concept = e; first = y; count = 1 })))
    → IsOutcome f k (some_line x y c) o
some_made f k x y c s e o h small is =
    let fits : leb (y + 1) (2 ^ 32) ≡ true = le-leb (y + 1) (2 ^ 32) (omega arith) in
    let free : not (has_node k y) ≡ are_free k y 1 =
    ap not (sym (or-false (has_node k y))) ∙ ap (λ (b : Bool). b && not (has_node k y || false)) (sym fits) in
    made f k (some_line x y c) (record { from = x; role = s; concept = e; first = y; count = 1 }) (are_free k y 1) o
    (h.goes_on (some_children (known_of f.table k) x y)
    ∙ ap (λ (b : Bool). when b (Some (known_nodes (known_of f.table k) x s (tree_of f.table e) y 1 ∷ []))) free)
    (ltb-true e (length f.table) h.parts_below) refl is

pub least_made : (f : RefutationContext) (k : Branch) (x y c n s e : ℕ) (o : Option Outcome)
    → IsHeldShape f k x c (least_shape n s e)
    → o ≡ when (are_free k y n) (Some (Nodes (record { from = x; role = s; concept = e; first = y; count = n })))
    → IsOutcome f k (least_line x y c) o
least_made f k x y c n s e o h is =
    made f k (least_line x y c) (record { from = x; role = s; concept = e; first = y; count = n }) (are_free k y n) o
    (h.goes_on (least_children (known_of f.table k) x y)
    ∙ ap (λ (b : Bool). when (leb (y + n) (2 ^ 32) && not b)
    (Some (known_nodes (known_of f.table k) x s (tree_of f.table e) y n ∷ [])))
    (some_known y n k.nodes))
    (ltb-true e (length f.table) h.parts_below) refl is

pub some_none : (f : RefutationContext) (k : Branch) (x y c : ℕ) (s : Shown) → IsHeldShape f k x c (form_of s)
    → ((r e : ℕ) → s ≡ S.SomeOf r e → ⊥) → line_children f k (some_line x y c) ≡ None
some_none f k x y c (S.SomeOf r e) h other = absurd (other r e refl)
some_none f k x y c _ h other = h.goes_on (some_children (known_of f.table k) x y)

pub least_none : (f : RefutationContext) (k : Branch) (x y c : ℕ) (s : Shown) → IsHeldShape f k x c (form_of s)
    → ((n r e : ℕ) → s ≡ S.Min n r e → ⊥) → line_children f k (least_line x y c) ≡ None
least_none f k x y c (S.Min n r e) h other = absurd (other n r e refl)
least_none f k x y c _ h other = h.goes_on (least_children (known_of f.table k) x y)
