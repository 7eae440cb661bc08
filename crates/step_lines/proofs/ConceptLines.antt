-- Lines that ask for the concept of a node, and for an edge.
use Rattle.std.proofs.Common.{◌≡◌, ℕ, ◌+◌, ◌^◌, ◌<◌, ◌≤◌, eqb, ltb, Bool, true, List, [], ◌∷◌, map, length, refl, ap}
use Rattle.std.proofs.Common.{◌∙◌, sym, subst, arith, eq-eqb, inl, inr}
use Rattle.std.specs.List.{list_any, list_all, Contains}
use Rattle.std.proofs.lemmas.Bool.{lt-ltb, or_cases}
use Rattle.std.proofs.lemmas.List.{length-map}
use Rattle.std.proofs.lemmas.List.Folds.{list_any_at}
use Rattle.std.proofs.Math.ListN.{get_or-map}
use Rattle.shq_terms.specs.Concept.{Concept}
use Rattle.lane_sieve.specs.Sets.{NumberSet}
use Rattle.calculus_specs.specs.Shape.{Shape, shape_of, IsTable}
use Rattle.calculus_specs.specs.Shape.Shape.{top, bottom, name, not_name, intersection, union, some_of, all_of}
use Rattle.calculus_specs.specs.Shape.Shape.{at_least, at_most}
use Rattle.calculus_specs.specs.Tree.{tree_of}
use Rattle.calculus_specs.specs.declared.facts.Fact.{Fact}
use Rattle.calculus_specs.specs.declared.facts.Fact.TheVariants.{Has, Edge}
use Rattle.calculus_specs.specs.State.{node_count_from, has, has_edge, is_so}
use Rattle.calculus_specs.specs.Line.{Line}
use Rattle.calculus_specs.specs.Line.Line.{and_line, all_line, carry_line, some_line, least_line}
use Rattle.search_trace.specs.RuleLine.{concept_numbers}
use Rattle.calculus_specs.specs.Rules.{Question}
use Rattle.tableau_specs.specs.Lines.{asked_in}
use Rattle.tableau_specs.specs.Steps.{SearchContext}
use Rattle.search_trace.specs.Premises.{Premise, is_node, has_concept, has_edge_below, holds, Added, more_facts}
use Rattle.search_trace.specs.Premises.{more_nodes}
use Rattle.search_trace.specs.Noted.{within, items}
use Rattle.search_trace.specs.Trail.{MarkedFact, trail_within, is_next, some_facts, all_nodes}
use Rattle.search_trace.specs.Grounded.{is_known_within}
use Rattle.search_trace.specs.ByShape.{IsRule}
use Rattle.search_trace.proofs.ByShape.{rules_by_shape}
use Rattle.step_finders.specs.declared.make.NewNodes.{NewNodes}
use Rattle.step_finders.specs.Making.{Asks}
use Rattle.step_finders.specs.Reasons.{IsByAnd, IsByAll, IsByCarry}
use Rattle.step_finders.proofs.Making.{least_few}
use Rattle.step_lines.specs.Serving.{HasPart, Serves}
use Rattle.step_lines.specs.Kinds.{making_line, ServesAddition, ServesNewNodes}
use Rattle.step_lines.proofs.Follows.{all_cons, all_first, all_rest, not_zero, is_listed, concept_follows, edge_follows}
use Rattle.step_lines.proofs.Follows.{node_of_has, end_of_edge}

contains_map : {X Y : Type 0} (f : X → Y) (xs : List X) (v : X) → Contains xs v → Contains (map f xs) (f v)
contains_map f xs v c = (c.0, omega (arith, c.1, length-map xs f), get_or-map f xs c.0 v ∙ ap f c.2)

any_contains : {X : Type 0} (p : X → Bool) (xs : List X) (v : X) → Contains xs v → p v ≡ true → list_any p xs ≡ true
any_contains p xs v c h = list_any_at p xs c.0 v c.1 (ap p c.2 ∙ h)

one_passes : {X : Type 0} (p : X → Bool) (v : X) → list_any p (v ∷ []) ≡ true → p v ≡ true
one_passes p v h = elim (or_cases (p v) (list_any p []) h) [ inl here ↦ here | inr later ↦ (let k = later in cc) ]

module _ (w : SearchContext) (fs : List (Fact ℕ)) (good : IsTable w.table) where
  -- what is asked of a branch
  abbrev asks : NumberSet → List MarkedFact → Premise → Bool
  asks u ms = holds w.theory (trail_within w.first w.table u ms)

  pub one_numbered : (line : Line) (c : ℕ) → concept_numbers line ≡ c ∷ [] → c < length w.table
      → list_all (λ k. ltb k (length w.table)) (concept_numbers line) ≡ true
  one_numbered line c e lt =
      ap (list_all (λ k. ltb k (length w.table))) e
      ∙ all_cons (λ k. ltb k (length w.table)) c [] (lt-ltb c (length w.table) lt) refl

  pub one_of_kind : (line : Line) (c : ℕ) → concept_numbers line ≡ c ∷ [] → (p : Concept → Bool)
      → p (tree_of w.table c) ≡ true → list_all (λ k. p (tree_of w.table k)) (concept_numbers line) ≡ true
  one_of_kind line c e p h =
      ap (list_all (λ k. p (tree_of w.table k))) e ∙ all_cons (λ k. p (tree_of w.table k)) c [] h refl

  -- a line that asks for a node's concept alone
  pub concept_line : (line : Line) (x c : ℕ) (s : Shape) (children : List Added) → shape_of w.table c ≡ s → ¬ (s ≡ top)
      → has fs x c ≡ true
      → ((q : Question)
      → IsRule (asked_in w q) w.table line (is_node x ∷ has_concept x (tree_of w.table c) ∷ []) children)
      → ((ms : List MarkedFact) → items ms ≡ fs → list_all (is_next w.first ms) children ≡ true)
      → concept_numbers line ≡ c ∷ [] → HasPart w line → (gs : List (Fact ℕ)) → gs ≡ Has x c ∷ []
      → Serves w fs line gs children (x ∷ [])
  concept_line line x c s children sh ne h rule next numbers part gs e =
      subst (λ (g : List (Fact ℕ)). Serves w fs line g children (x ∷ [])) (sym e) (record {
        are_so = all_cons (is_so fs) (Has x c) [] h refl;
        holds_by = λ q number u ms same grounded hold.
            let at : has (within u ms) x c ≡ true = all_first (is_so (within u ms)) (Has x c) [] hold in
            record {
              rule = record { premises = is_node x ∷ has_concept x (tree_of w.table c) ∷ []; children = children };
              holds = record {
                is_rule = rule q;
                premises =
                    all_cons (asks u ms) (is_node x) (has_concept x (tree_of w.table c) ∷ [])
                    (node_of_has w.first u ms grounded x c (not_zero w.table good c s sh ne) at)
                    (all_cons (asks u ms) (has_concept x (tree_of w.table c)) [] (concept_follows w good u ms x c at)
                    refl);
                are_next = next ms same;
              };
              children_are = refl;
            };
        knows =
            λ u ms grounded hold. all_cons (is_known_within w.first u ms) x []
            (node_of_has w.first u ms grounded x c (not_zero w.table good c s sh ne)
            (all_first (is_so (within u ms)) (Has x c) [] hold))
            refl;
        of_kind = λ p k kept kinds. one_of_kind line c numbers p (kinds.concepts x c h);
        numbered = one_numbered line c numbers (is_listed w.table c s sh ne);
        has_part = part;
      })

  -- a line that asks for the concept of a node and for an edge from it
  pub edge_line : (line : Line) (x r y t c : ℕ) (s : Shape) (children : List Added) → shape_of w.table c ≡ s
      → ¬ (s ≡ top) → has fs x c ≡ true
      → has_edge fs (λ q. eqb q r) x y ≡ true → w.theory.below r t ≡ true
      → ((q : Question)
      → IsRule (asked_in w q) w.table line
      (is_node x ∷ has_concept x (tree_of w.table c) ∷ is_node y ∷ has_edge_below t x y ∷ []) children)
      → ((ms : List MarkedFact) → items ms ≡ fs → list_all (is_next w.first ms) children ≡ true)
      → concept_numbers line ≡ c ∷ [] → HasPart w line → (gs : List (Fact ℕ)) → gs ≡ Has x c ∷ Edge r x y ∷ []
      → Serves w fs line gs children (y ∷ [])
  edge_line line x r y t c s children sh ne h leads below rule next numbers part gs e =
      subst (λ (g : List (Fact ℕ)). Serves w fs line g children (y ∷ [])) (sym e) (record {
        are_so = all_cons (is_so fs) (Has x c) (Edge r x y ∷ []) h (all_cons (is_so fs) (Edge r x y) [] leads refl);
        holds_by = λ q number u ms same grounded hold.
            let at : has (within u ms) x c ≡ true = all_first (is_so (within u ms)) (Has x c) (Edge r x y ∷ []) hold in
            let on : has_edge (within u ms) (λ q. eqb q r) x y ≡ true =
            all_first (is_so (within u ms)) (Edge r x y) []
            (all_rest (is_so (within u ms)) (Has x c) (Edge r x y ∷ []) hold) in
            record {
              rule = record {
                premises = is_node x ∷ has_concept x (tree_of w.table c) ∷ is_node y ∷ has_edge_below t x y ∷ [];
                children = children;
              };
              holds = record {
                is_rule = rule q;
                premises =
                    all_cons (asks u ms) (is_node x)
                    (has_concept x (tree_of w.table c) ∷ is_node y ∷ has_edge_below t x y ∷ [])
                    (node_of_has w.first u ms grounded x c (not_zero w.table good c s sh ne) at)
                    (all_cons (asks u ms) (has_concept x (tree_of w.table c)) (is_node y ∷ has_edge_below t x y ∷ [])
                    (concept_follows w good u ms x c at)
                    (all_cons (asks u ms) (is_node y) (has_edge_below t x y ∷ [])
                    (end_of_edge w.first u ms grounded r x y on)
                    (all_cons (asks u ms) (has_edge_below t x y) [] (edge_follows w good u ms r t x y below on) refl)));
                are_next = next ms same;
              };
              children_are = refl;
            };
        knows = λ u ms grounded hold.
            all_cons (is_known_within w.first u ms) y []
            (end_of_edge w.first u ms grounded r x y
            (all_first (is_so (within u ms)) (Edge r x y) []
            (all_rest (is_so (within u ms)) (Has x c) (Edge r x y ∷ []) hold)))
            refl;
        of_kind = λ p k kept kinds. one_of_kind line c numbers p (kinds.concepts x c h);
        numbered = one_numbered line c numbers (is_listed w.table c s sh ne);
        has_part = part;
      })

  -- ---- additions

  pub and_serves : (c x d : ℕ) → IsByAnd w fs c x d → (gs : List (Fact ℕ)) → gs ≡ Has x c ∷ []
      → ServesAddition w fs x d (and_line x c) gs
  and_serves c x d by gs e =
      let made : ℕ → Fact Concept = λ p. Has x (tree_of w.table p) in
      record {
        child = more_facts (map made by.parts);
        serves =
            concept_line (and_line x c) x c (intersection by.parts) (more_facts (map made by.parts) ∷ []) by.shape
            (λ k. cc) by.holds
            (λ q. (rules_by_shape (asked_in w q) w.table good).by_and x c by.parts
            (is_listed w.table c (intersection by.parts) by.shape (λ k. cc)) by.shape)
            (λ ms same. refl) refl tt gs e;
        puts =
            some_facts (map made by.parts) (Has x d ∷ []) refl
            (λ p h. any_contains p (map made by.parts) (made d) (contains_map made by.parts d by.is_part)
            (one_passes p (made d) h));
        single = refl;
      }

  pub all_serves : (x r c y d : ℕ) → IsByAll w fs x r c y d → (gs : List (Fact ℕ)) → gs ≡ Has x c ∷ Edge r x y ∷ []
      → ServesAddition w fs y d (all_line x y c) gs
  all_serves x r c y d by gs e = record {
    child = more_facts (Has y (tree_of w.table d) ∷ []);
    serves =
        edge_line (all_line x y c) x r y by.role c (all_of by.role d) (more_facts (Has y (tree_of w.table d) ∷ []) ∷ [])
        by.shape (λ k. cc) by.holds by.is_edge.leads by.role_below
        (λ q. (rules_by_shape (asked_in w q) w.table good).by_all x y c by.role d
        (is_listed w.table c (all_of by.role d) by.shape (λ k. cc)) by.shape)
        (λ ms same. refl) refl tt gs e;
    puts = some_facts (Has y (tree_of w.table d) ∷ []) (Has y d ∷ []) refl (λ p h. h);
    single = refl;
  }

  pub carry_serves : (x r t c y d : ℕ) → IsByCarry w fs x r t c y d → (gs : List (Fact ℕ))
      → gs ≡ Has x c ∷ Edge r x y ∷ [] → ServesAddition w fs y d (carry_line x y t c) gs
  carry_serves x r t c y d by gs e = record {
    child = more_facts (Has y (tree_of w.table d) ∷ []);
    serves =
        edge_line (carry_line x y t c) x r y t c (all_of by.role by.filler)
        (more_facts (Has y (tree_of w.table d) ∷ []) ∷ []) by.shape (λ k. cc) by.holds by.is_edge.leads by.role_below
        (λ q. (rules_by_shape (asked_in w q) w.table good).by_carry x y t c by.role by.filler d
        (is_listed w.table c (all_of by.role by.filler) by.shape (λ k. cc)) by.shape
        (is_listed w.table d (all_of t by.filler) by.carried (λ k. cc)) by.carried by.transitive by.over_below)
        (λ ms same. refl) refl tt gs e;
    puts = some_facts (Has y (tree_of w.table d) ∷ []) (Has y d ∷ []) refl (λ p h. h);
    single = refl;
  }

  -- ---- new nodes

  next_nodes : (x s : ℕ) (t : Concept) (n : ℕ) (ms : List MarkedFact) → items ms ≡ fs
      → list_all (is_next w.first ms) (more_nodes x s t (node_count_from w.first fs) n ∷ []) ≡ true
  next_nodes x s t n ms same =
      all_cons (is_next w.first ms) (more_nodes x s t (node_count_from w.first fs) n) []
      (eq-eqb (node_count_from w.first fs) (node_count_from w.first (items ms))
      (ap (node_count_from w.first) (sym same)))
      refl

  -- the new nodes, as the concept asks for them
  making_serves : (x s e n c : ℕ) (sh : Shape) → shape_of w.table c ≡ sh → ¬ (sh ≡ top) → has fs x c ≡ true
      → (line : Line)
      → ((q : Question)
      → IsRule (asked_in w q) w.table line (is_node x ∷ has_concept x (tree_of w.table c) ∷ [])
      (more_nodes x s (tree_of w.table e) (node_count_from w.first fs) n ∷ []))
      → concept_numbers line ≡ c ∷ [] → HasPart w line → (gs : List (Fact ℕ)) → gs ≡ Has x c ∷ []
      → Serves w fs line gs (more_nodes x s (tree_of w.table e) (node_count_from w.first fs) n ∷ []) (x ∷ [])
  making_serves x s e n c sh is ne h line rule numbers part gs eq =
      concept_line line x c sh (more_nodes x s (tree_of w.table e) (node_count_from w.first fs) n ∷ []) is ne h rule
      (next_nodes x s (tree_of w.table e) n) numbers part gs eq

  -- a concept asks for few nodes
  pub made_few : (m : NewNodes) (sh : Shape) → shape_of w.table m.concept ≡ sh → Asks sh m → m.count < 200
  made_few m (some_of s e) sh asked = omega (arith, asked.2)
  made_few m (at_least n s e) sh asked = omega (arith, asked.2, least_few w.table good m.concept n s e sh)
  made_few m top sh asked = absurd asked
  made_few m bottom sh asked = absurd asked
  made_few m (name a) sh asked = absurd asked
  made_few m (not_name a) sh asked = absurd asked
  made_few m (intersection cs) sh asked = absurd asked
  made_few m (union cs) sh asked = absurd asked
  made_few m (all_of s e) sh asked = absurd asked
  made_few m (at_most n s e) sh asked = absurd asked

  module _ (m : NewNodes) (h : has fs m.parent m.concept ≡ true) (fits : node_count_from w.first fs + m.count ≤ 2 ^ 32)
      (gs : List (Fact ℕ)) (eq : gs ≡ Has m.parent m.concept ∷ []) where
    abbrev y : ℕ
    y = node_count_from w.first fs

    pub nodes_serve : (sh : Shape) → shape_of w.table m.concept ≡ sh → Asks sh m
        → ServesNewNodes w fs m (making_line sh m.parent y m.concept) gs
    nodes_serve (some_of s e) sh asked =
        let is : shape_of w.table m.concept ≡ some_of m.role m.filler =
        sh ∙ ap (λ (k : ℕ). some_of k e) asked.0 ∙ ap (some_of m.role) asked.1 in
        let rule =
        λ (q : Question). (rules_by_shape (asked_in w q) w.table good).by_some m.parent y m.concept m.role m.filler
        (is_listed w.table m.concept (some_of m.role m.filler) is (λ k. cc)) is in
        record {
          child = more_nodes m.parent m.role (tree_of w.table m.filler) y m.count;
          serves =
              making_serves m.parent m.role m.filler m.count m.concept (some_of m.role m.filler) is (λ k. cc) h
              (some_line m.parent y m.concept)
              (λ q. subst
              (λ (n : ℕ). IsRule (asked_in w q) w.table (some_line m.parent y m.concept)
              (is_node m.parent ∷ has_concept m.parent (tree_of w.table m.concept) ∷ [])
              (more_nodes m.parent m.role (tree_of w.table m.filler) y n ∷ []))
              (sym asked.2) (rule q))
              refl tt gs eq;
          puts = all_nodes m.parent m.role m.filler y m.count;
          single = refl;
        }
    nodes_serve (at_least n s e) sh asked =
        let is : shape_of w.table m.concept ≡ at_least m.count m.role m.filler =
        sh ∙ ap (λ (k : ℕ). at_least k s e) asked.2 ∙ ap (λ (k : ℕ). at_least m.count k e) asked.0
        ∙ ap (at_least m.count m.role) asked.1 in
        let rule =
        λ (q : Question). (rules_by_shape (asked_in w q) w.table good).by_least m.parent y m.concept m.count m.role
        m.filler (is_listed w.table m.concept (at_least m.count m.role m.filler) is (λ k. cc)) is fits in
        record {
          child = more_nodes m.parent m.role (tree_of w.table m.filler) y m.count;
          serves =
              making_serves m.parent m.role m.filler m.count m.concept (at_least m.count m.role m.filler) is (λ k. cc) h
              (least_line m.parent y m.concept) rule refl tt gs eq;
          puts = all_nodes m.parent m.role m.filler y m.count;
          single = refl;
        }
    nodes_serve top sh asked = absurd asked
    nodes_serve bottom sh asked = absurd asked
    nodes_serve (name a) sh asked = absurd asked
    nodes_serve (not_name a) sh asked = absurd asked
    nodes_serve (intersection cs) sh asked = absurd asked
    nodes_serve (union cs) sh asked = absurd asked
    nodes_serve (all_of s e) sh asked = absurd asked
    nodes_serve (at_most n s e) sh asked = absurd asked
