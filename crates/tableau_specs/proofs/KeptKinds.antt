-- What the rules keep of concepts and of the roles of edges, holds of each concept and edge of a reached trail.
use Rattle.std.proofs.Common.{◌≡◌, ℕ, zero, suc, ◌+◌, ◌&&◌, eqb, Bool, true, Some, List, [], ◌∷◌, ◌++◌, map, take, ap}
use Rattle.std.proofs.Common.{◌∙◌, sym, subst, arith, inl, inr}
use Rattle.std.specs.List.{list_any, All, Contains}
use Rattle.std.proofs.lemmas.List.Elements.{All-nil, All-cons, All-head, All-tail, All-append, All-push, All-take}
use Rattle.std.proofs.lemmas.List.Elements.{All-contains, All-get_or}
use Rattle.std.proofs.lemmas.Bool.{and_parts, or_cases, eqb-true}
use Rattle.std.proofs.lemmas.Option.{slice_get_within, get_or_from_slice_get}
use Rattle.calculus_specs.specs.Concept.{Concept}
use Rattle.calculus_specs.specs.Normal.{negated_form}
use Rattle.calculus_specs.specs.Shape.{Shape, shape_of, IsTable}
use Rattle.calculus_specs.specs.Shape.Shape.{top as top_shape, intersection as intersection_shape, union as union_shape}
use Rattle.calculus_specs.specs.Shape.Shape.{some_of as some_shape, all_of as all_shape, at_least as least_shape}
use Rattle.calculus_specs.specs.Shape.Shape.{at_most as most_shape}
use Rattle.calculus_specs.specs.Tree.{tree_over, trees_of, tree_of}
use Rattle.calculus_specs.specs.Rows.{Row, IsRowOf, IsChoice}
use Rattle.calculus_specs.proofs.Unique.{tree_of_shape}
use Rattle.calculus_specs.specs.declared.facts.Fact.{Fact}
use Rattle.calculus_specs.specs.declared.facts.Fact.TheVariants.{Has, Edge, Apart, Same}
use Rattle.calculus_specs.specs.Joins.{rep}
use Rattle.calculus_specs.specs.State.{node_count_from, gives_concept, has, gives_edge, has_edge, new_nodes, apart_from}
use Rattle.calculus_specs.specs.State.{pairwise_apart, fresh_facts}
use Rattle.tableau_specs.specs.declared.Branch.{Branch}
use Rattle.tableau_specs.specs.declared.Branch.TheVariants.{Or, Choose, Pair}
use Rattle.tableau_specs.specs.declared.Choice.{Choice}
use Rattle.tableau_specs.specs.declared.Item.{Item}
use Rattle.tableau_specs.specs.declared.Item.TheVariants.{Fact as Says, Mark}
use Rattle.tableau_specs.specs.Items.{facts_of, says}
use Rattle.tableau_specs.specs.Steps.{SearchContext, IsGiven, Adds, Generates, MayBranch, IsAlternative, IsLegal}
use Rattle.tableau_specs.specs.Steps.{next_choice}
use Rattle.tableau_specs.specs.Steps.Adds.{by_and, by_all, by_carry, by_row}
use Rattle.tableau_specs.specs.Steps.Generates.{by_some, by_least}
use Rattle.tableau_specs.specs.Steps.MayBranch.{on_union, on_filler, on_pair}
use Rattle.tableau_specs.specs.Steps.IsAlternative.{of_union, of_filler, of_complement, of_joining, of_parting}
use Rattle.tableau_specs.specs.Steps.IsLegal.{add, give, generate, choose, back}
use Rattle.tableau_specs.specs.Reached.{start, Follows, context_of}
use Rattle.tableau_specs.proofs.Listed.{listed}
use Rattle.tableau_specs.specs.KeptKinds.{IsKept}
use Rattle.tableau_specs.specs.StepLaws.{KeptKindsStay}
use Rattle.calculus_specs.specs.Rules.{Question}
use Rattle.calculus_specs.specs.Reading.{read_fact}

contains_map : (f : ℕ → Concept) (ds : List ℕ) (d : ℕ) → Contains ds d → Contains (map f ds) (f d)
contains_map f [] d k = absurd (omega (arith, k.1))
contains_map f (e ∷ ds) d (zero, lt, is) = (0, omega arith, ap f is)
contains_map f (e ∷ ds) d (suc k, lt, is) =
    let r = contains_map f ds d (k, omega arith, is) in (suc r.0, omega (arith, r.1), r.2)

module _ (P : Concept → Type 0) (E : ℕ → Type 0) (q : Question) (table : List Shape) (rows : List Row)
    (good : IsTable table) (choice : IsChoice q.theory table rows) (kept : IsKept q.theory q.fact_of P E) where
  abbrev context : SearchContext
  context = context_of q table rows

  -- the concept of the number is one of the kind
  abbrev Right : ℕ → Type 0
  Right c = P (tree_of table c)

  as_shape : (c : ℕ) (s : Shape) → shape_of table c ≡ s → ¬ (s ≡ top_shape) → Right c → P (tree_over (trees_of table) s)
  as_shape c s sh ne h =
      let lt = listed table c (λ k. ne (sym sh ∙ k)) in
      subst P (tree_of_shape table c lt (good.parts_below c lt) ∙ ap (tree_over (trees_of table)) sh) h

  from_shape : (c : ℕ) (s : Shape) → shape_of table c ≡ s → ¬ (s ≡ top_shape) → P (tree_over (trees_of table) s)
      → Right c
  from_shape c s sh ne h =
      let lt = listed table c (λ k. ne (sym sh ∙ k)) in
      subst P (sym (tree_of_shape table c lt (good.parts_below c lt) ∙ ap (tree_over (trees_of table)) sh)) h

  and_right : (c d : ℕ) (ds : List ℕ) → shape_of table c ≡ intersection_shape ds → Contains ds d → Right c → Right d
  and_right c d ds sh m h =
      kept.conjunct (map (tree_of table) ds) (tree_of table d) (as_shape c (intersection_shape ds) sh (λ k. cc) h)
      (contains_map (tree_of table) ds d m)

  or_right : (c d : ℕ) (ds : List ℕ) → shape_of table c ≡ union_shape ds → Contains ds d → Right c → Right d
  or_right c d ds sh m h =
      kept.disjunct (map (tree_of table) ds) (tree_of table d) (as_shape c (union_shape ds) sh (λ k. cc) h)
      (contains_map (tree_of table) ds d m)

  -- ---- facts and items

  abbrev RightFact : Fact ℕ → Type 0
  RightFact (Has x c) = Right c
  RightFact (Edge r x y) = E r
  RightFact (Apart x y) = Unit {0}
  RightFact (Same x y) = Unit {0}

  abbrev RightFacts : List (Fact ℕ) → Type 0
  RightFacts [] = Unit {0}
  RightFacts (f ∷ fs) = RightFact f × RightFacts fs

  abbrev RightBranch : Branch → Type 0
  RightBranch (Or x c) = Right c
  RightBranch (Choose y e) = Right e × P (negated_form (tree_of table e))
  RightBranch (Pair y z) = Unit {0}

  abbrev RightItem : Item → Type 0
  RightItem (Says f) = RightFact f
  RightItem (Mark c) = RightBranch c.branch

  facts_right : (is : List Item) → All RightItem is → RightFacts (facts_of is)
  facts_right [] h = tt
  facts_right (Says f ∷ is) h = (All-head RightItem (Says f) is h, facts_right is (All-tail RightItem (Says f) is h))
  facts_right (Mark c ∷ is) h = facts_right is (All-tail RightItem (Mark c) is h)

  says_right : (fs : List (Fact ℕ)) → RightFacts fs → All RightItem (says fs)
  says_right [] h = All-nil RightItem
  says_right (f ∷ fs) h = All-cons RightItem (Says f) (says fs) h.0 (says_right fs h.1)

  given_right : (m : ℕ → ℕ) (at c : ℕ) (fs : List (Fact ℕ)) → RightFacts fs
      → list_any (gives_concept (λ d. eqb d c) m at) fs ≡ true → Right c
  given_right m at c [] h g = cc
  given_right m at c (Has y d ∷ fs) h g =
      elim (or_cases (eqb (m y) at && eqb d c) (list_any (gives_concept (λ e. eqb e c) m at) fs) g) [
        | inl here ↦ subst Right (eqb-true d c (and_parts (eqb (m y) at) (eqb d c) here).1) h.0
        | inr later ↦ given_right m at c fs h.1 later
      ]
  given_right m at c (Edge r y z ∷ fs) h g = given_right m at c fs h.1 g
  given_right m at c (Apart y z ∷ fs) h g = given_right m at c fs h.1 g
  given_right m at c (Same y z ∷ fs) h g = given_right m at c fs h.1 g

  top_right : Right 0
  top_right =
      subst P (sym
      (tree_of_shape table 0 good.has_top (good.parts_below 0 good.has_top)
      ∙ ap (tree_over (trees_of table)) good.begins_with_top))
      kept.top_is

  -- what a node has is right
  has_right : (fs : List (Fact ℕ)) → RightFacts fs → (x c : ℕ) → has fs x c ≡ true → Right c
  has_right fs h x c g = elim (or_cases (eqb c 0) (list_any (gives_concept (λ d. eqb d c) (rep fs) (rep fs x)) fs) g) [
    | inl zero' ↦ subst Right (sym (eqb-true c 0 zero')) top_right
    | inr given ↦ given_right (rep fs) (rep fs x) c fs h given
  ]

  apart_right : (y z k : ℕ) (rest : List (Fact ℕ)) → RightFacts rest → RightFacts (apart_from y z k ++ rest)
  apart_right y z zero rest h = h
  apart_right y z (suc k) rest h = (tt, apart_right y (z + 1) k rest h)

  pairs_right : (first k : ℕ) → RightFacts (pairwise_apart first k)
  pairs_right first zero = tt
  pairs_right first (suc k) = apart_right first (first + 1) k (pairwise_apart (first + 1) k) (pairs_right (first + 1) k)

  nodes_right : (x s e first k : ℕ) (rest : List (Fact ℕ)) → E s → Right e → RightFacts rest
      → RightFacts (new_nodes x s e first k ++ rest)
  nodes_right x s e first zero rest l h g = g
  nodes_right x s e first (suc k) rest l h g = (l, (h, nodes_right x s e (first + 1) k rest l h g))

  fresh_right : (x s e first k : ℕ) → E s → Right e → RightFacts (fresh_facts x s e first k)
  fresh_right x s e first k l h = nodes_right x s e first k (pairwise_apart first k) l h (pairs_right first k)

  -- ---- steps

  adds_right : (fs : List (Fact ℕ)) → RightFacts fs → (x d : ℕ) → Adds context fs x d → Right d
  adds_right fs r x d (by_and x' c d' parts lt h sh m) = and_right c d parts sh m (has_right fs r x' c h)
  adds_right fs r x d (by_all x' y c s e lt mt h sh edge') =
      kept.filler_of_all s (tree_of table d) (as_shape c (all_shape s d) sh (λ k. cc) (has_right fs r x' c h))
  adds_right fs r x d (by_carry x' y c s t e d' carried sh) =
      from_shape d (all_shape t e) sh (λ k. cc)
      (kept.carried s t (tree_of table e)
      (as_shape c (all_shape s e) carried.shape (λ k. cc) (has_right fs r x' c carried.holds)) carried.transitive
      carried.role_below)
  adds_right fs r x d (by_row x' row lt m used) =
      let fits = All-contains (IsRowOf q.theory table) rows row choice.rows_fit m in
      kept.row row.axiom_number row.part_number fits.part row.trigger (tree_of table row.concept) fits.is_there
      fits.is_right

  -- what an axiom gives is right
  fact_right : (a p : ℕ) (f : Fact ℕ) → q.fact_of a p ≡ Some (read_fact (tree_of table) f) → RightFact f
  fact_right a p (Has x c) h = kept.member a p x (tree_of table c) h
  fact_right a p (Edge r x y) h = kept.pair a p r x y h
  fact_right a p (Apart x y) h = tt
  fact_right a p (Same x y) h = tt

  fact_is_right : (f : Fact ℕ) → IsGiven context f → RightFact f
  fact_is_right f h = fact_right h.axiom_number h.place f h.is_there

  generates_right : (fs new : List (Fact ℕ)) → RightFacts fs → Generates context fs new → RightFacts new
  generates_right fs new r (by_some x c s e at h sh none) =
      let k = as_shape c (some_shape s e) sh (λ k. cc) (has_right fs r x c h) in
      fresh_right x s e (node_count_from q.first fs) 1 (kept.edge_of_some s (tree_of table e) k)
      (kept.filler_of_some s (tree_of table e) k)
  generates_right fs new r (by_least x c n s e at h sh none) =
      let k = as_shape c (least_shape n s e) sh (λ k. cc) (has_right fs r x c h) in
      fresh_right x s e (node_count_from q.first fs) n (kept.edge_of_least n s (tree_of table e) k)
      (kept.filler_of_least n s (tree_of table e) k)

  branch_right : (fs : List (Fact ℕ)) (b : Branch) → RightFacts fs → MayBranch context fs b → RightBranch b
  branch_right fs b r (on_union x c parts lt h sh none) = has_right fs r x c h
  branch_right fs b r (on_filler x c n s e y lt h sh next none out) =
      let k = as_shape c (most_shape n s e) sh (λ k. cc) (has_right fs r x c h) in
      (kept.filler_of_most n s (tree_of table e) k, kept.complement_of_most n s (tree_of table e) k)
  branch_right fs b r (on_pair x c n s e y z lt h sh more cy cz ne apart') = tt

  alternative_right : (b : Branch) (k : ℕ) (f : Fact ℕ) → IsAlternative table b k f → RightBranch b → RightFact f
  alternative_right b k f (of_union x c k' d parts sh read) h =
      or_right c d parts sh (k', slice_get_within parts k' d read, get_or_from_slice_get parts k' d d read) h
  alternative_right b k f (of_filler y e) h = h.0
  alternative_right b k f (of_complement y e d neg) h = subst P (sym neg.negates) h.1
  alternative_right b k f (of_joining y z) h = tt
  alternative_right b k f (of_parting y z) h = tt

  branched_right : (is : List Item) (c : Choice) (k : ℕ) (f : Fact ℕ) → All RightItem is → RightBranch c.branch
      → IsAlternative table c.branch k f → All RightItem (is ++ Mark c ∷ Says f ∷ [])
  branched_right is c k f h about alt =
      All-append RightItem is (Mark c ∷ Says f ∷ []) h
      (All-cons RightItem (Mark c) (Says f ∷ []) about
      (All-cons RightItem (Says f) [] (alternative_right c.branch k f alt about) (All-nil RightItem)))

  legal_right : (old new : List Item) → All RightItem old → IsLegal context old new → All RightItem new
  legal_right old new h (add x d nc adds out) =
      All-push RightItem old (Says (Has x d)) h (adds_right (facts_of old) (facts_right old h) x d adds)
  legal_right old new h (give f nc given' out) = All-push RightItem old (Says f) h (fact_is_right f given')
  legal_right old new h (generate fs nc makes) =
      All-append RightItem old (says fs) h (says_right fs (generates_right (facts_of old) fs (facts_right old h) makes))
  legal_right old new h (choose c f nc may one alt) =
      branched_right old c 1 f h (branch_right (facts_of old) c.branch (facts_right old h) may) alt
  legal_right old new h (back place c f clash read alt) =
      let about : RightBranch c.branch =
      (let g = All-get_or RightItem old place (Mark c) (slice_get_within old place (Mark c) read) h in
      rw (get_or_from_slice_get old place (Mark c) (Mark c) read) at g) in
      branched_right (take place old) (next_choice context c) (c.alternative + 1) f (All-take RightItem place old h)
      about alt

  follows_right : (first : List Item) (k : ℕ) (trail : List Item) → All RightItem first → Follows context first k trail
      → All RightItem trail
  follows_right first zero trail h r = subst (All RightItem) (sym r) h
  follows_right first (suc k) trail h r = legal_right r.0 trail (follows_right first k r.0 h r.1) r.2

  trail_right : (at a b k : ℕ) (trail : List Item) → Right a → Right b → Follows context (start at a b) k trail
      → RightFacts (facts_of trail)
  trail_right at a b k trail ra rb r =
      facts_right trail (follows_right (start at a b) k trail
      (All-cons RightItem (Says (Has at a)) (Says (Has at b) ∷ []) ra
      (All-cons RightItem (Says (Has at b)) [] rb (All-nil RightItem)))
      r)

  pub concepts_right : (at a b k : ℕ) (trail : List Item) → Right a → Right b → Follows context (start at a b) k trail
      → (x c : ℕ) → has (facts_of trail) x c ≡ true → P (tree_of table c)
  concepts_right at a b k trail ra rb r x c h = has_right (facts_of trail) (trail_right at a b k trail ra rb r) x c h

  edge_right : (roles : ℕ → Bool) (m : ℕ → ℕ) (u v : ℕ) (fs : List (Fact ℕ)) → RightFacts fs
      → list_any (gives_edge roles m u v) fs ≡ true → (r : ℕ) × (roles r ≡ true) × E r
  edge_right roles m u v [] h g = cc
  edge_right roles m u v (Edge r y z ∷ fs) h g =
      elim (or_cases (roles r && eqb (m y) u && eqb (m z) v) (list_any (gives_edge roles m u v) fs) g) [
        | inl here ↦
            (r, (and_parts (roles r) (eqb (m y) u) (and_parts (roles r && eqb (m y) u) (eqb (m z) v) here).0).0, h.0)
        | inr later ↦ edge_right roles m u v fs h.1 later
      ]
  edge_right roles m u v (Has y c ∷ fs) h g = edge_right roles m u v fs h.1 g
  edge_right roles m u v (Apart y z ∷ fs) h g = edge_right roles m u v fs h.1 g
  edge_right roles m u v (Same y z ∷ fs) h g = edge_right roles m u v fs h.1 g

  pub edges_right : (at a b k : ℕ) (trail : List Item) → Right a → Right b → Follows context (start at a b) k trail
      → (roles : ℕ → Bool) (x y : ℕ) → has_edge (facts_of trail) roles x y ≡ true → (r : ℕ) × (roles r ≡ true) × E r
  edges_right at a b k trail ra rb r roles x y h =
      edge_right roles (rep (facts_of trail)) (rep (facts_of trail) x) (rep (facts_of trail) y) (facts_of trail)
      (trail_right at a b k trail ra rb r) h

-- ---- the law

pub kept_kinds_stay : KeptKindsStay
kept_kinds_stay q table rows k trail reached p e kept in_sub in_sup =
    let P : Concept → Type 0 = λ c. p c ≡ true in
    let E : ℕ → Type 0 = λ r. e r ≡ true in
    let first = subst P (sym reached.sub_reads) in_sub in
    let second = subst P (sym reached.not_sup_reads) in_sup in
    record {
      concepts =
          concepts_right P E q table rows reached.is_table reached.is_choice kept q.at reached.sub_number
          reached.not_sup_number k trail first second reached.follows;
      edges =
          edges_right P E q table rows reached.is_table reached.is_choice kept q.at reached.sub_number
          reached.not_sup_number k trail first second reached.follows;
    }
