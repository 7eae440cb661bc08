-- The laws on nodes and on all steps.
use Rattle.std.proofs.Common.{◌≡◌, ℕ, zero, suc, ◌+◌, ◌*◌, ◌^◌, ◌<◌, ◌≤◌, ◌||◌, eqb, true, List, [], ◌∷◌, ◌++◌, map}
use Rattle.std.proofs.Common.{length, refl, ap, ◌∙◌, sym, subst, arith, inl, inr}
use Rattle.std.specs.List.{list_any, filter, flat_map, range_with_len}
use Rattle.std.proofs.lemmas.Bool.{cases_Bool, or_cases, eqb-true}
use Rattle.std.proofs.lemmas.List.{length-map}
use Rattle.std.proofs.lemmas.Nat.{mul-le}
use Rattle.std.proofs.lemmas.Option.{slice_get_within}
use Rattle.std.proofs.Math.Nat.{pow-le-pow_right}
use Rattle.shq_terms.specs.declared.axioms.Numbered.{Numbered}
use Rattle.shq_terms.specs.Concept.{Concept, union, at_least, parts_of, part_list}
use Rattle.calculus_specs.specs.Same.{is_same}
use Rattle.calculus_specs.specs.Shape.{Shape, shape_of, IsTable}
use Rattle.calculus_specs.specs.Shape.Shape.{top as top_shape, union as union_shape, at_least as least_shape}
use Rattle.calculus_specs.specs.Tree.{tree_of, tree_over, trees_of}
use Rattle.calculus_specs.specs.Rows.{Row}
use Rattle.calculus_specs.specs.Rules.{Question}
use Rattle.calculus_specs.proofs.Same.{same_to_eq}
use Rattle.calculus_specs.proofs.Unique.{tree_of_shape}
use Rattle.calculus_specs.specs.declared.facts.Fact.{Fact}
use Rattle.calculus_specs.specs.declared.facts.Fact.TheVariants.{Has}
use Rattle.calculus_specs.specs.State.{node_count_from}
use Rattle.tableau_specs.specs.declared.Branch.{Branch}
use Rattle.tableau_specs.specs.declared.Branch.TheVariants.{Or, Choose, Pair}
use Rattle.tableau_specs.specs.declared.Item.{Item}
use Rattle.tableau_specs.specs.declared.Item.TheVariants.{Fact as Says, Mark}
use Rattle.tableau_specs.specs.Items.{facts_of}
use Rattle.tableau_specs.specs.Steps.{SearchContext, MayBranch, IsAlternative}
use Rattle.tableau_specs.specs.Steps.MayBranch.{on_union, on_filler, on_pair}
use Rattle.tableau_specs.specs.Steps.IsAlternative.{of_union, of_filler, of_complement, of_joining, of_parting}
use Rattle.tableau_specs.specs.Reached.{start, context_of, IsReached}
use Rattle.tableau_specs.proofs.TreeShaped.{origin_is_node, origin_of_parent}
use Rattle.tableau_specs.proofs.Listed.{listed}
use Rattle.tableau_specs.proofs.Reached.{reached_built}
use Rattle.search_laws.specs.Closure.{IsClosure, asked_by, choices_of, most_made, most_parts, node_bound, step_bound}
use Rattle.search_laws.specs.Closure.{nodes_of, steps_of}
use Rattle.search_laws.specs.KeptSteps.{step_counts}
use Rattle.search_laws.specs.BoundLaws.{mark_count, AreAtFirst, HasPath, RolesAreBelowThemselves, children}
use Rattle.search_laws.specs.BoundLaws.{PathsAreShort, FewChildren, FewNodes, FewSteps, LegalRunsAreBounded}
use Rattle.search_laws.specs.BoundLaws.HasPath.{from_first, below}
use Rattle.calculus_specs.proofs.Unique.{part_list-parts_of}
use Rattle.search_laws.specs.KeptSteps.{IsGrown}
use Rattle.search_laws.proofs.Grown.{facts_of-append}
use Rattle.search_laws.specs.KeptSteps.IsGrown.{at_first, by_add, by_give, by_make, by_choice}
use Rattle.search_laws.proofs.Rising.{AreIn, in_front, given_most, joined_most, parted_most}
use Rattle.search_laws.proofs.Given.{so_count, so_most, counts_so, numbered, given_among}
use Rattle.search_laws.proofs.GivenFacts.{member_among, among_member, facts_of_none, fact_contained}
use Rattle.search_laws.proofs.Tally.{kept_most, tally, facts_after}
use Rattle.search_laws.proofs.KeptSteps.{keeping, one_step}
use Rattle.search_laws.proofs.Numbers.{numbers_of, few_numbers}
use Rattle.search_laws.proofs.Level.{levels_built}
use Rattle.search_laws.proofs.Paths.{had_in}
use Rattle.search_laws.proofs.BoundFew.{path_level, low, fits, nodes_few}
use Rattle.search_laws.proofs.Values.{value, AreAtMost, value_below, value_rises}
use Rattle.search_laws.proofs.BoundLaws.{numbers_in, mul_le, few_steps_at_first, few_marks}
use Rattle.search_laws.proofs.Sums.{count_in, in_most}
use Rattle.search_laws.proofs.Asked.{is_met}
use Rattle.search_laws.proofs.Children.{born}
use Rattle.search_laws.proofs.BoundComputed.{closure_is_computed}
use Rattle.search_laws.specs.ComputedClosure.{HasFacts, given_concept, transitive_roles, given_facts, closure_of}
use Rattle.search_laws.specs.ComputedClosure.{IsComputed}
use Rattle.search_laws.specs.ComputedClosure.{ClosureOfAxiomsIsComputed}
use Rattle.ontology_limits.specs.RoleAxiom.{RoleAxiom}
use Rattle.ontology_limits.specs.RoleAxiom.TheVariants.{Inclusion, Equivalence, Transitivity}
use Rattle.ontology_limits.specs.RoleAxioms.{role_axioms}
use Rattle.ontology_limits.specs.Steps.{is_transitive}
use Rattle.shq_terms.specs.declared.axioms.Query.{Query}
use Rattle.refutation_truth.specs.Theory.{theory_of, question_of}
use Rattle.calculus_specs.proofs.State.{eqb-comm}
use Rattle.calculus_specs.specs.Roles.{itself as chain_of_one}
use Rattle.ontology_limits.proofs.Limits.{test_is_below}

-- ---- what the closure's concepts ask for

asked_most : (n r : ℕ) (t : Concept) (cs : List Concept) → list_any (is_same (at_least n r t)) cs ≡ true
    → n ≤ most_made cs
asked_most n r t [] h = cc
asked_most n r t (c ∷ cs) h = elim (or_cases (is_same (at_least n r t) c) (list_any (is_same (at_least n r t)) cs) h) [
  | inl here ↦ let e : n ≡ asked_by c = ap asked_by (same_to_eq (at_least n r t) c here) in omega arith
  | inr later ↦ omega (arith, asked_most n r t cs later)
]

made_some : (cs : List Concept) → 1 ≤ most_made cs
made_some [] = omega arith
made_some (c ∷ cs) = omega (arith, made_some cs)

parts_most : (ts cs : List Concept) → list_any (is_same (union (parts_of ts))) cs ≡ true → length ts ≤ most_parts cs
parts_most ts [] h = cc
parts_most ts (c ∷ cs) h =
    elim (or_cases (is_same (union (parts_of ts)) c) (list_any (is_same (union (parts_of ts))) cs) h) [
      | inl here ↦
          let e : choices_of (union (parts_of ts)) ≡ choices_of c =
          ap choices_of (same_to_eq (union (parts_of ts)) c here) in
          let l : length (part_list (parts_of ts)) ≡ length ts = ap length (part_list-parts_of ts) in
          omega arith
      | inr later ↦ omega (arith, parts_most ts cs later)
    ]

parts_two : (cs : List Concept) → 2 ≤ most_parts cs
parts_two [] = omega arith
parts_two (c ∷ cs) = omega (arith, parts_two cs)

-- ---- numbers of the closure

stands : (table : List Shape) (cs : List Concept) (c : ℕ) (ds : List ℕ)
    → list_any (eqb c) (filter (λ d. list_any (is_same (tree_of table d)) cs) ds) ≡ true
    → list_any (is_same (tree_of table c)) cs ≡ true
stands table cs c [] h = cc
stands table cs c (d ∷ ds) h = elim (cases_Bool (list_any (is_same (tree_of table d)) cs)) [
  | inl here ↦
      elim (or_cases (eqb c d) (list_any (eqb c) (filter (λ e. list_any (is_same (tree_of table e)) cs) ds))
      (rw here at h)) [
        | inl at ↦ ap (λ (k : ℕ). list_any (is_same (tree_of table k)) cs) (eqb-true c d at) ∙ here
        | inr later ↦ stands table cs c ds later
      ]
  | inr out ↦ stands table cs c ds (rw out at h)
]

module _ (w : SearchContext) (cs : List Concept) (good : IsTable w.table) where
  abbrev ds : List ℕ
  ds = numbers_of w.table cs

  tree_is : (c : ℕ) (s : Shape) → shape_of w.table c ≡ s → ¬ (s ≡ top_shape)
      → tree_of w.table c ≡ tree_over (trees_of w.table) s
  tree_is c s sh ne =
      let lt = listed w.table c (λ k. ne (sym sh ∙ k)) in
      tree_of_shape w.table c lt (good.parts_below c lt) ∙ ap (tree_over (trees_of w.table)) sh

  asked_few : (c n s e : ℕ) → list_any (eqb c) ds ≡ true → shape_of w.table c ≡ least_shape n s e → n ≤ most_made cs
  asked_few c n s e at sh =
      let t = tree_is c (least_shape n s e) sh (λ k. cc) in
      asked_most n s (tree_of w.table e) cs
      (sym (ap (λ (u : Concept). list_any (is_same u) cs) t)
      ∙ stands w.table cs c (range_with_len 0 (length w.table)) at)

  parts_few : (c : ℕ) (ps : List ℕ) → list_any (eqb c) ds ≡ true → shape_of w.table c ≡ union_shape ps
      → length ps ≤ most_parts cs
  parts_few c ps at sh =
      let t = tree_is c (union_shape ps) sh (λ k. cc) in
      let most =
      parts_most (map (tree_of w.table) ps) cs
      (sym (ap (λ (u : Concept). list_any (is_same u) cs) t)
      ∙ stands w.table cs c (range_with_len 0 (length w.table)) at) in
      omega (arith, length-map ps (tree_of w.table))

  -- ---- alternatives are few

  abbrev HasFew : Branch → Type 0
  HasFew (Or x c) = (ps : List ℕ) → shape_of w.table c ≡ union_shape ps → length ps ≤ most_parts cs
  HasFew (Choose y e) = Unit {0}
  HasFew (Pair y z) = Unit {0}

  branch_few : (fs : List (Fact ℕ)) (b : Branch) → AreIn ds fs → MayBranch w fs b → HasFew b
  branch_few fs b all (on_union x c parts lt h sh none) = λ ps sh'.
      let ne : ¬ (c ≡ 0) =
      λ k. (let e : top_shape ≡ union_shape parts = sym good.begins_with_top ∙ ap (shape_of w.table) (sym k) ∙ sh in
      cc) in
      parts_few c ps (had_in ds fs x c all h ne) sh'
  branch_few fs b all (on_filler x c n s e y lt h sh next none out) = tt
  branch_few fs b all (on_pair x c n s e y z lt h sh more cy cz ne apart) = tt

  alternative_few : (b : Branch) (k : ℕ) (f : Fact ℕ) → IsAlternative w.table b k f → HasFew b → k ≤ most_parts cs
  alternative_few b k f (of_union x c k' d parts sh read) h =
      omega (arith, h parts sh, slice_get_within parts k' d read)
  alternative_few b k f (of_filler y e) h = omega (arith, parts_two cs)
  alternative_few b k f (of_complement y e d neg) h = parts_two cs
  alternative_few b k f (of_joining y z) h = omega (arith, parts_two cs)
  alternative_few b k f (of_parting y z) h = parts_two cs

  small_more : (n : ℕ) (ns ms : List ℕ) → AreAtMost n ns → AreAtMost n ms → AreAtMost n (ns ++ ms)
  small_more n [] ms h g = g
  small_more n (m ∷ ns) ms h g = (h.0, small_more n ns ms h.1 g)

  small : (at a b : ℕ) (ns : List ℕ) (trail : List Item) → IsGrown w (start at a b) ns trail → AreIn ds (facts_of trail)
      → AreAtMost (most_parts cs) ns
  small at a b ns trail at_first all = tt
  small at a b ns trail (by_add ms old x d g adds out) all =
      let all' = in_front ds (facts_of old) (Has x d ∷ []) (subst (AreIn ds) (facts_after old (Has x d ∷ [])) all) in
      small_more (most_parts cs) ms (1 ∷ []) (small at a b ms old g all') (omega (arith, parts_two cs), tt)
  small at a b ns trail (by_give ms old f g is_given out) all =
      let all' = in_front ds (facts_of old) (f ∷ []) (subst (AreIn ds) (facts_after old (f ∷ [])) all) in
      small_more (most_parts cs) ms (1 ∷ []) (small at a b ms old g all') (omega (arith, parts_two cs), tt)
  small at a b ns trail (by_make ms old new g makes) all =
      let all' = in_front ds (facts_of old) new (subst (AreIn ds) (facts_after old new) all) in
      small_more (most_parts cs) ms (1 ∷ []) (small at a b ms old g all') (omega (arith, parts_two cs), tt)
  small at a b ns trail (by_choice ms old c f g may alt) all =
      let all' =
      in_front ds (facts_of old) (f ∷ []) (subst (AreIn ds) (facts_of-append old (Mark c ∷ Says f ∷ [])) all) in
      small_more (most_parts cs) ms (c.alternative ∷ []) (small at a b ms old g all')
      (alternative_few c.branch c.alternative f alt (branch_few (facts_of old) c.branch all' may), tt)

-- ---- the laws

power_le : (c d : ℕ) → c ≤ d → 2 ^ c ≤ 2 ^ d
power_le c d le = pow-le-pow_right (omega arith) le

base_le : (b m n : ℕ) → m ≤ n → (b + 1) ^ m ≤ (b + 1) ^ n
base_le b m n le = pow-le-pow_right (omega arith) le

pub paths_are_short : PathsAreShort
paths_are_short q cs table rows k trail closed r x n path =
    let w : SearchContext = context_of q table rows in
    let ds = numbers_of table cs in
    let fs = facts_of trail in
    let keep = keeping w q.at r.sub_number r.not_sup_number k trail r.follows in
    let built = reached_built w q.at r.sub_number r.not_sup_number k trail r.at_first r.follows in
    let all = numbers_in q cs table rows k trail closed r in
    let l = (levels_built w trail built).1 in
    let h =
    low w q.at r.sub_number r.not_sup_number ds keep.numbers trail keep.grown built all x
    (path_node q.first fs x n path) in
    let p = power_le (length ds) (length cs) (few_numbers table cs r.is_table) in
    omega (arith, path_level q.first fs l x n path)
  where
    path_node : (first : ℕ) (fs : List (Fact ℕ)) (x n : ℕ) → HasPath first fs x n → x < node_count_from first fs
    path_node first fs x n (from_first x' is_first) = is_first.is_node
    path_node first fs x n (below x' p m h rest) = origin_is_node first fs x' p (origin_of_parent first fs x' p h).1

module _ (q : Question) (cs : List Concept) (table : List Shape) (rows : List Row)
    (itself : RolesAreBelowThemselves q.theory) (closed : IsClosure q cs) where
  abbrev context : SearchContext
  context = context_of q table rows

  few_below : (k : ℕ) (trail : List Item) → IsReached q table rows k trail → (x : ℕ)
      → children q.first (facts_of trail) x ≤ length cs * most_made cs
  few_below k trail r x =
      let ds = numbers_of table cs in
      let fs = facts_of trail in
      let keep = keeping context q.at r.sub_number r.not_sup_number k trail r.follows in
      let all = numbers_in q cs table rows k trail closed r in
      let b =
      born context ds (most_made cs) x q.at r.sub_number r.not_sup_number (made_some cs) itself
      r.is_table.begins_with_top (asked_few context cs r.is_table) keep.numbers trail keep.grown all in
      let c = in_most ds (is_met context fs x) in
      let le = few_numbers table cs r.is_table in
      let up =
      mul-le (most_made cs) (count_in ds (is_met context fs x)) (most_made cs) (length cs) (omega arith)
      (omega arith) in
      let turn : length cs * most_made cs ≡ most_made cs * length cs = grind arith in
      omega arith

  few : (k : ℕ) (trail : List Item) → IsReached q table rows k trail
      → node_count_from q.first (facts_of trail) ≤ nodes_of q.first cs
  few k trail r =
      let ds = numbers_of table cs in
      let a = r.sub_number in
      let b = r.not_sup_number in
      let fs = facts_of trail in
      let keep = keeping context q.at a b k trail r.follows in
      let built = reached_built context q.at a b k trail r.at_first r.follows in
      let all = numbers_in q cs table rows k trail closed r in
      let l = (levels_built context trail built).1 in
      let some = made_some cs in
      let lows = low context q.at a b ds keep.numbers trail keep.grown built all in
      let fit =
      λ (h : ℕ). fits context q.at a b ds (most_made cs) some itself r.is_table.begins_with_top
      (asked_few context cs r.is_table) h keep.numbers trail keep.grown all in
      let le = few_numbers table cs r.is_table in
      let nodes =
      nodes_few context q.at a b ds (most_made cs) some itself r.is_table.begins_with_top
      (asked_few context cs r.is_table) fs (length cs) le l fit lows in
      let p = power_le (length ds) (length cs) le in
      let higher = base_le (length cs * most_made cs) (2 ^ length ds) (2 ^ length cs + 2) (omega arith) in
      let each =
      mul_le q.first ((length cs * most_made cs + 1) ^ (2 ^ length ds)) (node_bound (length cs) (most_made cs))
      (omega arith) in
      omega arith

  -- ---- all steps

  module _ (facts : List (Fact Concept)) (all_facts : HasFacts q facts) where
    abbrev m : ℕ
    m = nodes_of q.first cs

    abbrev most : ℕ
    most = m * (m + length cs + 2) + length facts

    -- a reached trail keeps few steps
    short : (k : ℕ) (trail : List Item) (r : IsReached q table rows k trail) (ns : List ℕ)
        → IsGrown context (start q.at r.sub_number r.not_sup_number) ns trail → length ns ≤ most
    short k trail r ns grown =
        let ds = numbers_of table cs in
        let fs = facts_of trail in
        let v = node_count_from q.first fs in
        let ts = map (numbered table) facts in
        let counts = counts_so context ts (given_among table r.is_table q rows facts all_facts) in
        let t =
        tally context q.at r.sub_number r.not_sup_number r.at_first ds (so_count ts) counts v ns trail grown
        (omega arith) (numbers_in q cs table rows k trail closed r) in
        let some =
        kept_most context q.at r.sub_number r.not_sup_number r.at_first ds (so_count ts) counts v ns
        (step_counts context (start q.at r.sub_number r.not_sup_number) ns trail grown) (mark_count trail)
        (AreAtFirst trail) fs t in
        let g = given_most ds v fs in
        let j = joined_most ds v fs in
        let p = parted_most ds v fs in
        let s = so_most ts fs in
        let l = length-map facts (numbered table) in
        let c = mul_le v (length ds) (length cs) (few_numbers table cs r.is_table) in
        let e : v * (v + length cs + 2) ≡ v * v + v * length cs + v + v = split v (length cs) in
        let nodes = few k trail r in
        let up = mul-le v (v + length cs + 2) m (m + length cs + 2) nodes (omega arith) in
        omega arith
      where
        split : (v c : ℕ) → v * (v + c + 2) ≡ v * v + v * c + v + v
        split v c = grind arith

    record IsClimb (at a b k : ℕ) (trail : List Item) : Type 0 where
      numbers : List ℕ
      grown : IsGrown context (start at a b) numbers trail
      climbed : k ≤ value (most_parts cs) most numbers

    climb : (k : ℕ) (trail : List Item) (r : IsReached q table rows k trail)
        → IsClimb q.at r.sub_number r.not_sup_number k trail
    climb zero trail r =
        let keep = keeping context q.at r.sub_number r.not_sup_number 0 trail r.follows in
        record { numbers = keep.numbers; grown = keep.grown; climbed = omega arith }
    climb (suc k) trail r =
        let old = r.follows.0 in
        let before : IsReached q table rows k old = record {
          is_table = r.is_table;
          is_choice = r.is_choice;
          facts_have_numbers = r.facts_have_numbers;
          at_first = r.at_first;
          sub_number = r.sub_number;
          sub_listed = r.sub_listed;
          sub_reads = r.sub_reads;
          not_sup_number = r.not_sup_number;
          not_sup_listed = r.not_sup_listed;
          not_sup_reads = r.not_sup_reads;
          follows = r.follows.1;
        } in
        let c = climb k old before in
        let next = one_step context q.at r.sub_number r.not_sup_number c.numbers old trail c.grown r.follows.2 in
        let digits =
        small context cs r.is_table q.at r.sub_number r.not_sup_number c.numbers old c.grown
        (numbers_in q cs table rows k old closed before) in
        let up =
        value_rises (most_parts cs) most c.numbers next.numbers next.is_next digits
        (short (suc k) trail r next.numbers next.grown) in
        record { numbers = next.numbers; grown = next.grown; climbed = omega (arith, c.climbed) }

    all_steps : (k : ℕ) (trail : List Item) → IsReached q table rows k trail → k ≤ steps_of q.first (length facts) cs
    all_steps k trail r =
        let c = climb k trail r in
        let digits =
        small context cs r.is_table q.at r.sub_number r.not_sup_number c.numbers trail c.grown
        (numbers_in q cs table rows k trail closed r) in
        omega (arith, c.climbed, value_below (most_parts cs) most c.numbers digits)

pub few_nodes : FewNodes
few_nodes q cs table rows k trail itself closed r = few q cs table rows itself closed k trail r

pub few_steps : FewSteps
few_steps q cs facts table rows k trail itself closed all_facts r =
    all_steps q cs table rows itself closed facts all_facts k trail r

pub few_children : FewChildren
few_children q cs table rows k trail itself closed r x = few_below q cs table rows itself closed k trail r x

-- ---- over axioms

transitive_among : (axioms : List RoleAxiom) (t : ℕ)
    → is_transitive axioms t ≡ list_any (eqb t) (transitive_roles axioms)
transitive_among [] t = refl
transitive_among (Transitivity r ∷ axioms) t = λ i. eqb-comm r t i || transitive_among axioms t i
transitive_among (Inclusion r s ∷ axioms) t = transitive_among axioms t
transitive_among (Equivalence rs ∷ axioms) t = transitive_among axioms t

below_itself : (axioms : List Numbered) (ks : List ℕ) → RolesAreBelowThemselves (theory_of axioms ks)
below_itself axioms ks s = (test_is_below (role_axioms axioms ks) s s).1 (chain_of_one s)

module _ (n : ℕ) (axioms : List Numbered) (ks : List ℕ) (q : Query) where
  closed_of_axioms : IsClosure (question_of n axioms ks q) (closure_of n axioms ks q)
  closed_of_axioms =
      let same = transitive_among (role_axioms axioms ks) in
      closure_is_computed (question_of n axioms ks q) (transitive_roles (role_axioms axioms ks))
      (flat_map given_concept (given_facts n axioms ks))
      (λ t. (λ h. sym (same t) ∙ h, λ h. same t ∙ h))
      (λ c. (λ m. member_among n axioms ks q c m, λ h. among_member n axioms ks q c h))

  -- where no individual is listed, no fact is given
  no_facts : n ≡ 0 → HasFacts (question_of n axioms ks q) []
  no_facts none a p f e = (let h = sym (facts_of_none n axioms ks none a p) ∙ e in cc)

  -- and there is one first node
  one_tree : n ≡ 0 → steps_of (n + 1) 0 (closure_of n axioms ks q) ≡ step_bound (closure_of n axioms ks q)
  one_tree none =
      let m = node_bound (length (closure_of n axioms ks q)) (most_made (closure_of n axioms ks q)) in
      let one : (n + 1) * m ≡ m = ap (λ (k : ℕ). (k + 1) * m) none ∙ single m in
      ap
      (λ (v : ℕ). (most_parts (closure_of n axioms ks q) + 1)
      ^ (v * (v + length (closure_of n axioms ks q) + 2) + 0))
      one
      ∙ ap (λ (e : ℕ). (most_parts (closure_of n axioms ks q) + 1) ^ e)
      (no_more (m * (m + length (closure_of n axioms ks q) + 2)))
    where
      single : (m : ℕ) → (0 + 1) * m ≡ m
      single m = omega arith

      no_more : (e : ℕ) → e + 0 ≡ e
      no_more e = omega arith

  pub is_computed : IsComputed n axioms ks q
  is_computed = record { facts = λ a p f e. fact_contained n axioms ks a p f e; concepts = closed_of_axioms }

pub closure_of_axioms_is_computed : ClosureOfAxiomsIsComputed
closure_of_axioms_is_computed = is_computed

pub legal_runs_are_bounded : LegalRunsAreBounded
legal_runs_are_bounded n axioms ks q table rows k trail r =
    let asked = question_of n axioms ks q in
    let cs = closure_of n axioms ks q in
    let facts = given_facts n axioms ks in
    let c = is_computed n axioms ks q in
    let itself = below_itself axioms ks in
    record {
      all_steps =
          λ none. subst (λ (s : ℕ). k ≤ s) (one_tree n axioms ks q none)
          (few_steps asked cs [] table rows k trail itself c.concepts (no_facts n axioms ks q none) r);
      all_steps_of_trees = few_steps asked cs facts table rows k trail itself c.concepts c.facts r;
      nodes = few_nodes asked cs table rows k trail itself c.concepts r;
      steps_at_first = few_steps_at_first asked cs facts table rows k trail c.concepts c.facts r;
      marks = few_marks asked cs table rows k trail c.concepts r;
    }
