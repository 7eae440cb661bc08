-- What the limits of an ontology give to a search over some of its axioms: labels count simple roles alone, and names
-- are listed.
use Rattle.std.proofs.Common.{◌≡◌, ℕ, ltb, Bool, true, false, List, length, ap, ◌∙◌, sym, subst, arith}
use Rattle.std.specs.List.{list_all}
use Rattle.std.proofs.lemmas.Bool.{and_parts, ltb-true, false_from_ne_true}
use Rattle.std.proofs.lemmas.List.Folds.{list_all-append}
use Rattle.shq_terms.specs.Concept.{Concept}
use Rattle.shq_terms.specs.Listed.{Listed}
use Rattle.shq_terms.specs.declared.axioms.Numbered.{Numbered}
use Rattle.shq_terms.specs.declared.axioms.Query.{Query}
use Rattle.calculus_specs.specs.Shape.{Shape, shape_of}
use Rattle.calculus_specs.specs.Rows.{Row}
use Rattle.calculus_specs.specs.Shape.Shape.{top as top_shape, name as name_shape, at_most as most_shape}
use Rattle.shq_terms.specs.Uses.{uses_listed}
use Rattle.calculus_specs.specs.Roles.{itself}
use Rattle.calculus_specs.specs.Tree.{tree_over, trees_of, tree_of}
use Rattle.ontology_limits.specs.Truth.{Interpretation}
use Rattle.ontology_limits.specs.RoleAxioms.{role_axioms}
use Rattle.ontology_limits.specs.Steps.{Leads}
use Rattle.ontology_limits.proofs.Limits.{test_is_below}
use Rattle.ontology_limits.proofs.Paths.{below-append}
use Rattle.ontology_limits.proofs.Tested.{simple_test}
use Rattle.search_laws.specs.Built.{IsBuilt}
use Rattle.search_laws.specs.Computed.{built}
use Rattle.ontology_limits.specs.Counted.{counted_roles}
use Rattle.ontology_limits.specs.Simple.{is_simple, all_role_axioms}
use Rattle.refutation_truth.specs.Theory.{theory_of, question_in}
use Rattle.calculus_specs.specs.declared.facts.Fact.{Fact}
use Rattle.calculus_specs.specs.State.{has, has_edge, label}
use Rattle.calculus_specs.proofs.State.{any-label}
use Rattle.tableau_specs.proofs.PlainClash.{successor_has_edge}
use Rattle.tableau_specs.specs.declared.Item.{Item}
use Rattle.tableau_specs.specs.Items.{facts_of}
use Rattle.tableau_specs.specs.Steps.{SearchContext, below_of, is_named}
use Rattle.tableau_specs.specs.Reached.{IsReached, context_of}
use Rattle.search_laws.specs.Elements.{node_at, original}
use Rattle.search_laws.proofs.Setting.{IsOrder}
use Rattle.search_laws.specs.CounterModelLaws.{CountsSimple, UsesListed}
use Rattle.search_laws.proofs.Truth.{named_is}
use Rattle.search_laws.proofs.Allowed.{IsAllowed, counted_parts, allowed_normal, allowed_negated}
use Rattle.search_laws.proofs.AllowedParts.{allowed_kept, upper_listed}
use Rattle.tableau_specs.specs.KeptKinds.{IsKept}
use Rattle.tableau_specs.proofs.KeptKinds.{concepts_right, edges_right}
use Rattle.tableau_specs.proofs.Listed.{listed}
use Rattle.calculus_specs.proofs.Unique.{tree_of_shape}
use Rattle.ontology_limits.specs.Limits.{IsInLimit}
use Rattle.ontology_limits.proofs.Simple.{stays_simple}
use Rattle.search_laws.proofs.CounterModelNodes.{member, successor_more}
use Rattle.search_laws.specs.Pairs.{LeadsTo, IsPair}
use Rattle.search_laws.specs.Pairs.IsPair.{by_edge, by_chain}
use Rattle.search_laws.proofs.Chains.{first_edge}

-- ---- roles

pub theory_is_order : (axioms : List Numbered) (ks : List ℕ) → IsOrder (theory_of axioms ks)
theory_is_order axioms ks =
    let roles = role_axioms axioms ks in
    record {
      itself = λ r. (test_is_below roles r r).1 (itself r);
      through =
          λ r s t h k. (test_is_below roles r t).1
          (below-append (Leads roles) r s t ((test_is_below roles r s).0 h) ((test_is_below roles s t).0 k));
    }

-- an edge below the role begins where a pair does
pair_begins : (w : SearchContext) (fs : List (Fact ℕ)) → IsOrder w.theory → (s x y : ℕ) → IsPair w fs s x y
    → (z : ℕ) × LeadsTo w fs s x z
pair_begins w fs o s x' y' (by_edge x y lead) = (y, lead)
pair_begins w fs o s x' y' (by_chain t x y tr b chain) =
    let e = first_edge w fs t x y chain in (
      e.0,
      successor_more fs (λ r. below_of w r t) (λ r. below_of w r s) (λ r h. o.through r t s h b) (original w.first fs x)
          e.0 e.1,
    )

-- below a role that is simple by all axioms there is no role that is transitive by some of them
none_below : (axioms : List Numbered) (ks : List ℕ) (s t : ℕ) → is_simple (all_role_axioms axioms) s ≡ true
    → (theory_of axioms ks).is_transitive t ≡ true → (theory_of axioms ks).below t s ≡ false
none_below axioms ks s t h transitive =
    let roles = role_axioms axioms ks in
    false_from_ne_true ((theory_of axioms ks).below t s)
    (λ below. (simple_test roles s).0 (stays_simple axioms ks s h) t transitive ((test_is_below roles t s).0 below))

-- ---- labels and edges

module _ (o : Listed) (ks : List ℕ) (q : Query) (table : List Shape) (rows : List Row) (k : ℕ) (trail : List Item)
    (limit : IsInLimit o q) (reached : IsReached (question_in o ks q) table rows k trail) where
  abbrev context : SearchContext
  context = context_of (question_in o ks q) table rows

  abbrev fs : List (Fact ℕ)
  fs = facts_of trail

  abbrev class_count : ℕ
  class_count = length o.classes

  abbrev role_count : ℕ
  role_count = length o.roles

  abbrev may_count : ℕ → Bool
  may_count = is_simple (all_role_axioms o.axioms)

  abbrev Allowed : Concept → Type 0
  Allowed = IsAllowed class_count role_count may_count

  abbrev Named : ℕ → Type 0
  Named r = ltb r role_count ≡ true

  kept : IsKept (theory_of o.axioms ks) (question_in o ks q).fact_of Allowed Named
  kept = allowed_kept class_count role_count (length o.individuals) may_count (length o.individuals) o.axioms ks
      (limit.ontology.listed, limit.ontology.simple)

  in_two : (list_all may_count (counted_roles q.sub) ≡ true) × (list_all may_count (counted_roles q.sup) ≡ true)
  in_two =
      and_parts (list_all may_count (counted_roles q.sub)) (list_all may_count (counted_roles q.sup))
      (sym (list_all-append may_count (counted_roles q.sub) (counted_roles q.sup)) ∙ limit.simple)

  sub_allowed : Allowed (tree_of table reached.sub_number)
  sub_allowed =
      let named =
      (and_parts (uses_listed class_count role_count q.sub) (uses_listed class_count role_count q.sup)
      limit.listed).0 in
      subst Allowed (sym reached.sub_reads) (allowed_normal class_count role_count may_count q.sub (named, in_two.0))

  not_sup_allowed : Allowed (tree_of table reached.not_sup_number)
  not_sup_allowed =
      let named =
      (and_parts (uses_listed class_count role_count q.sub) (uses_listed class_count role_count q.sup)
      limit.listed).1 in
      subst Allowed (sym reached.not_sup_reads)
      (allowed_negated class_count role_count may_count q.sup (named, in_two.1))

  label_allowed : (x c : ℕ) → has fs x c ≡ true → Allowed (tree_of table c)
  label_allowed =
      concepts_right Allowed Named (question_in o ks q) table rows reached.is_table reached.is_choice kept
      (question_in o ks q).at reached.sub_number reached.not_sup_number k trail sub_allowed not_sup_allowed
      reached.follows

  edge_named : (kind : ℕ → Bool) (x y : ℕ) → has_edge fs kind x y ≡ true → (r : ℕ) × (kind r ≡ true) × Named r
  edge_named =
      edges_right Allowed Named (question_in o ks q) table rows reached.is_table reached.is_choice kept
      (question_in o ks q).at reached.sub_number reached.not_sup_number k trail sub_allowed not_sup_allowed
      reached.follows

  -- the tree of a number that is not top
  tree_is : (c : ℕ) (s : Shape) → shape_of table c ≡ s → ¬ (s ≡ top_shape)
      → tree_of table c ≡ tree_over (trees_of table) s
  tree_is c s sh ne =
      let lt = listed table c (λ top. ne (sym sh ∙ top)) in
      tree_of_shape table c lt (reached.is_table.parts_below c lt) ∙ ap (tree_over (trees_of table)) sh

  pub labels_count_simple : CountsSimple (context_of (question_in o ks q) table rows) (facts_of trail)
  labels_count_simple x c n s e t lt h sh tr =
      let allowed = subst Allowed (tree_is c (most_shape n s e) sh (λ top. cc)) (label_allowed x c h) in
      none_below o.axioms ks s t (counted_parts class_count role_count may_count s (tree_of table e) allowed).0.1 tr

  pub names_are_listed : (i : Interpretation) → IsBuilt (context_of (question_in o ks q) table rows) (facts_of trail) i
      → UsesListed o i
  names_are_listed i built = record {
    class_is = λ a v lt h.
        let x = original context.first fs (node_at context.first fs v) in
        let m = member (λ d. is_named a (shape_of table d)) (label fs x) (sym (built.classes_are a v lt) ∙ h) in
        let sh : shape_of table m.it ≡ name_shape a = named_is a (shape_of table m.it) m.passes in
        let allowed =
        subst Allowed (tree_is m.it (name_shape a) sh (λ top. cc))
        (label_allowed x m.it (sym (any-label fs x m.it) ∙ m.is_in)) in
        ltb-true a class_count allowed.0;
    role_is = λ s v u lt mt h.
        let kind : ℕ → Bool = λ r. below_of context r s in
        let x = original context.first fs (node_at context.first fs v) in
        let e =
        pair_begins context fs (theory_is_order o.axioms ks) s (node_at context.first fs v) (node_at context.first fs u)
        ((built.roles_are s v u lt mt).0 h) in
        let r = edge_named kind x e.0 (successor_has_edge fs kind x e.0 e.1) in
        upper_listed class_count role_count (length o.individuals) may_count o.axioms limit.ontology.listed ks r.0 s
        (ltb-true r.0 role_count r.2) r.1;
    individual_is = λ a past. built.others_are a (omega (arith, past));
  }
