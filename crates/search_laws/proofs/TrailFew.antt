-- In a saturated trail at most n successors with the filler are counted for an 'at most n'.
use Rattle.std.proofs.Common.{◌≡◌, ℕ, suc, ◌<◌, ◌≤◌, true, List, [], ◌∷◌, length, get_or, refl, subst, arith, inl, inr}
use Rattle.std.specs.List.{list_all, AllPairs}
use Rattle.std.proofs.lemmas.Bool.{cases_Bool, cases_lt, and_from}
use Rattle.std.proofs.lemmas.List.Elements.{Contains-get_or}
use Rattle.std.proofs.lemmas.List.Kept.{AllPairs-filter}
use Rattle.calculus_specs.specs.Shape.{shape_of}
use Rattle.calculus_specs.specs.Shape.Shape.{at_most}
use Rattle.ontology_limits.proofs.Members.{all_pass}
use Rattle.calculus_specs.specs.declared.facts.Fact.{Fact}
use Rattle.calculus_specs.specs.declared.facts.Fact.TheVariants.{Same}
use Rattle.calculus_specs.specs.State.{node_count_from, has, is_successor, successors_from, are_apart, all_apart}
use Rattle.tableau_specs.specs.declared.Branch.TheVariants.{Pair}
use Rattle.tableau_specs.specs.declared.Item.{Item}
use Rattle.tableau_specs.specs.Items.{facts_of}
use Rattle.tableau_specs.specs.Clash.{filled_successors}
use Rattle.tableau_specs.specs.Clash.IsPlainClash.{plain_most}
use Rattle.tableau_specs.specs.Steps.{SearchContext, below_of, IsSaturated}
use Rattle.tableau_specs.specs.Steps.MayBranch.{on_pair}
use Rattle.tableau_specs.specs.Steps.IsAlternative.{of_joining}
use Rattle.search_laws.proofs.Counting.{passing_ascends}

-- nodes of which each two are apart
apart_by_pairs : (fs : List (Fact ℕ)) (ys : List ℕ) → AllPairs (λ y z. are_apart fs y z ≡ true) ys
    → all_apart fs ys ≡ true
apart_by_pairs fs [] h = refl
apart_by_pairs fs (y ∷ ys) h =
    and_from (list_all (are_apart fs y) ys) (all_apart fs ys)
    (all_pass (are_apart fs y) ys
    (λ z c. subst (λ (k : ℕ). are_apart fs y k ≡ true) c.2 (h 0 (suc c.0) z (omega arith) (omega (arith, c.1)))))
    (apart_by_pairs fs ys (λ i j d lt mt. h (suc i) (suc j) d (omega (arith, lt)) (omega (arith, mt))))

ascending : (w : SearchContext) (fs : List (Fact ℕ)) (x s e : ℕ)
    → AllPairs (λ y z. y < z) (filled_successors w.first (below_of w) fs x s e)
ascending w fs x s e =
    AllPairs-filter (λ y z. y < z) (λ v. has fs v e) (successors_from w.first fs (λ r. below_of w r s) x)
    (passing_ascends (is_successor fs (λ r. below_of w r s) x) (node_count_from w.first fs))

pub few_fit : (w : SearchContext) (trail : List Item) → IsSaturated w trail → (x c n s e : ℕ)
    → x < node_count_from w.first (facts_of trail) → has (facts_of trail) x c ≡ true
    → shape_of w.table c ≡ at_most n s e
    → length (filled_successors w.first (below_of w) (facts_of trail) x s e) ≤ n
few_fit w trail sat x c n s e lt h sh =
    let fs = facts_of trail in
    let ys = filled_successors w.first (below_of w) fs x s e in
    elim (cases_lt n (length ys)) [
      | inr few ↦ omega arith
      | inl more ↦ absurd (sat.no_clash (plain_most x c n s e lt h sh more (apart_by_pairs fs ys (λ i j d less within.
          let y : ℕ = get_or ys i d in
          let z : ℕ = get_or ys j d in
          elim (cases_Bool (are_apart fs y z)) [
            | inl apart ↦ apart
            | inr not_apart ↦ absurd (sat.no_choose (Pair y z) (Same y z)
                (on_pair x c n s e y z lt h sh more (Contains-get_or ys i d (omega (arith, less, within)))
                (Contains-get_or ys j d within)
                (λ same. absurd (omega (arith, same, ascending w fs x s e i j d less within))) not_apart)
                (of_joining y z))
          ]))))
    ]
