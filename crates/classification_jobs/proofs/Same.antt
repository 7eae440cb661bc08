-- Relations that agree on all numbers have one taxonomy.
use Rattle.std.proofs.Common.{◌≡◌, ℕ, ◌+◌, ◌<◌, ◌≤◌, ◌&&◌, not, cond, eqb, ap, arith, length}
use Rattle.std.specs.Bool.{one_answer}
use Rattle.lane_sieve.proofs.Ranges.{passing_same}
use Rattle.classifier.specs.Groups.{Parthood, is_empty, holds_all, is_equal, is_first}
use Rattle.classifier.proofs.Passing.{map-passing_same}
use Rattle.classifier.proofs.Same.{empty_same, all_same, equal_same, first_same, lowest_same}
use Rattle.classification_jobs.specs.Taxonomies.{is_above, is_parent, group_of, hierarchy_of, taxonomy_of}
use Rattle.classification_jobs.specs.TaxonomyText.{taxonomy_text}
use Rattle.classification_jobs.specs.TaxonomyLaws.{HaveOneTaxonomy, HaveOneText}
use Rattle.classification_jobs.specs.declared.groups.Taxonomy.TheVariants.{Inconsistent, Consistent}

module _ (count : ℕ) (r s : Parthood) (agree : (x y : ℕ) → x ≤ count + 1 → y ≤ count + 1 → r x y ≡ s x y) where
  above_same : (x p : ℕ) → x < count → p < count → is_above count r x p ≡ is_above count s x p
  above_same x p lx lp =
      λ i. first_same count r s agree p lp i && (not (eqb p x) && agree x p (omega arith) (omega arith) i)

  group_same : (x : ℕ) → x < count → group_of count r x ≡ group_of count s x
  unfolding group_of
  group_same x lx =
      let classes =
      passing_same (is_equal count r x) (is_equal count s x) 0 count
      (λ y low high. equal_same count r s agree x y lx (omega arith)) in
      let parents =
      passing_same (is_parent count r x) (is_parent count s x) 0 count
      (λ p low high. lowest_same count r s agree (is_above count r x) (is_above count s x)
      (λ q lq. above_same x q lx lq) p (omega arith)) in
      λ i. record { classes = classes i; parents = parents i }

  hierarchy_same : hierarchy_of count r ≡ hierarchy_of count s
  unfolding hierarchy_of
  hierarchy_same =
      let nothing =
      passing_same (is_empty count r) (is_empty count s) 0 count
      (λ x low high. empty_same count r s agree x (omega arith)) in
      let thing =
      passing_same (holds_all count r) (holds_all count s) 0 count
      (λ x low high. all_same count r s agree x (omega arith)) in
      let groups =
      map-passing_same (group_of count r) (group_of count s) (is_first count r) (is_first count s) 0 count
      (λ x low high. first_same count r s agree x (omega arith)) (λ x low high. group_same x (omega arith)) in
      λ i. record { nothing = nothing i; thing = thing i; groups = groups i }

  pub taxonomy_same : taxonomy_of count r ≡ taxonomy_of count s
  taxonomy_same =
      λ i. cond (agree count (count + 1) (omega arith) (omega arith) i) Inconsistent (Consistent (hierarchy_same i))

pub one_taxonomy : HaveOneTaxonomy
one_taxonomy o r s by by' =
    taxonomy_same (length o.classes) r s (λ x y lx ly. one_answer (r x y) (s x y) (by x y lx ly) (by' x y lx ly))

pub one_text : HaveOneText
one_text o r s by by' = ap (taxonomy_text o) (one_taxonomy o r s by by')
