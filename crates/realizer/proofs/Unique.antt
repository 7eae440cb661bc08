-- There is one list of instances, and one realization.
use Rattle.std.proofs.Common.{◌≡◌, ℕ, zero, suc, ◌+◌, ◌<◌, ◌≤◌, ◌&&◌, Bool, ◌∷◌, cond, length}
use Rattle.std.proofs.Common.{map, refl, sym, ◌∙◌, arith}
use Rattle.std.specs.List.{range_with_len, list_all}
use Rattle.std.specs.Bool.{one_answer}
use Rattle.std.proofs.lemmas.Bool.{and_parts}
use Rattle.std.proofs.lemmas.List.Folds.{list_all-append}
use Rattle.lane_sieve.proofs.Ranges.{passing_same}
use Rattle.shq_terms.specs.Uses.{uses_listed}
use Rattle.subsumption.specs.Counted.{counted_roles}
use Rattle.subsumption.specs.Simple.{is_simple, all_role_axioms}
use Rattle.shq_nnf.specs.Counts.{has_counts_within}
use Rattle.subsumption.specs.Limits.{has_enough_parts}
use Rattle.subsumption.specs.Groups.{Parthood}
use Rattle.subsumption.proofs.Same.{first_same, lowest_same}
use Rattle.realizer.specs.TypeLists.{TypeLists}
use Rattle.realizer.specs.Realization.{Typing, is_type, is_direct_type, direct_types, types_of}
use Rattle.realizer.specs.RealizationLaws.{InstanceQuestionsAreInLimit, InstancesAreOne, TypesAreOne}
use Rattle.realizer.specs.declared.types.Types.TheVariants.{Inconsistent, Consistent}
use Rattle.std.proofs.lemmas.Bool.{lt-ltb}

-- ---- the limits

pub questions_in_limit : InstanceQuestionsAreInLimit
questions_in_limit o q a h la =
    let n = length o.classes in
    let r = length o.roles in
    record {
      ontology = h.ontology;
      listed = (and_parts (uses_listed n r q.sub) (uses_listed n r q.sup) h.listed).0;
      items = (and_parts (has_enough_parts q.sub) (has_enough_parts q.sup) h.items).0;
      counts = (and_parts (has_counts_within 100 q.sub) (has_counts_within 100 q.sup) h.counts).0;
      simple =
          (and_parts (list_all (is_simple (all_role_axioms o.axioms)) (counted_roles q.sub))
          (list_all (is_simple (all_role_axioms o.axioms)) (counted_roles q.sup))
          (sym (list_all-append (is_simple (all_role_axioms o.axioms)) (counted_roles q.sub) (counted_roles q.sup))
          ∙ h.simple)).0;
      on_listed = lt-ltb a (length o.individuals) la;
    }

-- ---- instances

pub one_list : InstancesAreOne
one_list o c xs ys x y =
    x.listed ∙ passing_same x.test y.test 0 (length o.individuals)
    (λ a low high. one_answer (x.test a) (y.test a) (x.is_so a (omega arith)) (y.is_so a (omega arith)))
    ∙ sym y.listed

-- ---- types

module _ (count : ℕ) (r s : Parthood) (agree : (x y : ℕ) → x ≤ count + 1 → y ≤ count + 1 → r x y ≡ s x y) where
  direct_same : (test test' : ℕ → Bool) → ((x : ℕ) → x < count → test x ≡ test' x)
      → direct_types count r test ≡ direct_types count s test'
  unfolding direct_types
  direct_same test test' same =
      passing_same (is_direct_type count r test) (is_direct_type count s test') 0 count
      (λ p low high. lowest_same count r s agree (is_type count r test) (is_type count s test')
      (λ x lx i. first_same count r s agree x lx i && same x lx i) p (omega arith))

  abbrev line_by : Parthood → Typing → ℕ → TypeLists
  line_by p typed a = record { individual = a; types = direct_types count p (typed a) }

  module _ (individuals : ℕ) (t u : Typing) (alike : (a x : ℕ) → a < individuals → x < count → t a x ≡ u a x) where
    lines_from : (a n : ℕ) → a + n ≤ individuals
        → map (line_by r t) (range_with_len a n) ≡ map (line_by s u) (range_with_len a n)
    lines_from a zero h = refl
    lines_from a (suc n) h =
        let here = direct_same (t a) (u a) (λ x lx. alike a x (omega (arith, h)) lx) in
        let rest = lines_from (a + 1) n (omega (arith, h)) in
        λ i. record { individual = a; types = here i } ∷ rest i

    pub types_same : types_of count r individuals t ≡ types_of count s individuals u
    types_same =
        let lines = lines_from 0 individuals (omega arith) in
        λ i. cond (agree count (count + 1) (omega arith) (omega arith) i) Inconsistent (Consistent (lines i))

pub one_realization : TypesAreOne
one_realization o t u x y =
    x.types_are
    ∙ types_same (length o.classes) x.part_of y.part_of
    (λ a b la lb. one_answer (x.part_of a b) (y.part_of a b) (x.is_so a b la lb) (y.is_so a b la lb))
    (length o.individuals) x.typed y.typed
    (λ a z la lz. one_answer (x.typed a z) (y.typed a z) (x.is_typed a z la lz) (y.is_typed a z la lz))
    ∙ sym y.types_are
