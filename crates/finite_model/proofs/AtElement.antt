-- An axiom is met where it is met as an assertion and at each element, and it is met at each element that cannot break
-- it.
use Rattle.std.proofs.Common.{◌≡◌, ℕ, Bool, true, false, ◌&&◌, List, [], ◌∷◌, refl, ap, sym, ◌∙◌}
use Rattle.std.specs.Prelude.{slice_index}
use Rattle.std.specs.List.{list_all, list_any}
use Rattle.std.proofs.lemmas.Bool.{and_from, or_parts}
use Rattle.std.proofs.Math.Bool.{and-true}
use Rattle.shq_terms.specs.Concept.{parts_of}
use Rattle.shq_meaning.specs.Below.{all_below}
use Rattle.shq_meaning.specs.Truth.{Interpretation, holds, hold_any, hold_all, are_same, are_different, meets}
use Rattle.shq_meaning.proofs.Implied.{implies_false}
use Rattle.shq_terms.specs.declared.axioms.Axiom.{Axiom}
use Rattle.shq_terms.specs.declared.axioms.Axiom.TheVariants.{SubClassOf, EquivalentClasses, DisjointClasses}
use Rattle.shq_terms.specs.declared.axioms.Axiom.TheVariants.{DisjointUnion, SubRole, EquivalentRoles, Domain, Range}
use Rattle.shq_terms.specs.declared.axioms.Axiom.TheVariants.{Functional, Transitive, Member, Pair, SameAll, Different}
use Rattle.finite_model.specs.ModelLists.{ModelLists, meaning, begins}
use Rattle.finite_model.specs.AtElement.{row_within, met_at, assertion_is_met, can_break}
use Rattle.finite_model.proofs.Rows.{all_true, all_both}
use Rattle.finite_model.proofs.Empty.{twice_of_none, split_of_none, row_of_none, domain_of_none, single_of_none}

-- two tests of each of a list, at each number below n
all_of_each : (n : ℕ) (p q : ℕ → ℕ → Bool) (rs : List ℕ)
    → list_all (λ s. all_below n (p s) && all_below n (q s)) rs ≡ all_below n (λ x. list_all (λ s. p s x && q s x) rs)
all_of_each n p q [] = sym (all_true n)
all_of_each n p q (r ∷ rs) =
    ap (λ v. v && list_all (λ s. all_below n (p s) && all_below n (q s)) rs) (sym (all_both n (p r) (q r)))
    ∙ ap (λ v. all_below n (λ x. p r x && q r x) && v) (all_of_each n p q rs)
    ∙ sym (all_both n (λ x. p r x && q r x) (λ x. list_all (λ s. p s x && q s x) rs))

-- an assertion alone says nothing of each element
asserted : (n : ℕ) (b : Bool) → b ≡ (b && all_below n (λ x. true))
asserted n b = sym (ap (λ v. b && v) (all_true n) ∙ and-true b)

pub met_at_each : (i : Interpretation) (a : Axiom) → meets i a ≡ (assertion_is_met i a && all_below i.size (met_at i a))
met_at_each i (SubClassOf c d) = refl
met_at_each i (EquivalentClasses cs) = refl
met_at_each i (DisjointClasses cs) = refl
met_at_each i (DisjointUnion a cs) = refl
met_at_each i (SubRole r s) = refl
met_at_each i (EquivalentRoles rs) =
    all_of_each i.size (λ s x. row_within i (slice_index rs 0) x s x) (λ s x. row_within i s x (slice_index rs 0) x) rs
met_at_each i (Domain r c) = refl
met_at_each i (Range r c) = refl
met_at_each i (Functional r) = refl
met_at_each i (Transitive r) = refl
met_at_each i (Member c a) = asserted i.size (holds i c (i.individual a))
met_at_each i (Pair r a b) = asserted i.size (i.in_role r (i.individual a) (i.individual b))
met_at_each i (SameAll as_) = asserted i.size (are_same i as_)
met_at_each i (Different as_) = asserted i.size (are_different i as_)

module _ (k : ModelLists) (x : ℕ) where
  -- none of the roles has a pair that begins with x, and nor has the role f
  rows_of_none : (f : ℕ) (rs : List ℕ) → begins k f x ≡ false → list_any (λ r. begins k r x) rs ≡ false
      → list_all (λ s. row_within (meaning k) f x s x && row_within (meaning k) s x f x) rs ≡ true
  rows_of_none f [] first none = refl
  rows_of_none f (r ∷ rs) first none =
      let both = or_parts (begins k r x) (list_any (λ s. begins k s x) rs) none in
      and_from (row_within (meaning k) f x r x && row_within (meaning k) r x f x)
      (list_all (λ s. row_within (meaning k) f x s x && row_within (meaning k) s x f x) rs)
      (and_from (row_within (meaning k) f x r x) (row_within (meaning k) r x f x)
      (row_of_none k f x first ((meaning k).in_role r x)) (row_of_none k r x both.0 ((meaning k).in_role f x)))
      (rows_of_none f rs first both.1)

  equal_of_none : (rs : List ℕ) → list_any (λ r. begins k r x) rs ≡ false
      → met_at (meaning k) (EquivalentRoles rs) x ≡ true
  equal_of_none [] none = refl
  equal_of_none (r ∷ rs) none =
      rows_of_none r (r ∷ rs) (or_parts (begins k r x) (list_any (λ s. begins k s x) rs) none).0 none

  pub unbroken : (a : Axiom) → can_break k a x ≡ false → met_at (meaning k) a x ≡ true
  unbroken (SubClassOf c d) none = implies_false (holds (meaning k) c x) (holds (meaning k) d x) none
  unbroken (EquivalentClasses cs) none =
      implies_false (hold_any (meaning k) (parts_of cs) x) (hold_all (meaning k) (parts_of cs) x) none
  unbroken (DisjointClasses cs) none = twice_of_none (meaning k) x cs none
  unbroken (DisjointUnion a cs) none = split_of_none (meaning k) x a cs none
  unbroken (SubRole r s) none = row_of_none k r x none ((meaning k).in_role s x)
  unbroken (EquivalentRoles rs) none = equal_of_none rs none
  unbroken (Domain r c) none = domain_of_none k r x none (holds (meaning k) c x)
  unbroken (Range r c) none = row_of_none k r x none (holds (meaning k) c)
  unbroken (Functional r) none = single_of_none k r x none
  unbroken (Transitive r) none = row_of_none k r x none (λ y. row_within (meaning k) r y r x)
  unbroken (Member c a) none = refl
  unbroken (Pair r a b) none = refl
  unbroken (SameAll as_) none = refl
  unbroken (Different as_) none = refl
