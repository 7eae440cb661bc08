-- Two worlds over the natural numbers in which the meaning of axioms and class expressions was worked out by hand.
use Rattle.std.specs.Prelude.{ℕ, ◌+◌, ◌==◌, true, [], ◌∷◌}
use Rattle.shq_nnf.specs.Concept.{top, bottom, name, some_of, at_least, at_most}
use Rattle.shq_nnf.specs.Axiom.TheVariants.{SubClassOf, DisjointClasses, Functional, Transitive, SameAll, Different}
use Rattle.all_worlds.specs.Worlds.{World, IsIn, MeetsEverywhere}

-- each role leads from each number to the next alone; class k has the number k alone; individual k is the number k
abbrev pub chain : World ℕ
chain = record {
  member = 0;
  in_class = λ a x. x == a;
  in_role = λ r x y. y == x + 1;
  individual = λ a. a;
}

-- each role leads from each number to each, each class has all numbers, and each individual is 0
abbrev pub crowd : World ℕ
crowd = record {
  member = 0;
  in_class = λ a x. true;
  in_role = λ r x y. true;
  individual = λ a. 0;
}

-- each field is an example of its own
pub record ExamplesHold : Type 0 where
  pub it_goes_on : MeetsEverywhere chain (SubClassOf top (some_of 0 top))
  pub one_successor : MeetsEverywhere chain (Functional 0)
  pub two_successors : ¬ MeetsEverywhere crowd (Functional 0)
  pub at_least_two : IsIn crowd (at_least 2 0 top) 0
  pub not_at_most_one : ¬ IsIn crowd (at_most 1 0 top) 0
  pub not_transitive : ¬ MeetsEverywhere chain (Transitive 0)
  pub transitive : MeetsEverywhere crowd (Transitive 0)
  pub one_member : MeetsEverywhere crowd (SameAll (0 ∷ 1 ∷ []))
  pub other_members : MeetsEverywhere chain (Different (0 ∷ 1 ∷ []))
  pub itself : ¬ MeetsEverywhere chain (Different (1 ∷ 1 ∷ []))
  pub disjoint : MeetsEverywhere chain (DisjointClasses (name 0 ∷ name 1 ∷ []))
  pub a_domain_has_a_member : ¬ MeetsEverywhere chain (SubClassOf top bottom)
