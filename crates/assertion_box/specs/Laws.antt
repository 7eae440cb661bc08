-- What is stated is what axioms give.
use Rattle.std.specs.Prelude.{◌≡◌, ℕ, ◌==◌, ◌&&◌, true, IsTrue, List, Some, All}
use Rattle.std.specs.List.{list_any}
use Rattle.refutation_truth.specs.Concept.{Concept}
use Rattle.refutation_truth.specs.Numbered.{Numbered}
use Rattle.refutation_truth.specs.Uses.{all_use_listed}
use Rattle.calculus_specs.specs.declared.facts.Fact.{Fact}
use Rattle.calculus_specs.specs.Normal.{normal_form}
use Rattle.calculus_specs.specs.Reading.{read_fact}
use Rattle.refutation_truth.specs.Theory.{fact_of_axiom}
use Rattle.assertion_box.specs.Stated.{Stated, stated_facts}

-- the facts are those that the axioms of these numbers give, with class expressions in negation normal form, by the
-- numbers of the axioms and the places among their facts
pub record AreGivenBy (k : ℕ) (axioms : List Numbered) (ks : List ℕ) (facts : List Stated) : Type 0 where
  pub each : All (λ s. fact_of_axiom k axioms ks s.axiom_number s.place ≡ Some (read_fact normal_form s.fact)) facts
  pub every : (a p : ℕ) (f : Fact Concept) → fact_of_axiom k axioms ks a p ≡ Some f
      → list_any (λ s. s.axiom_number == a && s.place == p) facts ≡ true

-- where the k individuals that axioms name are listed, what axioms state is what they give
abbrev pub StatedFactsAreGiven : Type 0
StatedFactsAreGiven = (classes roles k : ℕ) (axioms : List Numbered) (ks : List ℕ)
    → IsTrue (all_use_listed classes roles k axioms) → AreGivenBy k axioms ks (stated_facts axioms ks)
