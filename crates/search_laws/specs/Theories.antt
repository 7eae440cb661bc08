-- What it is that an interpretation meets a theory, and the facts that axioms give.
use Rattle.std.specs.Prelude.{◌≡◌, ℕ, ◌<◌, true, Option, Some}
use Rattle.shq_terms.specs.Concept.{Concept}
use Rattle.ontology_limits.specs.Truth.{Interpretation}
use Rattle.calculus_specs.specs.Rows.{Part, Theory, part_at}
use Rattle.calculus_specs.specs.declared.facts.Fact.{Fact}
use Rattle.ontology_limits.specs.Meeting.{meets_part, is_true}

-- the pairs of a role are pairs of each role above it, and those of a transitive role are passed on
pub record MeetsRoles (theory : Theory) (i : Interpretation) : Type 0 where
  pub upward : (r s : ℕ) → theory.below r s ≡ true → (x y : ℕ) → x < i.size → y < i.size → i.in_role r x y ≡ true
      → i.in_role s x y ≡ true
  pub onward : (t : ℕ) → theory.is_transitive t ≡ true → (x y z : ℕ) → x < i.size → y < i.size → z < i.size
      → i.in_role t x y ≡ true → i.in_role t y z ≡ true → i.in_role t x z ≡ true

-- each part is met
abbrev pub MeetsParts : Theory → Interpretation → Type 0
MeetsParts theory i = (a p : ℕ) (part : Part) → part_at theory a p ≡ Some part → meets_part i part ≡ true

-- each fact that an axiom gives is true of the individuals
abbrev pub MeetsFacts : (ℕ → ℕ → Option (Fact Concept)) → Interpretation → Type 0
MeetsFacts fact_of i = (a p : ℕ) (f : Fact Concept) → fact_of a p ≡ Some f → is_true i i.individual f ≡ true
