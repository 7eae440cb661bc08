-- The instances that were found are listed.
use Rattle.std.proofs.Common.{◌≡◌, ℕ, true, List, length, ap, ◌∙◌}
use Rattle.shq_terms.specs.Concept.{Concept}
use Rattle.shq_terms.specs.Listed.{Listed}
use Rattle.realizer.specs.ClassNames.{are_listed}
use Rattle.realizer.proofs.Passing.{below-passing}
use Rattle.realizer.specs.Instances.{AreInstances}

-- the instances among the listed individuals are listed
pub instances_listed : (o : Listed) (c : Concept) (found : List ℕ) → AreInstances o c found
    → are_listed (length o.individuals) found ≡ true
instances_listed o c found x =
    ap (are_listed (length o.individuals)) x.listed ∙ below-passing x.test (length o.individuals)
