-- What the checker's verdict says of a justification.
use Rattle.std.proofs.Common.{ℕ, zero, suc, true, false}
use Rattle.std.specs.Prelude.{◌↔◌, IsTrue}
use Rattle.axiom_sets.specs.Sets.{Limited}
use Rattle.shq_terms.specs.Listed.{Listed}
use Rattle.shq_terms.specs.declared.axioms.Query.{Query}
use Rattle.calculus_specs.proofs.Broken.{judged}
use Rattle.refutation_tree.specs.RefutationLists.{RefutationLists}
use Rattle.refutation_check.specs.Verdicts.{named_question, IsValid, IsRejectedAt}

pub accepted_shown : (o : Listed) (s : Limited) (q : Query) (r : RefutationLists) → IsValid o s q r
    → IsTrue true ↔ IsValid o s q r
accepted_shown o s q r valid = (λ h. valid, λ h i. true)

pub rejected_not_shown : (o : Listed) (s : Limited) (q : Query) (r : RefutationLists) (place : ℕ)
    → IsRejectedAt o s q r place → IsTrue false ↔ IsValid o s q r
rejected_not_shown o s q r zero out = (λ h. absurd (cc h), λ valid. absurd (out valid.named))
rejected_not_shown o s q r (suc place) broken = (
  λ h. absurd (cc h),
  λ valid. absurd ((judged (named_question o q r) r.shapes r.lines).not_both valid.refutes (suc place) broken.breaks),
)
