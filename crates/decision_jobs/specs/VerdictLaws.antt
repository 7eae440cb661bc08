-- What is accepted is true.
use Rattle.std.specs.Prelude.{map}
use Rattle.shq_terms.specs.Listed.{Listed}
use Rattle.shq_terms.specs.declared.axioms.Query.{Query as Asked}
use Rattle.shq_meaning.specs.Truth.{Entails}
use Rattle.decision_jobs.specs.Checking.{IsVerdictOn}
use Rattle.decision_jobs.specs.declared.certificate.Certificate.{Certificate}
use Rattle.job_inputs.specs.declared.verdict.Verdict.TheVariants.{NotEntailed, Entailed}

-- a query whose refutation is accepted follows from the axioms; one whose counter-model is accepted does not
abbrev pub VerdictsAreTrue : Type 0
VerdictsAreTrue = (o : Listed) (q : Asked) (c : Certificate)
    → (IsVerdictOn o q c Entailed → Entails (map (λ n. n.axiom) o.axioms) q)
    × (IsVerdictOn o q c NotEntailed → ¬ Entails (map (λ n. n.axiom) o.axioms) q)
