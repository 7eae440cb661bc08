-- What verdicts say of axioms and query.
use Rattle.std.proofs.Common.{◌≡◌, ℕ, ◌+◌, List, [], ◌∷◌, map, length, Bool, true, false, Some, None, refl, sym, ◌∙◌}
use Rattle.std.proofs.Common.{arith}
use Rattle.axiom_sets.specs.Sets.{member_list}
use Rattle.shq_terms.specs.Listed.{Listed}
use Rattle.shq_terms.specs.declared.axioms.Numbered.{Numbered}
use Rattle.shq_terms.specs.declared.axioms.Query.{Query as Asked}
use Rattle.shq_meaning.specs.Truth.{Interpretation, meets, meets_all, refutes_at, Entails}
use Rattle.finite_model.specs.ModelLists.{meaning}
use Rattle.shq_oracle.proofs.Entailed.{entailed_by_all}
use Rattle.decision_jobs.specs.Checking.{IsVerdictOn, first_unmet}
use Rattle.decision_jobs.specs.declared.certificate.Certificate.{Certificate}
use Rattle.decision_jobs.specs.declared.certificate.Certificate.TheVariants as C
use Rattle.job_inputs.specs.declared.verdict.Verdict.TheVariants.{NotEntailed, Entailed}

-- where no axiom is the first that is not met, all are met
all_met : (i : Interpretation) (k : ℕ) (as_ : List Numbered) → first_unmet i k as_ ≡ None
    → meets_all i (map (λ n. n.axiom) as_) ≡ true
all_met i k [] none = refl
all_met i k (a ∷ as_) none = by (all_met i (k + 1) as_) (meets i a.axiom) refl
  where
    by : (first_unmet i (k + 1) as_ ≡ None → meets_all i (map (λ n. n.axiom) as_) ≡ true) → (b : Bool)
        → meets i a.axiom ≡ b → meets_all i (map (λ n. n.axiom) (a ∷ as_)) ≡ true
    by rest true is = let others : first_unmet i (k + 1) as_ ≡ None = rw is at none in rw (is, rest others)
    by rest false is = let clash : Some k ≡ None = rw is at none in absurd (cc clash)

-- a model that is accepted has the individuals among its elements, meets all axioms and refutes the query
pub not_followed : (o : Listed) (q : Asked) (c : Certificate) → IsVerdictOn o q c NotEntailed
    → Entails (map (λ n. n.axiom) o.axioms) q → ⊥
not_followed o q (C.Model m) accepted follows =
    let y = accepted.1.0 in
    let least = accepted.1.1 in
    let below = least.below in
    let none : refutes_at (meaning m) q y ≡ false =
    follows (meaning m) (omega arith) accepted.2 (all_met (meaning m) 1 o.axioms accepted.0) y below in
    let clash : true ≡ false = sym least.passes ∙ none in
    absurd (cc clash)
not_followed o q (C.Refutation r) accepted follows = absurd accepted

-- what is refuted over the named axioms follows from all
pub followed : (o : Listed) (q : Asked) (c : Certificate) → IsVerdictOn o q c Entailed
    → Entails (map (λ n. n.axiom) o.axioms) q
followed o q (C.Model m) accepted = absurd accepted
followed o q (C.Refutation r) accepted =
    entailed_by_all (length o.individuals) o.axioms (member_list r.axioms) q r.shapes r.lines accepted
