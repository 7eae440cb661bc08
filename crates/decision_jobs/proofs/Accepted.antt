-- What is written of a decision is a certificate that is accepted.
use Rattle.std.proofs.Common.{◌≡◌, ℕ, ◌+◌, true, List, [], ◌∷◌, ◌++◌, Some, None, Ok, refl, ap, sym, ◌∙◌}
use Rattle.std.specs.Prelude.{codes}
use Rattle.std.proofs.lemmas.Bool.{and_parts}
use Rattle.axiom_sets.specs.Sets.{Limited}
use Rattle.certificate_lines.specs.Lines.{lines}
use Rattle.shq_terms.specs.Listed.{Listed}
use Rattle.shq_terms.specs.declared.axioms.Numbered.{Numbered}
use Rattle.shq_terms.specs.declared.axioms.Query.{Query as Asked}
use Rattle.shq_meaning.specs.Truth.{Interpretation, meets, meets_all, refutes_at}
use Rattle.finite_model.specs.ModelLists.{ModelLists, meaning}
use Rattle.finite_model.specs.ModelText.{model_of}
use Rattle.finite_model.specs.Written.{model_text}
use Rattle.finite_model.proofs.TextBack.{model_read_back}
use Rattle.refutation_tree.specs.RefutationLists.{RefutationLists}
use Rattle.refutation_tree.specs.RefutationText.{refutation_of}
use Rattle.refutation_tree.specs.Written.{refutation_text}
use Rattle.refutation_tree.proofs.TextBack.{refutation_read_back}
use Rattle.shq_oracle.specs.Theory.{all_axioms}
use Rattle.job_inputs.specs.LimitLaws.{AreWritable}
use Rattle.shq_oracle.specs.HonestLog.{IsWhole}
use Rattle.shq_oracle.proofs.Named.{whole}
use Rattle.shq_oracle.specs.declared.answer.Answer.{Answer as Decision}
use Rattle.shq_oracle.specs.declared.answer.Answer.TheVariants as Answered
use Rattle.shq_oracle.specs.Decided.{IsRefuting}
use Rattle.decision_jobs.specs.Certificates.{model_after, refutation_after, certificate}
use Rattle.decision_jobs.specs.Checking.{IsOfModel, first_unmet}
use Rattle.decision_jobs.specs.declared.certificate.Certificate.TheVariants as C
use Rattle.job_inputs.specs.declared.verdict.Verdict.TheVariants.{NotEntailed}
use Rattle.job_inputs.specs.Answer.{line}
use Rattle.job_inputs.specs.Questions.{Text, has_element, follows}
use Rattle.decision_jobs.proofs.Least.{least_below}
use Rattle.decision_jobs.specs.Decisions.{entailed_line, not_entailed_line, decision_text, IsAccepted}
use Rattle.decision_jobs.specs.Deciding.{IsDecision, IsKeptModel}

-- ---- the lines of what is written

entailed_read : (o : Listed) (rest : List ℕ)
    → certificate o (line (codes "entailed") ++ rest) ≡ refutation_after o (lines rest)
entailed_read o rest = refl

unsatisfiable_read : (o : Listed) (rest : List ℕ)
    → certificate o (line (codes "unsatisfiable") ++ rest) ≡ refutation_after o (lines rest)
unsatisfiable_read o rest = refl

not_entailed_read : (o : Listed) (rest : List ℕ)
    → certificate o (line (codes "not entailed") ++ rest) ≡ model_after o (lines rest)
not_entailed_read o rest = refl

satisfiable_read : (o : Listed) (rest : List ℕ)
    → certificate o (line (codes "satisfiable") ++ rest) ≡ model_after o (lines rest)
satisfiable_read o rest = refl

yes_read : (o : Listed) (question : Text) (rest : List ℕ)
    → certificate o (line (entailed_line question) ++ rest) ≡ refutation_after o (lines rest)
yes_read o (has_element class) rest = unsatisfiable_read o rest
yes_read o (follows statement) rest = entailed_read o rest

no_read : (o : Listed) (question : Text) (rest : List ℕ)
    → certificate o (line (not_entailed_line question) ++ rest) ≡ model_after o (lines rest)
no_read o (has_element class) rest = satisfiable_read o rest
no_read o (follows statement) rest = not_entailed_read o rest

refutation_found : (o : Listed) (ls : List (List ℕ)) (r : RefutationLists) → refutation_of o ls ≡ Some r
    → refutation_after o ls ≡ Ok (C.Refutation r)
refutation_found o ls r found = rw (found, refutation_after) refl

model_found : (o : Listed) (ls : List (List ℕ)) (m : ModelLists) → model_of o ls ≡ Some m
    → model_after o ls ≡ Ok (C.Model m)
model_found o ls m found = rw (found, model_after) refl

-- ---- verdicts

-- where all axioms are met, none is the first that is not
none_unmet : (i : Interpretation) (k : ℕ) (axioms : List Numbered) → meets_all i (all_axioms axioms) ≡ true
    → first_unmet i k axioms ≡ None
none_unmet i k [] met = refl
none_unmet i k (a ∷ axioms) met =
    let both = and_parts (meets i a.axiom) (meets_all i (all_axioms axioms)) met in
    rw (both.0, none_unmet i (k + 1) axioms both.1) refl

model_verdict : (o : Listed) (s : Limited) (q : Asked) (m : ModelLists) → IsWhole o s → IsRefuting o s q m
    → IsOfModel o q m NotEntailed
model_verdict o s q m all so =
    let met : meets_all (meaning m) (all_axioms o.axioms) ≡ true =
    ap (meets_all (meaning m)) (sym (whole o s all)) ∙ so.refutes.meets_axioms in (
      none_unmet (meaning m) 1 o.axioms met,
      least_below (refutes_at (meaning m) q) m.size so.refutes.counter_example so.refutes.is_element so.refutes.refutes,
      so.refutes.places,
    )

-- ---- decisions

pub accepted : (o : Listed) (question : Text) (q : Asked) (d : Decision) (out : List ℕ) → AreWritable o
    → IsDecision o q d → IsKeptModel o d → out ≡ decision_text o question d → IsAccepted o q out d
accepted o question q (Answered.Entailed r) out names so kept is =
    let back : refutation_of o (lines (refutation_text o r)) ≡ Some r =
    refutation_read_back o r names.classes names.roles so.is_answer.writable in (
      ap (certificate o) is ∙ yes_read o question (refutation_text o r)
          ∙ refutation_found o (lines (refutation_text o r)) r back,
      so.is_answer.refutes,
    )
accepted o question q (Answered.NotEntailed m) out names so kept is =
    let back : model_of o (lines (model_text o m)) ≡ Some m =
    model_read_back o m names.classes names.roles names.individuals kept in (
      ap (certificate o) is ∙ no_read o question (model_text o m) ∙ model_found o (lines (model_text o m)) m back,
      model_verdict o so.asked q m so.is_whole so.is_answer,
    )
accepted o question q Answered.Undecided out names so kept is = tt
