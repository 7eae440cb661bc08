-- Verdicts and certificates in every world.
use Rattle.std.proofs.Common.{◌≡◌, ℕ, List, ◌++◌, get_or, refl, ap, sym, ◌∙◌, arith}
use Rattle.shq_terms.specs.declared.axioms.Axiom.{Axiom}
use Rattle.shq_terms.specs.declared.axioms.Query.{Query as Asked}
use Rattle.pinpointing_specs.specs.Truth.{Entails}
use Rattle.all_worlds.specs.Worlds.{World}
use Rattle.search_starts.specs.Laws.{FollowsInAll}
use Rattle.answers_everywhere.proofs.Everywhere.{questions}
use Rattle.decision_jobs.specs.Laws.{HaveAsked}
use Rattle.decision_jobs.proofs.Exclusive.{yes_follows, no_does_not_follow}
use Rattle.audit_jobs.specs.Answer.{Answer as Decision}
use Rattle.audit_jobs.specs.Answer.TheVariants as Answered
use Rattle.decision_jobs.specs.Decisions.{entailed_line, not_entailed_line, decision_text, decision_status}
use Rattle.decision_jobs.specs.Decisions.{IsDecisionTold}
use Rattle.job_inputs.specs.Answer.{line}
use Rattle.job_inputs.specs.Questions.{Text, has_element, follows}
use Rattle.job_inputs.specs.declared.status.Status.TheVariants.{Done, Undecided}
use Rattle.ontology_jobs.specs.Entry.{Entry}
use Rattle.ontology_jobs.proofs.Done.{decided}
use Rattle.ontology_jobs.proofs.Accepted.{follows as accepted_follows, does_not_follow as accepted_does_not}
use Rattle.runs_everywhere.specs.Laws.{BeginsWithLine, FailsInAFiniteWorld, YesFollowsIn, NoFailsInAFiniteWorld}
use Rattle.runs_everywhere.specs.Laws.{AcceptedQueriesFollowIn, AcceptedQueriesFailInAFiniteWorld}
use Rattle.runs_everywhere.proofs.Worlds.{fails, of_question}
use Rattle.runs_everywhere.proofs.Carried.{of_asked, of_read}

-- ---- what is decided

-- the first lines of the two verdicts differ
apart : (question : Text) (x y : List ℕ) → line (not_entailed_line question) ++ x ≡ line (entailed_line question) ++ y
    → ⊥
apart (has_element class) x y same =
    let clash : ◌≡◌ {A = ℕ} 115 117 = ap (λ (t : List ℕ). get_or t 0 0) same in omega (arith, clash)
apart (follows statement) x y same =
    let clash : ◌≡◌ {A = ℕ} 110 101 = ap (λ (t : List ℕ). get_or t 0 0) same in omega (arith, clash)

module _ (question : Text) (budget : ℕ) (bytes out : List ℕ) (log : List Entry) where
  yes_by : (t : IsDecisionTold question budget bytes out Done log) → BeginsWithLine (entailed_line question) out
      → (x : Decision) → t.decision ≡ x → HaveAsked Entails question bytes
  yes_by t begins (Answered.Entailed r) is =
      yes_follows question budget bytes out log (record { decided = t; refutation = r; is_refuted = is })
  yes_by t begins (Answered.NotEntailed m) is =
      absurd (apart question _ _ (sym (t.text ∙ ap (decision_text t.ontology question) is) ∙ begins.text))
  yes_by t begins Answered.Undecided is =
      let clash : Done ≡ Undecided = t.status ∙ ap decision_status is in absurd (cc clash)

  no_by : (t : IsDecisionTold question budget bytes out Done log) → BeginsWithLine (not_entailed_line question) out
      → (x : Decision) → t.decision ≡ x → HaveAsked (λ axioms q. Entails axioms q → ⊥) question bytes
  no_by t begins (Answered.NotEntailed m) is =
      no_does_not_follow question budget bytes out log (record { decided = t; model = m; is_model = is })
  no_by t begins (Answered.Entailed r) is =
      absurd (apart question _ _ (sym begins.text ∙ t.text ∙ ap (decision_text t.ontology question) is))
  no_by t begins Answered.Undecided is =
      let clash : Done ≡ Undecided = t.status ∙ ap decision_status is in absurd (cc clash)

-- ---- in every world

module _ {d : Type 0} (w : World d) where
  pub yes_holds : YesFollowsIn w
  yes_holds question budget bytes out log answer begins =
      let t = decided question budget bytes out log answer in
      let h = yes_by question budget bytes out log t begins t.decision refl in
      of_asked Entails (FollowsInAll w) question bytes h
      ((of_question w question bytes h.ontology h.query h.is_question).all.0 h.what_holds)

  pub accepted_holds : AcceptedQueriesFollowIn w
  accepted_holds query bytes log answer =
      let h = accepted_follows query bytes log answer in
      of_read Entails (FollowsInAll w) query bytes h
      ((questions w bytes h.document h.kept h.end h.is_document (follows query) h.counts h.asked h.is_query).all.0
      h.what_holds)

-- ---- in a finite world

abbrev DoesNotFollow : List Axiom → Asked → Type 0
DoesNotFollow axioms q = ¬ Entails axioms q

pub no_fails : NoFailsInAFiniteWorld
no_fails question budget bytes out log answer begins =
    let t = decided question budget bytes out log answer in
    let h = no_by question budget bytes out log t begins t.decision refl in
    of_asked DoesNotFollow FailsInAFiniteWorld question bytes h (fails _ h.query h.what_holds)

pub accepted_fails : AcceptedQueriesFailInAFiniteWorld
accepted_fails query bytes log answer =
    let h = accepted_does_not query bytes log answer in
    of_read DoesNotFollow FailsInAFiniteWorld query bytes h (fails _ h.asked h.what_holds)
