-- The log of one question is honest.
use Rattle.std.proofs.Common.{◌≡◌, ℕ, zero, suc, ◌+◌, ◌≤◌, true, false, List, [], ◌∷◌, ◌++◌, length, Some, refl, ap}
use Rattle.std.proofs.Common.{sym, ◌∙◌, subst, arith, inr}
use Rattle.std.specs.Prelude.{slice_get}
use Rattle.std.specs.List.{list_any}
use Rattle.std.proofs.lemmas.List.Elements.{All-cons}
use Rattle.std.specs.Prelude.{IfOk, Result, Ok, Err}
use Rattle.axiom_sets.specs.Sets.{Limited, IsFull}
use Rattle.shq_terms.specs.NoMemory.{NoMemory}
use Rattle.shq_terms.proofs.Bools.{or_only}
use Rattle.shq_terms.specs.Listed.{Listed}
use Rattle.shq_terms.specs.declared.axioms.Query.{Query as Asked}
use Rattle.shq_oracle.specs.Entry.{Entry}
use Rattle.shq_oracle.specs.Entry.TheVariants.{Test}
use Rattle.shq_oracle.specs.TestEnd.{TestEnd}
use Rattle.shq_oracle.specs.TestEnd.TheVariants as E
use Rattle.shq_oracle.specs.Entries.{spent_of, is_spent, ended_spent, IsAnswered}
use Rattle.shq_oracle.specs.HonestLog.{IsWhole, IsHonestEntry, EachIsHonest, EndsWhenSpent}
use Rattle.shq_oracle.specs.declared.answer.Answer.{Answer as Decision}
use Rattle.shq_oracle.specs.declared.answer.Answer.TheVariants as Answered
use Rattle.shq_oracle.specs.OracleLists.{OracleLists}
use Rattle.shq_oracle.specs.Decided.{Matches, IsAnswer, AppendsTest, LeavesNothing}
use Rattle.decision_jobs.specs.Deciding.{IsDecision, HasVerdict}
use Rattle.decision_jobs.specs.Decisions.{IsLogged}
use Rattle.decision_jobs.specs.Answering.{IsBegun}

-- where the test spent the budget, nothing is left
nothing_left : (l : OracleLists) (d : Decision) (e : TestEnd) → Matches d e → LeavesNothing l d → ended_spent e ≡ true
    → spent_of l.log ≡ l.budget
nothing_left l Answered.Undecided (E.Spent t) m left is = left
nothing_left l Answered.Undecided (E.Yes u) m left is = absurd m
nothing_left l Answered.Undecided E.No m left is = absurd m
nothing_left l (Answered.Entailed r) (E.Yes u) m left is = absurd (cc is)
nothing_left l (Answered.Entailed r) (E.Spent t) m left is = absurd m
nothing_left l (Answered.Entailed r) E.No m left is = absurd m
nothing_left l (Answered.NotEntailed k) E.No m left is = absurd (cc is)
nothing_left l (Answered.NotEntailed k) (E.Spent t) m left is = absurd m
nothing_left l (Answered.NotEntailed k) (E.Yes u) m left is = absurd m

-- a test that decided the query did not spend the budget
decides : (d : Decision) (e : TestEnd) → HasVerdict d → Matches d e → ended_spent e ≡ false
decides (Answered.Entailed r) (E.Yes u) verdict m = refl
decides (Answered.Entailed r) (E.Spent t) verdict m = absurd m
decides (Answered.Entailed r) E.No verdict m = absurd m
decides (Answered.NotEntailed k) E.No verdict m = refl
decides (Answered.NotEntailed k) (E.Spent t) verdict m = absurd m
decides (Answered.NotEntailed k) (E.Yes u) verdict m = absurd m
decides Answered.Undecided e verdict m = absurd verdict

pub still_begun : (o : Listed) (q : Asked) (budget : ℕ) (d : Decision) (log : List Entry) → IsLogged o q budget d log
    → HasVerdict d → IsBegun o q budget log
still_begun o q budget d log logged verdict =
    inr (record {
      honest = logged.honest;
      unspent = ap (list_any is_spent) logged.is_log ∙ rw (decides d logged.ended verdict logged.matches);
    })

only_last : (x e : Entry) (place : ℕ) → slice_get (x ∷ []) place ≡ Some e → place + 1 ≡ 1
only_last x e zero found = refl
only_last x e (suc place) found = absurd (cc found)

module _ (o : Listed) (s : Limited) (q : Asked) (budget : ℕ) (d : Decision) where
  -- one test of all axioms, behind nothing
  pub whole_logged : (log more : List Entry) → log ≡ [] → IsWhole o s → AppendsTest o s q log more d
      → spent_of more ≤ budget → LeavesNothing (record { ontology = o; budget = budget; log = more }) d
      → IsLogged o q budget d more
  whole_logged log more none whole test within left =
      let x : Entry = Test s q test.steps test.ended in
      let is : more ≡ x ∷ [] = test.is_log ∙ ap (λ (l : List Entry). l ++ x ∷ []) none in
      let each : EachIsHonest o (x ∷ []) =
      All-cons (IsHonestEntry o) x [] test.honest (λ k e less. absurd (omega (arith, less))) in
      let ends : EndsWhenSpent budget (x ∷ []) = record {
        is_last = λ place e found spent. only_last x e place found;
        is_whole =
            λ some. sym (ap spent_of is)
            ∙ nothing_left (record { ontology = o; budget = budget; log = more }) d test.ended test.matches left
            (or_only (ended_spent test.ended) some);
      } in
      record {
        honest = record {
          budget_kept = record {
            within = within;
            honest = subst (EachIsHonest o) (sym is) each;
            ends = subst (EndsWhenSpent budget) (sym is) ends;
          };
          one = record { asked = s; steps = test.steps; ended = test.ended; is_whole = whole; is_log = is };
        };
        asked = s;
        steps = test.steps;
        ended = test.ended;
        is_log = is;
        matches = test.matches;
      }

  -- the set of the numbers of all axioms
  pub decided_whole : IsWhole o s → IsAnswer o s q d → IsDecision o q d
  decided_whole whole answer = record { asked = s; is_whole = whole; is_answer = answer }

-- what is answered by an oracle to the set of all axioms
module _ (o : Listed) (s : Limited) (q : Asked) (before after : OracleLists) (r : Result Decision NoMemory) where
  pub asked_whole : IsWhole o s → IfOk r (IsAnswer o s q) → IfOk r (IsDecision o q)
  asked_whole whole answer = by r answer
    where
      by : (r : Result Decision NoMemory) → IfOk r (IsAnswer o s q) → IfOk r (IsDecision o q)
      by (Ok d) answer = decided_whole o s q before.budget d whole answer
      by (Err e) answer = tt

  pub asked_logged : before.ontology ≡ o → after.ontology ≡ before.ontology → after.budget ≡ before.budget
      → before.log ≡ [] → IsWhole o s → spent_of after.log ≤ after.budget
      → IfOk r (AppendsTest o s q before.log after.log)
      → IfOk r (LeavesNothing after) → IfOk r (λ d. IsLogged o q before.budget d after.log)
  asked_logged same stays budget none whole within test left = by r test left
    where
      is : after ≡ record { ontology = o; budget = before.budget; log = after.log }
      is = λ i. record { ontology = (stays ∙ same) i; budget = budget i; log = after.log }

      spent : spent_of after.log ≤ before.budget
      spent = omega (arith, within, budget)

      by : (r : Result Decision NoMemory) → IfOk r (AppendsTest o s q before.log after.log)
          → IfOk r (LeavesNothing after) → IfOk r (λ d. IsLogged o q before.budget d after.log)
      by (Ok d) test left =
          whole_logged o s q before.budget d before.log after.log none whole test spent
          (subst (λ (l : OracleLists). LeavesNothing l d) is left)
      by (Err e) test left = tt

-- the set of all numbers up to the count of the axioms
pub is_whole : (o : Listed) (s : Limited) (n : ℕ) → n ≡ length o.axioms → s.limit ≡ n → IsFull n s.members → IsWhole o s
is_whole o s n count limit full =
    record { limit_is = limit ∙ count; is_full = subst (λ k. IsFull k s.members) count full }

-- an empty log has no test that spent the budget, and answers nothing
pub none_spent : (log : List Entry) → log ≡ [] → list_any is_spent log ≡ false
none_spent log none = ap (list_any is_spent) none

pub none_answered : (log : List Entry) (s : Limited) (q : Asked) → log ≡ [] → IsAnswered log s q → ⊥
none_answered log s q none answered = no_entry (subst (λ l. IsAnswered l s q) none answered)
  where
    no_entry : IsAnswered [] s q → ⊥
    no_entry (e, is_in, answers) = absurd (omega (arith, is_in.1))
