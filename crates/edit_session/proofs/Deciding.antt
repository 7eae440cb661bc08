-- A query is decided by what the log tells, or by a test.
use Rattle.std.proofs.Common.{◌≡◌, ℕ, ◌<◌, ◌≤◌, Bool, true, false, List, [], ◌∷◌, ◌++◌, length, refl, ap, sym, subst}
use Rattle.std.proofs.Common.{◌∙◌, inl, inr, arith, length-append}
use Rattle.std.specs.Prelude.{Option, Some, None, Result, Ok, Err, IfOk, OnErr, Contains}
use Rattle.std.proofs.lemmas.Bool.{cases_lt}
use Rattle.std.proofs.lemmas.List.{append-nil}
use Rattle.std.proofs.lemmas.List.Elements.{Contains-push}
use Rattle.lane_sieve.specs.Sets.{NumberSet, IsPart}
use Rattle.axiom_sets.specs.Sets.{Limited}
use Rattle.shq_terms.specs.NoMemory.{NoMemory}
use Rattle.shq_terms.specs.Listed.{Listed}
use Rattle.shq_terms.specs.declared.axioms.Query.{Query}
use Rattle.shq_oracle.specs.Entry.{Entry}
use Rattle.shq_oracle.specs.Entry.TheVariants.{Test}
use Rattle.shq_oracle.specs.TestEnd.{TestEnd}
use Rattle.shq_oracle.specs.TestEnd.TheVariants as E
use Rattle.shq_oracle.specs.Entries.{spent_of, ended_spent, IsAnswered}
use Rattle.shq_oracle.specs.HonestLog.{IsHonestEntry}
use Rattle.shq_oracle.specs.OracleLists.{OracleLists}
use Rattle.shq_oracle.specs.Decided.{EndsAs, AddsTest, SpendsAll}
use Rattle.shq_oracle.specs.declared.answer.Outcome.{Outcome}
use Rattle.shq_oracle.specs.declared.answer.Outcome.TheVariants.{Yes, No, Undecided}
use Rattle.edit_session.specs.Noted.{Noted}
use Rattle.edit_session.specs.SessionLog.{Tests}
use Rattle.edit_session.specs.Places.{AreFiled, StaysFiled, KeepsAllOthers, IsNotedOf, MayBeNotedOf, plain_noted}
use Rattle.edit_session.specs.Asking.{IsTold, IsRecalled, AnswersOnce, GrowsLog}
use Rattle.edit_session.specs.declared.noted_places.NotedPlaces.{NotedPlaces}
use Rattle.edit_session.proofs.Filed.{filed_longer, filed_others}

pub recalled : (o : Listed) (s : Limited) (q : Query) (budget : ℕ) (log : List Entry) (v : Outcome) → IsTold log s q v
    → AnswersOnce o s q budget log log v
recalled o s q budget log (Yes u) told = (inl refl, told)
recalled o s q budget log No told = (inl refl, told)
recalled o s q budget log Undecided told = absurd told

-- ---- a test

module _ (o : Listed) (s : Limited) (q : Query) (before after : List Entry) (new : ¬ IsAnswered before s q) where
  tests : (v : Outcome) (out : Bool) (t : AddsTest o s q before after v) → ended_spent t.ended ≡ out
      → Tests out o s q before after
  tests v out t end =
      record { steps = t.steps; ended = t.ended; is_log = t.is_log; is_end = end; honest = t.honest; new = new }

  last : (steps : ℕ) (e : TestEnd) → after ≡ before ++ Test s q steps e ∷ [] → Contains after (Test s q steps e)
  last steps e is =
      subst (λ (log : List Entry). Contains log (Test s q steps e)) (sym is) (Contains-push before (Test s q steps e))

  told_yes : (u : Limited) (steps : ℕ) (e : TestEnd) → EndsAs (Yes u) e → after ≡ before ++ Test s q steps e ∷ []
      → IsHonestEntry o (Test s q steps e) → (ended_spent e ≡ false) × IsTold after s q (Yes u)
  told_yes u steps (E.Yes w) same is honest = (
    refl,
    (
      s,
      steps,
      subst (λ (x : Limited). Contains after (Test s q steps (E.Yes x))) same (last steps (E.Yes w) is),
      subst (λ (x : Limited). IsPart x.members s.members) same honest.1.part,
    ),
  )
  told_yes u steps E.No same is honest = absurd same
  told_yes u steps (E.Spent t) same is honest = absurd same

  told_no : (steps : ℕ) (e : TestEnd) → EndsAs No e → after ≡ before ++ Test s q steps e ∷ []
      → (ended_spent e ≡ false) × IsTold after s q No
  told_no steps (E.Yes w) same is = absurd same
  told_no steps E.No same is = (refl, (s, steps, last steps E.No is, λ k h. h))
  told_no steps (E.Spent t) same is = absurd same

  ran_out : (e : TestEnd) → EndsAs Undecided e → ended_spent e ≡ true
  ran_out (E.Yes w) same = absurd same
  ran_out E.No same = absurd same
  ran_out (E.Spent t) same = refl

  pub tested : (l : OracleLists) (v : Outcome) → l.log ≡ after → AddsTest o s q before after v → SpendsAll l v
      → AnswersOnce o s q l.budget before after v
  tested l (Yes u) is t spends =
      let told = told_yes u t.steps t.ended t.matches t.is_log t.honest in (inr (tests (Yes u) false t told.0), told.1)
  tested l No is t spends =
      let told = told_no t.steps t.ended t.matches t.is_log in (inr (tests No false t told.0), told.1)
  tested l Undecided is t spends = (tests Undecided true t (ran_out t.ended t.matches), ap spent_of (sym is) ∙ spends)

pub if_decided : (old new : OracleLists) (s : Limited) (q : Query) → ¬ IsAnswered old.log s q → new.budget ≡ old.budget
    → (r : Result Outcome NoMemory) → IfOk r (AddsTest old.ontology s q old.log new.log) → IfOk r (SpendsAll new)
    → IfOk r (AnswersOnce old.ontology s q old.budget old.log new.log)
if_decided old new s q unanswered budget (Ok v) t spends =
    subst (λ (n : ℕ). AnswersOnce old.ontology s q n old.log new.log v) budget
    (tested old.ontology s q old.log new.log unanswered new v refl t spends)
if_decided old new s q unanswered budget (Err e) t spends = tt

-- ---- the log

pub grows_log : (o : Listed) (s : Limited) (q : Query) (before after : List Entry) (r : Result Outcome NoMemory)
    → IfOk r (AddsTest o s q before after) → OnErr r (after ≡ before) → GrowsLog before after
grows_log o s q before after (Ok v) t same = (Test s q t.steps t.ended ∷ [], t.is_log)
grows_log o s q before after (Err e) t same = ([], same ∙ sym (append-nil before))

-- ---- an oracle that the log goes into and comes back from

pub by_oracle : (o : Listed) (s : Limited) (q : Query) (budget : ℕ) (before begun after left : List Entry)
    (old : OracleLists)
    → old ≡ record { ontology = o; budget = budget; log = begun } → begun ≡ before → after ≡ left
    → (r : Result Outcome NoMemory) → IfOk r (AnswersOnce old.ontology s q old.budget old.log left)
    → IfOk r (AnswersOnce o s q budget before after)
by_oracle o s q budget before begun after left old is begun_is after_is r h =
    subst (λ (log : List Entry). IfOk r (AnswersOnce o s q budget before log)) (sym after_is)
    (subst (λ (log : List Entry). IfOk r (AnswersOnce o s q budget log left)) begun_is
    (subst (λ (l : OracleLists). IfOk r (AnswersOnce l.ontology s q l.budget l.log left)) is h))

-- ---- what is recalled

pub not_answered : (log : List Entry) (s : Limited) (q : Query) (found : Option Outcome)
    → ((v : Outcome) → ¬ (found ≡ Some v)) → IsRecalled log s q found → ¬ IsAnswered log s q
not_answered log s q None none h = h
not_answered log s q (Some v) none h = absurd (none v refl)

-- ---- what is noted

module _ (s : Limited) (log entries : List Entry) (same : entries ≡ log) where
  -- with entries that were seen
  pub noted_seen : (old new : NotedPlaces) → StaysFiled old new entries → new.seen ≤ length entries
      → IsNotedOf (plain_noted old) s.members log → IsNotedOf (plain_noted new) s.members log
  noted_seen old new stays within n = record {
    within = subst (λ (es : List Entry). new.seen ≤ length es) same within;
    filed =
        subst (AreFiled new.places.items s.members new.seen) same
        (stays s.members (subst (AreFiled old.places.items s.members old.seen) (sym same) n.filed));
  }

  -- without what a query's yes was, of which none answers
  pub noted_others : (old new : NotedPlaces) (q : Query) → KeepsAllOthers entries q old.places.items new.places.items
      → new.seen ≡ old.seen → ¬ IsAnswered log s q → IsNotedOf (plain_noted old) s.members log
      → IsNotedOf (plain_noted new) s.members log
  noted_others old new q others seen none n = record {
    within = subst (λ (k : ℕ). k ≤ length log) (sym seen) n.within;
    filed =
        subst (λ (k : ℕ). AreFiled new.places.items s.members k log) (sym seen)
        (filed_others s.members log old.places.items new.places.items old.seen s.limit q
        (subst (λ (es : List Entry). KeepsAllOthers es q old.places.items new.places.items) same others) none n.filed);
  }

-- what is known of the log, once what was seen of another one is forgotten
pub noted_known : (live : NumberSet) (log entries : List Entry) → entries ≡ log → (old new : NotedPlaces)
    → new.seen ≤ length entries → (old.seen ≤ length entries → new ≡ old)
    → (length entries < old.seen → new.seen ≡ 0)
    → MayBeNotedOf (plain_noted old) live log → IsNotedOf (plain_noted new) live log
noted_known live log entries same old new within kept forgotten may =
    subst (IsNotedOf (plain_noted new) live) same (elim (cases_lt (length entries) old.seen) [
      | inl fewer ↦
          record {
            within = within;
            filed = λ place s q steps e lt at. absurd (omega (arith, forgotten fewer, lt));
          }
      | inr enough ↦
          record {
            within = within;
            filed =
                subst (λ (n : NotedPlaces). AreFiled n.places.items live n.seen entries) (sym (kept enough))
                (subst (AreFiled old.places.items live old.seen) (sym same)
                (may.filed (subst (λ (es : List Entry). old.seen ≤ length es) same enough)));
          }
    ])

-- of a log of which something is known it may be
pub noted_may : (n : Noted) (live : NumberSet) (log : List Entry) → IsNotedOf n live log → MayBeNotedOf n live log
noted_may n live log known = record { filed = λ within. known.filed }

-- in a longer log
pub noted_longer : (n : Noted) (live : NumberSet) (before after : List Entry) → GrowsLog before after
    → IsNotedOf n live before → IsNotedOf n live after
noted_longer n live before after more h =
    subst (IsNotedOf n live) (sym more.1)
    (record {
      within = omega (arith, h.within, length-append before more.0);
      filed = filed_longer live before n.places n.seen more.0 h.within h.filed;
    })
