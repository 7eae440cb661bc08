-- What is added to a log beside the outcome of a search, and when.
use Rattle.std.proofs.Common.{◌≡◌, ℕ, ◌+◌, leb, true, false, List, [], ◌∷◌, ◌++◌, ◌∙◌, refl, sym, ap, subst, arith}
use Rattle.std.specs.Prelude.{◌↔◌, Option, Result, Ok, Err, IfOk, IfSome}
use Rattle.std.specs.FinSet as sets
use Rattle.std.proofs.lemmas.Bool.{le-leb, leb-true}
use Rattle.std.proofs.lemmas.List.Sums.{sum_by_push}
use Rattle.axiom_sets.specs.Sets.{Limited}
use Rattle.shq_terms.specs.NoMemory.{NoMemory}
use Rattle.shq_terms.specs.Listed.{Listed}
use Rattle.shq_terms.specs.declared.axioms.Query.{Query}
use Rattle.run_log.specs.declared.entry.Entry.{Entry}
use Rattle.run_log.specs.declared.entry.Entry.TheVariants.{Test}
use Rattle.run_log.specs.declared.entry.TestEnd.{TestEnd}
use Rattle.run_log.specs.HonestLog.{IsAxiomSet}
use Rattle.run_log.specs.Entries.{spent_of, cost_of}
use Rattle.shq_oracle.specs.OracleLists.{OracleLists}
use Rattle.shq_oracle.specs.ApartLists.{ApartLists, IsAbout, classes_of, MayNote}
use Rattle.shq_oracle.specs.declared.answer.Answer.{Answer}
use Rattle.shq_oracle.specs.declared.answer.Outcome.{Outcome}
use Rattle.shq_oracle.specs.declared.answer.Outcome.TheVariants.{Yes, No, Undecided}
use Rattle.shq_oracle.specs.declared.answer.Shown.{Shown}
use Rattle.shq_oracle.specs.declared.tested.Tested.{Tested}
use Rattle.shq_oracle.specs.Decided.{outcome_of, AddsShown, AreFurther, EndsTest, IsFueled, IsTested, SpendsAll}

-- one entry more, and what was shown took its steps
pub adds_shown : (o : Listed) (s : Limited) (q : Query) (fuel : ℕ) (before after : List Entry) (t : Tested)
    (found : Result Shown NoMemory)
    → IsAxiomSet o s → IsTested o s q fuel true t → IfOk found (λ v. v.outcome ≡ t.outcome)
    → IfOk found (λ v. IfSome v.apart (IsAbout o s q.sub)) → IfOk found (λ v. IfSome v.apart (λ a. a.steps ≡ t.steps))
    → IfOk found (λ v. classes_of v.apart ≡ t.apart)
    → IfOk found (λ v. after ≡ before ++ Test s q t.steps t.ended ∷ [])
    → IfOk found (AddsShown o s q before after)
adds_shown o s q fuel before after t (Ok v) of_axioms tested outcome about counted classes log =
    let test : EndsTest o s q fuel v.outcome t.steps t.ended =
    subst (λ (u : Outcome). EndsTest o s q fuel u t.steps t.ended) (sym outcome) tested.test in
    let further : AreFurther o s q t.steps v.outcome t.apart =
    subst (λ (u : Outcome). AreFurther o s q t.steps u t.apart) (sym outcome) (tested.further refl) in
    record {
      test = record {
        steps = t.steps;
        ended = t.ended;
        is_log = log;
        matches = test.matches;
        honest = (of_axioms, test.honest);
      };
      about = about;
      counted = counted;
      further = subst (λ (c : Option Limited). AreFurther o s q t.steps v.outcome c) (sym classes) further;
    }
adds_shown o s q fuel before after t (Err e) of_axioms tested outcome about counted classes log = tt

pub same_outcome : (a : Answer) (found : Result Answer NoMemory) → IfOk found (λ b. b ≡ a)
    → IfOk found (λ b. outcome_of b ≡ outcome_of a)
same_outcome a (Ok b) is = ap outcome_of is
same_outcome a (Err e) is = tt

-- a test that had all that was left, and ended since that was spent, leaves nothing
pub spends_all : {X : Type 0} (outcome : X → Outcome) (s : Limited) (q : Query) (fuel steps : ℕ) (ended : TestEnd)
    (v : Outcome) (old mid new : OracleLists)
    → fuel + spent_of old.log ≡ old.budget → mid ≡ old → IsFueled fuel steps v → new.budget ≡ mid.budget
    → (found : Result X NoMemory) → IfOk found (λ x. outcome x ≡ v)
    → IfOk found (λ x. new.log ≡ mid.log ++ Test s q steps ended ∷ []) → IfOk found (λ x. SpendsAll new (outcome x))
spends_all outcome s q fuel steps ended v old mid new left same fueled budget (Ok x) is log =
    subst (SpendsAll new) (sym is) (by_outcome v fueled)
  where
    by_outcome : (u : Outcome) → IsFueled fuel steps u → SpendsAll new u
    by_outcome (Yes u) whole = tt
    by_outcome No whole = tt
    by_outcome Undecided whole =
        let put : spent_of new.log ≡ spent_of mid.log + steps =
        ap spent_of log ∙ sum_by_push cost_of mid.log (Test s q steps ended) in
        let spent : spent_of mid.log ≡ spent_of old.log = ap (λ (l : OracleLists). spent_of l.log) same in
        let budget_is : new.budget ≡ old.budget = budget ∙ ap (λ (l : OracleLists). l.budget) same in
        omega (arith, put, spent, budget_is, whole, left)
spends_all outcome s q fuel steps ended v old mid new left same fueled budget (Err e) is log = tt

-- where a search has shown it of a class, the steps that are left decide
pub may_note_shown : (l : OracleLists) (a : ApartLists) (class steps left : ℕ)
    → sets.contains a.classes.members (class + 1) ≡ true → steps ≡ a.steps → left + spent_of l.log ≡ l.budget
    → (leb steps left ≡ true ↔ MayNote l a class)
may_note_shown l a class steps left shown counted rest = (
  λ h. record { is_shown = shown; fits = omega (arith, leb-true steps left h, counted, rest) },
  λ m. le-leb steps left (omega (arith, m.fits, counted, rest)),
)

-- and else it may not be noted
pub may_not_note : (l : OracleLists) (a : ApartLists) (class : ℕ) → sets.contains a.classes.members (class + 1) ≡ false
    → (false ≡ true ↔ MayNote l a class)
may_not_note l a class hidden = (λ h. absurd (cc h), λ m. sym hidden ∙ m.is_shown)
