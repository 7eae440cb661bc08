-- What a decision says of a test.
use Rattle.std.proofs.Common.{◌≡◌, ℕ, ◌<◌, Bool, true, false, List, [], ◌∷◌, ◌++◌, ap, sym, subst, ◌∙◌}
use Rattle.std.specs.Prelude.{Option, Some, None, IfSome}
use Rattle.shq_terms.specs.Concept.{Concept, name}
use Rattle.shq_terms.specs.Listed.{Listed}
use Rattle.axiom_sets.specs.Sets.{Limited}
use Rattle.shq_terms.specs.declared.axioms.On.TheVariants.{Any}
use Rattle.shq_terms.specs.declared.axioms.Query.{Query}
use Rattle.shq_oracle.specs.Entry.{Entry}
use Rattle.shq_oracle.specs.Entry.TheVariants.{Test}
use Rattle.shq_oracle.specs.TestEnd.{TestEnd}
use Rattle.shq_oracle.specs.TestEnd.TheVariants as E
use Rattle.shq_oracle.specs.Entries.{IsAnswered}
use Rattle.shq_oracle.specs.HonestLog.{IsHonestEntry}
use Rattle.shq_oracle.specs.OracleLists.{OracleLists}
use Rattle.shq_oracle.specs.ApartLists.{ApartLists, IsAbout, query_of, entry_of}
use Rattle.shq_oracle.specs.declared.answer.Outcome.{Outcome}
use Rattle.shq_oracle.specs.declared.answer.Outcome.TheVariants as O
use Rattle.shq_oracle.specs.Decided.{AddsTest, Notes}
use Rattle.shq_oracle.specs.Decided as decided
use Rattle.subsumption.specs.declared.testing.Verdict.{Verdict}
use Rattle.subsumption.specs.Subsumption.{class_at}
use Rattle.subsumption.specs.Tests.{verdict_of, newest, EndsAs, SpendsAll, IsTested, IsNoted, AreAlike}
use Rattle.subsumption.proofs.Begun.{alike_more, alike_still}
use Rattle.subsumption.proofs.InLimit.{at_name}

ends_as : (v : Outcome) (e : TestEnd) → decided.EndsAs v e → EndsAs (verdict_of v) e
ends_as (O.Yes r) (E.Yes u) m = tt
ends_as (O.Yes r) E.No m = absurd m
ends_as (O.Yes r) (E.Spent t) m = absurd m
ends_as O.No (E.Yes u) m = absurd m
ends_as O.No E.No m = tt
ends_as O.No (E.Spent t) m = absurd m
ends_as O.Undecided (E.Yes u) m = absurd m
ends_as O.Undecided E.No m = absurd m
ends_as O.Undecided (E.Spent t) m = tt

spends_all : (l : OracleLists) (v : Outcome) → decided.SpendsAll l v → SpendsAll l (verdict_of v)
spends_all l (O.Yes r) left = tt
spends_all l O.No left = tt
spends_all l O.Undecided left = left

pub tested_so : (before after : OracleLists) (s : Limited) (q : Query) (w : Outcome) (v : Verdict) → v ≡ verdict_of w
    → AddsTest before.ontology s q before.log after.log w → decided.SpendsAll after w → IsTested before after s q v
tested_so before after s q w v is test left = subst (IsTested before after s q) (sym is)
    (record {
      steps = test.steps;
      ended = test.ended;
      is_log = test.is_log;
      ends_as = ends_as w test.ended test.matches;
      honest = test.honest;
      spends = spends_all after w left;
    })

-- ---- what is kept

pub newest_about : (o : Listed) (s : Limited) (sub : Concept) (found kept : Option ApartLists)
    → IfSome found (IsAbout o s sub) → IfSome kept (IsAbout o s sub) → IfSome (newest found kept) (IsAbout o s sub)
newest_about o s sub (Some a) kept h k = h
newest_about o s sub None kept h k = k

-- what was kept shows it, and it was put into the log
pub noted_so : (before after : OracleLists) (s : Limited) (q : Query) (a : ApartLists) (count y : ℕ) (noted : Bool)
    → IsAbout before.ontology s q.sub a → q.sup ≡ class_at count y → q.on ≡ Any → y < count
    → Notes before after a y noted → IsNoted before after s q noted
noted_so before after s q a count y true about asked any lt h =
    let sup : name y ≡ q.sup = sym (asked ∙ at_name count y lt) in
    let on : Any ≡ q.on = sym any in
    let is : entry_of a y ≡ Test s q a.steps E.No =
    λ i. Test (about.set_is i) (record { sub = about.sub_is i; sup = sup i; on = on i }) a.steps E.No in
    record {
      steps = a.steps;
      ended = E.No;
      is_log = h.0 ∙ ap (λ (e : Entry). before.log ++ e ∷ []) is;
      ends_as = tt;
      honest = subst (IsHonestEntry before.ontology) is h.1;
      spends = tt;
    }
noted_so before after s q a count y false about asked any lt h = h

-- the question is new
pub is_new : (log : List Entry) (o : Listed) (s : Limited) (q : Query) (a : ApartLists) (count y : ℕ)
    → IsAbout o s q.sub a → q.sup ≡ class_at count y → q.on ≡ Any → y < count → (IsAnswered log s q → ⊥)
    → IsAnswered log a.set (query_of a y) → ⊥
is_new log o s q a count y about asked any lt new answered =
    let sup : name y ≡ q.sup = sym (asked ∙ at_name count y lt) in
    let on : Any ≡ q.on = sym any in
    let query : query_of a y ≡ q = λ i. record { sub = about.sub_is i; sup = sup i; on = on i } in
    new (subst (λ (t : Limited). IsAnswered log t q) about.set_is (subst (IsAnswered log a.set) query answered))

pub noted_alike : (before after : OracleLists) (s : Limited) (q : Query) (noted : Bool)
    → after.ontology ≡ before.ontology → after.budget ≡ before.budget → IsNoted before after s q noted
    → AreAlike before after
noted_alike before after s q true ontology budget h =
    alike_more before after (Test s q h.steps h.ended) ontology budget h.is_log
noted_alike before after s q false ontology budget h =
    alike_still before after ontology budget (ap (λ (l : OracleLists). l.log) h)

-- the same ontology, set and class
pub about_moved : (kept : Option ApartLists) (o o' : Listed) (s s' : Limited) (n n' x : ℕ) → o ≡ o' → s ≡ s' → n ≡ n'
    → IfSome kept (IsAbout o s (class_at n x)) → IfSome kept (IsAbout o' s' (class_at n' x))
about_moved kept o o' s s' n n' x eo es en h =
    let first : IfSome kept (IsAbout o' s (class_at n x)) =
    subst (λ (v : Listed). IfSome kept (IsAbout v s (class_at n x))) eo h in
    let second : IfSome kept (IsAbout o' s' (class_at n x)) =
    subst (λ (v : Limited). IfSome kept (IsAbout o' v (class_at n x))) es first in
    subst (λ (v : ℕ). IfSome kept (IsAbout o' s' (class_at v x))) en second
