-- What chains of an honest log say, and that the log of questions between classes is one of a realization.
use Rattle.std.proofs.Common.{◌≡◌, ◌&&◌, not, Bool, true, false, ℕ, List, refl, subst}
use Rattle.std.specs.Prelude.{take}
use Rattle.std.proofs.lemmas.List.Elements.{All-contains, All-weaker}
use Rattle.shq_terms.specs.Concept.{Concept}
use Rattle.shq_terms.specs.Listed.{Listed}
use Rattle.shq_terms.specs.declared.axioms.On.{On}
use Rattle.shq_terms.specs.declared.axioms.On.TheVariants.{Any, Individual}
use Rattle.shq_terms.specs.declared.axioms.Query.{Query}
use Rattle.shq_terms.proofs.Bools.{none_outside}
use Rattle.shq_meaning.specs.Truth.{holds, Entails}
use Rattle.subsumption.specs.Theory.{all_axioms}
use Rattle.subsumption.specs.Entry.{Entry}
use Rattle.subsumption.specs.Entry.TheVariants.{Test, Node}
use Rattle.subsumption.specs.TestEnd.TheVariants.{Yes}
use Rattle.subsumption.specs.HonestLog.{IsHonestEntry, EachIsHonest, IsClassTest, IsClass, IsStep, IsChain}
use Rattle.subsumption.specs.HonestLog.{IsClassificationLog}
use Rattle.subsumption.specs.HonestLog.IsStep.{by_test, in_top, of_bottom}
use Rattle.subsumption.specs.HonestLog.IsChain.{none, onward}
use Rattle.subsumption.proofs.Added.{at_contains}
use Rattle.realizer.specs.Places.{IsPlaceChain, class_place, left_of}
use Rattle.realizer.specs.RealizationLogs.{IsTypingQuery, IsTypingTest, AreTypingTests, IsRealizationLog}
use Rattle.realizer.specs.Asked.{IsEarlier, IsOnEarlier}
use Rattle.realizer.proofs.Places.{class_chain}
use Rattle.realizer.proofs.Truths.{follows_by_yes}

-- ---- chains of classes

not_outside_all : (a : Bool) → (a && not true) ≡ false
not_outside_all true = refl
not_outside_all false = refl

itself : (a : Bool) → (a && not a) ≡ false
itself true = refl
itself false = refl

module _ (o : Listed) (log : List Entry) (honest : EachIsHonest o log) (tests : AreTypingTests o log) where
  step_is_true : (x y : Concept) → IsStep log x y
      → Entails (all_axioms o.axioms) (record { sub = x; sup = y; on = Any })
  step_is_true _ _ (by_test s q steps u any there) =
      let h = All-contains (IsHonestEntry o) log (Test s q steps (Yes u)) honest there in
      let t = All-contains (IsTypingTest o) log (Test s q steps (Yes u)) tests there in
      subst (λ (on : On). Entails (all_axioms o.axioms) (record { sub = q.sub; sup = q.sup; on = on })) any
      (follows_by_yes o s q steps u t.0 h)
  step_is_true _ _ (in_top x) = λ i some placed meets z lt. not_outside_all (holds i x z)
  step_is_true _ _ (of_bottom y) = λ i some placed meets z lt. refl

  -- where a chain leads from one class to another, the former is part of the latter
  pub chain_is_true : (x y : Concept) → IsChain log x y
      → Entails (all_axioms o.axioms) (record { sub = x; sup = y; on = Any })
  chain_is_true _ _ (none x) = λ i some placed meets z lt. itself (holds i x z)
  chain_is_true _ _ (onward x y z step rest) = λ i some placed meets v lt.
      none_outside (holds i x v) (holds i y v) (holds i z v) (step_is_true x y step i some placed meets v lt)
      (chain_is_true y z rest i some placed meets v lt)

-- ---- questions between classes

typing_on : (o : Listed) (q : Query) (on : On) → on ≡ Any → IsClass o q.sub → IsClass o q.sup
    → IsTypingQuery o q.sub q.sup on
typing_on o q Any is lower upper = (lower, upper)
typing_on o q (Individual a) is lower upper = absurd (cc is)

typing_test : (o : Listed) (e : Entry) → IsClassTest o e → IsTypingTest o e
typing_test o (Test s q steps e) (whole, lower, upper, differ, any) = (whole, typing_on o q q.on any lower upper)
typing_test o (Node s) h = h

earlier_on : (a : ℕ) (on : On) → on ≡ Any → IsOnEarlier a on
earlier_on a Any is = tt
earlier_on a (Individual b) is = absurd (cc is)

-- such a log has no question on an individual
pub earlier_class : (o : Listed) (a : ℕ) (e : Entry) → IsClassTest o e → IsEarlier a e
earlier_class o a (Test s q steps e) (whole, lower, upper, differ, any) = earlier_on a q.on any
earlier_class o a (Node s) h = h

class_of_all : (log : List Entry) (q : Query) (on : On) → on ≡ Any
    → IsPlaceChain log (left_of q.sub on) (class_place q.sup) → IsChain log q.sub q.sup
class_of_all log q Any is chain = class_chain log q.sub q.sup chain
class_of_all log q (Individual a) is chain = absurd (cc is)

pub realization_log : (o : Listed) (budget : ℕ) (log : List Entry) → IsClassificationLog o budget log
    → IsRealizationLog o budget log
realization_log o budget log h = record {
  budget_kept = h.budget_kept;
  tests = All-weaker (IsClassTest o) (IsTypingTest o) (typing_test o) log h.tests;
  once = h.once;
  new = λ place s q steps e at chain.
      let test =
      All-contains (IsClassTest o) log (Test s q steps e) h.tests (at_contains log (Test s q steps e) place at) in
      h.new place s q steps e at (class_of_all (take place log) q q.on test.4 chain);
}
