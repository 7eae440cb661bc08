-- What the entries of honest logs tell is so.
use Rattle.std.proofs.Common.{◌≡◌, Bool, true, false, List, refl, subst}
use Rattle.std.specs.Prelude.{◌&&◌, not}
use Rattle.std.proofs.lemmas.List.Elements.{All-contains}
use Rattle.shq_terms.specs.Concept.{Concept}
use Rattle.shq_terms.proofs.Bools.{none_outside}
use Rattle.shq_terms.specs.Listed.{Listed}
use Rattle.shq_terms.specs.declared.axioms.Axiom.{Axiom}
use Rattle.shq_terms.specs.declared.axioms.On.{On}
use Rattle.shq_terms.specs.declared.axioms.On.TheVariants.{Any}
use Rattle.pinpointing_specs.specs.Truth.{holds, Entails}
use Rattle.refutation_truth.specs.Theory.{all_axioms}
use Rattle.run_log.specs.declared.entry.Entry.{Entry}
use Rattle.run_log.specs.declared.entry.Entry.TheVariants.{Test}
use Rattle.run_log.specs.declared.entry.TestEnd.TheVariants.{Yes, No, Spent}
use Rattle.run_log.specs.HonestLog.{FollowsIn, IsHonestEntry, EachIsHonest, IsClassTest, AreClassTests, IsStep, IsChain}
use Rattle.run_log.specs.HonestLog.IsStep.{by_test, in_top, of_bottom}
use Rattle.run_log.specs.HonestLog.IsChain.{none, onward}
use Rattle.run_log.specs.Laws.{AnswersAreTrue, ChainsAreTrue}
use Rattle.run_log.proofs.Named.{more, whole}

pub answer_is_true : AnswersAreTrue
answer_is_true o log asked s q steps (Yes u) honest is there part =
    let h = All-contains (IsHonestEntry o) log (Test s q steps (Yes u)) honest there in
    more o u asked q h.1.of_axioms is part h.1.follows
answer_is_true o log asked s q steps No honest is there part =
    let h = All-contains (IsHonestEntry o) log (Test s q steps No) honest there in
    λ follows. h.1.follows_not (more o asked s q is h.0 part follows)
answer_is_true o log asked s q steps (Spent t) honest is there part = tt

-- ---- chains

not_outside_all : (a : Bool) → (a && not true) ≡ false
not_outside_all true = refl
not_outside_all false = refl

module _ (o : Listed) (log : List Entry) (honest : EachIsHonest o log) (tests : AreClassTests o log) where
  step_is_true : (x y : Concept) → IsStep log x y
      → Entails (all_axioms o.axioms) (record { sub = x; sup = y; on = Any })
  step_is_true _ _ (by_test s q steps u any there) =
      let h = All-contains (IsHonestEntry o) log (Test s q steps (Yes u)) honest there in
      let t = All-contains (IsClassTest o) log (Test s q steps (Yes u)) tests there in
      let follows : FollowsIn o s q = more o u s q h.1.of_axioms h.0 h.1.part h.1.follows in
      subst (λ (on : On). Entails (all_axioms o.axioms) (record { sub = q.sub; sup = q.sup; on = on })) any
      (subst (λ (as_ : List Axiom). Entails as_ q) (whole o s t.0) follows)
  step_is_true _ _ (in_top x) = λ i some placed meets z lt. not_outside_all (holds i x z)
  step_is_true _ _ (of_bottom y) = λ i some placed meets z lt. refl

  all_true : (x y : Concept) → IsChain log x y → Entails (all_axioms o.axioms) (record { sub = x; sup = y; on = Any })
  all_true _ _ (none x) = λ i some placed meets z lt. itself (holds i x z)
    where
      itself : (a : Bool) → (a && not a) ≡ false
      itself true = refl
      itself false = refl
  all_true _ _ (onward x y z step rest) = λ i some placed meets v lt.
      none_outside (holds i x v) (holds i y v) (holds i z v) (step_is_true x y step i some placed meets v lt)
      (all_true y z rest i some placed meets v lt)

pub chain_is_true : ChainsAreTrue
chain_is_true o log x y honest tests chain = all_true o log honest tests x y chain
