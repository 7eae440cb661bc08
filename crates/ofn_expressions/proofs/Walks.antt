-- Lists of tests one after another.
use Rattle.std.proofs.Common.{◌≡◌, List, [], ◌∷◌, ◌++◌, Bool, true, false, cond, Some, Result, Ok, Err, refl, ap, sym}
use Rattle.std.proofs.Common.{◌∙◌, subst}
use Rattle.ofn_expressions.specs.Counts.{Counts}
use Rattle.ofn_expressions.specs.Walk.{Test, holds, refusal, counts_after, after_all, outcomes, first_failing, verdict}
use Rattle.ofn_expressions.specs.Walk.{walked, AgreesWithTests, Judged}
use Rattle.ofn_expressions.specs.declared.refusal.Refusal.{Refusal}

-- one test, and then the others
pub walked-cons : (s : Counts) (t : Test) (ts : List Test)
    → walked s (t ∷ ts) ≡ cond (holds s t) (walked (counts_after s t) ts) (Err (refusal t))
walked-cons s t ts = by (holds s t)
  where
    by : (b : Bool)
        → verdict (cond b (first_failing (outcomes (counts_after s t) ts)) (Some (refusal t)))
        (after_all (counts_after s t) ts)
        ≡ cond b (walked (counts_after s t) ts) (Err (refusal t))
    by true = refl
    by false = refl

-- the tests us after what r gives
abbrev pub then : Result Counts Refusal → List Test → Result Counts Refusal
then (Ok s) us = walked s us
then (Err e) us = Err e

then-cond : (b : Bool) (r : Result Counts Refusal) (e : Refusal) (us : List Test) → cond b (then r us) (Err e) ≡
    then (cond b r (Err e)) us
then-cond true r e us = refl
then-cond false r e us = refl

pub walked_append : (s : Counts) (ts us : List Test) → walked s (ts ++ us) ≡ then (walked s ts) us
walked_append s [] us = refl
walked_append s (t ∷ ts) us =
    walked-cons s t (ts ++ us) ∙ ap (λ r. cond (holds s t) r (Err (refusal t))) (walked_append (counts_after s t) ts us)
    ∙ then-cond (holds s t) (walked (counts_after s t) ts) (refusal t) us
    ∙ ap (λ r. then r us) (sym (walked-cons s t ts))

pub goes_on : (s mid : Counts) (ts us : List Test) → walked s ts ≡ Ok mid → walked s (ts ++ us) ≡ walked mid us
goes_on s mid ts us first = walked_append s ts us ∙ ap (λ r. then r us) first

pub stops : (s : Counts) (ts us : List Test) (e : Refusal) → walked s ts ≡ Err e → walked s (ts ++ us) ≡ Err e
stops s ts us e first = walked_append s ts us ∙ ap (λ r. then r us) first

pub goes_judged : {X : Type 0} (r : Result X Refusal) (s mid new : Counts) (ts us : List Test) → walked s ts ≡ Ok mid
    → Judged r mid us new → Judged r s (ts ++ us) new
goes_judged r s mid new ts us first rest =
    subst (λ said. AgreesWithTests r new said) (sym (goes_on s mid ts us first)) rest
