-- How a log begins.
use Rattle.std.proofs.Common.{◌≡◌, ℕ, ◌+◌, ◌<◌, false, List, [], ◌∷◌, ◌++◌, length, Some, refl, sym, ap, subst, ◌∙◌}
use Rattle.std.proofs.Common.{arith, inl, inr}
use Rattle.std.specs.Prelude.{slice_get, Result, Ok, Err, IfOk, OnOk, OnErr}
use Rattle.std.proofs.lemmas.Bool.{or_cases, false_from_ne_true}
use Rattle.axiom_sets.specs.Sets.{Limited}
use Rattle.shq_terms.specs.NoMemory.{NoMemory}
use Rattle.shq_terms.specs.Concept.{Concept, top, bottom}
use Rattle.shq_terms.specs.declared.axioms.On.TheVariants.{Any}
use Rattle.shq_terms.specs.declared.axioms.Query.{Query}
use Rattle.shq_oracle.specs.Entry.{Entry}
use Rattle.shq_oracle.specs.Entry.TheVariants.{Test, Node}
use Rattle.shq_oracle.specs.TestEnd.{TestEnd}
use Rattle.shq_oracle.specs.HonestLog.{IsChain}
use Rattle.shq_oracle.specs.OracleLists.{OracleLists}
use Rattle.subsumption.specs.Matrices.{has}
use Rattle.subsumption.specs.Rows.{holds}
use Rattle.subsumption.specs.Subsumption.{class_at, query_at}
use Rattle.subsumption.specs.LogEnds.{all_in_none, BeginsWith}
use Rattle.subsumption.specs.declared.testing.Verdict.{Verdict}
use Rattle.subsumption.specs.declared.progress.Progress.{Progress}
use Rattle.subsumption.specs.Tests.{IsTested, Begins, HasBegun, AreAlike}
use Rattle.subsumption.specs.Progress.{IsGoing, is_settled}
use Rattle.subsumption.proofs.Chains.{none_leads}
use Rattle.subsumption.proofs.InLimit.{at_top, at_bottom}

-- ---- the first entry stays

first_stays : (log : List Entry) (t e : Entry) → slice_get log 0 ≡ Some e → slice_get (log ++ t ∷ []) 0 ≡ Some e
first_stays [] t e h = absurd (cc h)
first_stays (x ∷ xs) t e h = h

pub alike_more : (before after : OracleLists) (t : Entry) → after.ontology ≡ before.ontology
    → after.budget ≡ before.budget → after.log ≡ before.log ++ t ∷ [] → AreAlike before after
alike_more before after t ontology budget log = record {
  ontology = ontology;
  budget = budget;
  first = λ e h. subst (λ (es : List Entry). slice_get es 0 ≡ Some e) (sym log) (first_stays before.log t e h);
}

pub alike_still : (before after : OracleLists) → after.ontology ≡ before.ontology → after.budget ≡ before.budget
    → after.log ≡ before.log → AreAlike before after
alike_still before after ontology budget log = record {
  ontology = ontology;
  budget = budget;
  first = λ e h. subst (λ (es : List Entry). slice_get es 0 ≡ Some e) (sym log) h;
}

pub alike_then : (a b c : OracleLists) → AreAlike a b → AreAlike b c → AreAlike a c
alike_then a b c ab bc = record {
  ontology = bc.ontology ∙ ab.ontology;
  budget = bc.budget ∙ ab.budget;
  first = λ e h. bc.first e (ab.first e h);
}

-- ---- what it asks

begins_one : (q : Query) (s : Limited) (steps : ℕ) (e : TestEnd) (before after : List Entry) → before ≡ []
    → after ≡ before ++ Test s q steps e ∷ [] → after ≡ Test s q steps e ∷ []
begins_one q s steps e before after none is = is ∙ ap (λ (es : List Entry). es ++ Test s q steps e ∷ []) none

module _ (before after : OracleLists) (s : Limited) (count x y : ℕ) (r : Result Verdict NoMemory)
    (tested : IfOk r (IsTested before after s (query_at count x y))) where
  pub begins_by : OnErr r (after.log ≡ before.log) → Begins count x y before after
  begins_by unchanged none = by r tested unchanged
    where
      by : (v : Result Verdict NoMemory) → IfOk v (IsTested before after s (query_at count x y))
          → OnErr v (after.log ≡ before.log) → BeginsWith (query_at count x y) after.log
      by (Ok v) t e =
          subst (BeginsWith (query_at count x y))
          (sym (begins_one (query_at count x y) s t.steps t.ended before.log after.log none t.is_log)) refl
      by (Err n) t e = subst (BeginsWith (query_at count x y)) (sym (e ∙ none)) tt

  pub begun_by : OnOk r (HasBegun count x y before after)
  begun_by = by r tested
    where
      by : (v : Result Verdict NoMemory) → IfOk v (IsTested before after s (query_at count x y))
          → OnOk v (HasBegun count x y before after)
      by (Ok v) t =
          λ none. (
            s,
            t.steps,
            t.ended,
            ap (λ (es : List Entry). slice_get es 0)
                (begins_one (query_at count x y) s t.steps t.ended before.log after.log none t.is_log),
          )
      by (Err n) t = tt

pub begins_at : (n m x y : ℕ) (before after : OracleLists) → n ≡ m → Begins n x y before after
    → Begins m x y before after
begins_at n m x y before after e h = subst (λ (k : ℕ). Begins k x y before after) e h

pub begun_at : (n m x y : ℕ) (before after : OracleLists) → n ≡ m → HasBegun n x y before after
    → HasBegun m x y before after
begun_at n m x y before after e h = subst (λ (k : ℕ). HasBegun k x y before after) e h

-- ---- the first question

-- it is whether all things are in the class of none
all_is : (n x y : ℕ) → x ≡ n → y ≡ n + 1 → query_at n x y ≡ all_in_none
all_is n x y ex ey = λ i. record { sub = at_top n x ex i; sup = at_bottom n y ey i; on = Any }

first_asks : (q : Query) (log : List Entry) (s : Limited) (steps : ℕ) (e : TestEnd)
    → slice_get log 0 ≡ Some (Test s q steps e) → BeginsWith q log
first_asks q [] s steps e h = tt
first_asks q (Test t p k f ∷ es) s steps e h = cc
first_asks q (Node t ∷ es) s steps e h = absurd (cc h)

pub begins_all : (n x y : ℕ) (before after : OracleLists) → x ≡ n → y ≡ n + 1 → before.log ≡ []
    → Begins n x y before after → BeginsWith all_in_none after.log
begins_all n x y before after ex ey none h = subst (λ (q : Query). BeginsWith q after.log) (all_is n x y ex ey) (h none)

pub begun_all : (n x y : ℕ) (before after later : OracleLists) → x ≡ n → y ≡ n + 1 → before.log ≡ []
    → HasBegun n x y before after → AreAlike after later → BeginsWith all_in_none later.log
begun_all n x y before after later ex ey none h alike =
    let f = h none in
    subst (λ (q : Query). BeginsWith q later.log) (all_is n x y ex ey)
    (first_asks (query_at n x y) later.log f.0 f.1 f.2 (alike.first (Test f.0 (query_at n x y) f.1 f.2) f.3))

-- nothing settles it at first
pub first_is_open : (l : OracleLists) (p : Progress) → IsGoing l p → l.log ≡ [] → (x y : ℕ) → x ≡ p.known.count
    → y ≡ p.known.count + 1 → is_settled p x y ≡ false
first_is_open l p going none x y ex ey =
    false_from_ne_true (is_settled p x y) (λ h. elim (or_cases (holds p.known x y) (has p.ruled_out x y) h) [
      | inl known ↦
          let n = length l.ontology.classes in
          let m = going.mirrors in
          let tx : x ≡ n = ex ∙ m.count_is in
          let ty : y ≡ n + 1 = omega (arith, ey, m.count_is) in
          let chain : IsChain [] (class_at n x) (class_at n y) =
          subst (λ (es : List Entry). IsChain es (class_at n x) (class_at n y)) none
          ((m.known_is x y (omega (arith, tx)) (omega (arith, ty))).0 known) in
          let plain : IsChain [] top bottom =
          subst (λ (c : Concept). IsChain [] top c) (at_bottom n y ty)
          (subst (λ (c : Concept). IsChain [] c (class_at n y)) (at_top n x tx) chain) in
          elim (none_leads top bottom plain) [
            | inl e ↦ absurd (cc e)
            | inr other ↦ elim other [ inl e ↦ absurd (cc e) | inr e ↦ absurd (cc e) ]
          ]
      | inr out ↦
          let n = length l.ontology.classes in
          let m = going.mirrors in
          let lx : x < n + 2 = omega (arith, ex, m.count_is) in
          let ly : y < n + 2 = omega (arith, ey, m.count_is) in
          let r = (m.ruled_out_is x y lx ly).0 out in
          absurd (omega (arith, r.is_no.1, ap (λ (es : List Entry). length es) none))
    ])

-- a log that has no entries begins with anything
pub begins_none : (q : Query) (log : List Entry) → log ≡ [] → BeginsWith q log
begins_none q log none = subst (BeginsWith q) (sym none) tt
