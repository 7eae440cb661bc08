-- Chains of a log, and what one test more makes of them.
use Rattle.std.proofs.Common.{◌≡◌, ◌⊎◌, List, [], ◌∷◌, ◌++◌, refl, sym, ap, subst, arith, inl, inr}
use Rattle.std.specs.Prelude.{Contains, ℕ}
use Rattle.std.proofs.lemmas.List.Elements.{Contains-append_left, Contains-push, Contains-push_cases}
use Rattle.axiom_sets.specs.Sets.{Limited}
use Rattle.shq_terms.specs.Concept.{Concept, top, bottom}
use Rattle.shq_terms.specs.declared.axioms.On.TheVariants.{Any}
use Rattle.shq_terms.specs.declared.axioms.Query.{Query}
use Rattle.shq_oracle.specs.Entry.{Entry}
use Rattle.shq_oracle.specs.Entry.TheVariants.{Test}
use Rattle.shq_oracle.specs.TestEnd.TheVariants.{Yes, No}
use Rattle.shq_oracle.specs.HonestLog.{IsStep, IsChain}
use Rattle.shq_oracle.specs.HonestLog.IsStep.{by_test, in_top, of_bottom}
use Rattle.shq_oracle.specs.HonestLog.IsChain.{none, onward}
use Rattle.shq_oracle.specs.Shown.{IsRuledOut}

-- one chain after another
pub then_chain : (log : List Entry) (x y z : Concept) → IsChain log x y → IsChain log y z → IsChain log x z
then_chain log _ _ z (none x) rest = rest
then_chain log _ _ z (onward x v y step chain) rest = onward x v z step (then_chain log v y z chain rest)

pub one_step : (log : List Entry) (x y : Concept) → IsStep log x y → IsChain log x y
one_step log x y step = onward x y y step (none y)

pub to_top : (log : List Entry) (x : Concept) → IsChain log x top
to_top log x = one_step log x top (in_top x)

pub from_bottom : (log : List Entry) (y : Concept) → IsChain log bottom y
from_bottom log y = one_step log bottom y (of_bottom y)

-- ---- no entries

pub none_leads : (x y : Concept) → IsChain [] x y → (x ≡ y) ⊎ ((y ≡ top) ⊎ (x ≡ bottom))
none_leads _ _ (none x) = inl refl
none_leads _ _ (onward x _ y (by_test s q steps u any there) rest) = absurd (omega (arith, there.1))
none_leads _ _ (onward x _ y (in_top _) rest) = elim (none_leads top y rest) [
  | inl e ↦ inr (inl (sym e))
  | inr other ↦ elim other [ inl e ↦ inr (inl e) | inr e ↦ absurd (cc e) ]
]
none_leads _ _ (onward _ z y (of_bottom _) rest) = inr (inr refl)

-- ---- one entry more

module _ (log : List Entry) (e : Entry) where
  step_stays : (x y : Concept) → IsStep log x y → IsStep (log ++ e ∷ []) x y
  step_stays _ _ (by_test s q steps u any there) =
      by_test s q steps u any (Contains-append_left log (e ∷ []) (Test s q steps (Yes u)) there)
  step_stays _ _ (in_top x) = in_top x
  step_stays _ _ (of_bottom y) = of_bottom y

  pub chain_stays : (x y : Concept) → IsChain log x y → IsChain (log ++ e ∷ []) x y
  chain_stays _ _ (none x) = none x
  chain_stays _ _ (onward x y z step rest) = onward x y z (step_stays x y step) (chain_stays y z rest)

  pub ruled_out_stays : (x y : Concept) → IsRuledOut log x y → IsRuledOut (log ++ e ∷ []) x y
  ruled_out_stays x y r = record {
    tested = r.tested;
    query = r.query;
    of_all = r.of_all;
    steps = r.steps;
    is_no = Contains-append_left log (e ∷ []) (Test r.tested r.query r.steps No) r.is_no;
    lower = chain_stays r.query.sub x r.lower;
    upper = chain_stays y r.query.sup r.upper;
  }

-- a test that was no rules out its own query
pub test_rules_out : (log : List Entry) (s : Limited) (q : Query) (steps : ℕ) → q.on ≡ Any
    → Contains log (Test s q steps No) → IsRuledOut log q.sub q.sup
test_rules_out log s q steps any there =
    record { tested = s; query = q; of_all = any; steps = steps; is_no = there; lower = none q.sub; upper = none q.sup }

-- what leads below what is ruled out, and from above it, is ruled out
pub ruled_out_wider : (log : List Entry) (x y a b : Concept) → IsRuledOut log x y → IsChain log x a → IsChain log b y
    → IsRuledOut log a b
ruled_out_wider log x y a b r up down = record {
  tested = r.tested;
  query = r.query;
  of_all = r.of_all;
  steps = r.steps;
  is_no = r.is_no;
  lower = then_chain log r.query.sub x a r.lower up;
  upper = then_chain log b y r.query.sup down r.upper;
}

module _ (log : List Entry) (s : Limited) (q : Query) (steps : ℕ) where
  -- a test that was no leads nowhere
  no_step : (x y : Concept) → IsStep (log ++ Test s q steps No ∷ []) x y → IsStep log x y
  no_step _ _ (by_test s' q' steps' u any there) =
      elim (Contains-push_cases log (Test s q steps No) (Test s' q' steps' (Yes u)) there) [
        | inl before ↦ by_test s' q' steps' u any before
        | inr e ↦ absurd (cc e)
      ]
  no_step _ _ (in_top x) = in_top x
  no_step _ _ (of_bottom y) = of_bottom y

  pub no_chain : (x y : Concept) → IsChain (log ++ Test s q steps No ∷ []) x y → IsChain log x y
  no_chain _ _ (none x) = none x
  no_chain _ _ (onward x y z step rest) = onward x y z (no_step x y step) (no_chain y z rest)

  pub now_ruled_out : (a b : Concept) → q.on ≡ Any → IsChain log q.sub a → IsChain log b q.sup
      → IsRuledOut (log ++ Test s q steps No ∷ []) a b
  now_ruled_out a b any lower upper = record {
    tested = s;
    query = q;
    of_all = any;
    steps = steps;
    is_no = Contains-push log (Test s q steps No);
    lower = chain_stays log (Test s q steps No) q.sub a lower;
    upper = chain_stays log (Test s q steps No) b q.sup upper;
  }

  -- such a test rules out no more than what it is about
  pub ruled_out_by_no : (a b : Concept) → IsRuledOut (log ++ Test s q steps No ∷ []) a b
      → IsRuledOut log a b ⊎ (IsChain log q.sub a × IsChain log b q.sup)
  ruled_out_by_no a b r =
      elim (Contains-push_cases log (Test s q steps No) (Test r.tested r.query r.steps No) r.is_no) [
        | inl before ↦ inl (record {
          tested = r.tested;
          query = r.query;
          of_all = r.of_all;
          steps = r.steps;
          is_no = before;
          lower = no_chain r.query.sub a r.lower;
          upper = no_chain b r.query.sup r.upper;
        })
        | inr e ↦ let same : r.query ≡ q = query_of r.tested r.query r.steps e in
            inr (
              subst (λ (p : Query). IsChain log p.sub a) same (no_chain r.query.sub a r.lower),
              subst (λ (p : Query). IsChain log b p.sup) same (no_chain b r.query.sup r.upper),
            )
      ]
    where
      query_of : (s' : Limited) (q' : Query) (steps' : ℕ) → Test s q steps No ≡ Test s' q' steps' No → q' ≡ q
      query_of s' q' steps' h = cc

  -- one that was yes leads from what is below the one class to what is above the other
  pub yes_leads : (u : Limited) → q.on ≡ Any → IsChain (log ++ Test s q steps (Yes u) ∷ []) q.sub q.sup
  yes_leads u any =
      one_step (log ++ Test s q steps (Yes u) ∷ []) q.sub q.sup
      (by_test s q steps u any (Contains-push log (Test s q steps (Yes u))))

  yes_step : (u : Limited) (x y : Concept) → IsStep (log ++ Test s q steps (Yes u) ∷ []) x y
      → IsStep log x y ⊎ ((x ≡ q.sub) × (y ≡ q.sup))
  yes_step u _ _ (by_test s' q' steps' u' any there) =
      elim (Contains-push_cases log (Test s q steps (Yes u)) (Test s' q' steps' (Yes u')) there) [
        | inl before ↦ inl (by_test s' q' steps' u' any before)
        | inr e ↦ let same : q' ≡ q = cc in inr (ap (λ (p : Query). p.sub) same, ap (λ (p : Query). p.sup) same)
      ]
  yes_step u _ _ (in_top x) = inl (in_top x)
  yes_step u _ _ (of_bottom y) = inl (of_bottom y)

  pub yes_chain : (u : Limited) (x y : Concept) → IsChain (log ++ Test s q steps (Yes u) ∷ []) x y
      → IsChain log x y ⊎ (IsChain log x q.sub × IsChain log q.sup y)
  yes_chain u _ _ (none x) = inl (none x)
  yes_chain u _ _ (onward x z y step rest) = elim (yes_step u x z step) [
    | inl old ↦ elim (yes_chain u z y rest) [
      | inl chain ↦ inl (onward x z y old chain)
      | inr both ↦ inr (onward x z q.sub old both.0, both.1)
    ]
    | inr new ↦ let here : IsChain log x q.sub = subst (λ (c : Concept). IsChain log x c) new.0 (none x) in
        elim (yes_chain u z y rest) [
          | inl chain ↦ inr (here, subst (λ (c : Concept). IsChain log c y) new.1 chain)
          | inr both ↦ inr (here, both.1)
        ]
  ]

  -- What one that was yes rules out was ruled out before, or it was so for what the test leads from, or to, or both. In
  -- the last case the query itself was ruled out.
  pub ruled_out_by_yes : (u : Limited) (a b : Concept) → IsRuledOut (log ++ Test s q steps (Yes u) ∷ []) a b
      → (IsRuledOut log a b ⊎ (IsRuledOut log q.sub b × IsChain log q.sup a)) ⊎
      ((IsRuledOut log a q.sup × IsChain log b q.sub) ⊎ IsRuledOut log q.sub q.sup)
  ruled_out_by_yes u a b r =
      elim (Contains-push_cases log (Test s q steps (Yes u)) (Test r.tested r.query r.steps No) r.is_no) [
        | inl before ↦ elim (yes_chain u r.query.sub a r.lower) [
          | inl below ↦ elim (yes_chain u b r.query.sup r.upper) [
            | inl above ↦ inl (inl (out before below above))
            | inr over ↦ inr (inl (out before below over.1, over.0))
          ]
          | inr under ↦ elim (yes_chain u b r.query.sup r.upper) [
            | inl above ↦ inl (inr (out before under.0 above, under.1))
            | inr over ↦ inr (inr (out before under.0 over.1))
          ]
        ]
        | inr e ↦ absurd (cc e)
      ]
    where
      out : {x y : Concept} → Contains log (Test r.tested r.query r.steps No) → IsChain log r.query.sub x
          → IsChain log y r.query.sup → IsRuledOut log x y
      out {x} {y} there lower upper = record {
        tested = r.tested;
        query = r.query;
        of_all = r.of_all;
        steps = r.steps;
        is_no = there;
        lower = lower;
        upper = upper;
      }
