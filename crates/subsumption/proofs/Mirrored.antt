-- What is known and ruled out mirrors the log, from the first question to the last.
use Rattle.std.proofs.Common.{◌≡◌, ◌⊎◌, ℕ, ◌+◌, ◌<◌, ◌&&◌, ◌||◌, true, false, List, [], ◌∷◌, ◌++◌, length, refl, sym}
use Rattle.std.proofs.Common.{subst, ◌∙◌, arith, inl, inr, eq-eqb}
use Rattle.std.specs.Prelude.{◌==◌}
use Rattle.std.proofs.lemmas.Bool.{and_parts, and_from, or_cases, or_left, or_right, eqb-true}
use Rattle.axiom_sets.specs.Sets.{Limited}
use Rattle.shq_terms.specs.Concept.{Concept}
use Rattle.shq_terms.specs.Listed.{Listed}
use Rattle.shq_terms.specs.declared.axioms.Query.{Query}
use Rattle.shq_oracle.specs.Entry.{Entry}
use Rattle.shq_oracle.specs.Entry.TheVariants.{Test}
use Rattle.shq_oracle.specs.TestEnd.TheVariants.{Yes, No}
use Rattle.shq_oracle.specs.HonestLog.{IsChain}
use Rattle.shq_oracle.specs.HonestLog.IsChain.{none}
use Rattle.shq_oracle.specs.Shown.{IsRuledOut}
use Rattle.subsumption.specs.Matrices.{Matrix, has, IsMatrix, Adds}
use Rattle.subsumption.specs.Rows.{Rows, holds, is_bounded, IsAtFirst, Relates}
use Rattle.subsumption.specs.Subsumption.{class_at, query_at}
use Rattle.subsumption.specs.Mirrors.{Mirrors, passed_up, passed_on}
use Rattle.subsumption.proofs.Chains.{then_chain, to_top, from_bottom, none_leads, chain_stays, ruled_out_stays}
use Rattle.subsumption.proofs.Chains.{ruled_out_wider, no_chain, now_ruled_out, ruled_out_by_no, yes_leads, yes_chain}
use Rattle.subsumption.proofs.Chains.{ruled_out_by_yes}
use Rattle.subsumption.proofs.InLimit.{at_top, at_bottom, same_number, number_of_top, number_of_bottom}

-- ---- at first

module _ (o : Listed) (known : Rows) (ruled_out : Matrix) (first : IsAtFirst (length o.classes) known)
    (blank : IsMatrix (length o.classes + 2) (λ x y. false) ruled_out) where
  bounded_chain : (x y : ℕ) → x < length o.classes + 2 → y < length o.classes + 2
      → is_bounded (length o.classes) (length o.classes + 1) x y ≡ true
      → IsChain [] (class_at (length o.classes) x) (class_at (length o.classes) y)
  bounded_chain x y lx ly h =
      let n = length o.classes in
      elim (or_cases (x == y || y == n) (x == n + 1) h) [
        | inr e ↦
            subst (λ (c : Concept). IsChain [] c (class_at n y)) (sym (at_bottom n x (eqb-true x (n + 1) e)))
            (from_bottom [] (class_at n y))
        | inl h' ↦ elim (or_cases (x == y) (y == n) h') [
          | inl e ↦ subst (λ (z : ℕ). IsChain [] (class_at n x) (class_at n z)) (eqb-true x y e) (none (class_at n x))
          | inr e ↦
              subst (λ (c : Concept). IsChain [] (class_at n x) c) (sym (at_top n y (eqb-true y n e)))
              (to_top [] (class_at n x))
        ]
      ]

  chain_bounded : (x y : ℕ) → x < length o.classes + 2 → y < length o.classes + 2
      → IsChain [] (class_at (length o.classes) x) (class_at (length o.classes) y)
      → is_bounded (length o.classes) (length o.classes + 1) x y ≡ true
  chain_bounded x y lx ly chain =
      let n = length o.classes in
      elim (none_leads (class_at n x) (class_at n y) chain) [
        | inl e ↦
            or_left (x == y || y == n) (x == n + 1) (or_left (x == y) (y == n) (eq-eqb x y (same_number n x y lx ly e)))
        | inr other ↦ elim other [
          | inl e ↦
              or_left (x == y || y == n) (x == n + 1) (or_right (x == y) (y == n) (eq-eqb y n (number_of_top n y ly e)))
          | inr e ↦ or_right (x == y || y == n) (x == n + 1) (eq-eqb x (n + 1) (number_of_bottom n x lx e))
        ]
      ]

  pub mirrors_none : Mirrors o [] known ruled_out
  mirrors_none = record {
    count_is = first.count_is;
    size_is = blank.size_is;
    known_is =
        λ x y lx ly. (
          λ h. bounded_chain x y lx ly (sym (first.pairs x y lx ly) ∙ h),
          λ chain. first.pairs x y lx ly ∙ chain_bounded x y lx ly chain,
        );
    ruled_out_is =
        λ x y lx ly. (
          λ h. (let k : has ruled_out x y ≡ false = blank.pairs x y lx ly in absurd (cc (k, h))),
          λ r. absurd (omega (arith, r.is_no.1)),
        );
  }

-- ---- one test more

module _ (o : Listed) (log : List Entry) (known : Rows) (ruled_out : Matrix) (m : Mirrors o log known ruled_out)
    (x y : ℕ) (lx : x < length o.classes + 2) (ly : y < length o.classes + 2)
    (s : Limited) (steps : ℕ) where
  abbrev c : ℕ → Concept
  c a = class_at (length o.classes) a

  abbrev q : Query
  q = query_at (length o.classes) x y

  -- that found that x is no part of y
  module _ (ruled_out' : Matrix) (adds : Adds (λ a b. holds known x a && holds known b y) ruled_out ruled_out') where
    pairs_no : (a b : ℕ) → a < length o.classes + 2 → b < length o.classes + 2
        → has ruled_out' a b ≡ (has ruled_out a b || (holds known x a && holds known b y))
    pairs_no a b la lb = adds.pairs a b (omega (arith, la, m.size_is)) (omega (arith, lb, m.size_is))

    excludes_no : (a b : ℕ) → a < length o.classes + 2 → b < length o.classes + 2 → has ruled_out' a b ≡ true
        → IsRuledOut (log ++ Test s q steps No ∷ []) (c a) (c b)
    excludes_no a b la lb h =
        elim (or_cases (has ruled_out a b) (holds known x a && holds known b y) (sym (pairs_no a b la lb) ∙ h)) [
          | inl old ↦ ruled_out_stays log (Test s q steps No) (c a) (c b) ((m.ruled_out_is a b la lb).0 old)
          | inr new ↦ let both = and_parts (holds known x a) (holds known b y) new in
              now_ruled_out log s q steps (c a) (c b) refl ((m.known_is x a lx la).0 both.0)
              ((m.known_is b y lb ly).0 both.1)
        ]

    excluded_no : (a b : ℕ) → a < length o.classes + 2 → b < length o.classes + 2
        → IsRuledOut (log ++ Test s q steps No ∷ []) (c a) (c b) → has ruled_out' a b ≡ true
    excluded_no a b la lb r = pairs_no a b la lb
        ∙ elim (ruled_out_by_no log s q steps (c a) (c b) r) [
          | inl old ↦
              or_left (has ruled_out a b) (holds known x a && holds known b y) ((m.ruled_out_is a b la lb).1 old)
          | inr new ↦
              or_right (has ruled_out a b) (holds known x a && holds known b y)
              (and_from (holds known x a) (holds known b y) ((m.known_is x a lx la).1 new.0)
              ((m.known_is b y lb ly).1 new.1))
        ]

    pub mirrors_no : Mirrors o (log ++ Test s q steps No ∷ []) known ruled_out'
    mirrors_no = record {
      count_is = m.count_is;
      size_is = adds.size_is ∙ m.size_is;
      known_is = λ a b la lb. (
        λ h. chain_stays log (Test s q steps No) (c a) (c b) ((m.known_is a b la lb).0 h),
        λ chain. (m.known_is a b la lb).1 (no_chain log s q steps (c a) (c b) chain),
      );
      ruled_out_is = λ a b la lb. (excludes_no a b la lb, excluded_no a b la lb);
    }

  -- or that it is, which was not ruled out
  module _ (open_yet : has ruled_out x y ≡ false) (u : Limited) (known' : Rows) (ruled_out' : Matrix)
      (relates : Relates x y known known')
      (passes : IsMatrix (known.count + 2) (passed_on known' x y ruled_out) ruled_out') where
    abbrev more : List Entry
    more = log ++ Test s q steps (Yes u) ∷ []

    across : IsChain more (c x) (c y)
    across = yes_leads log s q steps u refl

    pairs_yes : (a b : ℕ) → a < length o.classes + 2 → b < length o.classes + 2
        → has ruled_out' a b ≡ passed_on known' x y ruled_out a b
    pairs_yes a b la lb = passes.pairs a b (omega (arith, la, m.count_is)) (omega (arith, lb, m.count_is))

    now : (a b : ℕ) → a < length o.classes + 2 → b < length o.classes + 2
        → holds known' a b ≡ (holds known a b || (holds known a x && holds known y b))
    now a b la lb = relates.pairs a b (omega (arith, la, m.count_is)) (omega (arith, lb, m.count_is))

    stays : (a b : ℕ) → a < length o.classes + 2 → b < length o.classes + 2 → holds known a b ≡ true
        → IsChain more (c a) (c b)
    stays a b la lb h = chain_stays log (Test s q steps (Yes u)) (c a) (c b) ((m.known_is a b la lb).0 h)

    leads : (a b : ℕ) → a < length o.classes + 2 → b < length o.classes + 2 → holds known' a b ≡ true
        → IsChain more (c a) (c b)
    leads a b la lb h =
        elim (or_cases (holds known a b) (holds known a x && holds known y b) (sym (now a b la lb) ∙ h)) [
          | inl old ↦ stays a b la lb old
          | inr new ↦ let both = and_parts (holds known a x) (holds known y b) new in
              then_chain more (c a) (c x) (c b) (stays a x la lx both.0)
              (then_chain more (c x) (c y) (c b) across (stays y b ly lb both.1))
        ]

    led : (a b : ℕ) → a < length o.classes + 2 → b < length o.classes + 2 → IsChain more (c a) (c b)
        → holds known' a b ≡ true
    led a b la lb chain = now a b la lb
        ∙ elim (yes_chain log s q steps u (c a) (c b) chain) [
          | inl old ↦ or_left (holds known a b) (holds known a x && holds known y b) ((m.known_is a b la lb).1 old)
          | inr both ↦
              or_right (holds known a b) (holds known a x && holds known y b)
              (and_from (holds known a x) (holds known y b) ((m.known_is a x la lx).1 both.0)
              ((m.known_is y b ly lb).1 both.1))
        ]

    led_before : (a b : ℕ) → a < length o.classes + 2 → b < length o.classes + 2 → IsChain log (c a) (c b)
        → holds known' a b ≡ true
    led_before a b la lb chain = led a b la lb (chain_stays log (Test s q steps (Yes u)) (c a) (c b) chain)

    up : (a b : ℕ) → a < length o.classes + 2 → b < length o.classes + 2 → passed_up known' x y ruled_out a b ≡ true
        → IsRuledOut more (c a) (c b)
    up a b la lb h = elim (or_cases (has ruled_out a b) (holds known' y a && has ruled_out x b) h) [
      | inl old ↦ ruled_out_stays log (Test s q steps (Yes u)) (c a) (c b) ((m.ruled_out_is a b la lb).0 old)
      | inr new ↦ let both = and_parts (holds known' y a) (has ruled_out x b) new in
          ruled_out_wider more (c x) (c b) (c a) (c b)
          (ruled_out_stays log (Test s q steps (Yes u)) (c x) (c b) ((m.ruled_out_is x b lx lb).0 both.1))
          (then_chain more (c x) (c y) (c a) across (leads y a ly la both.0)) (none (c b))
    ]

    excludes_yes : (a b : ℕ) → a < length o.classes + 2 → b < length o.classes + 2 → has ruled_out' a b ≡ true
        → IsRuledOut more (c a) (c b)
    excludes_yes a b la lb h =
        elim (or_cases (passed_up known' x y ruled_out a b) (passed_up known' x y ruled_out a y && holds known' b x)
        (sym (pairs_yes a b la lb) ∙ h)) [
          | inl first ↦ up a b la lb first
          | inr new ↦ let both = and_parts (passed_up known' x y ruled_out a y) (holds known' b x) new in
              ruled_out_wider more (c a) (c y) (c a) (c b) (up a y la ly both.0) (none (c a))
              (then_chain more (c b) (c x) (c y) (leads b x lb lx both.1) across)
        ]

    -- what stands since before, or for a class above y
    upward : (a b : ℕ) → a < length o.classes + 2 → b < length o.classes + 2
        → IsRuledOut log (c a) (c b) ⊎ (IsRuledOut log (c x) (c b) × IsChain log (c y) (c a))
        → passed_up known' x y ruled_out a b ≡ true
    upward a b la lb (inl old) =
        or_left (has ruled_out a b) (holds known' y a && has ruled_out x b) ((m.ruled_out_is a b la lb).1 old)
    upward a b la lb (inr new) = or_right (has ruled_out a b) (holds known' y a && has ruled_out x b)
        (and_from (holds known' y a) (has ruled_out x b) (led_before y a ly la new.1)
        ((m.ruled_out_is x b lx lb).1 new.0))

    excluded_yes : (a b : ℕ) → a < length o.classes + 2 → b < length o.classes + 2 → IsRuledOut more (c a) (c b)
        → has ruled_out' a b ≡ true
    excluded_yes a b la lb r = pairs_yes a b la lb
        ∙ elim (ruled_out_by_yes log s q steps u (c a) (c b) r) [
          | inl first ↦
              or_left (passed_up known' x y ruled_out a b) (passed_up known' x y ruled_out a y && holds known' b x)
              (upward a b la lb first)
          | inr other ↦ elim other [
            | inl new ↦
                or_right (passed_up known' x y ruled_out a b) (passed_up known' x y ruled_out a y && holds known' b x)
                (and_from (passed_up known' x y ruled_out a y) (holds known' b x) (upward a y la ly (inl new.0))
                (led_before b x lb lx new.1))
            | inr against ↦
                let k : has ruled_out x y ≡ true = (m.ruled_out_is x y lx ly).1 against in absurd (cc (k, open_yet))
          ]
        ]

    pub mirrors_yes : Mirrors o (log ++ Test s q steps (Yes u) ∷ []) known' ruled_out'
    mirrors_yes = record {
      count_is = relates.count_is ∙ m.count_is;
      size_is = omega (arith, passes.size_is, m.count_is);
      known_is = λ a b la lb. (leads a b la lb, led a b la lb);
      ruled_out_is = λ a b la lb. (excludes_yes a b la lb, excluded_yes a b la lb);
    }
