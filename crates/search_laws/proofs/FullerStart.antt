-- What facts say where the node in question has two concepts from the start, and where it has top alone.
use Rattle.std.proofs.Common.{◌≡◌, ℕ, ◌&&◌, ◌||◌, ◌⊎◌, eqb, cond, Bool, true, false, List, ◌∷◌, refl}
use Rattle.std.proofs.Common.{ap, ◌∙◌, sym, inl, inr, eq-eqb}
use Rattle.std.specs.List.{list_any, list_all}
use Rattle.std.proofs.lemmas.Bool.{eqb-true, or_cases, cases_Bool, and_parts, or_left, ne_eqb}
use Rattle.calculus_specs.specs.declared.facts.Fact.{Fact}
use Rattle.calculus_specs.specs.declared.facts.Fact.TheVariants.{Has}
use Rattle.calculus_specs.specs.Joins.{rep}
use Rattle.calculus_specs.specs.State.{gives_concept, has, has_edge, concepts_at, label}
use Rattle.tableau_specs.specs.Clash.{is_filled_successor, filled_successors}
use Rattle.tableau_specs.proofs.After.{IsAlike, filled_alike}
use Rattle.tableau_specs.proofs.PlainClash.{successor_has_edge}
use Rattle.search_laws.proofs.CounterModelNodes.{any_more}

-- ---- tests

fuller : (z o m p q r : Bool) → (z ≡ false → o ≡ false)
    → (z || ((m && p) || ((m && q) || r))) ≡ ((z || ((m && o) || ((m && o) || r))) || (m && (p || q)))
fuller true o m p q r h = refl
fuller false true m p q r h = absurd (let k = h refl in cc)
fuller false false true true q false h = refl
fuller false false true true q true h = refl
fuller false false true false true false h = refl
fuller false false true false true true h = refl
fuller false false true false false false h = refl
fuller false false true false false true h = refl
fuller false false false p q true h = refl
fuller false false false p q false h = refl

and_last : (a b c d : Bool) → (b ≡ true → c ≡ d) → (a && b && c) ≡ (a && b && d)
and_last true true c d h = h refl
and_last true false c d h = refl
and_last false b c d h = refl

-- ---- the two lists of facts

module _ (at a b : ℕ) (gs : List (Fact ℕ)) where
  abbrev pub bare_facts : List (Fact ℕ)
  bare_facts = Has at 0 ∷ Has at 0 ∷ gs

  abbrev pub full_facts : List (Fact ℕ)
  full_facts = Has at a ∷ Has at b ∷ gs

module _ (first at a b : ℕ) (gs : List (Fact ℕ)) (stays : rep (bare_facts at a b gs) at ≡ at) where
  abbrev bares : List (Fact ℕ)
  bares = bare_facts at a b gs

  abbrev fulls : List (Fact ℕ)
  fulls = full_facts at a b gs

  pub has_full : (x c : ℕ)
      → has fulls x c ≡ (has bares x c || (eqb (rep bares at) (rep bares x) && (eqb a c || eqb b c)))
  has_full x c =
      fuller (eqb c 0) (eqb 0 c) (eqb (rep bares at) (rep bares x)) (eqb a c) (eqb b c)
      (list_any (gives_concept (λ d. eqb d c) (rep bares) (rep bares x)) gs) (zero_out c)
    where
      zero_out : (c : ℕ) → eqb c 0 ≡ false → eqb 0 c ≡ false
      zero_out c h = ne_eqb 0 c (λ e. (let k = eq-eqb c 0 (sym e) in cc))

  pub has_up : (x c : ℕ) → has bares x c ≡ true → has fulls x c ≡ true
  has_up x c h =
      has_full x c ∙ or_left (has bares x c) (eqb (rep bares at) (rep bares x) && (eqb a c || eqb b c)) h

  pub has_cases : (x c : ℕ) → has fulls x c ≡ true
      → (has bares x c ≡ true) ⊎ ((rep bares x ≡ at) × ((a ≡ c) ⊎ (b ≡ c)))
  has_cases x c h =
      elim (or_cases (has bares x c) (eqb (rep bares at) (rep bares x) && (eqb a c || eqb b c))
      (sym (has_full x c) ∙ h)) [
        | inl before ↦ inl before
        | inr now ↦
            let t = and_parts (eqb (rep bares at) (rep bares x)) (eqb a c || eqb b c) now in
            inr (
              sym (eqb-true (rep bares at) (rep bares x) t.0) ∙ stays,
              elim (or_cases (eqb a c) (eqb b c) t.1) [
                | inl one ↦ inl (eqb-true a c one)
                | inr other ↦ inr (eqb-true b c other)
              ],
            )
      ]

  -- another node than the one in question has what it had
  pub has_other : (x c : ℕ) → ¬ (rep bares x ≡ at) → has fulls x c ≡ has bares x c
  has_other x c other = elim (cases_Bool (has bares x c)) [
    | inl held ↦ has_up x c held ∙ sym held
    | inr out ↦ elim (cases_Bool (has fulls x c)) [
      | inr still ↦ still ∙ sym out
      | inl now ↦ elim (has_cases x c now) [ inl before ↦ now ∙ sym before | inr root ↦ absurd (other root.0) ]
    ]
  ]

  pub alike : IsAlike first bares fulls
  alike = record { reps = refl; nodes = refl; edges = λ roles x y. refl; aparts = λ x y. refl }

  -- ---- labels

  pub label_other : (x : ℕ) → ¬ (rep bares x ≡ at) → label fulls x ≡ label bares x
  label_other x other =
      let R : List ℕ = concepts_at (rep bares) (rep bares x) gs in
      let miss : eqb (rep bares at) (rep bares x) ≡ false =
      ne_eqb (rep bares at) (rep bares x) (λ e. other (sym e ∙ stays)) in
      ap (λ (t : Bool). 0 ∷ cond t (a ∷ cond t (b ∷ R) R) (cond t (b ∷ R) R)) miss
      ∙ sym (ap (λ (t : Bool). 0 ∷ cond t (0 ∷ cond t (0 ∷ R) R) (cond t (0 ∷ R) R)) miss)

  -- where some concept of a label passes a test, some of the fuller one passes a test that follows from it
  pub label_up : (p r : ℕ → Bool) → ((c : ℕ) → p c ≡ true → r c ≡ true) → (x : ℕ)
      → list_any p (label bares x) ≡ true → list_any r (label fulls x) ≡ true
  label_up p r imp x h =
      fuller_label (eqb (rep bares at) (rep bares x)) (concepts_at (rep bares) (rep bares x) gs)
      (any_more p r imp (label bares x) h)
    where
      longer : (s t u v : Bool) → (s || (s || (s || v))) ≡ true → (s || (t || (u || v))) ≡ true
      longer true t u v h = refl
      longer false true u v h = refl
      longer false false true v h = refl
      longer false false false v h = h

      fuller_label : (t : Bool) (R : List ℕ)
          → list_any r (0 ∷ cond t (0 ∷ cond t (0 ∷ R) R) (cond t (0 ∷ R) R)) ≡ true
          → list_any r (0 ∷ cond t (a ∷ cond t (b ∷ R) R) (cond t (b ∷ R) R)) ≡ true
      fuller_label true R h = longer (r 0) (r a) (r b) (list_any r R) h
      fuller_label false R h = h

  -- ---- successors

  module _ (ends : (roles : ℕ → Bool) (x y : ℕ) → has_edge bares roles x y ≡ true → ¬ (rep bares y ≡ at)) where
    -- successors are not the node in question
    pub filled_same : (below : ℕ → ℕ → Bool) (x s e : ℕ)
        → filled_successors first below fulls x s e ≡ filled_successors first below bares x s e
    filled_same below x s e =
        filled_alike first bares fulls alike below x s e
        (λ y next. has_other y e (ends (λ t. below t s) x y (successor_has_edge bares (λ t. below t s) x y next)))

    filled_each : (below : ℕ → ℕ → Bool) (x s e y : ℕ)
        → is_filled_successor first below fulls x s e y ≡ is_filled_successor first below bares x s e y
    filled_each below x s e y =
        and_last _ (has_edge bares (λ t. below t s) x y) (has fulls y e) (has bares y e)
        (λ edge. has_other y e (ends (λ t. below t s) x y edge))

    pub run_same : (below : ℕ → ℕ → Bool) (x s e : ℕ) (ys : List ℕ)
        → list_all (is_filled_successor first below fulls x s e) ys
        ≡ list_all (is_filled_successor first below bares x s e) ys
    run_same below x s e ys = λ i. list_all (λ y. filled_each below x s e y i) ys
