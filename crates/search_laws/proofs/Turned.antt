-- What facts say where their second one gives the node in question another concept than top.
use Rattle.std.proofs.Common.{◌≡◌, ℕ, ◌<◌, ◌&&◌, ◌||◌, ◌⊎◌, eqb, ltb, cond, Bool, true, false, List, []}
use Rattle.std.proofs.Common.{◌∷◌, refl, ap, ◌∙◌, sym, subst, arith, inl, inr, eq-eqb}
use Rattle.std.specs.List.{list_any, list_all}
use Rattle.std.proofs.lemmas.Bool.{eqb-true, ltb-true, or_cases, cases_Bool, and_parts, or_left}
use Rattle.std.proofs.Math.Bool.{or-false, or_comm}
use Rattle.calculus_specs.specs.declared.facts.Fact.{Fact}
use Rattle.calculus_specs.specs.declared.facts.Fact.TheVariants.{Has, Edge, Apart, Same}
use Rattle.calculus_specs.specs.Joins.{rep}
use Rattle.calculus_specs.specs.State.{gives_concept, has, has_edge, concepts_at, label}
use Rattle.calculus_specs.specs.Reading.{are_listed}
use Rattle.calculus_specs.proofs.State.{eqb-comm}
use Rattle.tableau_specs.specs.Clash.{is_filled_successor, filled_successors}
use Rattle.tableau_specs.proofs.After.{IsAlike, filled_alike}
use Rattle.tableau_specs.proofs.PlainClash.{successor_has_edge}

-- ---- tests

moved : (z t a s m r : Bool) → (z ≡ false → t ≡ false)
    → (z || ((a && s) || ((a && m) || r))) ≡ ((z || ((a && s) || ((a && t) || r))) || (a && m))
moved true t a s m r h = refl
moved false t true true m r h = refl
moved false t false s m r h = sym (or-false r)
moved false t true false m r h = or_comm m r ∙ ap (λ (b : Bool). (b || r) || m) (sym (h refl))

-- the same where the concept at the end is given at another node, and the others give nothing
moved_away : (z a b s t m r : Bool) → (z ≡ false → s ≡ false) → (z ≡ false → t ≡ false)
    → (z || ((a && s) || ((a && m) || r))) ≡ ((z || ((b && s) || ((b && t) || r))) || (a && m))
moved_away true a b s t m r h k = refl
moved_away false a b true t m r h k = absurd (let e = h refl in cc)
moved_away false a b false true m r h k = absurd (let e = k refl in cc)
moved_away false true true false false m r h k = or_comm m r
moved_away false true false false false m r h k = or_comm m r
moved_away false false true false false m r h k = sym (or-false r)
moved_away false false false false false m r h k = sym (or-false r)

-- concepts that a test does not pass change nothing
front : (p : ℕ → Bool) (t : Bool) (u v : ℕ) (cs : List ℕ) → p u ≡ false → p v ≡ false
    → list_any p (cond t (u ∷ cond t (v ∷ cs) cs) (cond t (v ∷ cs) cs)) ≡ list_any p cs
front p true u v cs h g = ap (λ (b : Bool). b || (p v || list_any p cs)) h ∙ ap (λ (b : Bool). b || list_any p cs) g
front p false u v cs h g = refl

and_last : (a b c d : Bool) → (b ≡ true → c ≡ d) → (a && b && c) ≡ (a && b && d)
and_last true true c d h = h refl
and_last true false c d h = refl
and_last false b c d h = refl

-- two tests agree on a list where they agree on its members
all_alike : (p q : ℕ → Bool) (cs : List ℕ) → ((c : ℕ) → list_any (λ d. eqb d c) cs ≡ true → p c ≡ q c)
    → list_all p cs ≡ list_all q cs
all_alike p q [] same = refl
all_alike p q (c ∷ cs) same =
    ap (λ (b : Bool). b && list_all p cs) (same c (or_left (eqb c c) (list_any (λ d. eqb d c) cs) (eq-eqb c c refl)))
    ∙ ap (λ (b : Bool). q c && b) (all_alike p q cs (λ d h. same d (later c d cs h)))
  where
    later : (c d : ℕ) (cs : List ℕ) → list_any (λ e. eqb e d) cs ≡ true → list_any (λ e. eqb e d) (c ∷ cs) ≡ true
    later c d cs h = elim (eqb c d) as (λ b. (b || list_any (λ e. eqb e d) cs) ≡ true) [ true ↦ refl | false ↦ h ]

-- concepts below a bound, on which two tests agree
concepts_alike : (p q : ℕ → Bool) (bound : ℕ) → ((c : ℕ) → c < bound → p c ≡ q c)
    → (m : ℕ → ℕ) (at : ℕ) (fs : List (Fact ℕ)) → are_listed bound fs ≡ true
    → list_any p (concepts_at m at fs) ≡ list_any q (concepts_at m at fs)
concepts_alike p q bound same m at [] h = refl
concepts_alike p q bound same m at (Has y d ∷ fs) h =
    let t = and_parts (ltb d bound) (are_listed bound fs) h in
    let here = same d (ltb-true d bound t.0) in
    let rest = concepts_alike p q bound same m at fs t.1 in
    elim (eqb (m y) at) as
    (λ b. list_any p (cond b (d ∷ concepts_at m at fs) (concepts_at m at fs))
    ≡ list_any q (cond b (d ∷ concepts_at m at fs) (concepts_at m at fs)))
    [ true ↦ (λ i. here i || rest i) | false ↦ rest ]
concepts_alike p q bound same m at (Edge r y z ∷ fs) h = concepts_alike p q bound same m at fs h
concepts_alike p q bound same m at (Apart y z ∷ fs) h = concepts_alike p q bound same m at fs h
concepts_alike p q bound same m at (Same y z ∷ fs) h = concepts_alike p q bound same m at fs h

given_listed : (bound c : ℕ) (m : ℕ → ℕ) (at : ℕ) (fs : List (Fact ℕ)) → are_listed bound fs ≡ true
    → list_any (gives_concept (λ d. eqb d c) m at) fs ≡ true → c < bound
given_listed bound c m at [] h g = cc
given_listed bound c m at (Has y d ∷ fs) h g =
    let t = and_parts (ltb d bound) (are_listed bound fs) h in
    elim (or_cases (eqb (m y) at && eqb d c) (list_any (gives_concept (λ e. eqb e c) m at) fs) g) [
      | inl here ↦ omega (arith, eqb-true d c (and_parts (eqb (m y) at) (eqb d c) here).1, ltb-true d bound t.0)
      | inr later ↦ given_listed bound c m at fs t.1 later
    ]
given_listed bound c m at (Edge r y z ∷ fs) h g = given_listed bound c m at fs h g
given_listed bound c m at (Apart y z ∷ fs) h g = given_listed bound c m at fs h g
given_listed bound c m at (Same y z ∷ fs) h g = given_listed bound c m at fs h g

-- a concept that listed facts give is in the table
pub has_listed : (bound : ℕ) (fs : List (Fact ℕ)) → 0 < bound → are_listed bound fs ≡ true → (x c : ℕ)
    → has fs x c ≡ true → c < bound
has_listed bound fs some h x c held =
    elim (or_cases (eqb c 0) (list_any (gives_concept (λ d. eqb d c) (rep fs) (rep fs x)) fs) held) [
      | inl z ↦ omega (arith, eqb-true c 0 z, some)
      | inr g ↦ given_listed bound c (rep fs) (rep fs x) fs h g
    ]

-- ---- the two lists of facts

-- the start of the second stands at the node `at`, and that of the first there too, or its concepts are top
module _ (home at sub n : ℕ) (gs : List (Fact ℕ)) where
  abbrev pub old_facts : List (Fact ℕ)
  old_facts = Has home sub ∷ Has home 0 ∷ gs

  abbrev pub new_facts : List (Fact ℕ)
  new_facts = Has at sub ∷ Has at n ∷ gs

  -- what stands at the end of edges below a role from a node has the filler by both or by none
  abbrev pub HaveAsBefore : (ℕ → ℕ → Bool) → ℕ → ℕ → ℕ → Type 0
  HaveAsBefore below x s e =
      (y : ℕ) → has_edge old_facts (λ t. below t s) x y ≡ true → ¬ ((rep old_facts y ≡ at) × (n ≡ e))

module _ (first home at sub n : ℕ) (gs : List (Fact ℕ)) (moves : (home ≡ at) ⊎ (sub ≡ 0))
    (stays : rep (old_facts home at sub n gs) at ≡ at) where
  abbrev olds : List (Fact ℕ)
  olds = old_facts home at sub n gs

  abbrev news : List (Fact ℕ)
  news = new_facts home at sub n gs

  has_new : (x c : ℕ) → has news x c ≡ (has olds x c || (eqb (rep olds at) (rep olds x) && eqb n c))
  has_new x c =
      let r : Bool = list_any (gives_concept (λ d. eqb d c) (rep olds) (rep olds x)) gs in
      elim moves [
        | inl same ↦
            subst (λ (h : ℕ). has news x c
            ≡ (has (old_facts h at sub n gs) x c || (eqb (rep olds at) (rep olds x) && eqb n c))) (sym same)
            (moved (eqb c 0) (eqb 0 c) (eqb (rep olds at) (rep olds x)) (eqb sub c) (eqb n c) r
            (λ h. eqb-comm 0 c ∙ h))
        | inr none ↦
            moved_away (eqb c 0) (eqb (rep olds at) (rep olds x)) (eqb (rep olds home) (rep olds x)) (eqb sub c)
            (eqb 0 c) (eqb n c) r (λ h. ap (λ (d : ℕ). eqb d c) none ∙ eqb-comm 0 c ∙ h) (λ h. eqb-comm 0 c ∙ h)
      ]

  pub has_up : (x c : ℕ) → has olds x c ≡ true → has news x c ≡ true
  has_up x c h = has_new x c ∙ or_left (has olds x c) (eqb (rep olds at) (rep olds x) && eqb n c) h

  pub has_cases : (x c : ℕ) → has news x c ≡ true → (has olds x c ≡ true) ⊎ ((rep olds x ≡ at) × (n ≡ c))
  has_cases x c h = elim (or_cases (has olds x c) (eqb (rep olds at) (rep olds x) && eqb n c) (sym (has_new x c) ∙ h)) [
    | inl before ↦ inl before
    | inr now ↦
        let t = and_parts (eqb (rep olds at) (rep olds x)) (eqb n c) now in
        inr (sym (eqb-true (rep olds at) (rep olds x) t.0) ∙ stays, eqb-true n c t.1)
  ]

  -- another node than the one in question, or another concept, is as before
  pub has_other : (x c : ℕ) → ¬ ((rep olds x ≡ at) × (n ≡ c)) → has news x c ≡ has olds x c
  has_other x c other = elim (cases_Bool (has olds x c)) [
    | inl held ↦ has_up x c held ∙ sym held
    | inr out ↦ elim (cases_Bool (has news x c)) [
      | inr still ↦ still ∙ sym out
      | inl now ↦ elim (has_cases x c now) [ inl before ↦ now ∙ sym before | inr root ↦ absurd (other root) ]
    ]
  ]

  pub alike : IsAlike first olds news
  alike = record { reps = refl; nodes = refl; edges = λ roles x y. refl; aparts = λ x y. refl }

  -- ---- names in labels

  pub label_alike : (p q : ℕ → Bool) (bound x : ℕ) → p n ≡ false → q 0 ≡ false → 0 < bound
      → ((c : ℕ) → c < bound → p c ≡ q c) → are_listed bound olds ≡ true
      → list_any p (label news x) ≡ list_any q (label olds x)
  label_alike p q bound x none zero_out some same h =
      let t = and_parts (ltb sub bound) (are_listed bound (Has home 0 ∷ gs)) h in
      let u = and_parts (ltb 0 bound) (are_listed bound gs) t.1 in
      let top = same 0 some in
      let first = same sub (ltb-true sub bound t.0) in
      let rest = concepts_alike p q bound same (rep olds) (rep olds x) gs u.1 in
      let R : List ℕ = concepts_at (rep olds) (rep olds x) gs in
      elim moves [
        | inl is ↦
            subst (λ (k : ℕ). list_any p (label news x) ≡ list_any q (label (old_facts k at sub n gs) x)) (sym is)
            (elim (eqb (rep olds at) (rep olds x)) as
            (λ b. (p 0 || list_any p (cond b (sub ∷ cond b (n ∷ R) R) (cond b (n ∷ R) R)))
            ≡ (q 0 || list_any q (cond b (sub ∷ cond b (0 ∷ R) R) (cond b (0 ∷ R) R)))) [
              | true ↦ (λ i. top i || (first i || ((none ∙ sym zero_out) i || rest i)))
              | false ↦ (λ i. top i || rest i)
            ])
        | inr away ↦
            let sub_out : q sub ≡ false = ap q away ∙ zero_out in
            ap (λ (b : Bool). p 0 || b) (front p (eqb (rep olds at) (rep olds x)) sub n R (first ∙ sub_out) none)
            ∙ (λ i. top i || rest i)
            ∙ sym (ap (λ (b : Bool). q 0 || b)
            (front q (eqb (rep olds home) (rep olds x)) sub 0 R sub_out zero_out))
      ]

  -- ---- successors

  pub filled_same : (below : ℕ → ℕ → Bool) (x s e : ℕ) → HaveAsBefore home at sub n gs below x s e
      → filled_successors first below news x s e ≡ filled_successors first below olds x s e
  filled_same below x s e before =
      filled_alike first olds news alike below x s e
      (λ y next. has_other y e (before y (successor_has_edge olds (λ t. below t s) x y next)))

  filled_each : (below : ℕ → ℕ → Bool) (x s e : ℕ) → HaveAsBefore home at sub n gs below x s e → (y : ℕ)
      → is_filled_successor first below news x s e y ≡ is_filled_successor first below olds x s e y
  filled_each below x s e before y =
      and_last _ (has_edge olds (λ t. below t s) x y) (has news y e) (has olds y e)
      (λ edge. has_other y e (before y edge))

  pub run_same : (below : ℕ → ℕ → Bool) (x s e : ℕ) → HaveAsBefore home at sub n gs below x s e → (ys : List ℕ)
      → list_all (is_filled_successor first below news x s e) ys
      ≡ list_all (is_filled_successor first below olds x s e) ys
  run_same below x s e before ys = λ i. list_all (λ y. filled_each below x s e before y i) ys
