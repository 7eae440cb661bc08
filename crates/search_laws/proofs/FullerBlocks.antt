-- Blocks where the node in question has two concepts from the start: only nodes with a label inside it have others.
use Rattle.std.proofs.Common.{◌≡◌, ℕ, zero, suc, ◌+◌, ◌<◌, ◌≤◌, ◌&&◌, ◌||◌, ◌⊎◌, eqb, ltb, cond, Bool, true, false}
use Rattle.std.proofs.Common.{List, ◌∷◌, Option, Some, None, refl, ap, ◌∙◌, sym, subst, arith, inl, inr}
use Rattle.std.proofs.Common.{eq-eqb, lt-ltb}
use Rattle.std.specs.Prelude.{slice_index_or}
use Rattle.std.specs.List.{list_all}
use Rattle.std.proofs.lemmas.Bool.{eqb-true, cases_Bool, cases_lt, or_left, or_right}
use Rattle.std.proofs.lemmas.Bool.{false_from_ne_true}
use Rattle.calculus_specs.specs.declared.facts.Fact.{Fact}
use Rattle.calculus_specs.specs.Joins.{rep}
use Rattle.calculus_specs.specs.State.{parent_from, has, concepts_at, label, is_label_part, HaveParentsBefore}
use Rattle.calculus_specs.proofs.State.{any-label}
use Rattle.calculus_specs.proofs.Joined.{rep-le}
use Rattle.tableau_specs.specs.declared.Block.TheVariants.{Clear, By, Under}
use Rattle.tableau_specs.specs.Blocked.{is_clear, is_parent_clear, may_block, blocked_from, blocks_to}
use Rattle.tableau_specs.specs.Blocked.{block_of}
use Rattle.tableau_specs.proofs.Blocks.{get_or-blocks_to}
use Rattle.search_laws.specs.BeginningLaws.{is_inside, ParentsHaveMore}
use Rattle.search_laws.proofs.First.{rep-rep}
use Rattle.search_laws.proofs.LabelParts.{all_from, one_of, part_each}
use Rattle.search_laws.proofs.FullerStart.{bare_facts, full_facts, has_cases, has_other, label_other}

-- ---- labels inside the start

abbrev pub is_of_start : ℕ → ℕ → ℕ → Bool
is_of_start a b c = eqb c 0 || eqb c a || eqb c b

pub inside_each : (a b : ℕ) (fs : List (Fact ℕ)) (x c : ℕ) → is_inside a b fs x ≡ true → has fs x c ≡ true
    → is_of_start a b c ≡ true
inside_each a b fs x c h held = one_of (is_of_start a b) (label fs x) c h (any-label fs x c ∙ held)

pub inside_from : (a b : ℕ) (fs : List (Fact ℕ)) (x : ℕ)
    → ((c : ℕ) → has fs x c ≡ true → is_of_start a b c ≡ true) → is_inside a b fs x ≡ true
inside_from a b fs x each = all_from (is_of_start a b) (label fs x) (λ c m. each c (sym (any-label fs x c) ∙ m))

-- whose label is part of one inside the start has one inside it
inside_down : (a b : ℕ) (fs : List (Fact ℕ)) (x z : ℕ) → is_label_part fs x z ≡ true → is_inside a b fs z ≡ true
    → is_inside a b fs x ≡ true
inside_down a b fs x z part h =
    inside_from a b fs x (λ c held. inside_each a b fs z c h (part_each fs x z c part held))

inside_rep : (a b : ℕ) (fs : List (Fact ℕ)) (x : ℕ) → is_inside a b fs (rep fs x) ≡ is_inside a b fs x
inside_rep a b fs x =
    ap (λ (r : ℕ). list_all (is_of_start a b) (0 ∷ concepts_at (rep fs) r fs)) (rep-rep fs x)

-- ---- blocks

module _ (first at a b : ℕ) (gs : List (Fact ℕ)) (stays : rep (bare_facts at a b gs) at ≡ at) (is_first : at < first)
    (alone : (x : ℕ) → rep (bare_facts at a b gs) x ≡ at → x ≡ at)
    (only_top : (c : ℕ) → has (bare_facts at a b gs) at c ≡ true → c ≡ 0)
    (before : HaveParentsBefore first (bare_facts at a b gs))
    (more : ParentsHaveMore first a b (bare_facts at a b gs)) where
  abbrev bares : List (Fact ℕ)
  bares = bare_facts at a b gs

  abbrev fulls : List (Fact ℕ)
  fulls = full_facts at a b gs

  -- by either list, the node in question has nothing but the start
  at_full : (c : ℕ) → has fulls at c ≡ true → is_of_start a b c ≡ true
  at_full c h = elim (has_cases first at a b gs stays at c h) [
    | inl held ↦
        or_left (eqb c 0 || eqb c a) (eqb c b) (or_left (eqb c 0) (eqb c a) (eq-eqb c 0 (only_top c held)))
    | inr root ↦ elim root.1 [
      | inl one ↦
          or_left (eqb c 0 || eqb c a) (eqb c b) (or_right (eqb c 0) (eqb c a) (eq-eqb c a (sym one)))
      | inr other ↦ or_right (eqb c 0 || eqb c a) (eqb c b) (eq-eqb c b (sym other))
    ]
  ]

  -- and so has each node whose label is part of its label
  outside_at : (x : ℕ) → ¬ (rep bares x ≡ at) → is_inside a b bares x ≡ false → is_label_part fulls x at ≡ false
  outside_at x other out = false_from_ne_true (is_label_part fulls x at) (λ part.
      let k : is_inside a b bares x ≡ true =
      inside_from a b bares x
      (λ c held. at_full c (part_each fulls x at c part (has_other first at a b gs stays x c other ∙ held))) in
      cc)

  outside_bare : (x : ℕ) → is_inside a b bares x ≡ false → is_label_part bares x at ≡ false
  outside_bare x out = false_from_ne_true (is_label_part bares x at) (λ part.
      let k : is_inside a b bares x ≡ true =
      inside_from a b bares x
      (λ c held. or_left (eqb c 0 || eqb c a) (eqb c b)
      (or_left (eqb c 0) (eqb c a) (eq-eqb c 0 (only_top c (part_each bares x at c part held))))) in
      cc)

  part_other : (x z : ℕ) → ¬ (rep bares x ≡ at) → ¬ (rep bares z ≡ at)
      → is_label_part fulls x z ≡ is_label_part bares x z
  part_other x z xo zo =
      ap (list_all (has fulls z)) (label_other first at a b gs stays x xo)
      ∙ (λ i. list_all (λ c. has_other first at a b gs stays z c zo i) (label bares x))

  -- what is to be shown of the nodes below n
  abbrev AreSame : ℕ → Type 0
  AreSame n = (x : ℕ) → x < n → (x < first) ⊎ (is_inside a b bares x ≡ false)
      → block_of first fulls x ≡ block_of first bares x

  not_at : (x : ℕ) → first ≤ x → ¬ (rep bares x ≡ at)
  not_at x le e = absurd (omega (arith, alone x e, is_first, le))

  module _ (n : ℕ) (same : AreSame n) (high : first ≤ n) (out : is_inside a b bares n ≡ false) where
    below_same : (z : ℕ) → z < n → (z < first) ⊎ (is_inside a b bares z ≡ false)
        → slice_index_or (blocks_to first fulls n) z Under ≡ slice_index_or (blocks_to first bares n) z Under
    below_same z lt h =
        get_or-blocks_to first fulls n z lt ∙ same z lt h ∙ sym (get_or-blocks_to first bares n z lt)

    up_same : (o : Option ℕ) → parent_from first bares n ≡ o
        → is_parent_clear fulls (blocks_to first fulls n) o ≡ is_parent_clear bares (blocks_to first bares n) o
    up_same None e = refl
    up_same (Some p) e =
        ap is_clear (below_same (rep bares p) (omega (arith, before n p e, rep-le bares p)) (outside_up p e))
      where
        outside_up : (p : ℕ) → parent_from first bares n ≡ Some p
            → (rep bares p < first) ⊎ (is_inside a b bares (rep bares p) ≡ false)
        outside_up p e = elim (cases_lt (rep bares p) first) [
          | inl low ↦ inl low
          | inr above ↦ inr (inside_rep a b bares p ∙ more n p e (omega (arith, above)))
        ]

    may_same : (z : ℕ) → z < n
        → may_block fulls (blocks_to first fulls n) n z ≡ may_block bares (blocks_to first bares n) n z
    may_same z lt = elim (cases_Bool (eqb (rep bares z) z)) [
      | inr miss ↦
          ap (λ (t : Bool). t && is_clear (slice_index_or (blocks_to first fulls n) z Under) && is_label_part fulls n z)
          miss
          ∙ sym (ap (λ (t : Bool). t && is_clear (slice_index_or (blocks_to first bares n) z Under)
          && is_label_part bares n z) miss)
      | inl is ↦ elim (cases_Bool (is_label_part bares n z)) [
        | inr apart ↦
            let left : is_label_part fulls n z ≡ false = no_part z apart in
            none (eqb (rep bares z) z) (is_clear (slice_index_or (blocks_to first fulls n) z Under))
            (is_label_part fulls n z) left
            ∙ sym (none (eqb (rep bares z) z) (is_clear (slice_index_or (blocks_to first bares n) z Under))
            (is_label_part bares n z) apart)
        | inl part ↦
            let ne : ¬ (rep bares z ≡ at) =
            λ e. (let k = outside_bare n out in
            let l = subst (λ (y : ℕ). is_label_part bares n y ≡ true) (alone z e) part in cc) in
            let outside : is_inside a b bares z ≡ false =
            false_from_ne_true (is_inside a b bares z)
            (λ h. (let k = inside_down a b bares n z part h in cc)) in
            let blocks = below_same z lt (inr outside) in
            let parts = part_other n z (not_at n high) ne in
            λ i. eqb (rep bares z) z && is_clear (blocks i) && parts i
      ]
    ]
      where
        none : (p q r : Bool) → r ≡ false → (p && q && r) ≡ false
        none true true r h = h
        none true false r h = refl
        none false q r h = refl

        no_part : (z : ℕ) → is_label_part bares n z ≡ false → is_label_part fulls n z ≡ false
        no_part z apart = elim (cases_Bool (eqb (rep bares z) at)) [
          | inl root ↦
              subst (λ (y : ℕ). is_label_part fulls n y ≡ false) (sym (alone z (eqb-true (rep bares z) at root)))
              (outside_at n (not_at n high) out)
          | inr other ↦
              part_other n z (not_at n high) (λ e. (let k = eq-eqb (rep bares z) at e in cc)) ∙ apart
        ]

    from_same : (z k : ℕ) → z + k ≤ n
        → blocked_from fulls (blocks_to first fulls n) n z k ≡ blocked_from bares (blocks_to first bares n) n z k
    from_same z zero le = refl
    from_same z (suc k) le =
        let here = may_same z (omega arith) in
        let rest = from_same (z + 1) k (omega arith) in
        λ i. cond (here i) (By z) (rest i)

    here_same : block_of first fulls n ≡ block_of first bares n
    here_same =
        let up = up_same (parent_from first bares n) refl in
        let below = from_same 0 n (omega arith) in
        λ i. cond (ltb n first) Clear (cond (up i) (below i) Under)

  first_clear : (fs : List (Fact ℕ)) (x : ℕ) → x < first → block_of first fs x ≡ Clear
  first_clear fs x lt =
      ap (λ (t : Bool). cond t Clear (cond (is_parent_clear fs (blocks_to first fs x) (parent_from first fs x))
      (blocked_from fs (blocks_to first fs x) x 0 x) Under)) (lt-ltb x first lt)

  one_same : (n : ℕ) → AreSame n → (n < first) ⊎ (is_inside a b bares n ≡ false)
      → block_of first fulls n ≡ block_of first bares n
  one_same n same (inl low) = first_clear fulls n low ∙ sym (first_clear bares n low)
  one_same n same (inr out) = elim (cases_lt n first) [
    | inl low ↦ first_clear fulls n low ∙ sym (first_clear bares n low)
    | inr high ↦ here_same n same (omega (arith, high)) out
  ]

  all_same : (n : ℕ) → AreSame n
  all_same zero x lt h = absurd (omega (arith, lt))
  all_same (suc n) x lt h = elim (cases_lt x n) [
    | inl low ↦ all_same n x low h
    | inr last ↦
        let e : x ≡ n = omega (arith, lt, last) in
        subst (λ (y : ℕ). block_of first fulls y ≡ block_of first bares y) (sym e)
        (one_same n (all_same n)
        (subst (λ (y : ℕ). (y < first) ⊎ (is_inside a b bares y ≡ false)) e h))
  ]

  pub block_same : (x : ℕ) → (x < first) ⊎ (is_inside a b bares x ≡ false)
      → block_of first fulls x ≡ block_of first bares x
  block_same x h = all_same (suc x) x (omega arith) h
