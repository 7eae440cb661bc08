-- Blocks where the node in question has another concept from the start: each other node that has it has a concept that
-- the node in question does not have, and is not blocked by it.
use Rattle.std.proofs.Common.{◌≡◌, ℕ, zero, suc, ◌+◌, ◌<◌, ◌≤◌, ◌&&◌, ◌⊎◌, eqb, ltb, cond, Bool, true, false, List}
use Rattle.std.proofs.Common.{Option, Some, None, refl, ap, ◌∙◌, sym, subst, arith, inl, inr}
use Rattle.std.specs.Prelude.{slice_index_or}
use Rattle.std.proofs.lemmas.List.{get_or_past}
use Rattle.std.proofs.lemmas.Bool.{cases_Bool, cases_lt, eqb-true, lt-ltb}
use Rattle.calculus_specs.specs.declared.facts.Fact.{Fact}
use Rattle.calculus_specs.specs.Joins.{rep}
use Rattle.calculus_specs.specs.State.{parent_from, has, is_label_part}
use Rattle.tableau_specs.specs.declared.Block.TheVariants.{Clear, By, Under}
use Rattle.tableau_specs.specs.Blocked.{is_clear, is_parent_clear, may_block, blocked_from, blocks_to, block_of}
use Rattle.tableau_specs.proofs.Blocks.{length-blocks_to, get_or-blocks_to}
use Rattle.search_laws.proofs.First.{rep-rep}
use Rattle.search_laws.proofs.LabelParts.{part_each, part_from}
use Rattle.search_laws.proofs.Turned.{old_facts, new_facts, has_up, has_cases, has_other}

-- a node has a concept besides n that the node `at` does not have
pub record HasBesides (at n : ℕ) (fs : List (Fact ℕ)) (x : ℕ) : Type 0 where
  pub concept : ℕ
  pub holds : has fs x concept ≡ true
  pub is_not_there : has fs at concept ≡ false
  pub is_another : ¬ (n ≡ concept)

-- each node that may be blocked and has n has another concept besides
abbrev pub HaveBesides : ℕ → ℕ → ℕ → List (Fact ℕ) → Type 0
HaveBesides first at n fs =
    (x : ℕ) → first ≤ x → rep fs x ≡ x → has fs x n ≡ true → HasBesides at n fs x

same_if : (s t : Bool) → (s ≡ true → t ≡ true) → (t ≡ true → s ≡ true) → s ≡ t
same_if true t f g = sym (f refl)
same_if false true f g = g refl
same_if false false f g = refl

module _ (first home at sub n : ℕ) (gs : List (Fact ℕ)) (moves : (home ≡ at) ⊎ (sub ≡ 0))
    (stays : rep (old_facts home at sub n gs) at ≡ at) (is_first : at < first)
    (alone : (x : ℕ) → rep (old_facts home at sub n gs) x ≡ at → x ≡ at)
    (besides : HaveBesides first at n (old_facts home at sub n gs)) where
  abbrev olds : List (Fact ℕ)
  olds = old_facts home at sub n gs

  abbrev news : List (Fact ℕ)
  news = new_facts home at sub n gs

  -- ---- labels

  part_same : (x z : ℕ) → first ≤ x → rep olds x ≡ x → is_label_part news x z ≡ is_label_part olds x z
  part_same x z high is_rep =
      let other : (c : ℕ) → has news x c ≡ has olds x c =
      λ c. has_other first home at sub n gs moves stays x c
      (λ root. absurd (omega (arith, root.0, is_rep, high, is_first))) in
      same_if (is_label_part news x z) (is_label_part olds x z)
      (λ h. part_from olds x z (λ c held.
      elim (has_cases first home at sub n gs moves stays z c (part_each news x z c h (other c ∙ held))) [
        | inl before ↦ before
        | inr root ↦
            let own = besides x high is_rep (subst (λ (d : ℕ). has olds x d ≡ true) (sym root.1) held) in
            absurd (no_part own (part_each news x z own.concept h (other own.concept ∙ own.holds)) (alone z root.0))
      ]))
      (λ h. part_from news x z (λ c held.
      has_up first home at sub n gs moves stays z c (part_each olds x z c h (sym (other c) ∙ held))))
    where
      no_part : (own : HasBesides at n olds x) → has news z own.concept ≡ true → ¬ (z ≡ at)
      no_part own held there = elim (has_cases first home at sub n gs moves stays z own.concept held) [
        | inl before ↦
            (let k = own.is_not_there in
            let l = subst (λ (y : ℕ). has olds y own.concept ≡ true) there before in
            cc)
        | inr root ↦ own.is_another root.1
      ]

  -- ---- blocks

  -- what is to be shown of the representatives below k
  abbrev AreSame : ℕ → Type 0
  AreSame k = (x : ℕ) → x < k → rep olds x ≡ x → block_of first news x ≡ block_of first olds x

  module _ (k : ℕ) (same : AreSame k) (high : first ≤ k) (is_rep : rep olds k ≡ k) where
    below_same : (z : ℕ) → rep olds z ≡ z
        → slice_index_or (blocks_to first news k) z Under ≡ slice_index_or (blocks_to first olds k) z Under
    below_same z itself = elim (cases_lt z k) [
      | inl lt ↦
          get_or-blocks_to first news k z lt ∙ same z lt itself ∙ sym (get_or-blocks_to first olds k z lt)
      | inr past ↦
          get_or_past (blocks_to first news k) z Under (omega (arith, past, length-blocks_to first news k))
          ∙ sym (get_or_past (blocks_to first olds k) z Under (omega (arith, past, length-blocks_to first olds k)))
    ]

    up_same : (o : Option ℕ)
        → is_parent_clear news (blocks_to first news k) o ≡ is_parent_clear olds (blocks_to first olds k) o
    up_same None = refl
    up_same (Some p) = ap is_clear (below_same (rep olds p) (rep-rep olds p))

    may_same : (z : ℕ) → may_block news (blocks_to first news k) k z ≡ may_block olds (blocks_to first olds k) k z
    may_same z = elim (cases_Bool (eqb (rep olds z) z)) [
      | inl is ↦
          let block = below_same z (eqb-true (rep olds z) z is) in
          let part = part_same k z high is_rep in
          λ i. eqb (rep olds z) z && is_clear (block i) && part i
      | inr miss ↦
          ap (λ (t : Bool). t && is_clear (slice_index_or (blocks_to first news k) z Under) && is_label_part news k z)
          miss
          ∙ sym (ap (λ (t : Bool). t && is_clear (slice_index_or (blocks_to first olds k) z Under)
          && is_label_part olds k z) miss)
    ]

    from_same : (z count : ℕ)
        → blocked_from news (blocks_to first news k) k z count ≡ blocked_from olds (blocks_to first olds k) k z count
    from_same z zero = refl
    from_same z (suc count) =
        let here = may_same z in
        let rest = from_same (z + 1) count in
        λ i. cond (here i) (By z) (rest i)

    here_same : block_of first news k ≡ block_of first olds k
    here_same =
        let up = up_same (parent_from first olds k) in
        let below = from_same 0 k in
        λ i. cond (ltb k first) Clear (cond (up i) (below i) Under)

  first_clear : (fs : List (Fact ℕ)) (x : ℕ) → x < first → block_of first fs x ≡ Clear
  first_clear fs x lt =
      ap (λ (t : Bool). cond t Clear (cond (is_parent_clear fs (blocks_to first fs x) (parent_from first fs x))
      (blocked_from fs (blocks_to first fs x) x 0 x) Under)) (lt-ltb x first lt)

  all_same : (k : ℕ) → AreSame k
  all_same zero x lt is_rep = absurd (omega (arith, lt))
  all_same (suc k) x lt is_rep = elim (cases_lt x k) [
    | inl low ↦ all_same k x low is_rep
    | inr last ↦ elim (cases_lt x first) [
      | inl low ↦ first_clear news x low ∙ sym (first_clear olds x low)
      | inr high ↦
          let e : x ≡ k = omega (arith, lt, last) in
          here_same x (subst AreSame (sym e) (all_same k)) (omega (arith, high)) is_rep
    ]
  ]

  pub block_same : (x : ℕ) → rep olds x ≡ x → block_of first news x ≡ block_of first olds x
  block_same x is_rep = all_same (suc x) x (omega arith) is_rep
