-- What the block of a node says.
use Rattle.std.proofs.Common.{◌≡◌, ℕ, zero, suc, ◌+◌, ◌<◌, ◌&&◌, cond, eqb, ltb, ◌≤◌, Bool, true, false, List, [], ◌∷◌}
use Rattle.std.proofs.Common.{length, get_or, Option, Some, None, refl, ap, ◌∙◌, sym, subst, arith, inl, inr, eq-eqb}
use Rattle.std.proofs.Common.{length-append}
use Rattle.std.proofs.lemmas.List.{get_or_append_left, get_or_push}
use Rattle.std.proofs.lemmas.Bool.{eqb-true, ltb-true, lt-ltb, cases_Bool, cases_lt, and_parts}
use Rattle.calculus_specs.specs.declared.facts.Fact.{Fact}
use Rattle.calculus_specs.specs.Joins.{rep}
use Rattle.calculus_specs.specs.State.{parent_from, is_label_part}
use Rattle.calculus_specs.proofs.Joined.{rep-le}
use Rattle.tableau_specs.specs.declared.Block.{Block}
use Rattle.tableau_specs.specs.declared.Block.TheVariants.{Clear, By, Under}
use Rattle.tableau_specs.specs.Blocked.{is_clear, is_parent_clear, may_block, blocked_from, block_at, blocks_to}
use Rattle.tableau_specs.specs.Blocked.{block_of}
use Rattle.tableau_specs.specs.StateLaws.{ParentIsClear, MayBlock, BlockSays}

module _ (first : ℕ) where
  pub length-blocks_to : (fs : List (Fact ℕ)) (n : ℕ) → length (blocks_to first fs n) ≡ n
  length-blocks_to fs zero = refl
  length-blocks_to fs (suc n) = omega (
    arith,
    length-append (blocks_to first fs n) (block_at first fs (blocks_to first fs n) n ∷ []),
    length-blocks_to fs n,
  )

  -- the list of the blocks below a node has each block in its place
  pub get_or-blocks_to : (fs : List (Fact ℕ)) (n x : ℕ) → x < n
      → get_or (blocks_to first fs n) x Under ≡ block_of first fs x
  get_or-blocks_to fs zero x lt = absurd (omega arith)
  get_or-blocks_to fs (suc n) x lt = elim (cases_lt x n) [
    | inl low ↦
        get_or_append_left (blocks_to first fs n) (block_at first fs (blocks_to first fs n) n ∷ []) Under x
        (omega (arith, low, length-blocks_to fs n))
        ∙ get_or-blocks_to fs n x low
    | inr high ↦
        let e : n ≡ x = omega arith in
        get_or_push (blocks_to first fs n) (block_at first fs (blocks_to first fs n) n) Under x
        (omega (arith, length-blocks_to fs n, e))
        ∙ ap (λ (k : ℕ). block_at first fs (blocks_to first fs k) k) e
  ]

  clear_is : (b : Block) → is_clear b ≡ true → b ≡ Clear
  clear_is Clear h = refl
  clear_is (By z) h = cc
  clear_is Under h = cc

  is_clear_at : (b : Block) → b ≡ Clear → is_clear b ≡ true
  is_clear_at b e = ap is_clear e

  -- ---- what the tests mean

  may_block_means : (fs : List (Fact ℕ)) (x z : ℕ) → z < x → may_block fs (blocks_to first fs x) x z ≡ true
      → MayBlock first fs x z
  may_block_means fs x z lt h =
      let t =
      and_parts (eqb (rep fs z) z && is_clear (get_or (blocks_to first fs x) z Under)) (is_label_part fs x z) h in
      let u = and_parts (eqb (rep fs z) z) (is_clear (get_or (blocks_to first fs x) z Under)) t.0 in
      record {
        is_less = lt;
        is_rep = eqb-true (rep fs z) z u.0;
        is_clear = sym (get_or-blocks_to fs x z lt) ∙ clear_is (get_or (blocks_to first fs x) z Under) u.1;
        has_label = t.1;
      }

  means_may_block : (fs : List (Fact ℕ)) (x z : ℕ) → MayBlock first fs x z
      → may_block fs (blocks_to first fs x) x z ≡ true
  means_may_block fs x z h =
      let a = eq-eqb (rep fs z) z h.is_rep in
      let b = is_clear_at (get_or (blocks_to first fs x) z Under) (get_or-blocks_to fs x z h.is_less ∙ h.is_clear) in
      rw (a, b) h.has_label

  -- ---- the least of the nodes below that may block

  -- what the search from z on says, where none before z may block
  abbrev FromSays : List (Fact ℕ) → ℕ → Block → Type 0
  FromSays fs x Clear = (v : ℕ) → ¬ MayBlock first fs x v
  FromSays fs x (By z) = MayBlock first fs x z × ((v : ℕ) → v < z → ¬ MayBlock first fs x v)
  FromSays fs x Under = ⊥

  none_before : (fs : List (Fact ℕ)) (x z : ℕ) → ((v : ℕ) → v < z → ¬ MayBlock first fs x v)
      → may_block fs (blocks_to first fs x) x z ≡ false → (v : ℕ) → v < z + 1 → ¬ MayBlock first fs x v
  none_before fs x z before miss v lt h = elim (cases_lt v z) [
    | inl low ↦ before v low h
    | inr high ↦
        let e : v ≡ z = omega arith in
        let k = means_may_block fs x z (subst (λ (u : ℕ). MayBlock first fs x u) e h) in
        cc
  ]

  from_says : (fs : List (Fact ℕ)) (x z n : ℕ) → z + n ≡ x → ((v : ℕ) → v < z → ¬ MayBlock first fs x v)
      → FromSays fs x (blocked_from fs (blocks_to first fs x) x z n)
  from_says fs x z zero e before = λ v h. before v (omega (arith, h.is_less, e)) h
  from_says fs x z (suc n) e before = elim (cases_Bool (may_block fs (blocks_to first fs x) x z)) [
    | inl hit ↦ rw hit (may_block_means fs x z (omega (arith, e)) hit, before)
    | inr miss ↦ rw miss (from_says fs x (z + 1) n (omega (arith, e)) (none_before fs x z before miss))
  ]

  -- ---- the block of a node

  clear_parent : (fs : List (Fact ℕ)) (x : ℕ) → ((p : ℕ) → parent_from first fs x ≡ Some p → p < x)
      → is_parent_clear fs (blocks_to first fs x) (parent_from first fs x) ≡ true → ParentIsClear first fs x
  clear_parent fs x less h p e =
      let k = rw e at h in
      let lt : rep fs p < x = omega (arith, less p e, rep-le fs p) in
      sym (get_or-blocks_to fs x (rep fs p) lt) ∙ clear_is (get_or (blocks_to first fs x) (rep fs p) Under) k

  record Unclear (fs : List (Fact ℕ)) (x : ℕ) : Type 0 where
    up : ℕ
    is_parent : parent_from first fs x ≡ Some up
    not_clear : ¬ (block_of first fs (rep fs up) ≡ Clear)

  unclear_parent : (fs : List (Fact ℕ)) (x : ℕ) → (o : Option ℕ) → parent_from first fs x ≡ o
      → ((p : ℕ) → parent_from first fs x ≡ Some p → p < x) → is_parent_clear fs (blocks_to first fs x) o ≡ false
      → Unclear fs x
  unclear_parent fs x None e less h = cc
  unclear_parent fs x (Some p) e less h =
      let lt : rep fs p < x = omega (arith, less p e, rep-le fs p) in
      record {
        up = p;
        is_parent = e;
        not_clear =
            λ k. (let l =
            is_clear_at (get_or (blocks_to first fs x) (rep fs p) Under) (get_or-blocks_to fs x (rep fs p) lt ∙ k) in
            cc);
      }

  says_of : (fs : List (Fact ℕ)) (x : ℕ) (b : Block) → ParentIsClear first fs x → FromSays fs x b
      → BlockSays first fs x b
  says_of fs x Clear up h = (up, h)
  says_of fs x (By z) up h = (up, h.0, h.1)
  says_of fs x Under up h = absurd h

  other_node : (x : ℕ) → first ≤ x → ltb x first ≡ false
  other_node x le =
      elim (cases_Bool (ltb x first)) [ inl low ↦ absurd (omega (arith, ltb-true x first low)) | inr high ↦ high ]

  block_of_other : (fs : List (Fact ℕ)) (x : ℕ) (b : Bool) → first ≤ x
      → is_parent_clear fs (blocks_to first fs x) (parent_from first fs x) ≡ b
      → block_of first fs x ≡ cond b (blocked_from fs (blocks_to first fs x) x 0 x) Under
  block_of_other fs x b le up =
      ap (λ (t : Bool). cond t Clear
      (cond (is_parent_clear fs (blocks_to first fs x) (parent_from first fs x))
      (blocked_from fs (blocks_to first fs x) x 0 x) Under))
      (other_node x le)
      ∙ ap (λ (t : Bool). cond t (blocked_from fs (blocks_to first fs x) x 0 x) Under) up

  block_says : (fs : List (Fact ℕ)) (x : ℕ) → ((p : ℕ) → parent_from first fs x ≡ Some p → p < x) → first ≤ x
      → BlockSays first fs x (block_of first fs x)
  block_says fs x less lt = elim (cases_Bool (is_parent_clear fs (blocks_to first fs x) (parent_from first fs x))) [
    | inl up ↦
        subst (BlockSays first fs x) (sym (block_of_other fs x true lt up))
        (says_of fs x (blocked_from fs (blocks_to first fs x) x 0 x) (clear_parent fs x less up)
        (from_says fs x 0 x (omega arith) (λ v below. absurd (omega arith))))
    | inr down ↦
        subst (BlockSays first fs x) (sym (block_of_other fs x false lt down))
        (let u = unclear_parent fs x (parent_from first fs x) refl less down in (u.up, u.is_parent, u.not_clear))
  ]

  pub blocks_say : (fs : List (Fact ℕ)) → ((x p : ℕ) → parent_from first fs x ≡ Some p → p < x)
      → ((x : ℕ) → x < first → block_of first fs x ≡ Clear)
      × ((x : ℕ) → first ≤ x → BlockSays first fs x (block_of first fs x))
  blocks_say fs less = (
    λ x lt. ap
        (λ (t : Bool). cond t Clear
        (cond (is_parent_clear fs (blocks_to first fs x) (parent_from first fs x))
        (blocked_from fs (blocks_to first fs x) x 0 x) Under))
        (lt-ltb x first lt),
    λ x le. block_says fs x (less x) le,
  )
