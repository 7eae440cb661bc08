-- The nodes that a sieve finds are enough.
use Rattle.std.proofs.Common.{◌≡◌, ℕ, zero, suc, ◌+◌, ◌<◌, ◌≤◌, ◌^◌, ◌&&◌, ◌⊎◌, cond, eqb, Bool, true, false, List, []}
use Rattle.std.proofs.Common.{◌∷◌, length, take, get_or, refl, ap, sym, ◌∙◌, subst, arith, inl, inr}
use Rattle.std.proofs.lemmas.Bool.{cases_Bool, cases_lt, and_parts, le-ltb}
use Rattle.std.proofs.lemmas.List.{get_or-take, get_or_past}
use Rattle.lane_sieve.specs.Words.{is_subset, places}
use Rattle.lane_sieve.proofs.Kernels.{subset_from}
use Rattle.calculus_specs.specs.declared.facts.Fact.{Fact}
use Rattle.calculus_specs.specs.Joins.{rep}
use Rattle.calculus_specs.specs.State.{parent_from, has, label, is_label_part}
use Rattle.tableau_specs.specs.declared.Block.{Block}
use Rattle.tableau_specs.specs.declared.Block.TheVariants.{Clear, By, Under}
use Rattle.tableau_specs.specs.Blocked.{is_clear, is_parent_clear, may_block, blocked_from, blocks_to, block_of}
use Rattle.calculus_specs.specs.Listed.{IsLabel}
use Rattle.blocking.specs.Hinted.{KnownNode, nothing_known, known_at, AreShown, IsHint}
use Rattle.blocking.specs.Followed.{Printed, IsPrintWithin, IsSound, AreSound, IsFollowed, blocked_among}
use Rattle.blocking.proofs.Labels.{all_shown}
use Rattle.blocking.proofs.Hinted.{IsKnown, none_blocks, least_blocks, from_none, from_least, hint_is}
use Rattle.blocking.proofs.BlockLists.{length-blocks_to, get-blocks_to}

module _ (fs : List (Fact ℕ)) (blocks : List Block) (x : ℕ) where
  passed_over : (z : ℕ) (zs : List ℕ) (b : Bool) → may_block fs blocks x z ≡ false
      → blocked_among fs blocks x (cond b (z ∷ zs) zs) ≡ blocked_among fs blocks x zs
  passed_over z zs true miss = ap (λ (t : Bool). cond t (By z) (blocked_among fs blocks x zs)) miss
  passed_over z zs false miss = refl

  -- where the sieve keeps each node that may block x
  pub sieved : (print : List ℕ) (table : List (List ℕ)) (z : ℕ)
      → ((k v : ℕ) → v ≡ z + k → k < length table → may_block fs blocks x v ≡ true
      → is_subset print (get_or table k []) ≡ true)
      → blocked_from fs blocks x z (length table) ≡ blocked_among fs blocks x (places z print table)
  sieved print [] z keeps = refl
  sieved print (p ∷ table) z keeps =
      let rest = sieved print table (z + 1) (λ k v e lt may. keeps (suc k) v (omega arith) (omega arith) may) in
      let later = places (z + 1) print table in
      elim (cases_Bool (may_block fs blocks x z)) [
        | inl hit ↦
            let kept : is_subset print p ≡ true = keeps 0 z (omega arith) (omega arith) hit in
            ap (λ (t : Bool). cond t (By z) (blocked_from fs blocks x (z + 1) (length table))) hit
            ∙ sym (ap (λ (t : Bool). blocked_among fs blocks x (cond t (z ∷ later) later)) kept
            ∙ ap (λ (t : Bool). cond t (By z) (blocked_among fs blocks x later)) hit)
        | inr miss ↦
            ap (λ (t : Bool). cond t (By z) (blocked_from fs blocks x (z + 1) (length table))) miss ∙ rest
            ∙ sym (passed_over z later (is_subset print p) miss)
      ]

never_under : (fs : List (Fact ℕ)) (blocks : List Block) (x z n : ℕ) → blocked_from fs blocks x z n ≡ Under → ⊥
never_under fs blocks x z zero h = clear_not_under h
  where
    clear_not_under : Clear ≡ Under → ⊥
    clear_not_under h = cc
never_under fs blocks x z (suc n) h = elim (cases_Bool (may_block fs blocks x z)) [
  | inl hit ↦
      by_not_under (sym (ap (λ (t : Bool). cond t (By z) (blocked_from fs blocks x (z + 1) n)) hit) ∙ h)
  | inr miss ↦
      never_under fs blocks x (z + 1) n
      (sym (ap (λ (t : Bool). cond t (By z) (blocked_from fs blocks x (z + 1) n)) miss) ∙ h)
]
  where
    by_not_under : By z ≡ Under → ⊥
    by_not_under h = cc

no_and : (a b : Bool) → (a && false) && b ≡ false
no_and true b = refl
no_and false b = refl

true_not_false : (b : Bool) → b ≡ true → b ≡ false → ⊥
true_not_false b t f = cc

-- where there are blocks of the nodes before x alone, no node from x on may block it
module _ (fs : List (Fact ℕ)) (blocks : List Block) (x : ℕ) (long : length blocks ≡ x) where
  past : (z : ℕ) → x ≤ z → may_block fs blocks x z ≡ false
  past z le =
      (λ i. (eqb (rep fs z) z && is_clear (get_or_past blocks z Under (omega (arith, long, le)) i))
      && is_label_part fs x z)
      ∙ no_and (eqb (rep fs z) z) (is_label_part fs x z)

  before : (z : ℕ) → may_block fs blocks x z ≡ true → z < x
  before z may = elim (cases_lt z x) [
    | inl lt ↦ lt
    | inr le ↦ absurd (true_not_false (may_block fs blocks x z) may (past z le))
  ]

  longer : (k : ℕ) → x ≤ k → (b : Block) → blocked_from fs blocks x 0 k ≡ b → blocked_from fs blocks x 0 x ≡ b
  longer k le Clear h =
      none_blocks fs blocks x (λ v lt. from_none fs blocks x 0 k h v (omega arith) (omega (arith, lt, le)))
  longer k le (By y) h =
      let is = from_least fs blocks x 0 k y h in
      least_blocks fs blocks x y (before y is.1) is.1 (λ v lt. is.2 v (omega arith) lt)
  longer k le Under h = absurd (never_under fs blocks x 0 k h)

  module _ (ks : List KnownNode) (prints : List (List ℕ)) (print : List ℕ)
      (known : (z : ℕ) → z < x → IsKnown fs blocks z (known_at ks z)) (shown : AreShown ks prints)
      (each : length prints ≡ length ks) (enough : x ≤ length ks) (shows : IsPrintWithin (label fs x) print)
      (four : length print ≡ 4) (fits : (i : ℕ) → get_or print i 0 < 2 ^ 64) where
    kept : (z : ℕ) → z < length prints → may_block fs blocks x z ≡ true
        → is_subset print (get_or prints z []) ≡ true
    kept z lt may =
        let outer = and_parts (eqb (rep fs z) z && is_clear (get_or blocks z Under)) (is_label_part fs x z) may in
        let k = known z (before z may) in
        let s = shown z (omega (arith, lt, each)) in
        subset_from print (get_or prints z []) (four ∙ sym s.words) fits
        (all_shown (has fs z) (label fs x) print (get_or prints z []) shows outer.1
        (λ c held. s.shows (k.1 ∙ outer.0) c (k.0 c ∙ held)))

    pub sieve_finds : blocked_among fs blocks x (places 0 print prints) ≡ blocked_from fs blocks x 0 x
    sieve_finds =
        sym (sieved fs blocks x print prints 0
        (λ k v e lt may.
        let same : v ≡ k = omega arith in
        kept k lt (ap (may_block fs blocks x) (sym same) ∙ may)))
        ∙ sym (longer (length prints) (omega (arith, each, enough)) (blocked_from fs blocks x 0 (length prints)) refl)

-- ---- the block of a node behind those that are there

-- it is looked for among the nodes before x where x is no first node and its parent is clear
pub block_found : (first : ℕ) (fs : List (Fact ℕ)) (x : ℕ) (blocks : List Block) → blocks ≡ blocks_to first fs x
    → first ≤ x → is_parent_clear fs blocks (parent_from first fs x) ≡ true
    → blocked_from fs blocks x 0 x ≡ block_of first fs x
block_found first fs x blocks all some clear =
    let up : is_parent_clear fs (blocks_to first fs x) (parent_from first fs x) ≡ true =
    ap (λ (bs : List Block). is_parent_clear fs bs (parent_from first fs x)) (sym all) ∙ clear in
    ap (λ (bs : List Block). blocked_from fs bs x 0 x) all
    ∙ sym (ap
    (λ (b : Bool). cond b Clear
    (cond (is_parent_clear fs (blocks_to first fs x) (parent_from first fs x))
    (blocked_from fs (blocks_to first fs x) x 0 x) Under))
    (le-ltb x first some)
    ∙ ap (λ (b : Bool). cond b (blocked_from fs (blocks_to first fs x) x 0 x) Under) up)

-- it is under a block, or that of the least that may block it
pub block_kind : (first : ℕ) (fs : List (Fact ℕ)) (x : ℕ) (blocks : List Block) → blocks ≡ blocks_to first fs x
    → first ≤ x → (block : Block) → block ≡ block_of first fs x
    → (block ≡ Under) ⊎ (block ≡ blocked_from fs blocks x 0 x)
block_kind first fs x blocks all some block is =
    elim (cases_Bool (is_parent_clear fs blocks (parent_from first fs x))) [
      | inl clear ↦ inr (is ∙ sym (block_found first fs x blocks all some clear))
      | inr not ↦
          inl (is
          ∙ ap
          (λ (b : Bool). cond b Clear
          (cond (is_parent_clear fs (blocks_to first fs x) (parent_from first fs x))
          (blocked_from fs (blocks_to first fs x) x 0 x) Under))
          (le-ltb x first some)
          ∙ ap (λ (b : Bool). cond b (blocked_from fs (blocks_to first fs x) x 0 x) Under)
          (ap (λ (bs : List Block). is_parent_clear fs bs (parent_from first fs x)) (sym all) ∙ not))
    ]

-- ---- what is known of the nodes before x

pub known_so : (first : ℕ) (fs : List (Fact ℕ)) (x : ℕ) (blocks : List Block) (ks : List KnownNode)
    → blocks ≡ blocks_to first fs x → AreSound first fs x ks → (z : ℕ) → z < x → IsKnown fs blocks z (known_at ks z)
known_so first fs x blocks ks all sound z lt =
    let s = sound.each z lt in
    let at : get_or blocks z Under ≡ block_of first fs z =
    ap (λ (bs : List Block). get_or bs z Under) all ∙ get-blocks_to first fs x z Under lt in
    (s.labelled, s.may_block ∙ (λ i. eqb (rep fs z) z && is_clear (sym at i)))

-- also where more is known than is told
pub sound_inside : (first : ℕ) (fs : List (Fact ℕ)) (x : ℕ) (p : Printed) (blocks : List Block) (ks : List KnownNode)
    → IsFollowed first fs x p → blocks ≡ p.blocks → take (length blocks) ks ≡ p.known → x ≤ length ks
    → AreSound first fs x ks
sound_inside first fs x p blocks ks followed same taken enough =
    let long : length blocks ≡ x =
    ap length (same ∙ followed.all_blocks) ∙ length-blocks_to first fs x in
    record {
      enough = enough;
      each = λ z lt.
          let k : known_at p.known z ≡ known_at ks z =
          sym (ap (λ (ls : List KnownNode). known_at ls z) taken)
          ∙ get_or-take (length blocks) ks z nothing_known (omega (arith, long, lt)) in
          subst (IsSound first fs z) k (followed.sound.each z lt);
    }

-- the block of x says of nodes before it what a hint says, where x is no first node
pub hint_found : (first : ℕ) (fs : List (Fact ℕ)) (x : ℕ) (blocks : List Block) (ks : List KnownNode)
    (cs : List ℕ) (block hint : Block) → blocks ≡ blocks_to first fs x → AreSound first fs x ks → IsLabel fs x cs
    → block ≡ block_of first fs x → (x < first → hint ≡ Under) → (first ≤ x → hint ≡ block) → IsHint ks [] x cs hint
hint_found first fs x blocks ks cs block hint all sound labelled is under other = elim (cases_lt x first) [
  | inl lt ↦ subst (λ (b : Block). IsHint ks [] x cs b) (sym (under lt)) tt
  | inr le ↦
      subst (λ (b : Block). IsHint ks [] x cs b) (sym (other le))
      (hint_is fs blocks x ks cs labelled (known_so first fs x blocks ks all sound) block
      (block_kind first fs x blocks all le block is))
]
