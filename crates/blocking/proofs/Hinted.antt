-- The law of hints: where two lists of facts say the same of all nodes but some, the block of a node in the one and
-- these nodes tell its block in the other.
use Rattle.std.proofs.Common.{◌≡◌, ◌≢◌, ℕ, zero, suc, ◌+◌, ◌-◌, ◌<◌, ◌≤◌, ◌&&◌, ◌||◌, ◌⊎◌, cond, eqb, eq-eqb, Bool}
use Rattle.std.proofs.Common.{true, false, List, [], ◌∷◌, ◌++◌, length, take, get_or, refl, ap, sym, ◌∙◌, subst, arith}
use Rattle.std.proofs.Common.{inl, inr, get_or-set_same, get_or-set_other}
use Rattle.std.specs.Prelude.{nat_lt, slice_set}
use Rattle.std.specs.List.{list_all}
use Rattle.std.proofs.lemmas.Bool.{cases_Bool, cases_lt, cases_eq, eqb-true, lt-ltb, le-ltb}
use Rattle.std.proofs.lemmas.List.{length-append, length-set, length-take-le, get_or_append_left, get_or-append_right}
use Rattle.std.proofs.lemmas.List.{get_or-take, take_more, take-set, take-append-le}
use Rattle.calculus_specs.proofs.Joined.{any-snoc}
use Rattle.calculus_specs.specs.declared.facts.Fact.{Fact}
use Rattle.calculus_specs.specs.Joins.{rep}
use Rattle.calculus_specs.specs.State.{has, label, is_label_part}
use Rattle.calculus_specs.specs.Listed.{IsLabel}
use Rattle.tableau_specs.specs.declared.Block.{Block}
use Rattle.tableau_specs.specs.declared.Block.TheVariants.{Clear, By, Under}
use Rattle.tableau_specs.specs.Blocked.{is_clear, may_block, blocked_from}
use Rattle.blocking.specs.Hinted.{KnownNode, known_of, nothing_known, known_at, known_with, is_among, covers, IsHint}
use Rattle.blocking.specs.Hinted.{IsHintAt, IsHintBound, AreHints, AreExact, IsShown, AreShown}
use Rattle.blocking.specs.Followed.{IsBound}
use Rattle.blocking.proofs.Labels.{all_of_label}

-- ---- the least that may block

module _ (fs : List (Fact ℕ)) (blocks : List Block) (x : ℕ) where
  none_from : (z n : ℕ) → ((v : ℕ) → z ≤ v → v < z + n → may_block fs blocks x v ≡ false)
      → blocked_from fs blocks x z n ≡ Clear
  none_from z zero none = refl
  none_from z (suc n) none =
      ap (λ (b : Bool). cond b (By z) (blocked_from fs blocks x (z + 1) n)) (none z (omega arith) (omega arith))
      ∙ none_from (z + 1) n (λ v le lt. none v (omega arith) (omega arith))

  least_from : (z n y : ℕ) → z ≤ y → y < z + n → may_block fs blocks x y ≡ true
      → ((v : ℕ) → z ≤ v → v < y → may_block fs blocks x v ≡ false) → blocked_from fs blocks x z n ≡ By y
  least_from z zero y le lt may none = absurd (omega arith)
  least_from z (suc n) y le lt may none = elim (cases_lt z y) [
    | inl later ↦
        ap (λ (b : Bool). cond b (By z) (blocked_from fs blocks x (z + 1) n)) (none z (omega arith) later)
        ∙ least_from (z + 1) n y (omega arith) (omega arith) may (λ v le' lt'. none v (omega arith) lt')
    | inr here ↦
        let same : z ≡ y = omega arith in
        ap (λ (b : Bool). cond b (By z) (blocked_from fs blocks x (z + 1) n)) (ap (may_block fs blocks x) same ∙ may)
        ∙ ap By same
  ]

  pub none_blocks : ((v : ℕ) → v < x → may_block fs blocks x v ≡ false) → blocked_from fs blocks x 0 x ≡ Clear
  none_blocks none = none_from 0 x (λ v le lt. none v (omega arith))

  pub least_blocks : (y : ℕ) → y < x → may_block fs blocks x y ≡ true
      → ((v : ℕ) → v < y → may_block fs blocks x v ≡ false) → blocked_from fs blocks x 0 x ≡ By y
  least_blocks y lt may none = least_from 0 x y (omega arith) (omega arith) may (λ v le lt'. none v lt')

-- ---- what is known of a node

-- the record is that of node z: its label, and whether it is a clear representative
abbrev pub IsKnown : List (Fact ℕ) → List Block → ℕ → KnownNode → Type 0
IsKnown fs blocks z k =
    IsLabel fs z k.label × (k.may_block ≡ (eqb (rep fs z) z && is_clear (get_or blocks z Under)))

same_list : (p q : ℕ → Bool) (cs : List ℕ) → ((c : ℕ) → p c ≡ q c) → list_all p cs ≡ list_all q cs
same_list p q [] same = refl
same_list p q (c ∷ cs) same = λ i. same c i && same_list p q cs same i

-- whether z may block x is seen from what is known of z and x
pub may_block_is : (fs : List (Fact ℕ)) (blocks : List Block) (x z : ℕ) (k : KnownNode) (cs : List ℕ)
    → IsKnown fs blocks z k → IsLabel fs x cs → may_block fs blocks x z ≡ covers k cs
may_block_is fs blocks x z k cs known labelled =
    let part : is_label_part fs x z ≡ list_all (λ c. is_among c k.label) cs =
    sym (all_of_label fs x cs labelled (has fs z))
    ∙ same_list (has fs z) (λ c. is_among c k.label) cs (λ c. sym (known.0 c)) in
    λ i. sym known.1 i && part i

-- ---- the law

-- what is known of the nodes before x, but for some of them, was so where the hint was found, and is so now
module _ (fs : List (Fact ℕ)) (blocks : List Block) (x : ℕ) (ks : List KnownNode) (but cs : List ℕ)
    (labelled : IsLabel fs x cs)
    (known : (z : ℕ) → z < x → is_among z but ≡ false → IsKnown fs blocks z (known_at ks z)) where
  unchanged : (z : ℕ) → z < x → is_among z but ≡ false → covers (known_at ks z) cs ≡ false
      → may_block fs blocks x z ≡ false
  unchanged z lt out none = may_block_is fs blocks x z (known_at ks z) cs (known z lt out) labelled ∙ none

  clear_bound : IsHint ks but x cs Clear → IsBound fs blocks x but x
  clear_bound h = record {
    within = omega arith;
    blocks_it = λ lt. absurd (omega arith);
    none = λ z lt out. unchanged z lt out (h z lt out);
  }

  blocked_bound : (y : ℕ) → IsHint ks but x cs (By y) → is_among y but ≡ false → IsBound fs blocks x but y
  blocked_bound y h out = record {
    within = omega (arith, h.0);
    blocks_it = λ lt. may_block_is fs blocks x y (known_at ks y) cs (known y h.0 out) labelled ∙ h.1 out;
    none = λ z lt out'. unchanged z (omega (arith, lt, h.0)) out' (h.2 z lt out');
  }

  pub bound_is : (b : ℕ) → IsHintBound ks but x cs b → IsBound fs blocks x but b
  bound_is b h = elim h [
    | inl clear ↦ subst (IsBound fs blocks x but) (sym clear.0) (clear_bound clear.1)
    | inr blocked ↦ blocked_bound b blocked.1 blocked.0
  ]

module _ (fs : List (Fact ℕ)) (blocks : List Block) (x bound : ℕ) (b : IsBound fs blocks x [] bound) where
  pub bound_found : bound < x → blocked_from fs blocks x 0 x ≡ By bound
  bound_found lt = least_blocks fs blocks x bound lt (b.blocks_it lt) (λ v lt'. b.none v lt' refl)

  pub none_found : x ≤ bound → blocked_from fs blocks x 0 x ≡ Clear
  none_found le = none_blocks fs blocks x (λ v lt. b.none v (omega (arith, lt, le)) refl)

or_false : (a b : Bool) → (a || b) ≡ false → (a ≡ false) × (b ≡ false)
or_false true b h = cc
or_false false b h = (refl, h)

-- one of the nodes that are left is looked at: it lies not below the bound, or does not block x
module _ (fs : List (Fact ℕ)) (blocks : List Block) (x bound c : ℕ) (left : List ℕ)
    (b : IsBound fs blocks x (c ∷ left) bound) where
  passed : (z : ℕ) → z < bound → (c ≡ z → may_block fs blocks x z ≡ false) → is_among z left ≡ false
      → may_block fs blocks x z ≡ false
  passed z lt here out = elim (cases_Bool (eqb c z)) [
    | inl hit ↦ here (eqb-true c z hit)
    | inr miss ↦ b.none z lt (ap (λ (t : Bool). t || is_among z left) miss ∙ out)
  ]

  pub not_below : bound ≤ c → IsBound fs blocks x left bound
  not_below le = record {
    within = b.within;
    blocks_it = b.blocks_it;
    none = λ z lt out. passed z lt (λ same. absurd (omega (arith, lt, le, same))) out;
  }

  pub not_blocking : may_block fs blocks x c ≡ false → IsBound fs blocks x left bound
  not_blocking none = record {
    within = b.within;
    blocks_it = b.blocks_it;
    none = λ z lt out. passed z lt (λ same. ap (may_block fs blocks x) (sym same) ∙ none) out;
  }

  pub blocking_below : c < bound → may_block fs blocks x c ≡ true → IsBound fs blocks x left c
  blocking_below lt may = record {
    within = omega (arith, lt, b.within);
    blocks_it = λ lt'. may;
    none = λ z lt' out. passed z (omega (arith, lt, lt')) (λ same. absurd (omega (arith, lt', same))) out;
  }

-- ---- hints that are so

clear_not_by : (y : ℕ) → Clear ≡ By y → ⊥
clear_not_by y h = cc

module _ (fs : List (Fact ℕ)) (blocks : List Block) (x : ℕ) where
  pub from_none : (z n : ℕ) → blocked_from fs blocks x z n ≡ Clear → (v : ℕ) → z ≤ v → v < z + n
      → may_block fs blocks x v ≡ false
  from_none z zero h v le lt = absurd (omega arith)
  from_none z (suc n) h v le lt = elim (cases_Bool (may_block fs blocks x z)) [
    | inl hit ↦
        absurd (clear_not_by z (sym h
        ∙ ap (λ (b : Bool). cond b (By z) (blocked_from fs blocks x (z + 1) n)) hit))
    | inr miss ↦
        let rest : blocked_from fs blocks x (z + 1) n ≡ Clear =
        sym (ap (λ (b : Bool). cond b (By z) (blocked_from fs blocks x (z + 1) n)) miss) ∙ h in
        elim (cases_lt z v) [
          | inl later ↦ from_none (z + 1) n rest v (omega arith) (omega arith)
          | inr here ↦ let same : z ≡ v = omega arith in ap (may_block fs blocks x) (sym same) ∙ miss
        ]
  ]

  pub from_least : (z n y : ℕ) → blocked_from fs blocks x z n ≡ By y
      → (y < z + n) × (may_block fs blocks x y ≡ true)
      × ((v : ℕ) → z ≤ v → v < y → may_block fs blocks x v ≡ false)
  from_least z zero y h = absurd (clear_not_by y h)
  from_least z (suc n) y h = elim (cases_Bool (may_block fs blocks x z)) [
    | inl hit ↦
        let same : z ≡ y =
        by_same z y (sym (ap (λ (b : Bool). cond b (By z) (blocked_from fs blocks x (z + 1) n)) hit) ∙ h) in
        (omega (arith, same), ap (may_block fs blocks x) (sym same) ∙ hit, λ v le lt. absurd (omega (arith, same)))
    | inr miss ↦
        let rest = from_least (z + 1) n y
        (sym (ap (λ (b : Bool). cond b (By z) (blocked_from fs blocks x (z + 1) n)) miss) ∙ h) in (
          omega (arith, rest.0),
          rest.1,
          λ v le lt. elim (cases_lt z v) [
            | inl later ↦ rest.2 v (omega arith) lt
            | inr here ↦ let same : z ≡ v = omega arith in ap (may_block fs blocks x) (sym same) ∙ miss
          ],
        )
  ]
    where
      by_same : (a b : ℕ) → By a ≡ By b → a ≡ b
      by_same a b h = cc

-- the block of x, of all nodes before it, is a hint that is so
module _ (fs : List (Fact ℕ)) (blocks : List Block) (x : ℕ) (ks : List KnownNode) (cs : List ℕ)
    (labelled : IsLabel fs x cs) (known : (z : ℕ) → z < x → IsKnown fs blocks z (known_at ks z)) where
  found : (block : Block) → (block ≡ Under) ⊎ (block ≡ blocked_from fs blocks x 0 x) → (block ≡ Under → ⊥)
      → block ≡ blocked_from fs blocks x 0 x
  found block h other = elim h [ inl under ↦ absurd (other under) | inr is ↦ is ]

  pub hint_is : (block : Block) → (block ≡ Under) ⊎ (block ≡ blocked_from fs blocks x 0 x) → IsHint ks [] x cs block
  hint_is Clear h =
      let is = found Clear h (λ e. cc) in
      λ z lt out. sym (may_block_is fs blocks x z (known_at ks z) cs (known z lt) labelled)
      ∙ from_none fs blocks x 0 x (sym is) z (omega arith) (omega arith)
  hint_is (By y) h =
      let is = from_least fs blocks x 0 x y (sym (found (By y) h (λ e. cc))) in
      let lt : y < x = omega (arith, is.0) in (
        lt,
        λ out. sym (may_block_is fs blocks x y (known_at ks y) cs (known y lt) labelled) ∙ is.1,
        λ z lt' out. sym (may_block_is fs blocks x z (known_at ks z) cs (known z (omega (arith, lt, lt'))) labelled)
            ∙ is.2 z (omega arith) lt',
      )
  hint_is Under h = tt

-- ---- what is known changes

-- a hint stays where the nodes of which it speaks are as they were
moved_hint : (ks ls : List KnownNode) (but less : List ℕ) (x : ℕ) (label : List ℕ) (hint : Block)
    → IsHint ks but x label hint
    → ((z : ℕ) → z < x → is_among z less ≡ false
    → (is_among z but ≡ false) × (covers (known_at ls z) label ≡ covers (known_at ks z) label))
    → IsHint ls less x label hint
moved_hint ks ls but less x label Clear h same = λ z lt out. let s = same z lt out in s.1 ∙ h z lt s.0
moved_hint ks ls but less x label (By y) h same = (
  h.0,
  λ out. let s = same y h.0 out in s.1 ∙ h.1 s.0,
  λ z lt out. let s = same z (omega (arith, lt, h.0)) out in s.1 ∙ h.2 z lt s.0,
)
moved_hint ks ls but less x label Under h same = tt

at_other : (ks : List KnownNode) (n z : ℕ) (k : KnownNode) → z ≢ n → known_at (slice_set ks n k) z ≡ known_at ks z
at_other ks n z k other = get_or-set_other ks n z k nothing_known other

at_same : (ks : List KnownNode) (n : ℕ) (k : KnownNode) → n < length ks → known_at (slice_set ks n k) n ≡ k
at_same ks n k lt = get_or-set_same ks n k nothing_known lt

at_front : (ks : List KnownNode) (z : ℕ) (k : KnownNode) → z < length ks
    → known_at (ks ++ k ∷ []) z ≡ known_at ks z
at_front ks z k lt = get_or_append_left ks (k ∷ []) nothing_known z lt

at_end : (ks : List KnownNode) (k : KnownNode) → known_at (ks ++ k ∷ []) (length ks) ≡ k
at_end ks k =
    let none : length ks - length ks ≡ 0 = omega arith in
    get_or-append_right ks (k ∷ []) (length ks) (length ks) nothing_known refl (omega arith)
    ∙ ap (λ (i : ℕ). get_or (k ∷ []) i nothing_known) none

-- less is left out
exact_is_less : (ks : List KnownNode) (but : List ℕ) (x : ℕ) (label : List ℕ) (hint : Block)
    → IsHint ks [] x label hint → IsHint ks but x label hint
exact_is_less ks but x label hint h = moved_hint ks ks [] but x label hint h (λ z lt out. (refl, refl))

covers_at : (ks ls : List KnownNode) (z : ℕ) (label : List ℕ) → known_at ls z ≡ known_at ks z
    → covers (known_at ls z) label ≡ covers (known_at ks z) label
covers_at ks ls z label e = ap (λ (k : KnownNode). covers k label) e

-- node n is another one now, and is left out
pub hints_changed : (ks : List KnownNode) (but : List ℕ) (n : ℕ) (k : KnownNode) → AreHints ks but → n < length ks
    → IsHint ks [] n k.label k.hint → AreHints (slice_set ks n k) (but ++ n ∷ [])
hints_changed ks but n k hints lt new x within =
    let ls = slice_set ks n k in
    let less = but ++ n ∷ [] in
    let out_of = λ (z : ℕ) (out : is_among z less ≡ false).
    or_false (is_among z but) (eqb n z) (sym (any-snoc (λ d. eqb d z) but n) ∙ out) in
    let not_n = λ (z : ℕ) (out : is_among z less ≡ false) (e : z ≡ n). absurd_bool (eqb n z) (eq-eqb n z (sym e)) (out_of z out).1 in
    elim (cases_eq x n) [
      | inl same ↦
          subst (λ (v : ℕ). IsHintAt ls less v) (sym same)
          (subst (λ (m : KnownNode). IsHint ls less n m.label m.hint) (sym (at_same ks n k lt))
          (moved_hint ks ls [] less n k.label k.hint new
          (λ z lt' out. (refl, covers_at ks ls z k.label (at_other ks n z k (λ e. omega (arith, lt', e)))))))
      | inr other ↦
          subst (λ (m : KnownNode). IsHint ls less x m.label m.hint) (sym (at_other ks n x k other))
          (moved_hint ks ls but less x (known_at ks x).label (known_at ks x).hint
          (hints x (omega (arith, within, length-set ks n k)))
          (λ z lt' out. ((out_of z out).0, covers_at ks ls z (known_at ks x).label (at_other ks n z k (not_n z out)))))
    ]
  where
    absurd_bool : (b : Bool) → b ≡ true → b ≡ false → ⊥
    absurd_bool b t f = cc

-- node n has another hint alone
pub hints_renewed : (ks : List KnownNode) (but : List ℕ) (n : ℕ) (hint : Block) → AreHints ks but → n < length ks
    → IsHint ks [] n (known_at ks n).label hint
    → AreHints (slice_set ks n (known_of (known_at ks n).label (known_at ks n).may_block hint)) but
hints_renewed ks but n hint hints lt new x within =
    let k = known_of (known_at ks n).label (known_at ks n).may_block hint in
    let ls = slice_set ks n k in
    let same_cover = λ (z : ℕ) (label : List ℕ). covers_again z label in
    elim (cases_eq x n) [
      | inl same ↦
          subst (λ (v : ℕ). IsHintAt ls but v) (sym same)
          (subst (λ (m : KnownNode). IsHint ls but n m.label m.hint) (sym (at_same ks n k lt))
          (moved_hint ks ls [] but n k.label hint new (λ z lt' out. (refl, same_cover z k.label))))
      | inr other ↦
          subst (λ (m : KnownNode). IsHint ls but x m.label m.hint) (sym (at_other ks n x k other))
          (moved_hint ks ls but but x (known_at ks x).label (known_at ks x).hint
          (hints x (omega (arith, within, length-set ks n k)))
          (λ z lt' out. (out, same_cover z (known_at ks x).label)))
    ]
  where
    covers_again : (z : ℕ) (label : List ℕ)
        → covers (known_at (slice_set ks n (known_of (known_at ks n).label (known_at ks n).may_block hint)) z) label
        ≡ covers (known_at ks z) label
    covers_again z label = elim (cases_eq z n) [
      | inl same ↦
          ap (λ (v : ℕ). covers
          (known_at (slice_set ks n (known_of (known_at ks n).label (known_at ks n).may_block hint)) v) label) same
          ∙ ap (λ (m : KnownNode). covers m label) (at_same ks n _ lt)
          ∙ ap (λ (v : ℕ). covers (known_at ks v) label) (sym same)
      | inr other ↦ covers_at ks _ z label (at_other ks n z _ other)
    ]

-- one node more
pub hints_more : (ks : List KnownNode) (but : List ℕ) (k : KnownNode) → AreHints ks but
    → IsHint ks [] (length ks) k.label k.hint → AreHints (ks ++ k ∷ []) but
hints_more ks but k hints new x within =
    let ls = ks ++ k ∷ [] in
    elim (cases_lt x (length ks)) [
      | inl less ↦
          subst (λ (m : KnownNode). IsHint ls but x m.label m.hint) (sym (at_front ks x k less))
          (moved_hint ks ls but but x (known_at ks x).label (known_at ks x).hint (hints x less)
          (λ z lt out. (out, covers_at ks ls z (known_at ks x).label (at_front ks z k (omega (arith, lt, less))))))
      | inr last ↦
          let same : x ≡ length ks = omega (arith, within, last, length-append ks (k ∷ [])) in
          subst (λ (v : ℕ). IsHintAt ls but v) (sym same)
          (subst (λ (m : KnownNode). IsHint ls but (length ks) m.label m.hint) (sym (at_end ks k))
          (moved_hint ks ls [] but (length ks) k.label k.hint new
          (λ z lt out. (refl, covers_at ks ls z k.label (at_front ks z k lt)))))
    ]

at_first : (ks : List KnownNode) (n z : ℕ) → z < n → known_at (take n ks) z ≡ known_at ks z
at_first ks n z lt = get_or-take n ks z nothing_known lt

-- the first ones alone, whose hints are so of all nodes
pub hints_first : (ks : List KnownNode) (n : ℕ) → AreExact ks n → n ≤ length ks → AreHints (take n ks) []
hints_first ks n exact le x within =
    let lt : x < n = omega (arith, within, length-take-le n ks le) in
    subst (λ (m : KnownNode). IsHint (take n ks) [] x m.label m.hint) (sym (at_first ks n x lt))
    (moved_hint ks (take n ks) [] [] x (known_at ks x).label (known_at ks x).hint (exact x lt)
    (λ z lt' out. (refl, covers_at ks (take n ks) z (known_at ks x).label (at_first ks n z (omega (arith, lt', lt))))))

-- ---- with one node, the first so many

known_before : (ks : List KnownNode) (n z : ℕ) (k : KnownNode) → n ≤ length ks → z < n
    → known_at (known_with ks n k) z ≡ known_at ks z
known_before ks n z k le lt = elim (cases_Bool (nat_lt n (length ks))) [
  | inl there ↦
      ap (λ (b : Bool). known_at (cond b (slice_set ks n k) (ks ++ k ∷ [])) z) there
      ∙ at_other ks n z k (λ e. omega (arith, lt, e))
  | inr last ↦
      ap (λ (b : Bool). known_at (cond b (slice_set ks n k) (ks ++ k ∷ [])) z) last
      ∙ at_front ks z k (omega (arith, lt, le))
]

pub known_there : (ks : List KnownNode) (n : ℕ) (k : KnownNode) → n ≤ length ks
    → known_at (known_with ks n k) n ≡ k
known_there ks n k le = elim (cases_lt n (length ks)) [
  | inl lt ↦
      ap (λ (b : Bool). known_at (cond b (slice_set ks n k) (ks ++ k ∷ [])) n) (lt-ltb n (length ks) lt)
      ∙ at_same ks n k lt
  | inr ge ↦
      let same : n ≡ length ks = omega (arith, le, ge) in
      ap (λ (b : Bool). known_at (cond b (slice_set ks n k) (ks ++ k ∷ [])) n) (le-ltb n (length ks) ge)
      ∙ ap (known_at (ks ++ k ∷ [])) same ∙ at_end ks k
]

pub exact_more : (ks : List KnownNode) (n : ℕ) (k : KnownNode) → AreExact ks n → n ≤ length ks
    → IsHint ks [] n k.label k.hint → AreExact (known_with ks n k) (n + 1)
exact_more ks n k exact le new x within =
    let ls = known_with ks n k in
    elim (cases_lt x n) [
      | inl less ↦
          subst (λ (m : KnownNode). IsHint ls [] x m.label m.hint) (sym (known_before ks n x k le less))
          (moved_hint ks ls [] [] x (known_at ks x).label (known_at ks x).hint (exact x less)
          (λ z lt out. (
            refl,
            covers_at ks ls z (known_at ks x).label
                (known_before ks n z k le (omega (arith, lt, less))),
          )))
      | inr last ↦
          let same : x ≡ n = omega (arith, within, last) in
          subst (λ (v : ℕ). IsHintAt ls [] v) (sym same)
          (subst (λ (m : KnownNode). IsHint ls [] n m.label m.hint) (sym (known_there ks n k le))
          (moved_hint ks ls [] [] n k.label k.hint new
          (λ z lt out. (refl, covers_at ks ls z k.label (known_before ks n z k le lt)))))
    ]

-- there is one of node n then, and no more than there were but for it
pub known_more : (ks : List KnownNode) (n : ℕ) (k : KnownNode) → n ≤ length ks
    → (n + 1 ≤ length (known_with ks n k))
    × ((m : ℕ) → length ks ≤ m → n + 1 ≤ m → length (known_with ks n k) ≤ m)
known_more ks n k le = elim (cases_lt n (length ks)) [
  | inl lt ↦
      let long : length (known_with ks n k) ≡ length ks =
      ap (λ (b : Bool). length (cond b (slice_set ks n k) (ks ++ k ∷ []))) (lt-ltb n (length ks) lt)
      ∙ length-set ks n k in
      (omega (arith, long, lt), λ m all more. omega (arith, long, all))
  | inr ge ↦
      let long : length (known_with ks n k) ≡ length (ks ++ k ∷ []) =
      ap (λ (b : Bool). length (cond b (slice_set ks n k) (ks ++ k ∷ []))) (le-ltb n (length ks) ge) in
      let one : length (ks ++ k ∷ []) ≡ length ks + 1 = omega (arith, length-append ks (k ∷ [])) in
      (omega (arith, long, one, ge, le), λ m all more. omega (arith, long, one, ge, le, more))
]

-- the first so many and one more
pub take_with : (ks : List KnownNode) (n : ℕ) (k : KnownNode) → n ≤ length ks
    → take (n + 1) (known_with ks n k) ≡ take n ks ++ k ∷ []
take_with ks n k le = elim (cases_lt n (length ks)) [
  | inl lt ↦
      ap (λ (b : Bool). take (n + 1) (cond b (slice_set ks n k) (ks ++ k ∷ []))) (lt-ltb n (length ks) lt)
      ∙ take_more (slice_set ks n k) n nothing_known (omega (arith, lt, length-set ks n k))
      ∙ (λ i. take-set ks n k i ++ at_same ks n k lt i ∷ [])
  | inr ge ↦
      let same : n ≡ length ks = omega (arith, le, ge) in
      ap (λ (b : Bool). take (n + 1) (cond b (slice_set ks n k) (ks ++ k ∷ []))) (le-ltb n (length ks) ge)
      ∙ take_more (ks ++ k ∷ []) n nothing_known (omega (arith, same, length-append ks (k ∷ [])))
      ∙ (λ i. take-append-le n ks (k ∷ []) le i ++ known_at (ks ++ k ∷ []) (same i) ∷ [])
      ∙ ap (λ (m : KnownNode). take n ks ++ m ∷ []) (at_end ks k)
]

-- ---- prints

module _ (ks : List KnownNode) (prints : List (List ℕ)) (shown : AreShown ks prints) where
  -- node n has another hint alone
  pub shown_renewed : (n : ℕ) (hint : Block) → n < length ks
      → AreShown (slice_set ks n (known_of (known_at ks n).label (known_at ks n).may_block hint)) prints
  shown_renewed n hint lt z within =
      let k = known_of (known_at ks n).label (known_at ks n).may_block hint in
      let ls = slice_set ks n k in
      elim (cases_eq z n) [
        | inl same ↦
            subst (λ (v : ℕ). IsShown (known_at ls v).may_block (known_at ls v).label (get_or prints v [])) (sym same)
            (subst (λ (m : KnownNode). IsShown m.may_block m.label (get_or prints n [])) (sym (at_same ks n k lt))
            (shown n lt))
        | inr other ↦
            subst (λ (m : KnownNode). IsShown m.may_block m.label (get_or prints z [])) (sym (at_other ks n z k other))
            (shown z (omega (arith, within, length-set ks n k)))
      ]

  -- the first ones alone
  pub shown_first : (n : ℕ) → n ≤ length ks → AreShown (take n ks) (take n prints)
  shown_first n le z within =
      let lt : z < n = omega (arith, within, length-take-le n ks le) in
      subst (λ (m : KnownNode). IsShown m.may_block m.label (get_or (take n prints) z [])) (sym (at_first ks n z lt))
      (subst (λ (p : List ℕ). IsShown (known_at ks z).may_block (known_at ks z).label p)
      (sym (get_or-take n prints z [] lt)) (shown z (omega (arith, lt, le))))

  module _ (long : length prints ≡ length ks) (k : KnownNode) (print : List ℕ)
      (new : IsShown k.may_block k.label print) where
    -- node n is another one now
    pub shown_changed : (n : ℕ) → n < length ks → AreShown (slice_set ks n k) (slice_set prints n print)
    shown_changed n lt z within =
        let ls = slice_set ks n k in
        let ps = slice_set prints n print in
        elim (cases_eq z n) [
          | inl same ↦
              subst (λ (v : ℕ). IsShown (known_at ls v).may_block (known_at ls v).label (get_or ps v [])) (sym same)
              (subst (λ (m : KnownNode). IsShown m.may_block m.label (get_or ps n [])) (sym (at_same ks n k lt))
              (subst (λ (p : List ℕ). IsShown k.may_block k.label p)
              (sym (get_or-set_same prints n print [] (omega (arith, lt, long)))) new))
          | inr other ↦
              subst (λ (m : KnownNode). IsShown m.may_block m.label (get_or ps z [])) (sym (at_other ks n z k other))
              (subst (λ (p : List ℕ). IsShown (known_at ks z).may_block (known_at ks z).label p)
              (sym (get_or-set_other prints n z print [] other))
              (shown z (omega (arith, within, length-set ks n k))))
        ]

    -- one node more
    pub shown_more : AreShown (ks ++ k ∷ []) (prints ++ print ∷ [])
    shown_more z within =
        let ls = ks ++ k ∷ [] in
        let ps = prints ++ print ∷ [] in
        elim (cases_lt z (length ks)) [
          | inl less ↦
              subst (λ (m : KnownNode). IsShown m.may_block m.label (get_or ps z [])) (sym (at_front ks z k less))
              (subst (λ (p : List ℕ). IsShown (known_at ks z).may_block (known_at ks z).label p)
              (sym (get_or_append_left prints (print ∷ []) [] z (omega (arith, less, long)))) (shown z less))
          | inr last ↦
              let same : z ≡ length ks = omega (arith, within, last, length-append ks (k ∷ [])) in
              let none : length ks - length ks ≡ 0 = omega arith in
              let end : get_or ps (length ks) [] ≡ print =
              get_or-append_right prints (print ∷ []) (length ks) (length ks) [] long (omega arith)
              ∙ ap (λ (i : ℕ). get_or (print ∷ []) i []) none in
              subst (λ (v : ℕ). IsShown (known_at ls v).may_block (known_at ls v).label (get_or ps v [])) (sym same)
              (subst (λ (m : KnownNode). IsShown m.may_block m.label (get_or ps (length ks) [])) (sym (at_end ks k))
              (subst (λ (p : List ℕ). IsShown k.may_block k.label p) (sym end) new))
        ]
