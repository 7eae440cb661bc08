-- What is known of the elements of a saturated trail and of the nodes that they are like.
use Rattle.std.proofs.Common.{◌≡◌, ℕ, ◌<◌, ◌≤◌, ◌&&◌, Bool, true, eqb, List, [], ◌∷◌, get_or, Some, refl, ◌∙◌, subst}
use Rattle.std.proofs.Common.{arith, inl, inr, eq-eqb}
use Rattle.std.specs.List.{list_any, list_all, range_with_len}
use Rattle.std.proofs.lemmas.List.Folds.{list_any_at}
use Rattle.std.proofs.lemmas.List.FromFn.{length-range_with_len, get_or-range_with_len}
use Rattle.std.proofs.lemmas.Bool.{cases_Bool, cases_lt, and_parts, and_from, or_cases, or_left, or_right, eqb-true}
use Rattle.calculus_specs.specs.declared.facts.Fact.{Fact}
use Rattle.calculus_specs.specs.declared.facts.Fact.TheVariants.{Has, Edge, Apart, Same}
use Rattle.calculus_specs.specs.Joins.{rep}
use Rattle.calculus_specs.specs.State.{node_count_from, parent_from, has, label, is_label_part, gives_edge, has_edge}
use Rattle.calculus_specs.specs.State.{is_successor}
use Rattle.calculus_specs.proofs.State.{any-label}
use Rattle.tableau_specs.specs.declared.Block.{Block}
use Rattle.tableau_specs.specs.declared.Block.TheVariants.{Clear, By, Under}
use Rattle.tableau_specs.specs.Blocked.{block_of}
use Rattle.tableau_specs.specs.StateLaws.{BlockSays}
use Rattle.tableau_specs.proofs.Blocks.{blocks_say}
use Rattle.tableau_specs.proofs.PlainClash.{successor_is_rep}
use Rattle.tableau_specs.specs.Steps.{SearchContext, IsOpen}
use Rattle.search_laws.specs.Elements.{is_above, is_element, original_by, original}

-- ---- labels

-- one of a list that passes a test is in the list
pub record Member (p : ℕ → Bool) (cs : List ℕ) : Type 0 where
  pub it : ℕ
  pub passes : p it ≡ true
  pub is_in : list_any (λ d. eqb d it) cs ≡ true

pub member : (p : ℕ → Bool) (cs : List ℕ) → list_any p cs ≡ true → Member p cs
member p [] h = cc
member p (c ∷ cs) h = elim (cases_Bool (p c)) [
  | inl here ↦
      record { it = c; passes = here; is_in = or_left (eqb c c) (list_any (λ d. eqb d c) cs) (eq-eqb c c refl) }
  | inr other ↦
      let later = member p cs (rw other at h) in
      record {
        it = later.it;
        passes = later.passes;
        is_in = or_right (eqb c later.it) (list_any (λ d. eqb d later.it) cs) later.is_in;
      }
]

-- a number below n passes the test
pub any_in_range : (p : ℕ → Bool) (n y : ℕ) → y < n → p y ≡ true → list_any p (range_with_len 0 n) ≡ true
any_in_range p n y lt h =
    list_any_at p (range_with_len 0 n) y 0 (omega (arith, length-range_with_len 0 n, lt))
    (subst (λ (z : ℕ). p z ≡ true)
    (let e : y ≡ get_or (range_with_len 0 n) y 0 = omega (arith, get_or-range_with_len 0 n y 0 lt) in e) h)

pub any_more : (p q : ℕ → Bool) → ((c : ℕ) → p c ≡ true → q c ≡ true) → (cs : List ℕ) → list_any p cs ≡ true
    → list_any q cs ≡ true
any_more p q imp [] h = cc
any_more p q imp (c ∷ cs) h = elim (or_cases (p c) (list_any p cs) h) [
  | inl here ↦ or_left (q c) (list_any q cs) (imp c here)
  | inr later ↦ or_right (q c) (list_any q cs) (any_more p q imp cs later)
]

pub all_in : (p : ℕ → Bool) (cs : List ℕ) (c : ℕ) → list_all p cs ≡ true → list_any (λ d. eqb d c) cs ≡ true
    → p c ≡ true
all_in p [] c all h = cc
all_in p (d ∷ cs) c all h =
    let t = and_parts (p d) (list_all p cs) all in
    elim (or_cases (eqb d c) (list_any (λ e. eqb e c) cs) h) [
      | inl here ↦ subst (λ (k : ℕ). p k ≡ true) (eqb-true d c here) t.0
      | inr later ↦ all_in p cs c t.1 later
    ]

pub part_has : (fs : List (Fact ℕ)) (x z c : ℕ) → is_label_part fs x z ≡ true → has fs x c ≡ true → has fs z c ≡ true
part_has fs x z c all h = all_in (has fs z) (label fs x) c all (any-label fs x c ∙ h)

-- ---- the node that an element is like

pub record IsLike (w : SearchContext) (fs : List (Fact ℕ)) (x u : ℕ) : Type 0 where
  pub is_open : IsOpen w fs u
  pub has_all : (c : ℕ) → has fs x c ≡ true → has fs u c ≡ true

-- a blocked node is no first node, since those are clear
blocked_is_other : (w : SearchContext) (fs : List (Fact ℕ)) → ((x p : ℕ) → parent_from w.first fs x ≡ Some p → p < x)
    → (x z : ℕ) → block_of w.first fs x ≡ By z → w.first ≤ x
blocked_is_other w fs less x z e = elim (cases_lt x w.first) [
  | inl lt ↦ (let clear = (blocks_say w.first fs less).0 x lt in cc)
  | inr le ↦ omega arith
]

like_by : (w : SearchContext) (fs : List (Fact ℕ)) → ((x p : ℕ) → parent_from w.first fs x ≡ Some p → p < x)
    → (x : ℕ) (b : Block) → block_of w.first fs x ≡ b → x < node_count_from w.first fs → rep fs x ≡ x
    → is_above b ≡ true → IsLike w fs x (original_by b x)
like_by w fs less x Clear e lt r above =
    record { is_open = record { is_node = lt; is_rep = r; is_clear = e }; has_all = λ c h. h }
like_by w fs less x (By z) e lt r above =
    let s =
    (subst (BlockSays w.first fs x) e ((blocks_say w.first fs less).1 x (blocked_is_other w fs less x z e))).1 in
    record {
      is_open = record { is_node = omega (arith, s.is_less); is_rep = s.is_rep; is_clear = s.is_clear };
      has_all = λ c h. part_has fs x z c s.has_label h;
    }
like_by w fs less x Under e lt r above = cc

pub element_is_rep : (first : ℕ) (fs : List (Fact ℕ)) (x : ℕ) → is_element first fs x ≡ true → rep fs x ≡ x
element_is_rep first fs x h = eqb-true (rep fs x) x (and_parts (eqb (rep fs x) x) (is_above (block_of first fs x)) h).0

pub like : (w : SearchContext) (fs : List (Fact ℕ)) → ((x p : ℕ) → parent_from w.first fs x ≡ Some p → p < x) → (x : ℕ)
    → x < node_count_from w.first fs → is_element w.first fs x ≡ true → IsLike w fs x (original w.first fs x)
like w fs less x lt h =
    like_by w fs less x (block_of w.first fs x) refl lt (element_is_rep w.first fs x h)
    (and_parts (eqb (rep fs x) x) (is_above (block_of w.first fs x)) h).1

-- ---- successors

above_unless : (b : Block) → ¬ (b ≡ Under) → is_above b ≡ true
above_unless Clear h = refl
above_unless (By z) h = refl
above_unless Under h = absurd (h refl)

pub successor_is_element : (first : ℕ) (fs : List (Fact ℕ)) (roles : ℕ → Bool) (x y : ℕ)
    → is_successor fs roles x y ≡ true → ¬ (block_of first fs y ≡ Under) → is_element first fs y ≡ true
successor_is_element first fs roles x y h n =
    and_from (eqb (rep fs y) y) (is_above (block_of first fs y)) (eq-eqb (rep fs y) y (successor_is_rep fs roles x y h))
    (above_unless (block_of first fs y) n)

gives_more : (p q : ℕ → Bool) → ((r : ℕ) → p r ≡ true → q r ≡ true) → (m : ℕ → ℕ) (a b : ℕ) (f : Fact ℕ)
    → gives_edge p m a b f ≡ true → gives_edge q m a b f ≡ true
gives_more p q imp m a b (Edge r y z) h =
    let t = and_parts (p r && eqb (m y) a) (eqb (m z) b) h in
    let u = and_parts (p r) (eqb (m y) a) t.0 in
    and_from (q r && eqb (m y) a) (eqb (m z) b) (and_from (q r) (eqb (m y) a) (imp r u.0) u.1) t.1
gives_more p q imp m a b (Has y c) h = cc
gives_more p q imp m a b (Apart y z) h = cc
gives_more p q imp m a b (Same y z) h = cc

any_gives_more : (p q : ℕ → Bool) → ((r : ℕ) → p r ≡ true → q r ≡ true) → (m : ℕ → ℕ) (a b : ℕ) (fs : List (Fact ℕ))
    → list_any (gives_edge p m a b) fs ≡ true → list_any (gives_edge q m a b) fs ≡ true
any_gives_more p q imp m a b [] h = cc
any_gives_more p q imp m a b (f ∷ fs) h = elim (or_cases (gives_edge p m a b f) (list_any (gives_edge p m a b) fs) h) [
  | inl here ↦ or_left (gives_edge q m a b f) (list_any (gives_edge q m a b) fs) (gives_more p q imp m a b f here)
  | inr later ↦
      or_right (gives_edge q m a b f) (list_any (gives_edge q m a b) fs) (any_gives_more p q imp m a b fs later)
]

-- a successor by some roles is one by more roles
pub successor_more : (fs : List (Fact ℕ)) (p q : ℕ → Bool) → ((r : ℕ) → p r ≡ true → q r ≡ true) → (x y : ℕ)
    → is_successor fs p x y ≡ true → is_successor fs q x y ≡ true
successor_more fs p q imp x y h =
    let t = and_parts (eqb (rep fs y) y) (has_edge fs p x y) h in
    and_from (eqb (rep fs y) y) (has_edge fs q x y) t.0 (any_gives_more p q imp (rep fs) (rep fs x) (rep fs y) fs t.1)
