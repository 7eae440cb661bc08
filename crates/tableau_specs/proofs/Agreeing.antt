-- Blocks below the nodes of which something new is said.
use Rattle.std.proofs.Common.{◌≡◌, ℕ, zero, suc, ◌+◌, ◌<◌, ◌≤◌, ◌&&◌, ◌||◌, Bool, true, false, cond, eqb, ltb, ◌⊎◌}
use Rattle.std.proofs.Common.{List, [], ◌∷◌, ◌++◌, Option, Some, None, refl, ap, sym, ◌∙◌, arith, inl, inr}
use Rattle.std.proofs.Common.{append_assoc, append-nil, subst}
use Rattle.std.specs.List.{list_any, list_all}
use Rattle.std.specs.Prelude.{min, slice_index_or}
use Rattle.std.proofs.lemmas.Bool.{cases_Bool, lt-ltb, or_cases, ne_eqb, eq-eqb, eqb-true}
use Rattle.calculus_specs.specs.declared.facts.Fact.{Fact}
use Rattle.calculus_specs.specs.declared.facts.Fact.TheVariants.{Has, Edge, Apart, Same}
use Rattle.calculus_specs.specs.Joins.{merged, rep}
use Rattle.calculus_specs.specs.State.{first_origin, parent_from, gives_concept, has, concepts_at, label, is_label_part}
use Rattle.calculus_specs.specs.State.{new_nodes, apart_from, pairwise_apart, fresh_facts}
use Rattle.calculus_specs.proofs.Joined.{rep-snoc, rep-le, any-snoc}
use Rattle.tableau_specs.specs.declared.Block.{Block}
use Rattle.tableau_specs.specs.declared.Block.TheVariants.{Clear, By, Under}
use Rattle.tableau_specs.specs.Blocked.{is_clear, is_parent_clear, may_block, blocked_from, block_at, blocks_to}
use Rattle.tableau_specs.specs.Blocked.{block_of}
use Rattle.calculus_specs.specs.State.{HaveParentsBefore}
use Rattle.tableau_specs.specs.BlockLaws.{AgreeBelow, BlocksFollowWhatStandsBelow, LeavesBelow}
use Rattle.tableau_specs.specs.BlockLaws.{OneFactLeavesBlocksBelow, AllLeaveBelow, FactsLeaveBlocksBelow}
use Rattle.tableau_specs.specs.BlockLaws.{FactsLeaveNodesBelow, AreUnjoinedFrom, NewNodesLeaveBlocks}
use Rattle.tableau_specs.specs.BlockLaws.{EdgesToFirstLeaveBlocks}

-- ---- blocks where two lists of facts agree

module _ (first : ℕ) (fs gs : List (Fact ℕ)) (n : ℕ) (before : HaveParentsBefore first fs)
    (same : AgreeBelow first fs gs n) where
  clear_same : (blocks : List Block) (x : ℕ) → x < n → (o : Option ℕ) → parent_from first fs x ≡ o
      → is_parent_clear fs blocks o ≡ is_parent_clear gs blocks o
  clear_same blocks x lt None e = refl
  clear_same blocks x lt (Some p) e =
      let less = before x p e in
      ap (λ (k : ℕ). is_clear (slice_index_or blocks k Under)) (same.reps p (omega arith))

  may_same : (blocks : List Block) (x z : ℕ) → x < n → z < n → may_block fs blocks x z ≡ may_block gs blocks x z
  may_same blocks x z lt less =
      let r = same.reps z less in
      let l = same.labels x z lt less in
      λ i. eqb (r i) z && is_clear (slice_index_or blocks z Under) && l i

  from_same : (blocks : List Block) (x z k : ℕ) → x < n → z + k ≤ x
      → blocked_from fs blocks x z k ≡ blocked_from gs blocks x z k
  from_same blocks x z zero lt le = refl
  from_same blocks x z (suc k) lt le =
      let here = may_same blocks x z lt (omega arith) in
      let rest = from_same blocks x (z + 1) k lt (omega arith) in
      λ i. cond (here i) (By z) (rest i)

  at_same : (blocks : List Block) (x : ℕ) → x < n → block_at first fs blocks x ≡ block_at first gs blocks x
  at_same blocks x lt =
      let up : is_parent_clear fs blocks (parent_from first fs x) ≡ is_parent_clear gs blocks (parent_from first gs x) =
      clear_same blocks x lt (parent_from first fs x) refl ∙ ap (is_parent_clear gs blocks) (same.parents x lt) in
      let below = from_same blocks x 0 x lt (omega arith) in
      λ i. cond (ltb x first) Clear (cond (up i) (below i) Under)

  to_same : (k : ℕ) → k ≤ n → blocks_to first fs k ≡ blocks_to first gs k
  to_same zero le = refl
  to_same (suc k) le =
      let earlier = to_same k (omega arith) in
      ap (λ (b : List Block). b ++ block_at first fs b k ∷ []) earlier
      ∙ ap (λ (b : Block). blocks_to first gs k ++ b ∷ []) (at_same (blocks_to first gs k) k (omega arith))

  of_same : (x : ℕ) → x < n → block_of first fs x ≡ block_of first gs x
  of_same x lt =
      ap (λ (b : List Block). block_at first fs b x) (to_same x (omega arith)) ∙ at_same (blocks_to first gs x) x lt

pub blocks_agree : BlocksFollowWhatStandsBelow
blocks_agree first fs gs n before same x lt = of_same first fs gs n before same x lt

-- ---- one fact more

origin_kept : (fs : List (Fact ℕ)) (f : Fact ℕ) (x : ℕ) → first_origin (f ∷ []) x ≡ None
    → first_origin (fs ++ f ∷ []) x ≡ first_origin fs x
origin_kept [] f x e = e
origin_kept (Has y c ∷ fs) f x e = origin_kept fs f x e
origin_kept (Edge r y z ∷ fs) f x e = ap (λ (o : Option ℕ). cond (eqb z x) (Some y) o) (origin_kept fs f x e)
origin_kept (Apart y z ∷ fs) f x e = origin_kept fs f x e
origin_kept (Same y z ∷ fs) f x e = origin_kept fs f x e

concepts_same : (m k : ℕ → ℕ) (at : ℕ) → ((w : ℕ) → eqb (m w) at ≡ eqb (k w) at) → (fs : List (Fact ℕ))
    → concepts_at m at fs ≡ concepts_at k at fs
concepts_same m k at tests [] = refl
concepts_same m k at tests (Has y c ∷ fs) =
    let rest = concepts_same m k at tests fs in
    let here = tests y in
    λ i. cond (here i) (c ∷ rest i) (rest i)
concepts_same m k at tests (Edge r y z ∷ fs) = concepts_same m k at tests fs
concepts_same m k at tests (Apart y z ∷ fs) = concepts_same m k at tests fs
concepts_same m k at tests (Same y z ∷ fs) = concepts_same m k at tests fs

concepts_kept : (m : ℕ → ℕ) (at : ℕ) (fs : List (Fact ℕ)) (f : Fact ℕ) → concepts_at m at (f ∷ []) ≡ []
    → concepts_at m at (fs ++ f ∷ []) ≡ concepts_at m at fs
concepts_kept m at [] f e = e
concepts_kept m at (Has y c ∷ fs) f e =
    let rest = concepts_kept m at fs f e in λ i. cond (eqb (m y) at) (c ∷ rest i) (rest i)
concepts_kept m at (Edge r y z ∷ fs) f e = concepts_kept m at fs f e
concepts_kept m at (Apart y z ∷ fs) f e = concepts_kept m at fs f e
concepts_kept m at (Same y z ∷ fs) f e = concepts_kept m at fs f e

gives_same : (kind : ℕ → Bool) (m k : ℕ → ℕ) (at : ℕ) → ((w : ℕ) → eqb (m w) at ≡ eqb (k w) at) → (f : Fact ℕ)
    → gives_concept kind m at f ≡ gives_concept kind k at f
gives_same kind m k at tests (Has y c) = ap (λ (b : Bool). b && kind c) (tests y)
gives_same kind m k at tests (Edge r y z) = refl
gives_same kind m k at tests (Apart y z) = refl
gives_same kind m k at tests (Same y z) = refl

or_none : (a b : Bool) → b ≡ false → (a || b) ≡ a
or_none true b e = refl
or_none false b e = e

-- what a fact says of the nodes with a representative
record Leaves (fs : List (Fact ℕ)) (f : Fact ℕ) (at : ℕ) : Type 0 where
  tests : (w : ℕ) → eqb (rep (fs ++ f ∷ []) w) at ≡ eqb (rep fs w) at
  no_concept : concepts_at (rep fs) at (f ∷ []) ≡ []
  gives_none : (kind : ℕ → Bool) → gives_concept kind (rep fs) at f ≡ false

module _ (fs : List (Fact ℕ)) (f : Fact ℕ) where
  abbrev more : List (Fact ℕ)
  more = fs ++ f ∷ []

  label_kept : (x : ℕ) → rep more x ≡ rep fs x → Leaves fs f (rep fs x) → label more x ≡ label fs x
  label_kept x e l =
      ap (λ (at : ℕ). 0 ∷ concepts_at (rep more) at more) e
      ∙ ap (λ (cs : List ℕ). 0 ∷ cs)
      (concepts_same (rep more) (rep fs) (rep fs x) l.tests more ∙ concepts_kept (rep fs) (rep fs x) fs f l.no_concept)

  has_kept : (z c : ℕ) → rep more z ≡ rep fs z → Leaves fs f (rep fs z) → has more z c ≡ has fs z c
  has_kept z c e l =
      let kind = λ (d : ℕ). eqb d c in
      let each : gives_concept kind (rep more) (rep fs z) ≡ gives_concept kind (rep fs) (rep fs z) =
      λ i g. gives_same kind (rep more) (rep fs) (rep fs z) l.tests g i in
      ap (λ (at : ℕ). eqb c 0 || list_any (gives_concept kind (rep more) at) more) e
      ∙ ap (λ (p : Fact ℕ → Bool). eqb c 0 || list_any p more) each
      ∙ ap (λ (b : Bool). eqb c 0 || b)
      (any-snoc (gives_concept kind (rep fs) (rep fs z)) fs f
      ∙ or_none (list_any (gives_concept kind (rep fs) (rep fs z)) fs) (gives_concept kind (rep fs) (rep fs z) f)
      (l.gives_none kind))

  part_kept : (x z : ℕ) → rep more x ≡ rep fs x → rep more z ≡ rep fs z → Leaves fs f (rep fs x)
      → Leaves fs f (rep fs z) → is_label_part more x z ≡ is_label_part fs x z
  part_kept x z e g l m =
      ap (λ (cs : List ℕ). list_all (has more z) cs) (label_kept x e l)
      ∙ ap (λ (p : ℕ → Bool). list_all p (label fs x)) (λ i c. has_kept z c g m i)

other : (n a at : ℕ) → n ≤ a → at < n → eqb a at ≡ false
other n a at le lt = ne_eqb a at (λ e. absurd (omega arith))

-- a joining of greater representatives is none of the lesser ones'
merged_test : (n a b v at : ℕ) → n ≤ a → n ≤ b → at < n → eqb (merged a b v) at ≡ eqb v at
merged_test n a b v at le me lt = elim (cases_Bool (eqb v a || eqb v b)) [
  | inl hit ↦
      let big : at < v = elim (or_cases (eqb v a) (eqb v b) hit) [
        | inl e ↦ let same = eqb-true v a e in omega arith
        | inr e ↦ let same = eqb-true v b e in omega arith
      ] in
      ap (λ (t : Bool). eqb (cond t (min a b) v) at) hit ∙ ne_eqb (min a b) at (λ e. absurd (omega arith))
      ∙ sym (ne_eqb v at (λ e. absurd (omega arith)))
  | inr miss ↦ ap (λ (t : Bool). eqb (cond t (min a b) v) at) miss
]

module _ (first : ℕ) where
  leaves : (fs : List (Fact ℕ)) (f : Fact ℕ) (n at : ℕ) → LeavesBelow first fs f n → at < n → Leaves fs f at
  leaves fs (Has y c) n at h lt = record {
    tests = λ w. ap (λ (k : ℕ). eqb k at) (rep-snoc fs (Has y c) w);
    no_concept = ap (λ (b : Bool). cond b (c ∷ []) []) (other n (rep fs y) at h lt);
    gives_none = λ kind. ap (λ (b : Bool). b && kind c) (other n (rep fs y) at h lt);
  }
  leaves fs (Edge r y z) n at h lt = record {
    tests = λ w. ap (λ (k : ℕ). eqb k at) (rep-snoc fs (Edge r y z) w);
    no_concept = refl;
    gives_none = λ kind. refl;
  }
  leaves fs (Apart y z) n at h lt = record {
    tests = λ w. ap (λ (k : ℕ). eqb k at) (rep-snoc fs (Apart y z) w);
    no_concept = refl;
    gives_none = λ kind. refl;
  }
  leaves fs (Same y z) n at h lt = record {
    tests =
        λ w. ap (λ (k : ℕ). eqb k at) (rep-snoc fs (Same y z) w)
        ∙ merged_test n (rep fs y) (rep fs z) (rep fs w) at h.0 h.1 lt;
    no_concept = refl;
    gives_none = λ kind. refl;
  }

  rep_kept : (fs : List (Fact ℕ)) (f : Fact ℕ) (n x : ℕ) → LeavesBelow first fs f n → x < n
      → rep (fs ++ f ∷ []) x ≡ rep fs x
  rep_kept fs f n x h lt =
      let low : rep fs x < n = omega (arith, lt, rep-le fs x) in
      let l = leaves fs f n (rep fs x) h low in
      eqb-true (rep (fs ++ f ∷ []) x) (rep fs x) (l.tests x ∙ eq-eqb (rep fs x) (rep fs x) refl)

  parent_kept : (fs : List (Fact ℕ)) (f : Fact ℕ) (x : ℕ) → first_origin (f ∷ []) x ≡ None
      → parent_from first (fs ++ f ∷ []) x ≡ parent_from first fs x
  parent_kept fs f x none = ap (λ (o : Option ℕ). cond (ltb x first) None o) (origin_kept fs f x none)

  -- a first node has no parent, whatever edges lead to it
  first_kept : (fs : List (Fact ℕ)) (f : Fact ℕ) (x : ℕ) → x < first
      → parent_from first (fs ++ f ∷ []) x ≡ parent_from first fs x
  first_kept fs f x lt =
      ap (λ (b : Bool). cond b None (first_origin (fs ++ f ∷ []) x)) (lt-ltb x first lt)
      ∙ sym (ap (λ (b : Bool). cond b None (first_origin fs x)) (lt-ltb x first lt))

  edge_leaves : (fs : List (Fact ℕ)) (r y z n x : ℕ) → (n ≤ z) ⊎ (z < first) → x < n
      → parent_from first (fs ++ Edge r y z ∷ []) x ≡ parent_from first fs x
  edge_leaves fs r y z n x (inl h) lt =
      parent_kept fs (Edge r y z) x (ap (λ (b : Bool). cond b (Some y) None) (other n z x h lt))
  edge_leaves fs r y z n x (inr low) lt = elim (cases_Bool (eqb z x)) [
    | inl hit ↦ first_kept fs (Edge r y z) x (omega (arith, low, eqb-true z x hit))
    | inr miss ↦ parent_kept fs (Edge r y z) x (ap (λ (b : Bool). cond b (Some y) None) miss)
  ]

  parents_leave : (fs : List (Fact ℕ)) (f : Fact ℕ) (n x : ℕ) → LeavesBelow first fs f n → x < n
      → parent_from first (fs ++ f ∷ []) x ≡ parent_from first fs x
  parents_leave fs (Has y c) n x h lt = parent_kept fs (Has y c) x refl
  parents_leave fs (Edge r y z) n x h lt = edge_leaves fs r y z n x h lt
  parents_leave fs (Apart y z) n x h lt = parent_kept fs (Apart y z) x refl
  parents_leave fs (Same y z) n x h lt = parent_kept fs (Same y z) x refl

  agree : (fs : List (Fact ℕ)) (f : Fact ℕ) (n : ℕ) → LeavesBelow first fs f n → AgreeBelow first (fs ++ f ∷ []) fs n
  agree fs f n h = record {
    parents = λ x lt. parents_leave fs f n x h lt;
    reps = λ x lt. rep_kept fs f n x h lt;
    labels = λ x z lt less. part_kept fs f x z (rep_kept fs f n x h lt) (rep_kept fs f n z h less)
        (leaves fs f n (rep fs x) h (omega (arith, lt, rep-le fs x)))
        (leaves fs f n (rep fs z) h (omega (arith, less, rep-le fs z)));
  }

  flip : (fs gs : List (Fact ℕ)) (n : ℕ) → AgreeBelow first fs gs n → AgreeBelow first gs fs n
  flip fs gs n a = record {
    parents = λ x lt. sym (a.parents x lt);
    reps = λ x lt. sym (a.reps x lt);
    labels = λ x z lt less. sym (a.labels x z lt less);
  }

  of_blocks_left : (fs : List (Fact ℕ)) (f : Fact ℕ) (n : ℕ) → HaveParentsBefore first fs → LeavesBelow first fs f n
      → (x : ℕ) → x < n → block_of first (fs ++ f ∷ []) x ≡ block_of first fs x
  of_blocks_left fs f n before h x lt =
      sym (of_same first fs (fs ++ f ∷ []) n before (flip (fs ++ f ∷ []) fs n (agree fs f n h)) x lt)

  -- ---- more facts

  joined_up : (fs gs hs : List (Fact ℕ)) (n : ℕ) → AgreeBelow first fs gs n → AgreeBelow first gs hs n
      → AgreeBelow first fs hs n
  joined_up fs gs hs n a b = record {
    parents = λ x lt. a.parents x lt ∙ b.parents x lt;
    reps = λ x lt. a.reps x lt ∙ b.reps x lt;
    labels = λ x z lt less. a.labels x z lt less ∙ b.labels x z lt less;
  }

  itself : (fs : List (Fact ℕ)) (n : ℕ) → AgreeBelow first fs fs n
  itself fs n = record { parents = λ x lt. refl; reps = λ x lt. refl; labels = λ x z lt less. refl }

  agree_all : (fs new : List (Fact ℕ)) (n : ℕ) → AllLeaveBelow first fs new n → AgreeBelow first (fs ++ new) fs n
  agree_all fs [] n h = subst (λ (l : List (Fact ℕ)). AgreeBelow first l fs n) (sym (append-nil fs)) (itself fs n)
  agree_all fs (f ∷ new) n h =
      let later : AgreeBelow first ((fs ++ f ∷ []) ++ new) (fs ++ f ∷ []) n = agree_all (fs ++ f ∷ []) new n h.1 in
      joined_up (fs ++ f ∷ new) (fs ++ f ∷ []) fs n
      (subst (λ (l : List (Fact ℕ)). AgreeBelow first l (fs ++ f ∷ []) n) (append_assoc fs (f ∷ []) new) later)
      (agree fs f n h.0)

  of_blocks_left_by_all : (fs new : List (Fact ℕ)) (n : ℕ) → HaveParentsBefore first fs → AllLeaveBelow first fs new n
      → (x : ℕ) → x < n → block_of first (fs ++ new) x ≡ block_of first fs x
  of_blocks_left_by_all fs new n before h x lt =
      sym (of_same first fs (fs ++ new) n before (flip (fs ++ new) fs n (agree_all fs new n h)) x lt)

  has_left : (fs : List (Fact ℕ)) (f : Fact ℕ) (n x : ℕ) → LeavesBelow first fs f n → x < n → (c : ℕ)
      → has (fs ++ f ∷ []) x c ≡ has fs x c
  has_left fs f n x h lt c =
      has_kept fs f x c (rep_kept fs f n x h lt) (leaves fs f n (rep fs x) h (omega (arith, lt, rep-le fs x)))

  all_has_left : (fs new : List (Fact ℕ)) (n x : ℕ) → AllLeaveBelow first fs new n → x < n → (c : ℕ)
      → has (fs ++ new) x c ≡ has fs x c
  all_has_left fs [] n x h lt c = ap (λ (l : List (Fact ℕ)). has l x c) (append-nil fs)
  all_has_left fs (f ∷ new) n x h lt c =
      ap (λ (l : List (Fact ℕ)). has l x c) (sym (append_assoc fs (f ∷ []) new))
      ∙ all_has_left (fs ++ f ∷ []) new n x h.1 lt c ∙ has_left fs f n x h.0 lt c

  of_nodes_left_by_all : (fs new : List (Fact ℕ)) (n : ℕ) → AllLeaveBelow first fs new n → (x : ℕ) → x < n
      → (rep (fs ++ new) x ≡ rep fs x) × ((c : ℕ) → has (fs ++ new) x c ≡ has fs x c)
  of_nodes_left_by_all fs new n h x lt = ((agree_all fs new n h).reps x lt, all_has_left fs new n x h lt)

  -- ---- new nodes

  all_after : (fs as_ bs : List (Fact ℕ)) (n : ℕ) → AllLeaveBelow first fs as_ n → AllLeaveBelow first (fs ++ as_) bs n
      → AllLeaveBelow first fs (as_ ++ bs) n
  all_after fs [] bs n h g = subst (λ (l : List (Fact ℕ)). AllLeaveBelow first l bs n) (append-nil fs) g
  all_after fs (f ∷ as_) bs n h g = (
    h.0,
    all_after (fs ++ f ∷ []) as_ bs n h.1
        (subst (λ (l : List (Fact ℕ)). AllLeaveBelow first l bs n) (sym (append_assoc fs (f ∷ []) as_)) g),
  )

  apart_leave : (fs : List (Fact ℕ)) (y z k n : ℕ) → AllLeaveBelow first fs (apart_from y z k) n
  apart_leave fs y z zero n = tt
  apart_leave fs y z (suc k) n = (tt, apart_leave (fs ++ Apart y z ∷ []) y (z + 1) k n)

  pairs_leave : (fs : List (Fact ℕ)) (low k n : ℕ) → AllLeaveBelow first fs (pairwise_apart low k) n
  pairs_leave fs low zero n = tt
  pairs_leave fs low (suc k) n =
      all_after fs (apart_from low (low + 1) k) (pairwise_apart (low + 1) k) n (apart_leave fs low (low + 1) k n)
      (pairs_leave (fs ++ apart_from low (low + 1) k) (low + 1) k n)

  nodes_leave : (fs : List (Fact ℕ)) (x s e low k n : ℕ) → n ≤ low → AreUnjoinedFrom fs n
      → AllLeaveBelow first fs (new_nodes x s e low k) n
  nodes_leave fs x s e low zero n le h = tt
  nodes_leave fs x s e low (suc k) n le h =
      let edged = fs ++ Edge s x low ∷ [] in
      let named = edged ++ Has low e ∷ [] in
      let unjoined : AreUnjoinedFrom edged n =
      λ v past. subst (λ (r : ℕ). n ≤ r) (sym (rep-snoc fs (Edge s x low) v)) (h v past) in
      let still : AreUnjoinedFrom named n =
      λ v past. subst (λ (r : ℕ). n ≤ r) (sym (rep-snoc edged (Has low e) v)) (unjoined v past) in
      (inl le, (unjoined low le, nodes_leave named x s e (low + 1) k n (omega arith) still))

  of_blocks_left_by_new : (fs : List (Fact ℕ)) (x s e n count : ℕ) → HaveParentsBefore first fs → AreUnjoinedFrom fs n
      → (z : ℕ) → z < n → block_of first (fs ++ fresh_facts x s e n count) z ≡ block_of first fs z
  of_blocks_left_by_new fs x s e n count before h z lt =
      of_blocks_left_by_all fs (fresh_facts x s e n count) n before
      (all_after fs (new_nodes x s e n count) (pairwise_apart n count) n
      (nodes_leave fs x s e n count n (omega arith) h) (pairs_leave (fs ++ new_nodes x s e n count) n count n))
      z lt

-- ---- the laws

pub blocks_left : OneFactLeavesBlocksBelow
blocks_left first fs f n before h x lt = of_blocks_left first fs f n before h x lt

pub blocks_left_by_all : FactsLeaveBlocksBelow
blocks_left_by_all first fs new n before h x lt = of_blocks_left_by_all first fs new n before h x lt

pub nodes_left_by_all : FactsLeaveNodesBelow
nodes_left_by_all first fs new n h x lt = of_nodes_left_by_all first fs new n h x lt

pub blocks_left_by_new : NewNodesLeaveBlocks
blocks_left_by_new first fs x s e n count before h z lt = of_blocks_left_by_new first fs x s e n count before h z lt

pub blocks_left_by_edge : EdgesToFirstLeaveBlocks
blocks_left_by_edge first fs r y z before low x =
    of_blocks_left first fs (Edge r y z) (x + 1) before (inr low) x (omega arith)
