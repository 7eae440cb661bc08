-- No node is taken twice.
use Rattle.std.proofs.Common.{◌≡◌, ◌≢◌, ℕ, ◌+◌, ◌-◌, ◌*◌, ◌<◌, ◌≤◌, ◌||◌, ◌++◌, ◌∷◌, [], List, length, take, get_or}
use Rattle.std.proofs.Common.{Bool, true, false, cond, eqb, refl, sym, ap, ◌∙◌, subst, arith, inl, inr, eq-eqb, min}
use Rattle.std.proofs.Common.{length-append}
use Rattle.std.specs.FinSet as set
use Rattle.std.specs.List.{Contains}
use Rattle.std.proofs.lemmas.Bool.{cases_eq, cases_lt, true≢false, ne_eqb}
use Rattle.std.proofs.lemmas.List.{get_or_default, get_or_append_left, get_or_push, get_or-take, length-take-le}
use Rattle.std.proofs.lemmas.List.{take-append-le}
use Rattle.std.proofs.lemmas.List.Elements.{Contains-append_left, Contains-get_or, Contains-push, Contains-push_cases}
use Rattle.std.proofs.Math.Seq.{take-length}
use Rattle.std.proofs.Math.Nat.{mul-add, mul-le-mul_left}
use Rattle.std.proofs.Math.Bool.{or-true}
use Rattle.lane_sieve.specs.Sets.{NumberSet, IsPart}
use Rattle.lane_sieve.proofs.Bits.{contains_insert}
use Rattle.axiom_sets.specs.Sets.{Limited}
use Rattle.pinpointing_specs.specs.Smallest.{AreApart}
use Rattle.pinpointing_specs.specs.Nodes.{IsChild, IsTree, IsSettled, AreSettled}
use Rattle.set_questions.specs.Meaning.{Meaning, one_more}
use Rattle.hitting_set_tree.specs.declared.frames.Frame.{Frame}
use Rattle.hitting_set_tree.specs.declared.frames.Node.{Node}
use Rattle.hitting_set_tree.specs.Territory.{InNode, InScope, InFrame, IsNode, IsFrame, IsNextChild, Frames}
use Rattle.hitting_set_tree.specs.Tree.{Lists, with_frame}
use Rattle.hitting_set_tree.specs.Open.{Stands, IsBuilt, IsOpen, IsBeside, IsPending, IsEnded, HasOpen, AsksFew}
use Rattle.hitting_set_tree.proofs.Children.{apart_turned}

-- ---- lists that grow at the end

long : {X : Type 0} (xs : List X) (y : X) → length (xs ++ y ∷ []) ≡ length xs + 1
long xs y = length-append xs (y ∷ [])

old : {X : Type 0} (xs : List X) (y d : X) (i : ℕ) → i < length xs → get_or (xs ++ y ∷ []) i d ≡ get_or xs i d
old xs y d i lt = get_or_append_left xs (y ∷ []) d i lt

last : {X : Type 0} (xs : List X) (y d : X) (i : ℕ) → i ≡ length xs → get_or (xs ++ y ∷ []) i d ≡ y
last xs y d i e = get_or_push xs y d i (sym e)

-- a fact for each element of a longer list, by place
each_place : {X : Type 0} (P : ℕ → X → Type 0) (xs : List X) (y : X)
    → ((i : ℕ) (d : X) → i < length xs → P i (get_or xs i d)) → P (length xs) y
    → (i : ℕ) (d : X) → i < length (xs ++ y ∷ []) → P i (get_or (xs ++ y ∷ []) i d)
each_place P xs y each new i d lt =
    elim (cases_lt i (length xs)) [
      | inl low ↦ subst (λ x. P i x) (sym (old xs y d i low)) (each i d low)
      | inr high ↦
          let e : i ≡ length xs = omega (arith, long xs y) in
          subst (λ x. P i x) (sym (last xs y d i e)) (subst (λ (j : ℕ). P j y) (sym e) new)
    ]

-- ---- labels by place

pub relabel : (ℕ → Limited) → ℕ → Limited → ℕ → Limited
relabel label n l p = cond (eqb p n) l (label p)

relabel_same : (label : ℕ → Limited) (n : ℕ) (l : Limited) → relabel label n l n ≡ l
unfolding relabel
relabel_same label n l = ap (λ (b : Bool). cond b l (label n)) (eq-eqb n n refl)

relabel_other : (label : ℕ → Limited) (n : ℕ) (l : Limited) (p : ℕ) → p ≢ n → relabel label n l p ≡ label p
unfolding relabel
relabel_other label n l p ne = ap (λ (b : Bool). cond b l (label p)) (ne_eqb p n ne)

pub child_along : (n n' l l' c c' : Limited) → n ≡ n' → l ≡ l' → c ≡ c' → IsChild n l c → IsChild n' l' c'
child_along n n' l l' c c' e f g h =
    subst (λ (x : Limited). IsChild n' l' x) g
    (subst (λ (x : Limited). IsChild n' x c) f (subst (λ (x : Limited). IsChild x l c) e h))

-- ---- a frame's own node

pub own_scope : (n : ℕ) (f : Frame) → IsFrame n f → InScope f f.hit.members
own_scope n f good = (λ k h. h, λ k in_barred shut. apart_turned f.hit.members f.barred.members good.apart k in_barred)

pub own_frame : (n : ℕ) (f : Frame) → IsFrame n f → ¬ InFrame f f.hit.members
own_frame n f good inside =
    let meet = inside.1 in
    true≢false
    (sym meet.2 ∙ apart_turned f.hit.members f.barred.members good.apart meet.0 (good.ahead_barred meet.0 meet.1))

pub own_node : (n : ℕ) (node : Node) → IsNode n node → InNode node node.hit.members
own_node n node good = (λ k h. h, apart_turned node.hit.members node.barred.members good.apart)

-- a set that lacks a number of a part is none with that part
lacks : (s t : NumberSet) → IsPart s t → (more : (k : ℕ) × (set.contains s k ≡ true) × (set.contains t k ≡ false)) → ⊥
lacks s t part more = true≢false (sym (part more.0 more.1) ∙ more.2)

-- ---- frames that stand on each other

pub built_front : (fs : List Frame) (f : Frame) → IsBuilt (fs ++ f ∷ []) → IsBuilt fs
built_front fs f built i d lt =
    let stands = built i d (omega (arith, long fs f, lt)) in
    subst (λ (below : List Frame). Stands below (get_or fs i d).hit (InScope (get_or fs i d)))
    (take-append-le i fs (f ∷ []) (omega arith))
    (subst (λ (g : Frame). Stands (take i (fs ++ f ∷ [])) g.hit (InScope g)) (old fs f d i lt) stands)

pub built_last : (fs : List Frame) (f : Frame) → IsBuilt (fs ++ f ∷ []) → Stands fs f.hit (InScope f)
built_last fs f built =
    let stands = built (length fs) f (omega (arith, long fs f)) in
    subst (λ (below : List Frame). Stands below f.hit (InScope f))
    (take-append-le (length fs) fs (f ∷ []) (omega arith) ∙ take-length fs)
    (subst (λ (g : Frame). Stands (take (length fs) (fs ++ f ∷ [])) g.hit (InScope g)) (last fs f f (length fs) refl)
    stands)

pub built_push : (fs : List Frame) (f : Frame) → IsBuilt fs → Stands fs f.hit (InScope f) → IsBuilt (fs ++ f ∷ [])
built_push fs f built stands =
    each_place (λ i g. Stands (take i (fs ++ f ∷ [])) g.hit (InScope g)) fs f
    (λ i d lt. subst (λ (below : List Frame). Stands below (get_or fs i d).hit (InScope (get_or fs i d)))
    (sym (take-append-le i fs (f ∷ []) (omega arith))) (built i d lt))
    (subst (λ (below : List Frame). Stands below f.hit (InScope f))
    (sym (take-append-le (length fs) fs (f ∷ []) (omega arith) ∙ take-length fs)) stands)

-- a node stands where a frame with its sets does
pub stands_within : (fs : List Frame) (hit hit' : Limited) (scope scope' : NumberSet → Type 0) → hit' ≡ hit
    → ((t : NumberSet) → scope' t → scope t) → Stands fs hit scope → Stands fs hit' scope'
stands_within fs hit hit' scope scope' e inside stands =
    subst (λ (h : Limited). Stands fs h scope') (sym e)
    (record {
      apart = λ g at t h. stands.apart g at t (inside t h);
      more = stands.more;
      root = stands.root;
      child = stands.child;
    })

-- ---- one node more

module _ (justifications taken : List Limited) (label label' : ℕ → Limited) (hit : Limited)
    (tree : IsTree justifications taken label) (agrees : (p : ℕ) → p < length taken → label' p ≡ label p)
    (new : ¬ Contains taken hit)
    (root : length taken ≡ 0 → hit.members ≡ set.empty)
    (parent : 0 < length taken
    → (p : ℕ) × (p < length taken) × Contains justifications (label p)
    × ((d : Limited) → IsChild (get_or taken p d) (label p) hit)) where
  distinct_more : (i j : ℕ) (d : Limited) → i < j → j < length (taken ++ hit ∷ [])
      → ¬ (get_or (taken ++ hit ∷ []) i d ≡ get_or (taken ++ hit ∷ []) j d)
  distinct_more i j d lt within same =
      elim (cases_lt j (length taken)) [
        | inl low ↦ tree.distinct i j d lt low (sym (old taken hit d i (omega arith)) ∙ same ∙ old taken hit d j low)
        | inr high ↦
            let i_low : i < length taken = omega (arith, long taken hit) in
            let is_hit : get_or taken i d ≡ hit =
            sym (old taken hit d i i_low) ∙ same ∙ last taken hit d j (omega (arith, long taken hit)) in
            new (i, i_low, get_or_default taken i hit d i_low ∙ is_hit)
      ]

  root_more : (d : Limited) → 0 < length (taken ++ hit ∷ []) → (get_or (taken ++ hit ∷ []) 0 d).members ≡ set.empty
  root_more d within =
      elim (cases_lt 0 (length taken)) [
        | inl some ↦ ap (λ (s : Limited). s.members) (old taken hit d 0 some) ∙ tree.root d some
        | inr none ↦ ap (λ (s : Limited). s.members) (last taken hit d 0 (omega arith)) ∙ root (omega arith)
      ]

  parent_more : (k : ℕ) (d : Limited) → 0 < k → k < length (taken ++ hit ∷ [])
      → (i : ℕ) × (i < k) × Contains justifications (label' i)
      × IsChild (get_or (taken ++ hit ∷ []) i d) (label' i) (get_or (taken ++ hit ∷ []) k d)
  parent_more k d pos within =
      elim (cases_lt k (length taken)) [
        | inl low ↦
            let up = tree.parent k d pos low in
            let i_low : up.0 < length taken = omega (arith, up.1) in
            let same = sym (agrees up.0 i_low) in (
              up.0,
              up.1,
              subst (λ (l : Limited). Contains justifications l) same up.2,
              child_along _ _ _ _ _ _ (sym (old taken hit d up.0 i_low)) same (sym (old taken hit d k low)) up.3,
            )
        | inr high ↦
            let up = parent (omega (arith, long taken hit)) in
            let same = sym (agrees up.0 up.1) in (
              up.0,
              omega (arith, up.1),
              subst (λ (l : Limited). Contains justifications l) same up.2,
              child_along _ _ _ _ _ _ (sym (old taken hit d up.0 up.1)) same
                  (sym (last taken hit d k (omega (arith, long taken hit)))) (up.3 d),
            )
      ]

  pub tree_more : IsTree justifications (taken ++ hit ∷ []) label'
  tree_more = record { distinct = distinct_more; root = root_more; parent = parent_more }

-- the parent of a node that stands on frames whose nodes were taken
module _ (justifications taken : List Limited) (below : List Frame) (label : ℕ → Limited) (hit : Limited)
    (scope : NumberSet → Type 0) (tree : IsTree justifications taken label) (stands : Stands below hit scope)
    (own : scope hit.members) (fresh : (t : Limited) → Contains taken t → ¬ scope t.members)
    (labels : (f : Frame) → Contains below f → Contains justifications f.label)
    (placed : (i : ℕ) (d : Frame) (e : Limited) → i < length below
    → (p : ℕ) × (p < length taken) × (get_or taken p e ≡ (get_or below i d).hit)
    × (label p ≡ (get_or below i d).label)) where
  pub new_node : ¬ Contains taken hit
  new_node at = fresh hit at own

  module _ (f : Frame) where
    pub root_of : length taken ≡ 0 → hit.members ≡ set.empty
    root_of none =
        elim (cases_lt 0 (length below)) [
          | inl some ↦ let at = placed 0 f hit some in absurd (omega (arith, at.1))
          | inr no' ↦ stands.root (omega arith)
        ]

    pub parent_of : 0 < length taken
        → (p : ℕ) × (p < length taken) × Contains justifications (label p)
        × ((d : Limited) → IsChild (get_or taken p d) (label p) hit)
    parent_of some =
        elim (cases_lt 0 (length below)) [
          | inl on ↦
              let n = length below - 1 in
              let lt : n < length below = omega arith in
              let g = get_or below n f in
              let at = placed n f hit lt in
              let child : IsChild g.hit g.label hit = stands.child f on in (
                at.0,
                at.1,
                subst (λ (l : Limited). Contains justifications l) (sym at.3) (labels g (Contains-get_or below n f lt)),
                λ d. child_along _ _ _ _ _ _ (sym (get_or_default taken at.0 d hit at.1 ∙ at.2)) (sym at.3) refl child,
              )
          | inr none ↦
              let first = get_or taken 0 hit in
              let e : hit.members ≡ first.members = stands.root (omega arith) ∙ sym (tree.root hit some) in
              absurd (fresh first (Contains-get_or taken 0 hit some) (subst scope e own))
        ]

-- settled nodes stay so
pub settled_still : (justifications justifications' leaves leaves' : List Limited) (node : Limited)
    → ((x : Limited) → Contains justifications x → Contains justifications' x)
    → ((x : Limited) → Contains leaves x → Contains leaves' x)
    → IsSettled justifications leaves node → IsSettled justifications' leaves' node
settled_still justifications justifications' leaves leaves' node more more' settled =
    elim settled [ inl leaf ↦ inl (more' node leaf) | inr just ↦ inr (just.0, more just.0 just.1, just.2) ]

-- ---- the node of a frame is taken

module _ (n : ℕ) (taken : List Limited) (ls : Lists) (r : ℕ) (label : ℕ → Limited) (d0 : Frame)
    (open' : IsOpen taken ls r label) (frames : (f : Frame) → Contains ls.frames f → IsFrame n f)
    (lt : r < length ls.frames) where
  abbrev frame : Frame
  frame = get_or ls.frames r d0

  abbrev hit : Limited
  hit = frame.hit

  in_list : Contains ls.frames frame
  in_list = Contains-get_or ls.frames r d0 lt

  stands : Stands (take r ls.frames) hit (InScope frame)
  stands = open'.built r d0 lt

  short : length (take r ls.frames) ≡ r
  short = length-take-le r ls.frames (omega arith)

  below_in : (f : Frame) → Contains (take r ls.frames) f → Contains ls.frames f
  below_in f at =
      let low : at.0 < r = omega (arith, at.1, short) in
      (at.0, omega arith, sym (get_or-take r ls.frames at.0 f low) ∙ at.2)

  placed_below : (i : ℕ) (d : Frame) (e : Limited) → i < length (take r ls.frames)
      → (p : ℕ) × (p < length taken) × (get_or taken p e ≡ (get_or (take r ls.frames) i d).hit)
      × (label p ≡ (get_or (take r ls.frames) i d).label)
  placed_below i d e low =
      let i_low : i < r = omega (arith, short) in
      subst (λ (g : Frame). (p : ℕ) × (p < length taken) × (get_or taken p e ≡ g.hit) × (label p ≡ g.label))
      (sym (get_or-take r ls.frames i d i_low)) (open'.placed i d e i_low)

  fresh_here : (t : Limited) → Contains taken t → ¬ InScope frame t.members
  fresh_here = open'.fresh r d0 (omega arith) lt

  own : InScope frame hit.members
  own = own_scope n frame (frames frame in_list)

  pub free : ¬ Contains taken hit
  free at = fresh_here hit at own

  abbrev label' : ℕ → Limited
  label' = relabel label (length taken) frame.label

  agrees : (p : ℕ) → p < length taken → label' p ≡ label p
  agrees p low = relabel_other label (length taken) frame.label p (λ e. absurd (omega (arith, e)))

  newest : label' (length taken) ≡ frame.label
  newest = relabel_same label (length taken) frame.label

  labels_below : (f : Frame) → Contains (take r ls.frames) f → Contains ls.justifications f.label
  labels_below f at = open'.labels f (below_in f at)

  more_tree : IsTree ls.justifications (taken ++ hit ∷ []) label'
  more_tree =
      tree_more ls.justifications taken label label' hit open'.tree agrees free
      (root_of ls.justifications taken (take r ls.frames) label hit (InScope frame) open'.tree stands own fresh_here
      labels_below placed_below frame)
      (parent_of ls.justifications taken (take r ls.frames) label hit (InScope frame) open'.tree stands own fresh_here
      labels_below placed_below frame)

  more_settled : AreSettled ls.justifications ls.leaves (taken ++ hit ∷ []) (length (taken ++ hit ∷ []))
  more_settled k d low within =
      each_place (λ i t. IsSettled ls.justifications ls.leaves t) taken hit (λ i e i_low. open'.settled i e i_low i_low)
      (inr (frame.label, open'.labels frame in_list, (frames frame in_list).label_apart)) k d within

  -- a frame that stands higher hits more
  higher : (q : ℕ) (d : Frame) → r < q → q < length ls.frames
      → (k : ℕ) × (set.contains (get_or ls.frames q d).hit.members k ≡ true) × (set.contains hit.members k ≡ false)
  higher q d above q_lt =
      (open'.built q d q_lt).more frame (
        r,
        omega (arith, length-take-le q ls.frames (omega arith)),
        get_or-take q ls.frames r frame above ∙ get_or_default ls.frames r frame d0 lt,
      )

  not_ahead : (f : Frame) → Contains ls.frames f → ¬ InFrame f hit.members
  not_ahead f at inside =
      elim (cases_lt at.0 r) [
        | inl low ↦
            stands.apart f (at.0, omega (arith, short), get_or-take r ls.frames at.0 f low ∙ at.2) hit.members own
            inside
        | inr high ↦ elim (cases_eq at.0 r) [
          | inl e ↦
              let same : frame ≡ f =
              get_or_default ls.frames r d0 f lt ∙ ap (λ (i : ℕ). get_or ls.frames i f) (sym e) ∙ at.2 in
              own_frame n frame (frames frame in_list) (subst (λ (g : Frame). InFrame g hit.members) (sym same) inside)
          | inr ne ↦
              let more = higher at.0 f (omega arith) at.1 in
              lacks f.hit.members hit.members inside.0.0
              (more.0, subst (λ (g : Frame). set.contains g.hit.members more.0 ≡ true) at.2 more.1, more.2)
        ]
      ]

  taken_frame : IsOpen (taken ++ hit ∷ []) ls (r + 1) label'
  taken_frame =
      record {
        tree = more_tree;
        leaf_taken = λ l at. Contains-append_left taken (hit ∷ []) l (open'.leaf_taken l at);
        settled = more_settled;
        rooted_within = omega arith;
        built = open'.built;
        labels = open'.labels;
        ahead = λ f at t t_at inside. elim (Contains-push_cases taken hit t t_at) [
          | inl before ↦ open'.ahead f at t before inside
          | inr e ↦ not_ahead f at (subst (λ (s : Limited). InFrame f s.members) (sym e) inside)
        ];
        fresh = λ i d le i_lt t t_at inside. elim (Contains-push_cases taken hit t t_at) [
          | inl before ↦ open'.fresh i d (omega arith) i_lt t before inside
          | inr e ↦
              lacks (get_or ls.frames i d).hit.members hit.members
              (subst (λ (s : Limited). IsPart (get_or ls.frames i d).hit.members s.members) (sym e) inside.0)
              (higher i d (omega arith) i_lt)
        ];
        placed = λ i d e i_lt. elim (cases_lt i r) [
          | inl low ↦
              let at = open'.placed i d e low in
              (at.0, omega (arith, at.1, long taken hit), old taken hit e at.0 at.1 ∙ at.2, agrees at.0 at.1 ∙ at.3)
          | inr high ↦
              let same : frame ≡ get_or ls.frames i d =
              get_or_default ls.frames r d0 d lt ∙ ap (λ (j : ℕ). get_or ls.frames j d) (omega arith) in (
                length taken,
                omega (arith, long taken hit),
                last taken hit e (length taken) refl ∙ ap (λ (g : Frame). g.hit) same,
                newest ∙ ap (λ (g : Frame). g.label) same,
              )
        ];
      }

  pub has_taken_frame : HasOpen (taken ++ hit ∷ []) ls (r + 1)
  has_taken_frame = (label', taken_frame)

  pub beside_still : (node : Node) → IsBeside taken ls.frames node → IsBeside (taken ++ hit ∷ []) ls.frames node
  beside_still node beside =
      record {
        stands = beside.stands;
        fresh = λ t t_at inside. elim (Contains-push_cases taken hit t t_at) [
          | inl before ↦ beside.fresh t before inside
          | inr e ↦
              lacks node.hit.members hit.members
              (subst (λ (s : Limited). IsPart node.hit.members s.members) (sym e) inside.0)
              (beside.stands.more frame in_list)
        ];
      }

-- ---- the node beside the frames is taken

module _ (n : ℕ) (taken : List Limited) (ls : Lists) (r : ℕ) (label : ℕ → Limited) (node : Node)
    (open' : IsOpen taken ls r label) (all : r ≡ length ls.frames) (beside : IsBeside taken ls.frames node)
    (good : IsNode n node) where
  abbrev node_hit : Limited
  node_hit = node.hit

  own_in : InNode node node_hit.members
  own_in = own_node n node good

  placed_all : (i : ℕ) (d : Frame) (e : Limited) → i < length ls.frames
      → (p : ℕ) × (p < length taken) × (get_or taken p e ≡ (get_or ls.frames i d).hit)
      × (label p ≡ (get_or ls.frames i d).label)
  placed_all i d e lt = open'.placed i d e (omega arith)

  pub node_free : ¬ Contains taken node_hit
  node_free at = beside.fresh node_hit at own_in

  -- some frame, to read lists by
  spare : Frame
  spare = record { hit = node_hit; barred = node_hit; ahead = node_hit; label = node_hit }

  pub taken_node : IsPending (taken ++ node_hit ∷ []) ls node label
  taken_node =
      record {
        tree = tree_more ls.justifications taken label label node_hit open'.tree (λ p lt. refl) node_free
            (root_of ls.justifications taken ls.frames label node_hit (InNode node) open'.tree beside.stands own_in
            beside.fresh open'.labels placed_all spare)
            (parent_of ls.justifications taken ls.frames label node_hit (InNode node) open'.tree beside.stands own_in
            beside.fresh open'.labels placed_all spare);
        leaf_taken = λ l at. Contains-append_left taken (node_hit ∷ []) l (open'.leaf_taken l at);
        some = omega (arith, long taken node_hit);
        last = λ d. last taken node_hit d (length (taken ++ node_hit ∷ []) - 1) (omega (arith, long taken node_hit));
        settled = λ k d lt within.
            let low : k < length taken = omega (arith, long taken node_hit) in
            subst (λ (t : Limited). IsSettled ls.justifications ls.leaves t) (sym (old taken node_hit d k low))
            (open'.settled k d low low);
        built = open'.built;
        labels = open'.labels;
        ahead = λ f at t t_at inside. elim (Contains-push_cases taken node_hit t t_at) [
          | inl before ↦ open'.ahead f at t before inside
          | inr e ↦
              beside.stands.apart f at node_hit.members own_in
              (subst (λ (s : Limited). InFrame f s.members) (sym e) inside)
        ];
        placed = λ i d e lt.
            let at = placed_all i d e lt in
            (at.0, omega (arith, at.1, long taken node_hit), old taken node_hit e at.0 at.1 ∙ at.2, at.3);
        stands = beside.stands;
        fresh = λ t t_at inside. elim (Contains-push_cases taken node_hit t t_at) [
          | inl before ↦ absurd (beside.fresh t before inside)
          | inr e ↦ ap (λ (s : Limited). s.members) (sym e)
        ];
      }

-- ---- the node that was taken is settled

module _ (n : ℕ) (taken : List Limited) (ls : Lists) (node : Node) (label : ℕ → Limited)
    (pending : IsPending taken ls node label) where
  -- a fact of all nodes, from one of all but the last and of the last
  all_nodes : (P : Limited → Type 0)
      → ((k : ℕ) (d : Limited) → k < length taken - 1 → k < length taken → P (get_or taken k d)) → P node.hit
      → (k : ℕ) (d : Limited) → k < length taken → P (get_or taken k d)
  all_nodes P each new k d lt =
      elim (cases_lt k (length taken - 1)) [
        | inl low ↦ each k d low lt
        | inr high ↦
            let e : k ≡ length taken - 1 = omega (arith, pending.some) in
            subst P (sym (ap (λ (i : ℕ). get_or taken i d) e ∙ pending.last d)) new
      ]

  node_taken : Contains taken node.hit
  node_taken = (length taken - 1, omega (arith, pending.some), pending.last node.hit)

  leaf_open : IsOpen taken
      (record { justifications = ls.justifications; leaves = ls.leaves ++ node.hit ∷ []; frames = ls.frames })
      (length ls.frames) label
  leaf_open =
      record {
        tree = pending.tree;
        leaf_taken =
            λ l at. elim (Contains-push_cases ls.leaves node.hit l at) [
              | inl before ↦ pending.leaf_taken l before
              | inr e ↦ subst (λ (x : Limited). Contains taken x) e node_taken
            ];
        settled = λ k d _ lt. all_nodes (IsSettled ls.justifications (ls.leaves ++ node.hit ∷ []))
            (λ i e low i_lt. settled_still ls.justifications ls.justifications ls.leaves (ls.leaves ++ node.hit ∷ [])
            (get_or taken i e) (λ x at. at) (λ x at. Contains-append_left ls.leaves (node.hit ∷ []) x at)
            (pending.settled i e low i_lt))
            (inl (Contains-push ls.leaves node.hit)) k d lt;
        rooted_within = omega arith;
        built = pending.built;
        labels = pending.labels;
        ahead = pending.ahead;
        fresh = λ i d le lt. absurd (omega arith);
        placed = λ i d e lt. let at = pending.placed i d e lt in (at.0, omega (arith, at.1), at.2, at.3);
      }

  pub has_leaf_open : HasOpen taken
      (record { justifications = ls.justifications; leaves = ls.leaves ++ node.hit ∷ []; frames = ls.frames })
      (length ls.frames)
  has_leaf_open = (label, leaf_open)

  module _ (j : Limited) (f : Frame) (stands : Frames node j f) where
    abbrev justifications' : List Limited
    justifications' = ls.justifications ++ j ∷ []

    more_justifications : (x : Limited) → Contains ls.justifications x → Contains justifications' x
    more_justifications x at = Contains-append_left ls.justifications (j ∷ []) x at

    abbrev label'' : ℕ → Limited
    label'' = relabel label (length taken - 1) j

    before : (p : ℕ) → p + 1 < length taken → label'' p ≡ label p
    before p lt = relabel_other label (length taken - 1) j p (λ e. absurd (omega (arith, e)))

    newest'' : label'' (length taken - 1) ≡ j
    newest'' = relabel_same label (length taken - 1) j

    just_tree : IsTree justifications' taken label''
    just_tree =
        record {
          distinct = pending.tree.distinct;
          root = pending.tree.root;
          parent = λ k d pos lt.
              let up = pending.tree.parent k d pos lt in
              let same = sym (before up.0 (omega (arith, up.1))) in (
                up.0,
                up.1,
                subst (λ (l : Limited). Contains justifications' l) same (more_justifications (label up.0) up.2),
                child_along _ _ _ _ _ _ refl same refl up.3,
              );
        }

    not_in : (t : Limited) → Contains taken t → ¬ InFrame f t.members
    not_in t at inside =
        let e : t.members ≡ f.hit.members =
        pending.fresh t at (stands.inside t.members inside.0) ∙ ap (λ (s : Limited). s.members) (sym stands.same_hit) in
        own_frame node.hit.limit f stands.good (subst (λ (s : NumberSet). InFrame f s) e inside)

    label_apart : AreApart j.members node.hit.members
    label_apart =
        subst (λ (h : Limited). AreApart j.members h.members) stands.same_hit
        (subst (λ (l : Limited). AreApart l.members f.hit.members) stands.same_label stands.good.label_apart)

    just_open : IsOpen taken
        (record { justifications = justifications'; leaves = ls.leaves; frames = ls.frames ++ f ∷ [] })
        (length (ls.frames ++ f ∷ [])) label''
    just_open =
        record {
          tree = just_tree;
          leaf_taken = pending.leaf_taken;
          settled = λ k d _ lt. all_nodes (IsSettled justifications' ls.leaves)
              (λ i e low i_lt. settled_still ls.justifications justifications' ls.leaves ls.leaves (get_or taken i e)
              more_justifications (λ x at. at) (pending.settled i e low i_lt))
              (inr (j, Contains-push ls.justifications j, label_apart)) k d lt;
          rooted_within = omega arith;
          built =
              built_push ls.frames f pending.built
              (stands_within ls.frames node.hit f.hit (InNode node) (InScope f) stands.same_hit stands.inside
              pending.stands);
          labels = λ g at. elim (Contains-push_cases ls.frames f g at) [
            | inl old' ↦ more_justifications g.label (pending.labels g old')
            | inr e ↦
                subst (λ (x : Limited). Contains justifications' x)
                (sym stands.same_label ∙ ap (λ (x : Frame). x.label) e) (Contains-push ls.justifications j)
          ];
          ahead = λ g at t t_at inside. elim (Contains-push_cases ls.frames f g at) [
            | inl old' ↦ pending.ahead g old' t t_at inside
            | inr e ↦ not_in t t_at (subst (λ (x : Frame). InFrame x t.members) (sym e) inside)
          ];
          fresh = λ i d le lt. absurd (omega arith);
          placed = λ i d e lt. elim (cases_lt i (length ls.frames)) [
            | inl low ↦
                let at = pending.placed i d e low in
                let same = sym (old ls.frames f d i low) in (
                  at.0,
                  omega (arith, at.1),
                  at.2 ∙ ap (λ (g : Frame). g.hit) same,
                  before at.0 at.1 ∙ at.3 ∙ ap (λ (g : Frame). g.label) same,
                )
            | inr high ↦
                let same : f ≡ get_or (ls.frames ++ f ∷ []) i d =
                sym (last ls.frames f d i (omega (arith, long ls.frames f))) in (
                  length taken - 1,
                  omega (arith, pending.some),
                  pending.last e ∙ sym stands.same_hit ∙ ap (λ (g : Frame). g.hit) same,
                  newest'' ∙ sym stands.same_label ∙ ap (λ (g : Frame). g.label) same,
                )
          ];
        }

    pub has_just_open : HasOpen taken
        (record { justifications = justifications'; leaves = ls.leaves; frames = ls.frames ++ f ∷ [] })
        (length (ls.frames ++ f ∷ []))
    has_just_open = (label'', just_open)

-- ---- a frame by a listed label

pub frame_open : (taken : List Limited) (ls : Lists) (r : ℕ) (label : ℕ → Limited) (node : Node) (j : Limited)
    (f : Frame)
    → IsOpen taken ls r label → IsBeside taken ls.frames node → Contains ls.justifications j → Frames node j f
    → IsOpen taken (with_frame ls f) r label
frame_open taken ls r label node j f open' beside listed stands =
    record {
      tree = open'.tree;
      leaf_taken = open'.leaf_taken;
      settled = open'.settled;
      rooted_within = omega (arith, open'.rooted_within, long ls.frames f);
      built =
          built_push ls.frames f open'.built
          (stands_within ls.frames node.hit f.hit (InNode node) (InScope f) stands.same_hit stands.inside
          beside.stands);
      labels = λ g at. elim (Contains-push_cases ls.frames f g at) [
        | inl old' ↦ open'.labels g old'
        | inr e ↦
            subst (λ (x : Limited). Contains ls.justifications x)
            (sym stands.same_label ∙ ap (λ (x : Frame). x.label) e) listed
      ];
      ahead = λ g at t t_at inside. elim (Contains-push_cases ls.frames f g at) [
        | inl old' ↦ open'.ahead g old' t t_at inside
        | inr e ↦
            beside.fresh t t_at (stands.inside t.members (subst (λ (x : Frame). InFrame x t.members) (sym e) inside).0)
      ];
      fresh =
          λ i d le lt t t_at. each_place (λ q g. r ≤ q → ¬ InScope g t.members) ls.frames f
          (λ q e q_lt q_le. open'.fresh q e q_le q_lt t t_at)
          (λ _ inside. beside.fresh t t_at (stands.inside t.members inside)) i d lt le;
      placed = λ i d e lt.
          let low : i < length ls.frames = omega (arith, open'.rooted_within) in
          subst (λ (g : Frame). (p : ℕ) × (p < length taken) × (get_or taken p e ≡ g.hit) × (label p ≡ g.label))
          (sym (old ls.frames f d i low)) (open'.placed i d e lt);
    }

-- ---- the next child of a frame, and a frame without one

module _ (taken : List Limited) (ls : Lists) (r : ℕ) (label : ℕ → Limited) (frame : Frame)
    (open' : IsOpen taken (with_frame ls frame) r label) where
  front : (g : Frame) → Contains ls.frames g → Contains (ls.frames ++ frame ∷ []) g
  front g at = Contains-append_left ls.frames (frame ∷ []) g at

  here : Contains (ls.frames ++ frame ∷ []) frame
  here = Contains-push ls.frames frame

  placed_front : (i : ℕ) (d : Frame) (e : Limited) → i < r → i < length ls.frames
      → (p : ℕ) × (p < length taken) × (get_or taken p e ≡ (get_or ls.frames i d).hit)
      × (label p ≡ (get_or ls.frames i d).label)
  placed_front i d e lt low =
      subst (λ (g : Frame). (p : ℕ) × (p < length taken) × (get_or taken p e ≡ g.hit) × (label p ≡ g.label))
      (old ls.frames frame d i low) (open'.placed i d e lt)

  fresh_front : (i : ℕ) (d : Frame) → r ≤ i → i < length ls.frames → (t : Limited) → Contains taken t
      → ¬ InScope (get_or ls.frames i d) t.members
  fresh_front i d le low t t_at inside =
      open'.fresh i d le (omega (arith, long ls.frames frame)) t t_at
      (subst (λ (g : Frame). InScope g t.members) (sym (old ls.frames frame d i low)) inside)

  pub done_open : IsOpen taken ls (min r (length ls.frames)) label
  done_open =
      record {
        tree = open'.tree;
        leaf_taken = open'.leaf_taken;
        settled = open'.settled;
        rooted_within = omega arith;
        built = built_front ls.frames frame open'.built;
        labels = λ g at. open'.labels g (front g at);
        ahead = λ g at. open'.ahead g (front g at);
        fresh = λ i d le lt. fresh_front i d (omega arith) lt;
        placed = λ i d e lt. placed_front i d e (omega arith) (omega arith);
      }

  module _ (left : Frame) (node : Node) (next : IsNextChild frame left node) where
    stands_last : Stands ls.frames frame.hit (InScope frame)
    stands_last = built_last ls.frames frame open'.built

    in_frame : (t : NumberSet) → InFrame left t → InFrame frame t
    in_frame t inside = (next.left_inside t inside.0, (inside.1.0, next.ahead_inside inside.1.0 inside.1.1, inside.1.2))

    pub child_open : IsOpen taken (with_frame ls left) r label
    child_open =
        record {
          tree = open'.tree;
          leaf_taken = open'.leaf_taken;
          settled = open'.settled;
          rooted_within = omega (arith, open'.rooted_within, long ls.frames frame, long ls.frames left);
          built =
              built_push ls.frames left (built_front ls.frames frame open'.built)
              (stands_within ls.frames frame.hit left.hit (InScope frame) (InScope left) next.same_hit next.left_inside
              stands_last);
          labels = λ g at. elim (Contains-push_cases ls.frames left g at) [
            | inl old' ↦ open'.labels g (front g old')
            | inr e ↦
                subst (λ (x : Limited). Contains ls.justifications x)
                (sym next.same_label ∙ ap (λ (x : Frame). x.label) e) (open'.labels frame here)
          ];
          ahead = λ g at t t_at inside. elim (Contains-push_cases ls.frames left g at) [
            | inl old' ↦ open'.ahead g (front g old') t t_at inside
            | inr e ↦
                open'.ahead frame here t t_at
                (in_frame t.members (subst (λ (x : Frame). InFrame x t.members) (sym e) inside))
          ];
          fresh =
              λ i d le lt t t_at. each_place (λ q g. r ≤ q → ¬ InScope g t.members) ls.frames left
              (λ q e q_lt q_le. fresh_front q e q_le q_lt t t_at)
              (λ le' inside. open'.fresh (length ls.frames) frame le' (omega (arith, long ls.frames frame)) t t_at
              (subst (λ (g : Frame). InScope g t.members) (sym (last ls.frames frame frame (length ls.frames) refl))
              (next.left_inside t.members inside))) i d lt le;
          placed = λ i d e lt.
              let within : i < length (ls.frames ++ left ∷ []) =
              omega (arith, open'.rooted_within, long ls.frames frame, long ls.frames left) in
              each_place
              (λ q g. q < r → (p : ℕ) × (p < length taken) × (get_or taken p e ≡ g.hit) × (label p ≡ g.label)) ls.frames
              left
              (λ q d' q_lt q_low. placed_front q d' e q_low q_lt)
              (λ low.
              let at = open'.placed (length ls.frames) frame e low in
              let same = last ls.frames frame frame (length ls.frames) refl in (
                at.0,
                at.1,
                at.2 ∙ ap (λ (g : Frame). g.hit) same ∙ sym next.same_hit,
                at.3 ∙ ap (λ (g : Frame). g.label) same ∙ sym next.same_label,
              )) i d within lt;
        }

    not_hit : set.contains frame.hit.members next.child.number ≡ false
    not_hit = next.child.apart next.child.number next.child.of_label

    in_child : set.contains node.hit.members next.child.number ≡ true
    in_child =
        ap (λ (s : NumberSet). set.contains s next.child.number) next.child.grown
        ∙ contains_insert frame.hit.members next.child.number next.child.number
        ∙ ap (λ (b : Bool). b || set.contains frame.hit.members next.child.number)
        (eq-eqb next.child.number next.child.number refl)

    keeps_hit : IsPart frame.hit.members node.hit.members
    keeps_hit k h =
        ap (λ (s : NumberSet). set.contains s k) next.child.grown
        ∙ contains_insert frame.hit.members next.child.number k ∙ ap (λ (b : Bool). eqb k next.child.number || b) h
        ∙ or-true (eqb k next.child.number)

    pub child_beside : IsBeside taken (ls.frames ++ left ∷ []) node
    child_beside =
        record {
          stands = record {
            apart = λ g at t inside. elim (Contains-push_cases ls.frames left g at) [
              | inl old' ↦ stands_last.apart g old' t (next.node_inside t inside).0
              | inr e ↦ λ in_g. next.shared t inside (subst (λ (x : Frame). InFrame x t) (sym e) in_g)
            ];
            more = λ g at. elim (Contains-push_cases ls.frames left g at) [
              | inl old' ↦ let m = stands_last.more g old' in (m.0, keeps_hit m.0 m.1, m.2)
              | inr e ↦ (
                next.child.number,
                in_child,
                ap (λ (x : Frame). set.contains x.hit.members next.child.number) (sym e)
                    ∙ ap (λ (x : Limited). set.contains x.members next.child.number) next.same_hit ∙ not_hit,
              )
            ];
            root = λ none. absurd (omega (arith, none, long ls.frames left));
            child = λ d _.
                let same : left ≡ get_or (ls.frames ++ left ∷ []) (length (ls.frames ++ left ∷ []) - 1) d =
                sym
                (last ls.frames left d (length (ls.frames ++ left ∷ []) - 1) (omega (arith, long ls.frames left))) in
                child_along _ _ _ _ _ _ (sym next.same_hit ∙ ap (λ (x : Frame). x.hit) same)
                (sym next.same_label ∙ ap (λ (x : Frame). x.label) same) refl next.child;
          };
          fresh = λ t t_at inside. open'.ahead frame here t t_at (next.node_inside t.members inside);
        }

-- ---- the end

pub ended : (taken : List Limited) (ls : Lists) (r : ℕ) (label : ℕ → Limited) → IsOpen taken ls r label
    → IsEnded taken ls
ended taken ls r label open' = record {
  nodes = (label, open'.tree);
  leaf_taken = open'.leaf_taken;
  settled = λ k d lt within. open'.settled k d within within;
}

pub ended_pending : (taken : List Limited) (ls : Lists) (node : Node) (label : ℕ → Limited)
    → IsPending taken ls node label → IsEnded taken ls
ended_pending taken ls node label pending =
    record { nodes = (label, pending.tree); leaf_taken = pending.leaf_taken; settled = pending.settled }

-- ---- the root

pub root_open : (label : ℕ → Limited) → IsOpen [] (record { justifications = []; leaves = []; frames = [] }) 0 label
root_open label =
    record {
      tree = record {
        distinct = λ i j d lt within. absurd (omega arith);
        root = λ d within. absurd (omega arith);
        parent = λ k d pos within. absurd (omega arith);
      };
      leaf_taken = λ l at. at;
      settled = λ k d lt within. absurd (omega arith);
      rooted_within = omega arith;
      built = λ i d lt. absurd (omega arith);
      labels = λ f at. absurd (omega (arith, at.1));
      ahead = λ f at. absurd (omega (arith, at.1));
      fresh = λ i d le lt. absurd (omega arith);
      placed = λ i d e lt. absurd (omega arith);
    }

pub root_beside : (node : Node) → node.hit.members ≡ set.empty → IsBeside [] [] node
root_beside node none =
    record {
      stands = record {
        apart = λ g at. absurd (omega (arith, at.1));
        more = λ g at. absurd (omega (arith, at.1));
        root = λ _. none;
        child = λ d some. absurd (omega arith);
      };
      fresh = λ t at. absurd (omega (arith, at.1));
    }

-- ---- how many asks

pub few_still : (size asks asks' l l' : ℕ) → asks' ≡ asks → l ≤ l' → asks' + (size + 1) * l ≤ asks + (size + 1) * l'
few_still size asks asks' l l' e le =
    let more : (size + 1) * l ≤ (size + 1) * l' = mul-le-mul_left (size + 1) le in
    omega (arith, more)

pub few_asked : (size asks asks' l l' : ℕ) → asks' ≤ asks + (size + 1) → l < l'
    → asks' + (size + 1) * l ≤ asks + (size + 1) * l'
few_asked size asks asks' l l' more lt =
    let e : (size + 1) * (l + 1) ≡ (size + 1) * l + (size + 1) * 1 = mul-add (size + 1) l 1 in
    let le : l + 1 ≤ l' = omega arith in
    let rises : (size + 1) * (l + 1) ≤ (size + 1) * l' = mul-le-mul_left (size + 1) le in
    omega (arith, more, e, rises)

pub few_taken : (m m' m'' : Meaning) → m'.asks ≡ m.asks → m'.size ≡ m.size → length m.taken < length m'.taken
    → m''.taken ≡ m'.taken → m''.asks ≤ m'.asks + (m'.size + 1) → AsksFew m.size m m''
few_taken m m' m'' same size more e asked =
    few_asked m.size m.asks m''.asks (length m.taken) (length m''.taken) (omega arith) (omega (arith, ap length e))

-- an ask about the rest of a node, and those by which it is settled
pub asked_rest : (m m' m'' : Meaning) → m'.asks ≡ one_more m.asks → m'.size ≡ m.size → m''.asks ≤ m'.asks + m'.size
    → m''.asks ≤ m.asks + (m.size + 1)
asked_rest m m' m'' counted size asked = omega arith

-- asks from m to m', and from there to m''
pub few_on : (m m' m'' : Meaning) (size size' : ℕ) → size' ≡ size → AsksFew size m m' → AsksFew size' m' m''
    → AsksFew size m m''
few_on m m' m'' size size' e few few' =
    let later : AsksFew size m' m'' = subst (λ (n : ℕ). AsksFew n m' m'') e few' in
    omega (arith, few, later)
