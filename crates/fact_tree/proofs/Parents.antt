-- The origin that is kept of a node is the first edge into it.
use Rattle.std.proofs.Common.{◌≡◌, ℕ, ◌<◌, ◌≤◌, min, max, Bool, true, false, List, [], ◌∷◌, ◌++◌, length, refl, ap, sym}
use Rattle.std.proofs.Common.{subst, ◌∙◌, arith, inl, inr, Option, Some, None, get_or-set_same, get_or-set_other}
use Rattle.std.specs.Prelude.{◌==◌, ◌&&◌, if◌then◌else◌}
use Rattle.std.specs.List.{list_any}
use Rattle.std.proofs.lemmas.Bool.{cases_eq, cases_lt, eq-eqb, ne_eqb, lt-ltb, le-ltb, or_left, or_right}
use Rattle.std.proofs.lemmas.List.{length-append, length-set}
use Rattle.std.proofs.Math.Seq.{get_or-append_seam}
use Rattle.std.proofs.Math.ListN.{get_or-append}
use Rattle.calculus_specs.specs.declared.facts.Fact.{Fact}
use Rattle.calculus_specs.specs.declared.facts.Fact.TheVariants.{Has, Edge, Apart, Same}
use Rattle.calculus_specs.specs.Joins.{rep}
use Rattle.calculus_specs.specs.State.{node_count_from, first_origin, parent_from, gives_edge, HaveParentsBefore}
use Rattle.calculus_specs.proofs.Joined.{by_last}
use Rattle.fact_tree.specs.Kept.{Lists, Kept, new_lists, bare, having, leading, parted, absorbing, lists_at, changed_at}
use Rattle.fact_tree.specs.Kept.{grown, made, linked, after, kept_of}
use Rattle.fact_tree.specs.Entries.{AreFit, IsFit}
use Rattle.fact_tree.specs.Told.{IsOrigin}
use Rattle.fact_tree.proofs.Linked.{kept_of-snoc, fit_before, fit_last}
use Rattle.fact_tree.proofs.Law.{empty_count, count_is, joined_count}

-- ---- the first edge into a node

-- its role, and where it begins
abbrev first_edge : List (Fact ℕ) → ℕ → Option (ℕ × ℕ)
first_edge [] x = None
first_edge (Edge r y z ∷ fs) x = if z == x then Some (r, y) else first_edge fs x
first_edge (Has y c ∷ fs) x = first_edge fs x
first_edge (Apart y z ∷ fs) x = first_edge fs x
first_edge (Same y z ∷ fs) x = first_edge fs x

abbrev begin_of : Option (ℕ × ℕ) → Option ℕ
begin_of None = None
begin_of (Some o) = Some o.1

-- ---- one fact more

abbrev or_from : Option (ℕ × ℕ) → Fact ℕ → ℕ → Option (ℕ × ℕ)
or_from (Some p) f x = Some p
or_from None (Edge r y z) x = if z == x then Some (r, y) else None
or_from None (Has y c) x = None
or_from None (Apart y z) x = None
or_from None (Same y z) x = None

edge-snoc : (fs : List (Fact ℕ)) (f : Fact ℕ) (x : ℕ) → first_edge (fs ++ f ∷ []) x ≡ or_from (first_edge fs x) f x
edge-snoc [] (Has y c) x = refl
edge-snoc [] (Edge r y z) x = refl
edge-snoc [] (Apart y z) x = refl
edge-snoc [] (Same y z) x = refl
edge-snoc (Has v c ∷ fs) f x = edge-snoc fs f x
edge-snoc (Apart v w ∷ fs) f x = edge-snoc fs f x
edge-snoc (Same v w ∷ fs) f x = edge-snoc fs f x
edge-snoc (Edge s v w ∷ fs) f x = elim (w == x) as
    (λ b. (if b then Some (s, v) else first_edge (fs ++ f ∷ []) x)
    ≡ or_from (if b then Some (s, v) else first_edge fs x) f x)
    [ true ↦ refl | false ↦ edge-snoc fs f x ]

-- a node that no edge leads to has no origin
beyond : (first : ℕ) (fs : List (Fact ℕ)) (x : ℕ) → node_count_from first fs ≤ x → first_edge fs x ≡ None
beyond first [] x le = refl
beyond first (Has v c ∷ fs) x le = beyond first fs x le
beyond first (Apart v w ∷ fs) x le = beyond first fs x le
beyond first (Same v w ∷ fs) x le = beyond first fs x le
beyond first (Edge s v w ∷ fs) x le =
    ap (λ (b : Bool). if b then Some (s, v) else first_edge fs x) (ne_eqb w x (λ e. absurd (omega (arith, e, le))))
    ∙ beyond first fs x (omega (arith, le))

-- ---- origins that stay

abbrev Origins : ℕ → List (Fact ℕ) → Kept → Type 0
Origins first fs k = (x : ℕ) → first ≤ x → x < length k.nodes → first_edge fs x ≡ Some (lists_at k x).origin

changed_origin : (k : Kept) (at : ℕ) (change : Lists → Lists) → ((n : Lists) → (change n).origin ≡ n.origin) → (x : ℕ)
    → x < length k.nodes → (lists_at (changed_at at change k) x).origin ≡ (lists_at k x).origin
changed_origin k at change same x lt = elim (cases_eq x at) [
  | inl e ↦
      ap (λ (n : ℕ). (lists_at (changed_at at change k) n).origin) e
      ∙ ap (λ (n : Lists). n.origin) (get_or-set_same k.nodes at (change (lists_at k at)) bare (omega (arith, lt, e)))
      ∙ same (lists_at k at) ∙ ap (λ (n : ℕ). (lists_at k n).origin) (sym e)
  | inr other ↦ ap (λ (n : Lists). n.origin) (get_or-set_other k.nodes at x (change (lists_at k at)) bare other)
]

-- a known origin stays
known : (fs : List (Fact ℕ)) (f : Fact ℕ) (x : ℕ) (p : ℕ × ℕ) → first_edge fs x ≡ Some p
    → first_edge (fs ++ f ∷ []) x ≡ Some p
known fs f x p is = edge-snoc fs f x ∙ ap (λ (o : Option (ℕ × ℕ)). or_from o f x) is

joined_origin : (k : Kept) (at high x : ℕ) → x < length k.nodes
    → (lists_at (if at == high then k else linked high at k) x).origin ≡ (lists_at k x).origin
joined_origin k at high x lt = by (at == high)
  where
    by : (b : Bool) → (lists_at (if b then k else linked high at k) x).origin ≡ (lists_at k x).origin
    by true = refl
    by false = changed_origin k at (absorbing (lists_at k high)) (λ n. refl) x lt

old_origin : (m : ℕ → ℕ) (k : Kept) (f : Fact ℕ) (x : ℕ) → x < length k.nodes
    → (lists_at (after m f k) x).origin ≡ (lists_at k x).origin
old_origin m k (Has y c) x lt = changed_origin k (m y) (having c) (λ n. refl) x lt
old_origin m k (Apart y z) x lt = changed_origin k (m y) (parted z) (λ n. refl) x lt
old_origin m k (Same y z) x lt = joined_origin k (min (m y) (m z)) (max (m y) (m z)) x lt
old_origin m k (Edge r y z) x lt = by (z == length k.nodes)
  where
    by : (b : Bool)
        → (lists_at (changed_at (m y) (leading r z) (if b then grown (r, y) k else k)) x).origin ≡ (lists_at k x).origin
    by true =
        changed_origin (grown (r, y) k) (m y) (leading r z) (λ n. refl) x
        (omega (arith, lt, length-append k.nodes (new_lists (length k.nodes) (r, y) ∷ [])))
        ∙ ap (λ (n : Lists). n.origin) (get_or-append k.nodes (new_lists (length k.nodes) (r, y) ∷ []) bare x lt)
    by false = changed_origin k (m y) (leading r z) (λ n. refl) x lt

-- where a fact makes a node more, that is the end of its edge
new_origin : (m : ℕ → ℕ) (fs : List (Fact ℕ)) (k : Kept) (r y z x : ℕ) → first_edge fs x ≡ None → length k.nodes ≤ x
    → x < length (after m (Edge r y z) k).nodes
    → first_edge (fs ++ Edge r y z ∷ []) x ≡ Some (lists_at (after m (Edge r y z) k) x).origin
new_origin m fs k r y z x none le lt = elim (cases_eq z (length k.nodes)) [
  | inl e ↦
      let all : made (r, y) z k ≡ grown (r, y) k =
      ap (λ (b : Bool). if b then grown (r, y) k else k) (eq-eqb z (length k.nodes) e) in
      let within : x < length (grown (r, y) k).nodes = omega (
        arith,
        lt,
        length-set (made (r, y) z k).nodes (m y) (leading r z (lists_at (made (r, y) z k) (m y))),
        ap (λ (j : Kept). length j.nodes) all,
      ) in
      let at : x ≡ length k.nodes =
      omega (arith, le, within, length-append k.nodes (new_lists (length k.nodes) (r, y) ∷ [])) in
      let kept : (lists_at (changed_at (m y) (leading r z) (grown (r, y) k)) x).origin ≡ (r, y) =
      changed_origin (grown (r, y) k) (m y) (leading r z) (λ n. refl) x within
      ∙ ap (λ (n : ℕ). (lists_at (grown (r, y) k) n).origin) at
      ∙ ap (λ (n : Lists). n.origin) (get_or-append_seam k.nodes (new_lists (length k.nodes) (r, y)) [] bare) in
      edge-snoc fs (Edge r y z) x ∙ ap (λ (o : Option (ℕ × ℕ)). or_from o (Edge r y z) x) none
      ∙ ap (λ (b : Bool). if b then Some (r, y) else None) (eq-eqb z x (e ∙ sym at))
      ∙ ap Some (sym kept) ∙ ap (λ (j : Kept). Some (lists_at (changed_at (m y) (leading r z) j) x).origin) (sym all)
  | inr other ↦
      let all : made (r, y) z k ≡ k =
      ap (λ (b : Bool). if b then grown (r, y) k else k) (ne_eqb z (length k.nodes) other) in
      absurd (omega (
        arith,
        lt,
        le,
        length-set (made (r, y) z k).nodes (m y) (leading r z (lists_at (made (r, y) z k) (m y))),
        ap (λ (j : Kept). length j.nodes) all,
      ))
]

no_new : (m : ℕ → ℕ) (fs : List (Fact ℕ)) (k : Kept) (f : Fact ℕ) (x : ℕ) → first_edge fs x ≡ None → length k.nodes ≤ x
    → x < length (after m f k).nodes → first_edge (fs ++ f ∷ []) x ≡ Some (lists_at (after m f k) x).origin
no_new m fs k (Edge r y z) x none le lt = new_origin m fs k r y z x none le lt
no_new m fs k (Has y c) x none le lt =
    absurd (omega (arith, lt, le, length-set k.nodes (m y) (having c (lists_at k (m y)))))
no_new m fs k (Apart y z) x none le lt =
    absurd (omega (arith, lt, le, length-set k.nodes (m y) (parted z (lists_at k (m y)))))
no_new m fs k (Same y z) x none le lt =
    absurd (omega (arith, lt, le, joined_count k (min (m y) (m z)) (max (m y) (m z))))

origins_kept : (first : ℕ) (fs : List (Fact ℕ)) → AreFit first fs → Origins first fs (kept_of first fs)
origins_kept first =
    by_last {X = Fact ℕ} (λ fs. AreFit first fs → Origins first fs (kept_of first fs))
    (λ fit x some lt. absurd (omega (arith, some, lt, empty_count first)))
    (λ fs f ih fit x some lt.
    let k = kept_of first fs in
    let before = fit_before first fs (f ∷ []) fit in
    let within : x < length (after (rep fs) f k).nodes =
    subst (λ (j : Kept). x < length j.nodes) (kept_of-snoc first fs f) lt in
    let is : first_edge (fs ++ f ∷ []) x ≡ Some (lists_at (after (rep fs) f k) x).origin =
    elim (cases_lt x (length k.nodes)) [
      | inl old ↦
          known fs f x (lists_at k x).origin (ih before x some old) ∙ ap Some (sym (old_origin (rep fs) k f x old))
      | inr new ↦ no_new (rep fs) fs k f x (beyond first fs x (omega (arith, new, count_is first fs before))) new within
    ] in
    is ∙ ap (λ (j : Kept). Some (lists_at j x).origin) (sym (kept_of-snoc first fs f)))

-- ---- the definitions

begin_is : (fs : List (Fact ℕ)) (x : ℕ) → first_origin fs x ≡ begin_of (first_edge fs x)
begin_is [] x = refl
begin_is (Has y c ∷ fs) x = begin_is fs x
begin_is (Apart y z ∷ fs) x = begin_is fs x
begin_is (Same y z ∷ fs) x = begin_is fs x
begin_is (Edge r y z ∷ fs) x = elim (z == x) as
    (λ b. (if b then Some y else first_origin fs x) ≡ begin_of (if b then Some (r, y) else first_edge fs x))
    [ true ↦ refl | false ↦ begin_is fs x ]

some_inside : (o o' : ℕ × ℕ) → Some o ≡ Some o' → o ≡ o'
some_inside o o' e = cc

-- the first edge is an edge
edge_gives : (m : ℕ → ℕ) (r y z x : ℕ) (o : ℕ × ℕ) → z ≡ x → Some (r, y) ≡ Some o
    → gives_edge {C = ℕ} (λ s. s == o.0) m (m o.1) (m x) (Edge r y z) ≡ true
edge_gives m r y z x o at is =
    let same = some_inside (r, y) o is in
    (λ i. (eq-eqb r o.0 (ap (λ (p : ℕ × ℕ). p.0) same) i && eq-eqb (m y) (m o.1) (ap (λ (p : ℕ × ℕ). m p.1) same) i)
    && eq-eqb (m z) (m x) (ap m at) i)

leads_in : (m : ℕ → ℕ) (fs : List (Fact ℕ)) (x : ℕ) (o : ℕ × ℕ) → first_edge fs x ≡ Some o
    → list_any (gives_edge {C = ℕ} (λ s. s == o.0) m (m o.1) (m x)) fs ≡ true
leads_in m [] x o h = cc
leads_in m (Has y c ∷ fs) x o h = leads_in m fs x o h
leads_in m (Apart y z ∷ fs) x o h = leads_in m fs x o h
leads_in m (Same y z ∷ fs) x o h = leads_in m fs x o h
leads_in m (Edge r y z ∷ fs) x o h = elim (cases_eq z x) [
  | inl at ↦
      or_left (gives_edge {C = ℕ} (λ s. s == o.0) m (m o.1) (m x) (Edge r y z))
      (list_any (gives_edge {C = ℕ} (λ s. s == o.0) m (m o.1) (m x)) fs)
      (edge_gives m r y z x o at
      (sym (ap (λ (b : Bool). if b then Some (r, y) else first_edge fs x) (eq-eqb z x at)) ∙ h))
  | inr other ↦
      or_right (gives_edge {C = ℕ} (λ s. s == o.0) m (m o.1) (m x) (Edge r y z))
      (list_any (gives_edge {C = ℕ} (λ s. s == o.0) m (m o.1) (m x)) fs)
      (leads_in m fs x o (sym (ap (λ (b : Bool). if b then Some (r, y) else first_edge fs x) (ne_eqb z x other)) ∙ h))
]

pub parent_is : (first : ℕ) (fs : List (Fact ℕ)) (x : ℕ) → AreFit first fs → first ≤ x → x < node_count_from first fs
    → parent_from first fs x ≡ Some (lists_at (kept_of first fs) x).origin.1
parent_is first fs x fit some lt =
    ap (λ (b : Bool). if b then None else first_origin fs x) (le-ltb x first some) ∙ begin_is fs x
    ∙ ap begin_of (origins_kept first fs fit x some (omega (arith, lt, count_is first fs fit)))

pub origin_is : (first : ℕ) (fs : List (Fact ℕ)) (x : ℕ) → AreFit first fs → first ≤ x → x < node_count_from first fs
    → IsOrigin first fs x (lists_at (kept_of first fs) x).origin
origin_is first fs x fit some lt = (
  leads_in (rep fs) fs x (lists_at (kept_of first fs) x).origin
      (origins_kept first fs fit x some (omega (arith, lt, count_is first fs fit))),
  parent_is first fs x fit some lt,
)

-- ---- parents are less than their nodes

abbrev EdgesBefore : ℕ → List (Fact ℕ) → Type 0
EdgesBefore first fs = (x : ℕ) (o : ℕ × ℕ) → first ≤ x → first_edge fs x ≡ Some o → o.1 < x

new_before : (first : ℕ) (fs : List (Fact ℕ)) (f : Fact ℕ) (x : ℕ) (o : ℕ × ℕ) → IsFit (node_count_from first fs) f
    → node_count_from first fs ≤ x → or_from None f x ≡ Some o → o.1 < x
new_before first fs (Has y c) x o fit le is = cc
new_before first fs (Apart y z) x o fit le is = cc
new_before first fs (Same y z) x o fit le is = cc
new_before first fs (Edge r y z) x o fit le is = elim (cases_eq z x) [
  | inl at ↦
      let same : (r, y) ≡ o =
      some_inside (r, y) o (sym (ap (λ (b : Bool). if b then Some (r, y) else None) (eq-eqb z x at)) ∙ is) in
      omega (arith, fit.0, le, ap (λ (p : ℕ × ℕ). p.1) same)
  | inr other ↦
      let none : None ≡ Some o = sym (ap (λ (b : Bool). if b then Some (r, y) else None) (ne_eqb z x other)) ∙ is in
      cc
]

edges_before : (first : ℕ) (fs : List (Fact ℕ)) → AreFit first fs → EdgesBefore first fs
edges_before first = by_last {X = Fact ℕ} (λ fs. AreFit first fs → EdgesBefore first fs) (λ fit x o some is. cc)
    (λ fs f ih fit x o some is.
    let before = fit_before first fs (f ∷ []) fit in
    elim (cases_lt x (node_count_from first fs)) [
      | inl old ↦
          let earlier = origins_kept first fs before x some (omega (arith, old, count_is first fs before)) in
          ih before x o some (earlier ∙ sym (known fs f x (lists_at (kept_of first fs) x).origin earlier) ∙ is)
      | inr new ↦
          new_before first fs f x o (fit_last first fs f fit) new
          (sym (edge-snoc fs f x ∙ ap (λ (p : Option (ℕ × ℕ)). or_from p f x) (beyond first fs x new)) ∙ is)
    ])

begins_before : (o : Option (ℕ × ℕ)) (x p : ℕ) → ((e : ℕ × ℕ) → o ≡ Some e → e.1 < x) → begin_of o ≡ Some p → p < x
begins_before None x p h is = cc
begins_before (Some e) x p h is =
    let same : e.1 ≡ p = some_is e.1 p is in
    omega (arith, h e refl, same)
  where
    some_is : (a b : ℕ) → Some a ≡ Some b → a ≡ b
    some_is a b e = cc

pub parents_before : (first : ℕ) (fs : List (Fact ℕ)) → AreFit first fs → HaveParentsBefore first fs
parents_before first fs fit x p is = elim (cases_lt x first) [
  | inl lt ↦
      let none : None ≡ Some p =
      sym (ap (λ (b : Bool). if b then None else first_origin fs x) (lt-ltb x first lt)) ∙ is in
      cc
  | inr some ↦
      begins_before (first_edge fs x) x p (λ e here. edges_before first fs fit x e some here)
      (sym (begin_is fs x) ∙ sym (ap (λ (b : Bool). if b then None else first_origin fs x) (le-ltb x first some)) ∙ is)
]
