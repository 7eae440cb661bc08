-- Why there is something to choose, and why there is nothing.
use Rattle.std.proofs.Common.{◌≡◌, ℕ, ◌<◌, ◌≤◌, ◌&&◌, eqb, Bool, true, false, List, [], ◌∷◌, length, get_or, refl, ap}
use Rattle.std.proofs.Common.{◌∙◌, sym, subst, arith, inl, inr, eq-eqb, Option, None, Some, MatchOption}
use Rattle.std.specs.Prelude.{slice_get}
use Rattle.std.specs.List.{list_any, All}
use Rattle.std.proofs.lemmas.Bool.{eqb-true, cases_Bool, and_parts}
use Rattle.std.proofs.lemmas.List.Elements.{All-nil, All-cons, All-head, All-tail, All-contains}
use Rattle.calculus_specs.specs.Shape.{Shape, shape_of, is_normal, IsTable}
use Rattle.calculus_specs.specs.Shape.Shape.{top, bottom, name, not_name, intersection, union, some_of, all_of}
use Rattle.calculus_specs.specs.Shape.Shape.{at_least, at_most}
use Rattle.calculus_specs.specs.Tree.{IsComplement}
use Rattle.calculus_specs.proofs.Unique.{numbers_unique}
use Rattle.calculus_specs.specs.declared.facts.Fact.{Fact}
use Rattle.calculus_specs.specs.State.{node_count_from, has, is_successor, all_apart}
use Rattle.tableau_specs.specs.declared.Branch.{Branch}
use Rattle.tableau_specs.specs.Clash.{filled_successors}
use Rattle.tableau_specs.specs.Steps.{SearchContext, below_of, MayBranch}
use Rattle.tableau_specs.specs.Steps.MayBranch.{on_union, on_filler, on_pair}
use Rattle.tableau_specs.specs.Steps.IsAlternative.{of_union, of_filler, of_joining}
use Rattle.tableau_specs.proofs.Listed.{listed}
use Rattle.tableau_specs.proofs.PlainClash.{filled_are_successors, filled_have_filler}
use Rattle.calculus_specs.specs.Listed.{AreEdges, IsLabel}
use Rattle.step_finders.specs.Filled.{AreFilled, AreUnapart}
use Rattle.step_finders.specs.declared.choosing.Choosing.TheVariants as C
use Rattle.step_finders.specs.Choosing.{IsChoosable, LacksComplement, IsDecided, IsUndecided, AllDecided}
use Rattle.step_finders.specs.Choosing.{UndecidedAtEnd, NoPair, IsPair, IsRoleTo, NoUnionByShape, NoMostByShape}
use Rattle.step_finders.specs.Choosing.{NoUnionAt, NoMostAt, NoUnion, NoMost, NothingToChoose}
use Rattle.step_finders.proofs.Edges.{where_any, next_at, has_rep, rep_twice, next_of_kind, edge_to_next}
use Rattle.step_finders.proofs.Members.{same_length, same_apart, same_unapart, pair_apart, contains_member}
use Rattle.calculus_specs.specs.Joins.{rep}
use Rattle.calculus_specs.proofs.Joined.{rep-le}
use Rattle.tableau_specs.proofs.Moved.{has_at, edge_from, filled_at}
use Rattle.step_finders.specs.Choosing.IsDecided.{by_filler, by_complement}

-- ---- complements

pub other_complements : (table : List Shape) → IsTable table → (fs : List (Fact ℕ)) (y e d : ℕ) → IsComplement table e d
    → has fs y d ≡ false → (k : ℕ) → IsComplement table e k → has fs y k ≡ false
other_complements table good fs y e d is out k is' =
    ap (has fs y) (numbers_unique table good k d is'.listed is.listed (is'.negates ∙ sym is.negates)) ∙ out

module _ (w : SearchContext) (fs : List (Fact ℕ)) (x s e : ℕ) (edges : List (ℕ × ℕ)) where
  pub undecided_at_end : (k : ℕ) (d : ℕ × ℕ) (y : ℕ) → AreEdges fs x edges → k < length edges
      → below_of w (get_or edges k d).0 s ≡ true → IsUndecided w fs (get_or edges k d).1 e
      → y ≡ rep fs (get_or edges k d).1 → UndecidedAtEnd w fs x s e (get_or edges k d).0 y
  undecided_at_end k d y are lt hit h at = subst (UndecidedAtEnd w fs x s e (get_or edges k d).0) (sym at) (record {
    next =
        next_at fs x edges (λ r. eqb r (get_or edges k d).0) k d are lt
        (eq-eqb (get_or edges k d).0 (get_or edges k d).0 refl);
    role_below = hit;
    undecided = record {
      lacks = has_rep fs (get_or edges k d).1 e ∙ h.lacks;
      lacks_complement = λ c is. has_rep fs (get_or edges k d).1 c ∙ h.lacks_complement c is;
    };
  })

  decided_rep : (v : ℕ) → IsDecided w fs v e → IsDecided w fs (rep fs v) e
  decided_rep v (by_filler h) = by_filler (has_rep fs v e ∙ h)
  decided_rep v (by_complement h) = by_complement (record {
    complement = h.complement;
    is_complement = h.is_complement;
    holds = has_rep fs v h.complement ∙ h.holds;
  })

  pub all_decided : AreEdges fs x edges
      → ((k : ℕ) (d : ℕ × ℕ) → k < length edges → below_of w (get_or edges k d).0 s ≡ true
      → IsDecided w fs (get_or edges k d).1 e)
      → AllDecided w fs x s e
  all_decided are each = record {
    decided = λ y next.
        where_any (λ p. below_of w p.0 s && eqb (rep fs p.1) y) (IsDecided w fs y e) edges
        (λ k d lt hit.
        let t = and_parts (below_of w (get_or edges k d).0 s) (eqb (rep fs (get_or edges k d).1) y) hit in
        subst (λ (z : ℕ). IsDecided w fs z e) (eqb-true (rep fs (get_or edges k d).1) y t.1)
        (decided_rep (get_or edges k d).1 (each k d lt t.0)))
        (are (λ r. below_of w r s) y ∙ next);
  }

  -- ---- the role of an edge

  pub role_at : (k : ℕ) (d : ℕ × ℕ) (y : ℕ) → AreEdges fs x edges → k < length edges
      → below_of w (get_or edges k d).0 s ≡ true → rep fs (get_or edges k d).1 ≡ y
      → IsRoleTo w fs x s y (get_or edges k d).0
  role_at k d y are lt hit at = record {
    next =
        subst (λ (z : ℕ). is_successor fs (λ r. eqb r (get_or edges k d).0) x z ≡ true) at
        (next_at fs x edges (λ r. eqb r (get_or edges k d).0) k d are lt
        (eq-eqb (get_or edges k d).0 (get_or edges k d).0 refl));
    role_below = hit;
  }

  pub no_role : (y : ℕ) → AreEdges fs x edges
      → ((k : ℕ) (d : ℕ × ℕ) → k < length edges → below_of w (get_or edges k d).0 s ≡ true
      → rep fs (get_or edges k d).1 ≡ y → ⊥)
      → is_successor fs (λ r. below_of w r s) x y ≡ false
  no_role y are each = elim (cases_Bool (is_successor fs (λ r. below_of w r s) x y)) [
    | inr out ↦ out
    | inl next ↦
        where_any (λ p. below_of w p.0 s && eqb (rep fs p.1) y) (is_successor fs (λ r. below_of w r s) x y ≡ false)
        edges
        (λ k d lt hit.
        let t = and_parts (below_of w (get_or edges k d).0 s) (eqb (rep fs (get_or edges k d).1) y) hit in
        absurd (each k d lt t.0 (eqb-true (rep fs (get_or edges k d).1) y t.1)))
        (are (λ r. below_of w r s) y ∙ next)
  ]

-- ---- pairs

module _ (w : SearchContext) (fs : List (Fact ℕ)) (x n s e : ℕ) (ys : List ℕ)
    (is : AreFilled (below_of w) fs x s e ys) where
  pub no_pair_few : length ys ≤ n → NoPair w fs x n s e
  no_pair_few few =
      record { are_apart = λ more. absurd (omega (arith, more, few, same_length w.first (below_of w) fs x s e ys is)) }

  pub pair_or_none : (found : Option (ℕ × ℕ)) → n < length ys
      → MatchOption found (all_apart fs ys ≡ true) (λ p. AreUnapart fs ys p.0 p.1)
      → MatchOption found (NoPair w fs x n s e) (λ p. IsPair w fs x n s e p.0 p.1)
  pair_or_none None more h = record { are_apart = λ more'. same_apart fs w.first (below_of w) x s e ys is h }
  pair_or_none (Some p) more h = record {
    more = omega (arith, more, same_length w.first (below_of w) fs x s e ys is);
    two = same_unapart fs w.first (below_of w) x s e ys p.0 p.1 is h;
  }

-- ---- choices

module _ (w : SearchContext) (fs : List (Fact ℕ)) (x c : ℕ) (lt : x < node_count_from w.first fs)
    (holds : has fs x c ≡ true) where
  pub may_choose : (n s e q y : ℕ) → shape_of w.table c ≡ at_most n s e → UndecidedAtEnd w fs x s e q y
      → IsChoosable w fs (C.Filler y e x q c)
  may_choose n s e q y sh h = record {
    may =
        on_filler x c n s e y lt holds sh (next_of_kind fs (λ r. below_of w r s) q x y h.role_below h.next)
        h.undecided.lacks h.undecided.lacks_complement;
    why = record {
      is_edge = edge_to_next w.first fs q x y lt h.next;
      holds = holds;
      count = n;
      role = s;
      shape = sh;
      role_below = h.role_below;
    };
    first = _;
    is_first = of_filler y e;
  }

  pub may_pair : (n s e y z q r : ℕ) → shape_of w.table c ≡ at_most n s e → IsPair w fs x n s e y z
      → IsRoleTo w fs x s y q → IsRoleTo w fs x s z r → IsChoosable w fs (C.Pair y z x q r c)
  may_pair n s e y z q r sh h to_y to_z = record {
    may = on_pair x c n s e y z lt holds sh h.more h.two.has_one h.two.has_other h.two.differ h.two.unapart;
    why = record {
      first_edge = edge_to_next w.first fs q x y lt to_y.next;
      second_edge = edge_to_next w.first fs r x z lt to_z.next;
      holds = holds;
      count = n;
      role = s;
      filler = e;
      shape = sh;
      first_below = to_y.role_below;
      second_below = to_z.role_below;
      first_has =
          All-contains (λ v. has fs v e ≡ true) (filled_successors w.first (below_of w) fs x s e) y
          (filled_have_filler w.first (below_of w) fs x s e) h.two.has_one;
      second_has =
          All-contains (λ v. has fs v e ≡ true) (filled_successors w.first (below_of w) fs x s e) z
          (filled_have_filler w.first (below_of w) fs x s e) h.two.has_other;
    };
    first = _;
    is_first = of_joining y z;
  }

  -- both are successors
  pub first_is_next : (n s e y z : ℕ) → IsPair w fs x n s e y z → is_successor fs (λ r. below_of w r s) x y ≡ true
  first_is_next n s e y z h =
      All-contains (λ v. is_successor fs (λ r. below_of w r s) x v ≡ true)
      (filled_successors w.first (below_of w) fs x s e) y (filled_are_successors w.first (below_of w) fs x s e)
      h.two.has_one

  pub second_is_next : (n s e y z : ℕ) → IsPair w fs x n s e y z → is_successor fs (λ r. below_of w r s) x z ≡ true
  second_is_next n s e y z h =
      All-contains (λ v. is_successor fs (λ r. below_of w r s) x v ≡ true)
      (filled_successors w.first (below_of w) fs x s e) z (filled_are_successors w.first (below_of w) fs x s e)
      h.two.has_other

  none_of : (parts : List ℕ) → list_any (has fs x) parts ≡ false → All (λ d. has fs x d ≡ false) parts
  none_of [] h = All-nil (λ d. has fs x d ≡ false)
  none_of (d ∷ ds) h = elim (cases_Bool (has fs x d)) [
    | inl there ↦ (let k = rw there at h in cc)
    | inr out ↦ All-cons (λ k. has fs x k ≡ false) d ds out (none_of ds (rw out at h))
  ]

  first_part : (table : List Shape) (parts : List ℕ) → is_normal table (union parts) ≡ true
      → (d : ℕ) × (slice_get parts 0 ≡ Some d)
  first_part table [] h = cc
  first_part table (d ∷ ds) h = (d, refl)

  pub may_or : (parts : List ℕ) → IsTable w.table → shape_of w.table c ≡ union parts → list_any (has fs x) parts ≡ false
      → IsChoosable w fs (C.Union x c)
  may_or parts good sh h =
      let d =
      first_part w.table parts
      (ap (is_normal w.table) (sym sh) ∙ good.are_normal c (listed w.table c (λ k. (let m = sym sh ∙ k in cc)))) in
      record {
        may = on_union x c parts lt holds sh (none_of parts h);
        why = record { is_node = lt; holds = holds; parts = parts; shape = sh };
        first = _;
        is_first = of_union x c 0 d.0 parts sh d.1;
      }

pub no_union_by_label : (w : SearchContext) (fs : List (Fact ℕ)) (x : ℕ) (cs : List ℕ) → IsLabel fs x cs
    → ((k d : ℕ) → k < length cs → NoUnionByShape w fs x (shape_of w.table (get_or cs k d))) → NoUnionAt w fs x
no_union_by_label w fs x cs label each = record {
  none = λ e h.
      where_any (λ d. eqb d e) (NoUnionByShape w fs x (shape_of w.table e)) cs
      (λ k d lt hit. subst (λ (f : ℕ). NoUnionByShape w fs x (shape_of w.table f)) (eqb-true (get_or cs k d) e hit)
      (each k d lt))
      (label e ∙ h);
}

pub no_most_by_label : (w : SearchContext) (fs : List (Fact ℕ)) (x : ℕ) (cs : List ℕ) → IsLabel fs x cs
    → ((k d : ℕ) → k < length cs → NoMostByShape w fs x (shape_of w.table (get_or cs k d))) → NoMostAt w fs x
no_most_by_label w fs x cs label each = record {
  none = λ e h.
      where_any (λ d. eqb d e) (NoMostByShape w fs x (shape_of w.table e)) cs
      (λ k d lt hit. subst (λ (f : ℕ). NoMostByShape w fs x (shape_of w.table f)) (eqb-true (get_or cs k d) e hit)
      (each k d lt))
      (label e ∙ h);
}

-- ---- all nodes

module _ (w : SearchContext) (fs : List (Fact ℕ)) where
  -- what a node has, its representative has
  moved : (x c : ℕ) → has fs (rep fs x) c ≡ has fs x c
  moved x c = has_at fs (rep fs x) x c (rep_twice fs x)

  rep_is_node : (x : ℕ) → x < node_count_from w.first fs → rep fs x < node_count_from w.first fs
  rep_is_node x lt = omega (arith, rep-le fs x, lt)

  next_moved : (roles : ℕ → Bool) (x y : ℕ) → is_successor fs roles (rep fs x) y ≡ is_successor fs roles x y
  next_moved roles x y = ap (λ (b : Bool). eqb (rep fs y) y && b) (edge_from fs roles (rep fs x) x y (rep_twice fs x))

  any_moved : (x : ℕ) (cs : List ℕ) → list_any (has fs (rep fs x)) cs ≡ list_any (has fs x) cs
  any_moved x cs = ap (λ (p : ℕ → Bool). list_any p cs) (λ i c. moved x c i)

  union_moved : (x : ℕ) (sh : Shape) → NoUnionByShape w fs (rep fs x) sh → NoUnionByShape w fs x sh
  union_moved x (union parts) h = sym (any_moved x parts) ∙ h
  union_moved x top h = tt
  union_moved x bottom h = tt
  union_moved x (name a) h = tt
  union_moved x (not_name a) h = tt
  union_moved x (intersection parts) h = tt
  union_moved x (some_of s e) h = tt
  union_moved x (all_of s e) h = tt
  union_moved x (at_least n s e) h = tt
  union_moved x (at_most n s e) h = tt

  most_moved : (x : ℕ) (sh : Shape) → NoMostByShape w fs (rep fs x) sh → NoMostByShape w fs x sh
  most_moved x (at_most n s e) h =
      let same = filled_at fs w.first (below_of w) (rep fs x) x s e (rep_twice fs x) in (
        record { decided = λ y next. h.0.decided y (next_moved (λ r. below_of w r s) x y ∙ next) },
        record {
          are_apart = λ more.
              subst (λ (ys : List ℕ). all_apart fs ys ≡ true) same
              (h.1.are_apart (subst (λ (ys : List ℕ). n < length ys) (sym same) more));
        },
      )
  most_moved x top h = tt
  most_moved x bottom h = tt
  most_moved x (name a) h = tt
  most_moved x (not_name a) h = tt
  most_moved x (intersection parts) h = tt
  most_moved x (union parts) h = tt
  most_moved x (some_of s e) h = tt
  most_moved x (all_of s e) h = tt
  most_moved x (at_least n s e) h = tt

  pub no_union : ((z : ℕ) → z < node_count_from w.first fs → rep fs z ≡ z → NoUnionAt w fs z) → NoUnion w fs
  no_union each x lt = record {
    none =
        λ c h. union_moved x (shape_of w.table c)
        ((each (rep fs x) (rep_is_node x lt) (rep_twice fs x)).none c (moved x c ∙ h));
  }

  pub no_most : ((z : ℕ) → z < node_count_from w.first fs → rep fs z ≡ z → NoMostAt w fs z) → NoMost w fs
  no_most each x lt = record {
    none =
        λ c h. most_moved x (shape_of w.table c)
        ((each (rep fs x) (rep_is_node x lt) (rep_twice fs x)).none c (moved x c ∙ h));
  }

  all_lack : (x : ℕ) (parts : List ℕ) → All (λ d. has fs x d ≡ false) parts → list_any (has fs x) parts ≡ true → ⊥
  all_lack x [] out h = cc
  all_lack x (d ∷ ds) out h =
      all_lack x ds (All-tail (λ k. has fs x k ≡ false) d ds out)
      (rw (All-head (λ k. has fs x k ≡ false) d ds out) at h)

  not_decided : (y e : ℕ) → has fs y e ≡ false → LacksComplement w fs y e → IsDecided w fs y e → ⊥
  not_decided y e out lacks (by_filler h) = cc
  not_decided y e out lacks (by_complement h) = (let k = lacks h.complement h.is_complement in let l = h.holds in cc)

  none_may : NoUnion w fs → NoMost w fs → (b : Branch) → ¬ MayBranch w fs b
  none_may unions mosts b (on_union x c parts lt h sh out) =
      all_lack x parts out (subst (NoUnionByShape w fs x) sh ((unions x lt).none c h))
  none_may unions mosts b (on_filler x c n s e y lt h sh next out lacks) =
      not_decided y e out lacks ((subst (NoMostByShape w fs x) sh ((mosts x lt).none c h)).0.decided y next)
  none_may unions mosts b (on_pair x c n s e y z lt h sh more cy cz ne out) =
      let every = (subst (NoMostByShape w fs x) sh ((mosts x lt).none c h)).1.are_apart more in
      let apart =
      pair_apart fs (filled_successors w.first (below_of w) fs x s e) y z every
      (contains_member y (filled_successors w.first (below_of w) fs x s e) cy)
      (contains_member z (filled_successors w.first (below_of w) fs x s e) cz) ne in
      cc

  pub nothing_to_choose : NoUnion w fs → NoMost w fs → NothingToChoose w fs
  nothing_to_choose unions mosts = record { none = none_may unions mosts }
