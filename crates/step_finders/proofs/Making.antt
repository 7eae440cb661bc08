-- Why there are nodes to be made, and why there are none.
use Rattle.std.proofs.Common.{◌≡◌, ℕ, zero, suc, ◌+◌, ◌-◌, ◌<◌, ◌≤◌, ◌&&◌, eqb, leb, ltb, Bool, true, false, List, []}
use Rattle.std.proofs.Common.{◌∷◌, length, get_or, refl, ap, ◌∙◌, sym, subst, arith, inl, inr, eq-eqb}
use Rattle.std.specs.List.{list_any, list_all, range_with_len}
use Rattle.std.proofs.lemmas.Bool.{eqb-true, leb-true, ltb-true, lt-ltb, cases_Bool, cases_lt, and_parts, and_right}
use Rattle.calculus_specs.specs.declared.facts.Fact.{Fact}
use Rattle.calculus_specs.specs.Joins.{rep}
use Rattle.calculus_specs.specs.State.{node_count_from, has, has_edge, is_successor, all_apart}
use Rattle.tableau_specs.specs.Clash.{filled_successors}
use Rattle.tableau_specs.specs.Steps.{SearchContext, below_of, IsOpen, Generates, is_run}
use Rattle.tableau_specs.specs.Clash.{is_filled_successor}
use Rattle.tableau_specs.specs.Steps.Generates.{by_some, by_least}
use Rattle.calculus_specs.specs.Listed.{AreEdges, IsLabel}
use Rattle.step_finders.specs.declared.make.NewNodes.{NewNodes}
use Rattle.step_finders.specs.Filled.{AreFilled}
use Rattle.step_finders.specs.Making.{is_among, runs_among, AnswersAmong, Asks, IsMaking, HasFiller, HasRun, AnswersRun}
use Rattle.step_finders.specs.Making.{NoMakingByShape, NoMakingAt, NothingToMake}
use Rattle.calculus_specs.specs.Shape.{Shape, shape_of, is_normal, IsTable}
use Rattle.calculus_specs.specs.Shape.Shape.{some_of, at_least}
use Rattle.tableau_specs.proofs.Listed.{listed}
use Rattle.calculus_specs.proofs.State.{eqb-comm}
use Rattle.tableau_specs.proofs.Moved.{edge_to}
use Rattle.step_finders.proofs.Edges.{where_any, next_at, rep_twice, has_rep}
use Rattle.step_finders.proofs.Members.{member_filled}

none_passes : (ys : List ℕ) → ((y : ℕ) → list_any (eqb y) ys ≡ true → ⊥) → ys ≡ []
none_passes [] h = refl
none_passes (y ∷ ys) h = absurd (h y (rw (eq-eqb y y refl) refl))

module _ (w : SearchContext) (fs : List (Fact ℕ)) (x s e : ℕ) (edges : List (ℕ × ℕ)) where
  pub filler_at_end : (k : ℕ) (d : ℕ × ℕ) → AreEdges fs x edges → k < length edges
      → below_of w (get_or edges k d).0 s ≡ true → has fs (get_or edges k d).1 e ≡ true → HasFiller w fs x s e
  filler_at_end k d are lt hit h = record {
    end = rep fs (get_or edges k d).1;
    next = next_at fs x edges (λ r. below_of w r s) k d are lt hit;
    holds = has_rep fs (get_or edges k d).1 e ∙ h;
  }

  pub none_filled : AreEdges fs x edges
      → ((k : ℕ) (d : ℕ × ℕ) → k < length edges → below_of w (get_or edges k d).0 s ≡ true
      → has fs (get_or edges k d).1 e ≡ false)
      → filled_successors w.first (below_of w) fs x s e ≡ []
  none_filled are each = none_passes (filled_successors w.first (below_of w) fs x s e) (λ y m.
      let t =
      and_parts (is_successor fs (λ r. below_of w r s) x y) (has fs y e)
      (sym (member_filled w.first (below_of w) fs x s e y) ∙ m) in
      where_any (λ p. below_of w p.0 s && eqb (rep fs p.1) y) ⊥ edges
      (λ k d lt hit.
      let u = and_parts (below_of w (get_or edges k d).0 s) (eqb (rep fs (get_or edges k d).1) y) hit in
      let out : has fs y e ≡ false =
      subst (λ (z : ℕ). has fs z e ≡ false) (eqb-true (rep fs (get_or edges k d).1) y u.1)
      (has_rep fs (get_or edges k d).1 e ∙ each k d lt u.0) in
      (let l = t.1 in cc))
      (are (λ r. below_of w r s) y ∙ t.0))

-- ---- runs

parts_of : (a b b' c c' d : Bool) → d ≡ true → b ≡ b' → c ≡ c' → (a && ((d && b) && c)) ≡ ((a && b') && c')
parts_of true b b' c c' d is eb ec = rw (is, eb, ec) refl
parts_of false b b' c c' d is eb ec = refl

module _ (w : SearchContext) (fs : List (Fact ℕ)) (x n s e : ℕ) (ys : List ℕ)
    (is : AreFilled (below_of w) fs x s e ys) where
  same_filler : (z : ℕ)
      → is_among fs ys (node_count_from w.first fs) z ≡ is_filled_successor w.first (below_of w) fs x s e z
  same_filler z =
      let roles : ℕ → Bool = λ r. below_of w r s in
      let y = rep fs z in
      ap (λ (b : Bool). ltb z (node_count_from w.first fs) && b)
      (ap (λ (q : ℕ → Bool). list_any q ys) (λ j v. eqb-comm v y j) ∙ is.members y)
      ∙ parts_of (ltb z (node_count_from w.first fs)) (has_edge fs roles x y) (has_edge fs roles x z) (has fs y e)
      (has fs z e) (eqb (rep fs y) y)
      (eq-eqb (rep fs y) y (rep_twice fs z)) (edge_to fs roles y z x (rep_twice fs z)) (has_rep fs z e)

  same_runs : (y : ℕ) → runs_among fs ys (node_count_from w.first fs) n y ≡ is_run w fs x s e n y
  same_runs y =
      ap (λ (p : ℕ → Bool). list_all p (range_with_len y n) && all_apart fs (range_with_len y n))
      (λ i z. same_filler z i)

  out_of_row : (k y : ℕ) → ltb y (node_count_from w.first fs) ≡ false → 0 < k
      → list_all (is_among fs ys (node_count_from w.first fs)) (range_with_len y k) ≡ false
  out_of_row zero y out pos = absurd (omega arith)
  out_of_row (suc k) y out pos = rw out refl

  -- a run begins at a node
  only_there : (y : ℕ) → 0 < n → AnswersAmong fs ys (node_count_from w.first fs) n false
      → runs_among fs ys (node_count_from w.first fs) n y ≡ false
  only_there y pos none = elim (cases_Bool (ltb y (node_count_from w.first fs))) [
    | inr out ↦ ap (λ (b : Bool). b && all_apart fs (range_with_len y n)) (out_of_row n y out pos)
    | inl there ↦ none y (ltb-true y (node_count_from w.first fs) there)
  ]

  pub run_of_among : (found : Bool) → 0 < n → AnswersAmong fs ys (node_count_from w.first fs) n found
      → AnswersRun w fs x n s e found
  run_of_among true pos h = record { first = h.0; is_run' = sym (same_runs h.0) ∙ h.1 }
  run_of_among false pos h = λ y. sym (same_runs y) ∙ only_there y pos h

-- ---- a walk through the nodes

each_in_row : (p : ℕ → Bool) (a n : ℕ) → ((z : ℕ) → a ≤ z → z < a + n → p z ≡ true)
    → list_all p (range_with_len a n) ≡ true
each_in_row p a zero each = refl
each_in_row p a (suc n) each =
    rw (each a (omega arith) (omega arith))
    (each_in_row p (a + 1) n (λ z from before. each z (omega arith) (omega arith)))

not_first : (z a : ℕ) → a ≤ z → ¬ (a ≡ z) → a + 1 ≤ z
not_first z a le ne = grind (arith)

one_fails : (p : ℕ → Bool) (a n z : ℕ) → p z ≡ false → a ≤ z → z < a + n → list_all p (range_with_len a n) ≡ false
one_fails p a zero z out le lt = absurd (omega arith)
one_fails p a (suc n) z out le lt = elim (cases_Bool (eqb a z)) [
  | inl here ↦ rw (ap p (eqb-true a z here) ∙ out) refl
  | inr later ↦
      and_right (p a) (list_all p (range_with_len (a + 1) n))
      (one_fails p (a + 1) n z out (not_first z a le (λ e. (let k = eq-eqb a z e in cc))) (omega arith))
]

pub last_unapart : (fs : List (Fact ℕ)) (n node : ℕ) → all_apart fs (range_with_len (node + 1 - n) n) ≡ false → (y : ℕ)
    → y + n ≡ node + 1 → all_apart fs (range_with_len y n) ≡ false
last_unapart fs n node out y at = subst (λ (k : ℕ). all_apart fs (range_with_len k n) ≡ false) (omega (arith, at)) out

module _ (fs : List (Fact ℕ)) (ends : List ℕ) (bound n : ℕ) where
  abbrev is_such : ℕ → Bool
  is_such = is_among fs ends bound

  abbrev is_run_of : ℕ → Bool
  is_run_of = runs_among fs ends bound n

  -- those from the start to this node are such, and none of the runs that begin before the start, or end before this
  -- node
  pub record IsWalked (start node : ℕ) : Type 0 where
    pub start_le : start ≤ node
    pub such : (z : ℕ) → start ≤ z → z < node → is_such z ≡ true
    pub before : (y : ℕ) → y < start → is_run_of y ≡ false
    pub ended : (y : ℕ) → y + n ≤ node → is_run_of y ≡ false

  pub walk_none : 0 < n → IsWalked 0 0
  walk_none pos = record {
    start_le = omega arith;
    such = λ z from lt. absurd (omega (arith, lt));
    before = λ y lt. absurd (omega (arith, lt));
    ended = λ y le. absurd (omega (arith, le, pos));
  }

  no_run_over : (z y : ℕ) → is_such z ≡ false → y ≤ z → z < y + n → is_run_of y ≡ false
  no_run_over z y out le lt =
      ap (λ (b : Bool). b && all_apart fs (range_with_len y n)) (one_fails is_such y n z out le lt)

  such_there : (z : ℕ) → z < bound → list_any (λ v. eqb v (rep fs z)) ends ≡ true → is_such z ≡ true
  such_there z lt there = rw (lt-ltb z bound lt, there) refl

  not_such : (z : ℕ) → list_any (λ v. eqb v (rep fs z)) ends ≡ false → is_such z ≡ false
  not_such z out = and_right (ltb z bound) (list_any (λ v. eqb v (rep fs z)) ends) out

  -- where a walk comes to a node that is not such, no run begins before it or at it
  none_over : (start node : ℕ) → IsWalked start node → is_such node ≡ false → (y : ℕ) → y ≤ node → is_run_of y ≡ false
  none_over start node walked out y le = elim (cases_lt node (y + n)) [
    | inl over ↦ no_run_over node y out le over
    | inr past ↦ walked.ended y past
  ]

  no_bound : is_such bound ≡ false
  no_bound = elim (cases_Bool (ltb bound bound)) [
    | inl lt ↦ absurd (omega (arith, ltb-true bound bound lt))
    | inr out ↦ rw out refl
  ]

  pub walk_end : (start node : ℕ) → node ≡ bound → IsWalked start node → AnswersAmong fs ends bound n false
  walk_end start node at walked y lt = none_over start node walked (ap is_such at ∙ no_bound) y (omega (arith, lt, at))

  module _ (start node : ℕ) (walked : IsWalked start node) where
    pub walk_out : 0 < n → list_any (λ v. eqb v (rep fs node)) ends ≡ false → IsWalked (node + 1) (node + 1)
    walk_out pos out =
        let none = none_over start node walked (not_such node out) in
        record {
          start_le = omega arith;
          such = λ z from lt. absurd (omega (arith, from, lt));
          before = λ y lt. none y (omega (arith, lt));
          ended = λ y le. none y (omega (arith, le, pos));
        }

    module _ (lt : node < bound) (there : list_any (λ v. eqb v (rep fs node)) ends ≡ true) where
      such_now : (z : ℕ) → start ≤ z → z < node + 1 → is_such z ≡ true
      such_now z from le = elim (cases_lt z node) [
        | inl less ↦ walked.such z from less
        | inr same ↦ ap is_such (omega (arith, le, same)) ∙ such_there node lt there
      ]

      -- the run that ends with this node, if it does not begin before the start, is not of nodes that are apart
      pub walk_in : ((y : ℕ) → start ≤ y → y + n ≡ node + 1 → all_apart fs (range_with_len y n) ≡ false)
          → IsWalked start (node + 1)
      walk_in not_apart = record {
        start_le = omega (arith, walked.start_le);
        such = such_now;
        before = walked.before;
        ended = λ y le. elim (cases_lt (y + n) (node + 1)) [
          | inl less ↦ walked.ended y (omega (arith, less))
          | inr same ↦ elim (cases_lt y start) [
            | inl less ↦ walked.before y less
            | inr from ↦
                and_right (list_all is_such (range_with_len y n)) (all_apart fs (range_with_len y n))
                (not_apart y from (omega (arith, le, same)))
          ]
        ];
      }

      pub walk_found : start + n ≤ node + 1 → all_apart fs (range_with_len (node + 1 - n) n) ≡ true
          → AnswersAmong fs ends bound n true
      walk_found long apart =
          let y = node + 1 - n in (
            y,
            rw (
              each_in_row is_such y n (λ z from le. such_now z (omega (arith, from, long)) (omega (arith, le, long))),
              apart,
            ) refl,
          )

-- ---- what is made

least_bounds : (table : List Shape) → IsTable table → (c n s e : ℕ) → shape_of table c ≡ at_least n s e
    → (2 ≤ n) × (n ≤ 101)
least_bounds table good c n s e sh =
    let h = ap (is_normal table) (sym sh) ∙ good.are_normal c (listed table c (λ k. (let m = sym sh ∙ k in cc))) in
    let t = and_parts (leb 2 n) (leb n 101) h in
    (leb-true 2 n t.0, leb-true n 101 t.1)

pub least_some : (table : List Shape) → IsTable table → (c n s e : ℕ) → shape_of table c ≡ at_least n s e → 0 < n
least_some table good c n s e sh = omega (arith, (least_bounds table good c n s e sh).0)

pub least_few : (table : List Shape) → IsTable table → (c n s e : ℕ) → shape_of table c ≡ at_least n s e → n < 200
least_few table good c n s e sh = omega (arith, (least_bounds table good c n s e sh).1)

module _ (w : SearchContext) (fs : List (Fact ℕ)) (x c : ℕ) (at : IsOpen w fs x) (h : has fs x c ≡ true) where
  abbrev made : ℕ → ℕ → ℕ → NewNodes
  made s e n = record { parent = x; role = s; filler = e; count = n; concept = c }

  pub makes_some : (s e : ℕ) → shape_of w.table c ≡ some_of s e → filled_successors w.first (below_of w) fs x s e ≡ []
      → IsMaking w fs (made s e 1)
  makes_some s e sh none = record {
    generates = by_some x c s e at h sh none;
    is_open = at;
    holds = h;
    asks = subst (λ (t : Shape). Asks t (made s e 1)) (sym sh) (refl, refl, refl);
  }

  pub makes_least : (n s e : ℕ) → shape_of w.table c ≡ at_least n s e → ((y : ℕ) → is_run w fs x s e n y ≡ false)
      → IsMaking w fs (made s e n)
  makes_least n s e sh none = record {
    generates = by_least x c n s e at h sh none;
    is_open = at;
    holds = h;
    asks = subst (λ (t : Shape). Asks t (made s e n)) (sym sh) (refl, refl, refl);
  }

pub no_making_by_label : (w : SearchContext) (fs : List (Fact ℕ)) (x : ℕ) (cs : List ℕ) → IsLabel fs x cs
    → ((k d : ℕ) → k < length cs → NoMakingByShape w fs x (shape_of w.table (get_or cs k d))) → NoMakingAt w fs x
no_making_by_label w fs x cs label each = record {
  none = λ e h.
      where_any (λ d. eqb d e) (NoMakingByShape w fs x (shape_of w.table e)) cs
      (λ k d lt hit. subst (λ (f : ℕ). NoMakingByShape w fs x (shape_of w.table f)) (eqb-true (get_or cs k d) e hit)
      (each k d lt))
      (label e ∙ h);
}

module _ (w : SearchContext) (fs : List (Fact ℕ))
    (each : (z : ℕ) → z < node_count_from w.first fs → IsOpen w fs z → NoMakingAt w fs z) where
  some_there : (x s e : ℕ) → HasFiller w fs x s e → filled_successors w.first (below_of w) fs x s e ≡ [] → ⊥
  some_there x s e h none =
      let m : list_any (eqb h.end) (filled_successors w.first (below_of w) fs x s e) ≡ true =
      member_filled w.first (below_of w) fs x s e h.end ∙ rw (h.next, h.holds) refl in
      (let k = subst (λ (ys : List ℕ). list_any (eqb h.end) ys ≡ true) none m in cc)

  none_makes : (new : List (Fact ℕ)) → ¬ Generates w fs new
  none_makes new (by_some x c s e at h sh none) =
      some_there x s e (subst (NoMakingByShape w fs x) sh ((each x at.is_node at).none c h)) none
  none_makes new (by_least x c n s e at h sh none) =
      let run : HasRun w fs x n s e = subst (NoMakingByShape w fs x) sh ((each x at.is_node at).none c h) in
      (let k = none run.first in let l = run.is_run' in cc)

  pub nothing_to_make : NothingToMake w fs
  nothing_to_make = record { none = none_makes }
