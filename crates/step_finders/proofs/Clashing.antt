-- Why there is a plain clash, and why there is none.
use Rattle.step_finders.specs.Clashing.{IsMost, AreMosts, AreLedTo, HasMost, AnswersOverrun, NotOverrun, NoneOverrun}
use Rattle.step_finders.specs.Clashing.{NotOverrunOver, CountsNot, NoneByShape, NoneAbove, NoneInto, NoneAt, NoClashBy}
use Rattle.step_finders.specs.Clashing.{NoneOver, NoClashByNew, NoClashByEdge, NoClashByApart, NoClashByJoin}
use Rattle.step_finders.specs.Clashing.{ShownClashesArePlain}
use Rattle.step_finders.specs.declared.clash.Clash.TheVariants as C
use Rattle.tableau_specs.specs.Near.{IsOverrun, ClashesBy, ClashesByNew, ClashesByApart, ClashesByJoin, ClashesByEdge}
use Rattle.tableau_specs.specs.Near.ClashesByNew.{new_bottom, new_overrun}
use Rattle.tableau_specs.specs.Near.ClashesByApart.{apart_overrun, apart_differ}
use Rattle.tableau_specs.specs.Near.ClashesByJoin.{join_names, join_most, join_filler, join_differ}
use Rattle.tableau_specs.specs.Near.ClashesByEdge.{edge_overrun}
use Rattle.tableau_specs.specs.Clash.IsPlainClash.{plain_bottom, plain_names, plain_most, plain_differ}
use Rattle.calculus_specs.specs.Listed.{IsLabel, AreJoined}
use Rattle.tableau_specs.specs.Near.ClashesBy.{by_bottom, by_name, by_complement, by_most, by_filler}
use Rattle.calculus_specs.specs.Shape.Shape.{bottom, name, not_name, at_most}
use Rattle.calculus_specs.specs.State.{node_count_from, first_origin, parent_from, gives_apart, has, are_apart}
use Rattle.calculus_specs.specs.State.{speaks_below, speak_of_nodes}
use Rattle.calculus_specs.specs.Joins.{rep}
use Rattle.step_finders.specs.Giving.{AreGivenInto}
use Rattle.calculus_specs.proofs.Joined.{rep-le}
use Rattle.step_finders.proofs.Edges.{where_any, rep_twice}
use Rattle.tableau_specs.proofs.Moved.{overrun_at}
use Rattle.tableau_specs.proofs.TreeShaped.{first_le}
use Rattle.std.proofs.lemmas.Bool.{cases_Bool, eqb-true, ltb-true, lt-ltb, and_parts}
use Rattle.std.specs.List.{All, list_all, list_any}
use Rattle.calculus_specs.specs.declared.facts.Fact.TheVariants.{Has, Edge, Apart, Same}
use Rattle.std.proofs.Common.{ltb, ◌&&◌, [], ◌∷◌, ◌≡◌, ℕ, ◌<◌, Bool, true, false, List, length, ap, ◌∙◌, sym, subst}
use Rattle.std.proofs.Common.{inl, inr, eqb, get_or, Some, None, arith, eq-eqb, refl}
use Rattle.calculus_specs.specs.Shape.{Shape, shape_of}
use Rattle.calculus_specs.specs.declared.facts.Fact.{Fact}
use Rattle.tableau_specs.specs.Clash.{IsPlainClash}
use Rattle.tableau_specs.specs.Steps.{SearchContext, IsGiven, below_of}

same_most : (n s e m t d : ℕ) → at_most n s e ≡ at_most m t d → (n ≡ m) × (s ≡ t) × (e ≡ d)
same_most n s e m t d h = (cc, cc, cc)

module _ (w : SearchContext) (fs : List (Fact ℕ)) (x c n s e d : ℕ) (sh : at_most n s e ≡ shape_of w.table c)
    (most : IsMost w.table d c) where
  is_filler : e ≡ d
  is_filler = (same_most n s e most.count most.role d (sh ∙ most.shape)).2

  shape_is : shape_of w.table c ≡ at_most n s d
  shape_is = sym sh ∙ ap (λ (k : ℕ). at_most n s k) is_filler

  pub most_found : (b : Bool) → b ≡ true → x < node_count_from w.first fs → has fs x c ≡ true
      → AnswersOverrun w fs x n s d b → HasMost w fs x c
  most_found true b lt h o = record {
    is_node = lt;
    count = n;
    role = s;
    filler = d;
    overrun = record { holds = h; shape = shape_is; more = o.0; every = o.1 };
  }
  most_found false b lt h o = cc

  not_that : (m t : ℕ) → AnswersOverrun w fs x n s d false → n ≡ m → s ≡ t
      → IsOverrun w.first (below_of w) w.table fs x c m t d → ⊥
  not_that m t none en es o =
      let k =
      subst (λ (j : ℕ). AnswersOverrun w fs x j t d false) en
      (subst (λ (r : ℕ). AnswersOverrun w fs x n r d false) es none) in
      (let l = k o.more in let p = o.every in cc)

  pub most_none : (b : Bool) → b ≡ false → AnswersOverrun w fs x n s d b → NotOverrun w fs x d c
  most_none true b h = cc
  most_none false b h =
      record { none = λ m t o. let q = same_most n s d m t d (sym shape_is ∙ o.shape) in not_that m t h q.0 q.1 o }

-- no 'at most' is overrun, where none in the list is
pub none_overrun : (w : SearchContext) (fs : List (Fact ℕ)) (x d : ℕ) (cs : List ℕ) → AreMosts w.table d cs
    → All (NotOverrun w fs x d) cs → NoneOverrun w fs x d
none_overrun w fs x d cs mosts none = record {
  none = λ c n s o.
      where_any (λ j. eqb j c) ⊥ cs
      (λ j q lt hit. (subst (NotOverrun w fs x d) (eqb-true (get_or cs j q) c hit) (none j q lt)).none n s o)
      (mosts.every c n s o.shape);
}

-- ---- above a node

origin_below : (n : ℕ) (fs : List (Fact ℕ)) (v up : ℕ) → list_all (speaks_below n) fs ≡ true
    → first_origin fs v ≡ Some up → up < n
origin_below n [] v up h o = cc
origin_below n (Has x c ∷ fs) v up h o =
    origin_below n fs v up (and_parts (ltb x n) (list_all (speaks_below n) fs) h).1 o
origin_below n (Apart x y ∷ fs) v up h o =
    origin_below n fs v up (and_parts (ltb x n && ltb y n) (list_all (speaks_below n) fs) h).1 o
origin_below n (Same x y ∷ fs) v up h o =
    origin_below n fs v up (and_parts (ltb x n && ltb y n) (list_all (speaks_below n) fs) h).1 o
origin_below n (Edge r x y ∷ fs) v up h o =
    let t = and_parts (ltb x n && ltb y n) (list_all (speaks_below n) fs) h in
    elim (cases_Bool (eqb y v)) [
      | inl hit ↦
          let e : Some x ≡ Some up = rw hit at o in
          let k : x ≡ up = cc in subst (λ (j : ℕ). j < n) k (ltb-true x n (and_parts (ltb x n) (ltb y n) t.0).0)
      | inr miss ↦ origin_below n fs v up t.1 (rw miss at o)
    ]

pub parent_is_node : (first : ℕ) (fs : List (Fact ℕ)) (v up : ℕ) → speak_of_nodes first fs ≡ true
    → parent_from first fs v ≡ Some up → up < node_count_from first fs
parent_is_node first fs v up h p = elim (cases_Bool (ltb v first)) [
  | inl root ↦ (let k = rw root at p in cc)
  | inr below ↦ origin_below (node_count_from first fs) fs v up h (rw below at p)
]

-- a first node has no parent
first_has_none : (first : ℕ) (fs : List (Fact ℕ)) (v up : ℕ) → v < first → parent_from first fs v ≡ Some up → ⊥
first_has_none first fs v up lt p = (let k = rw (lt-ltb v first lt) at p in cc)

-- where a given edge begins is a node, and so is its representative
pub begin_is_node : (w : SearchContext) (fs : List (Fact ℕ)) (r z x : ℕ) → IsGiven w (Edge r z x)
    → rep fs z < node_count_from w.first fs
begin_is_node w fs r z x given =
    let lt = ltb-true z w.first (and_parts (ltb z w.first) (ltb x w.first) given.on_first).0 in
    omega (arith, lt, rep-le fs z, first_le w.first fs)

end_is_first : (w : SearchContext) (r z x : ℕ) → IsGiven w (Edge r z x) → x < w.first
end_is_first w r z x given = ltb-true x w.first (and_parts (ltb z w.first) (ltb x w.first) given.on_first).1

module _ (w : SearchContext) (fs : List (Fact ℕ)) (x d : ℕ) (above : AreLedTo w fs x) where
  -- none is overrun at a node, where none is at its representative
  not_there : (up z : ℕ) → rep fs z ≡ rep fs up → NoneOverrun w fs (rep fs up) d → NoneOverrun w fs z d
  not_there up z at none = record {
    none =
        λ c n s o. none.none c n s
        (overrun_at fs w.first (below_of w) w.table z (rep fs up) c n s d (at ∙ sym (rep_twice fs up)) o);
  }

  pub none_above : (up : ℕ) → parent_from w.first fs (rep fs x) ≡ Some up → NoneOverrun w fs (rep fs up) d
      → NoneAbove w fs x d
  none_above up par none = record {
    none = λ z c n s edge o. elim (above (λ r. below_of w r s) z edge) [
      | inl g ↦ first_has_none w.first fs (rep fs x) up g.ends_first par
      | inr b ↦
          let e : Some b.up ≡ Some up = sym b.is_parent ∙ par in
          let k : b.up ≡ up = cc in
          (not_there up z (sym b.is_joined ∙ ap (rep fs) k) none).none c n s o
    ];
  }

  -- none is above a first node, where none is at the beginnings of the edges that are given into the nodes that are one
  -- with it
  pub none_at_first : (nodes : List ℕ) → parent_from w.first fs (rep fs x) ≡ None
      → AreJoined fs (node_count_from w.first fs) x nodes → All (NoneInto w fs d) nodes → NoneAbove w fs x d
  none_at_first nodes par joined none = record {
    none = λ z c n s edge o. elim (above (λ r. below_of w r s) z edge) [
      | inr b ↦ (let e : Some b.up ≡ None = sym b.is_parent ∙ par in cc)
      | inl g ↦
          let lt : g.end < node_count_from w.first fs =
          omega (arith, end_is_first w g.role g.begin g.end g.is_given, first_le w.first fs) in
          let there : list_any (λ v. eqb v g.end) nodes ≡ true =
          joined g.end
          ∙ rw (lt-ltb g.end (node_count_from w.first fs) lt, eq-eqb (rep fs g.end) (rep fs x) g.at_end) refl in
          where_any (λ v. eqb v g.end) ⊥ nodes
          (λ k q within hit.
          ((subst (NoneInto w fs d) (eqb-true (get_or nodes k q) g.end hit) (none k q within)).none g.role g.begin
          g.is_given).none
          c n s
          (overrun_at fs w.first (below_of w) w.table z g.begin c n s d (sym g.at_begin) o))
          there
    ];
  }

  by_shape : (sh : Shape) → shape_of w.table d ≡ sh → NoneByShape w fs x (shape_of w.table d) → NoneByShape w fs x sh
  by_shape sh e h = subst (NoneByShape w fs x) e h

  no_way : NoneByShape w fs x (shape_of w.table d) → NoneAbove w fs x d
      → ¬ ClashesBy w.first (below_of w) w.table fs x d
  no_way at over (by_bottom sh) = by_shape bottom sh at
  no_way at over (by_name c a sh h th) = by_shape (name a) sh at c h th
  no_way at over (by_complement c a sh h th) = by_shape (not_name a) sh at c h th
  no_way at over (by_most n s e o) = (let k = by_shape (at_most n s e) o.shape at o.more in let l = o.every in cc)
  no_way at over (by_filler z c n s lt edge o) = over.none z c n s edge o

  pub no_clash : NoneByShape w fs x (shape_of w.table d) → NoneAbove w fs x d → NoClashBy w fs x d
  no_clash at over = record { none = no_way at over }

-- none is at the beginnings of the edges that are given into a node
pub none_given : (w : SearchContext) (fs : List (Fact ℕ)) (x d : ℕ) (edges : List (ℕ × ℕ)) → AreGivenInto w x edges
    → ((k : ℕ) (q : ℕ × ℕ) → k < length edges → NoneOverrun w fs (rep fs (get_or edges k q).1) d) → NoneInto w fs d x
none_given w fs x d edges into each = record {
  none = λ r z given.
      where_any (λ p. eqb p.0 r && eqb p.1 z) (NoneOverrun w fs z d) edges
      (λ k q lt hit.
      let t = and_parts (eqb (get_or edges k q).0 r) (eqb (get_or edges k q).1 z) hit in
      at_node (get_or edges k q).1 z (eqb-true (get_or edges k q).1 z t.1) (each k q lt))
      (into.every r z given);
}
  where
    at_node : (v z : ℕ) → v ≡ z → NoneOverrun w fs (rep fs v) d → NoneOverrun w fs z d
    at_node v z e none = record {
      none =
          λ c n s o. none.none c n s
          (overrun_at fs w.first (below_of w) w.table z (rep fs v) c n s d (ap (rep fs) (sym e) ∙ sym (rep_twice fs v))
          o);
    }

-- where a given edge of a list begins is a node
pub given_begins : (w : SearchContext) (fs : List (Fact ℕ)) (x : ℕ) (edges : List (ℕ × ℕ)) (k : ℕ) (q : ℕ × ℕ)
    → AreGivenInto w x edges → k < length edges → rep fs (get_or edges k q).1 < node_count_from w.first fs
given_begins w fs x edges k q into lt =
    begin_is_node w fs (get_or edges k q).0 (get_or edges k q).1 x (into.each k q lt)

-- ---- after other steps

module _ (w : SearchContext) (fs : List (Fact ℕ)) where
  -- an 'at most' that does not count by the role is none that does
  pub not_counted : (x r d c : ℕ) → CountsNot w r c → NotOverrunOver w fs x r d c
  not_counted x r d c out =
      record { none = λ n s below o. absurd (both (below_of w r s) below (out.none n s d o.shape)) }
    where
      both : (b : Bool) → b ≡ true → b ≡ false → ⊥
      both true e f = cc
      both false e f = cc

  pub counted : (x r d c : ℕ) → NotOverrun w fs x d c → NotOverrunOver w fs x r d c
  counted x r d c out = record { none = λ n s below o. out.none n s o }

  pub none_over : (x r d : ℕ) (cs : List ℕ) → AreMosts w.table d cs → All (NotOverrunOver w fs x r d) cs
      → NoneOver w fs x r d
  none_over x r d cs mosts none = record {
    none = λ c n s below o.
        where_any (λ j. eqb j c) ⊥ cs
        (λ j q lt hit. (subst (NotOverrunOver w fs x r d) (eqb-true (get_or cs j q) c hit) (none j q lt)).none n s below
        o)
        (mosts.every c n s o.shape);
  }

  no_new : (x s e : ℕ) → ¬ (shape_of w.table e ≡ bottom) → NoneOver w fs x s 0 → NoneOver w fs x s e
      → ¬ ClashesByNew w.first (below_of w) w.table fs x s e
  no_new x s e not tops fillers (new_bottom sh) = not sh
  no_new x s e not tops fillers (new_overrun c m t d below is o) = elim is [
    | inl top ↦ tops.none c m t below (subst (λ (k : ℕ). IsOverrun w.first (below_of w) w.table fs x c m t k) top o)
    | inr filler ↦
        fillers.none c m t below (subst (λ (k : ℕ). IsOverrun w.first (below_of w) w.table fs x c m t k) filler o)
  ]

  pub no_clash_by_new : (x s e : ℕ) → ¬ (shape_of w.table e ≡ bottom) → NoneOver w fs x s 0 × NoneOver w fs x s e
      → NoClashByNew w fs x s e
  no_clash_by_new x s e not h = record { none = no_new x s e not h.0 h.1 }

  no_edge : (r x y : ℕ) → ((e : ℕ) → has fs y e ≡ true → NoneOver w fs x r e)
      → ¬ ClashesByEdge w.first (below_of w) w.table fs r x y
  no_edge r x y each (edge_overrun c m t d below h o) = (each d h).none c m t below o

  pub no_clash_by_edge : (r x y : ℕ) (cs : List ℕ) → IsLabel fs y cs
      → ((k d : ℕ) → k < length cs → NoneOver w fs x r (get_or cs k d)) → NoClashByEdge w fs r x y
  no_clash_by_edge r x y cs label each = record {
    none = no_edge r x y (λ e h.
        where_any (λ d. eqb d e) (NoneOver w fs x r e) cs
        (λ k d lt hit. subst (λ (f : ℕ). NoneOver w fs x r f) (eqb-true (get_or cs k d) e hit) (each k d lt))
        (label e ∙ h));
  }

  no_apart : (y z : ℕ) → ¬ (rep fs y ≡ rep fs z)
      → ((e : ℕ) → has fs y e ≡ true → has fs z e ≡ true → NoneAbove w fs y e)
      → ¬ ClashesByApart w.first (below_of w) w.table fs y z
  no_apart y z two each (apart_overrun x c n s e lt edge h other g o) = (each e h g).none x c n s edge o
  no_apart y z two each (apart_differ one) = two one

  pub no_clash_by_apart : (y z : ℕ) (cs : List ℕ) → ¬ (rep fs y ≡ rep fs z) → IsLabel fs y cs
      → ((k d : ℕ) → k < length cs → has fs z (get_or cs k d) ≡ true → NoneAbove w fs y (get_or cs k d))
      → NoClashByApart w fs y z
  no_clash_by_apart y z cs two label each = record {
    none = no_apart y z two (λ e h g.
        where_any (λ d. eqb d e) (NoneAbove w fs y e) cs
        (λ k d lt hit.
        let at = eqb-true (get_or cs k d) e hit in
        subst (λ (f : ℕ). NoneAbove w fs y f) at (each k d lt (ap (has fs z) at ∙ g)))
        (label e ∙ h));
  }

  no_join : (y : ℕ) → are_apart fs y y ≡ false → ((e : ℕ) → has fs y e ≡ true → NoClashBy w fs y e)
      → ¬ ClashesByJoin w.first (below_of w) w.table fs y
  no_join y one each (join_names c d a h sh g th) = (each c h).none (by_name d a sh g th)
  no_join y one each (join_most c n s e o) = (each c o.holds).none (by_most n s e o)
  no_join y one each (join_filler x c n s e lt edge h o) = (each e h).none (by_filler x c n s lt edge o)
  no_join y one each (join_differ apart) = (let k = sym one ∙ apart in cc)

  pub no_clash_by_join : (y : ℕ) (cs : List ℕ) → are_apart fs y y ≡ false → IsLabel fs y cs
      → ((k d : ℕ) → k < length cs → NoClashBy w fs y (get_or cs k d)) → NoClashByJoin w fs y
  no_clash_by_join y cs one label each = record {
    none = no_join y one (λ e h.
        where_any (λ d. eqb d e) (NoClashBy w fs y e) cs
        (λ k d lt hit. subst (λ (f : ℕ). NoClashBy w fs y f) (eqb-true (get_or cs k d) e hit) (each k d lt))
        (label e ∙ h));
  }

-- ---- anywhere

module _ (w : SearchContext) (fs : List (Fact ℕ)) where
  pub none_by_label : (x : ℕ) (cs : List ℕ) → IsLabel fs x cs
      → ((k d : ℕ) → k < length cs → NoneByShape w fs x (shape_of w.table (get_or cs k d)))
      → (c : ℕ) → has fs x c ≡ true → NoneByShape w fs x (shape_of w.table c)
  none_by_label x cs label each c h =
      where_any (λ d. eqb d c) (NoneByShape w fs x (shape_of w.table c)) cs
      (λ k d lt hit. subst (λ (e : ℕ). NoneByShape w fs x (shape_of w.table e)) (eqb-true (get_or cs k d) c hit)
      (each k d lt))
      (label c ∙ h)

  pub none_at : (x : ℕ) → are_apart fs x x ≡ false
      → ((c : ℕ) → has fs x c ≡ true → NoneByShape w fs x (shape_of w.table c)) → NoneAt w fs x
  none_at x one each = record { by_concepts = each; apart = one }

  pub none_anywhere : ((x : ℕ) → x < node_count_from w.first fs → NoneAt w fs x)
      → ¬ IsPlainClash w.first (below_of w) w.table fs
  none_anywhere none (plain_bottom x c lt h sh) = subst (NoneByShape w fs x) sh ((none x lt).by_concepts c h)
  none_anywhere none (plain_names x c d a lt h sh g th) =
      subst (NoneByShape w fs x) sh ((none x lt).by_concepts c h) d g th
  none_anywhere none (plain_most x c n s e lt h sh more every) =
      (let k = subst (NoneByShape w fs x) sh ((none x lt).by_concepts c h) more in cc)
  none_anywhere none (plain_differ y z lt mt apart one) =
      (let k = sym (none y lt).apart ∙ self_apart y z one ∙ apart in cc)
    where
      self_apart : (y z : ℕ) → rep fs y ≡ rep fs z → are_apart fs y y ≡ are_apart fs y z
      self_apart y z one = ap (λ (a : ℕ). list_any (gives_apart (rep fs) (rep fs y) a) fs) one

pub shown_is_plain : ShownClashesArePlain
shown_is_plain w fs (C.Bottom x c) h = plain_bottom x c h.is_node h.holds h.shape
shown_is_plain w fs (C.Both x c d) h = plain_names x c d h.class h.is_node h.holds h.shape h.holds_other h.shape_other
shown_is_plain w fs (C.Differ x y) h = plain_differ x y h.first_is_node h.second_is_node h.apart h.one
shown_is_plain w fs (C.Most x c) h =
    plain_most x c h.count h.role h.filler h.is_node h.overrun.holds h.overrun.shape h.overrun.more h.overrun.every
