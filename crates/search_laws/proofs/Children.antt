-- Below a node few nodes are made.
use Rattle.std.proofs.Common.{◌≡◌, ℕ, zero, suc, ◌+◌, ◌*◌, ◌<◌, ◌≤◌, eqb, ltb, cond, Bool, true, false, List, [], ◌∷◌}
use Rattle.std.proofs.Common.{◌++◌, Option, Some, None, refl, ap, ◌∙◌, sym, subst, arith, inl, inr, lt-ltb}
use Rattle.std.specs.List.{list_any}
use Rattle.std.proofs.lemmas.Bool.{cases_Bool, cases_eq, cases_lt, ne_eqb}
use Rattle.ontology_limits.specs.Below.{count_below}
use Rattle.calculus_specs.specs.Shape.{shape_of}
use Rattle.calculus_specs.specs.Shape.Shape.{top, at_least}
use Rattle.calculus_specs.specs.declared.facts.Fact.{Fact}
use Rattle.calculus_specs.specs.declared.facts.Fact.TheVariants.{Has}
use Rattle.calculus_specs.specs.State.{node_count_from, first_origin, parent_from, new_nodes, apart_from}
use Rattle.calculus_specs.specs.State.{pairwise_apart, fresh_facts}
use Rattle.tableau_specs.specs.declared.Item.{Item}
use Rattle.tableau_specs.specs.declared.Item.TheVariants.{Fact as Says, Mark}
use Rattle.tableau_specs.specs.Items.{facts_of}
use Rattle.tableau_specs.specs.Steps.{SearchContext}
use Rattle.tableau_specs.specs.Reached.{start}
use Rattle.tableau_specs.proofs.TreeShaped.{no_origin, none_or_some}
use Rattle.search_laws.proofs.Counting.{count_agree, count_longer, count_no_more}
use Rattle.search_laws.specs.BoundLaws.{is_at, children}
use Rattle.search_laws.specs.KeptSteps.{IsGrown}
use Rattle.search_laws.proofs.Grown.{facts_of-append}
use Rattle.search_laws.specs.KeptSteps.IsGrown.{at_first, by_add, by_give, by_make, by_choice}
use Rattle.search_laws.proofs.Sums.{count_in, in_le, in_more}
use Rattle.search_laws.proofs.Rising.{AreIn, in_front}
use Rattle.tableau_specs.proofs.GenerateLines.{count-fresh}
use Rattle.search_laws.proofs.Tally.{facts_after}
use Rattle.search_laws.proofs.Asked.{by_role, with_concept, is_met, met_stays, IsMaking, making, met_after}
use Rattle.search_laws.proofs.Plain.{IsPlain, plain_count, alternative_plain, given_plain, origin-append, origin_keeps}
use Rattle.search_laws.proofs.Plain.{plain_origin}
use Rattle.search_laws.proofs.BoundNodes.{times_le, times_more}
use Rattle.search_laws.proofs.BoundFew.{made_by, made_few}

-- ---- where edges begin

apart_origin : (y z n : ℕ) (rest : List (Fact ℕ)) (v : ℕ)
    → first_origin (apart_from y z n ++ rest) v ≡ first_origin rest v
apart_origin y z zero rest v = refl
apart_origin y z (suc n) rest v = apart_origin y (z + 1) n rest v

pairs_origin : (first n v : ℕ) → first_origin {C = ℕ} (pairwise_apart first n) v ≡ None
pairs_origin first zero v = refl
pairs_origin first (suc n) v =
    apart_origin first (first + 1) n (pairwise_apart (first + 1) n) v ∙ pairs_origin (first + 1) n v

new_origin_old : (x s e first n : ℕ) (rest : List (Fact ℕ)) (v : ℕ) → v < first
    → first_origin (new_nodes x s e first n ++ rest) v ≡ first_origin rest v
new_origin_old x s e first zero rest v lt = refl
new_origin_old x s e first (suc n) rest v lt =
    rw (ne_eqb first v (λ q. absurd (omega (arith, q)))) (new_origin_old x s e (first + 1) n rest v (omega arith))

new_origin : (x s e first n : ℕ) (rest : List (Fact ℕ)) (v p : ℕ) → first_origin rest v ≡ None
    → first_origin (new_nodes x s e first n ++ rest) v ≡ Some p → p ≡ x
new_origin x s e first zero rest v p none h = (let k : None ≡ Some p = sym none ∙ h in cc)
new_origin x s e first (suc n) rest v p none h = elim (cases_Bool (eqb first v)) [
  | inl hit ↦ (let k : Some x ≡ Some p = rw hit at h in cc)
  | inr miss ↦ new_origin x s e (first + 1) n rest v p none (rw miss at h)
]

-- ---- children

at_by : (first x z : ℕ) (a b : Option ℕ) → (first ≤ z → a ≡ b)
    → is_at x (cond (ltb z first) None a) ≡ is_at x (cond (ltb z first) None b)
at_by first x z a b e = elim (cases_lt z first) [
  | inl low ↦ rw (lt-ltb z first low) refl
  | inr high ↦ ap (λ (o : Option ℕ). is_at x (cond (ltb z first) None o)) (e high)
]

children_same : (first : ℕ) (fs : List (Fact ℕ)) (f : Fact ℕ) → IsPlain first f → (x : ℕ)
    → children first (fs ++ f ∷ []) x ≡ children first fs x
children_same first fs f p x =
    ap (λ (n : ℕ). count_below n (λ z. is_at x (parent_from first (fs ++ f ∷ []) z))) (plain_count first fs f p)
    ∙ count_agree (node_count_from first fs) (λ z. is_at x (parent_from first (fs ++ f ∷ []) z))
    (λ z. is_at x (parent_from first fs z))
    (λ z lt. at_by first x z (first_origin (fs ++ f ∷ []) z) (first_origin fs z) (plain_origin first fs f p z))

module _ (first : ℕ) (fs : List (Fact ℕ)) (x s e n : ℕ) where
  abbrev fresh : List (Fact ℕ)
  fresh = fresh_facts x s e (node_count_from first fs) (suc n)

  pub old_parent : (z : ℕ) → z < node_count_from first fs → first_origin (fs ++ fresh) z ≡ first_origin fs z
  old_parent z lt = none_or_some (first_origin fs z) (first_origin (fs ++ fresh) z ≡ first_origin fs z)
      (λ q k. origin_keeps fs fresh z q k ∙ sym k)
      (λ k. origin-append fs fresh z k
      ∙ new_origin_old x s e (node_count_from first fs) (suc n) (pairwise_apart (node_count_from first fs) (suc n)) z lt
      ∙ pairs_origin (node_count_from first fs) (suc n) z ∙ sym k)

  pub new_parent : (z p : ℕ) → node_count_from first fs ≤ z → first_origin (fs ++ fresh) z ≡ Some p → p ≡ x
  new_parent z p from h =
      new_origin x s e (node_count_from first fs) (suc n) (pairwise_apart (node_count_from first fs) (suc n)) z p
      (pairs_origin (node_count_from first fs) (suc n) z)
      (sym (origin-append fs fresh z (no_origin first fs z from)) ∙ h)

  old_children : (y : ℕ)
      → count_below (node_count_from first fs) (λ z. is_at y (parent_from first (fs ++ fresh) z)) ≡ children first fs y
  old_children y =
      count_agree (node_count_from first fs) (λ z. is_at y (parent_from first (fs ++ fresh) z))
      (λ z. is_at y (parent_from first fs z))
      (λ z lt. at_by first y z (first_origin (fs ++ fresh) z) (first_origin fs z) (λ from. old_parent z lt))

  children_more : (y : ℕ) → children first (fs ++ fresh) y ≤ children first fs y + suc n
  children_more y =
      let longer =
      count_longer (node_count_from first fs) (suc n) (node_count_from first (fs ++ fresh))
      (λ z. is_at y (parent_from first (fs ++ fresh) z)) (count-fresh first fs x s e (suc n)) in
      omega (arith, old_children y)

  not_at : (y z : ℕ) → ¬ (y ≡ x) → (o : Option ℕ) → ((p : ℕ) → o ≡ Some p → p ≡ x)
      → is_at y (cond (ltb z first) None o) ≡ false
  not_at y z ne None h = elim (ltb z first) as (λ b. is_at y (cond b None None) ≡ false) [ true ↦ refl | false ↦ refl ]
  not_at y z ne (Some p) h = elim (ltb z first) as (λ b. is_at y (cond b None (Some p)) ≡ false)
      [ true ↦ refl | false ↦ ne_eqb p y (λ q. ne (sym q ∙ h p refl)) ]

  children_other : (y : ℕ) → ¬ (y ≡ x) → children first (fs ++ fresh) y ≡ children first fs y
  children_other y ne =
      count_no_more (node_count_from first fs) (suc n) (node_count_from first (fs ++ fresh))
      (λ z. is_at y (parent_from first (fs ++ fresh) z)) (count-fresh first fs x s e (suc n))
      (λ z from before. not_at y z ne (first_origin (fs ++ fresh) z) (λ p k. new_parent z p from k))
      ∙ old_children y

module _ (w : SearchContext) (ds : List ℕ) (most x : ℕ) where
  abbrev Born : List (Fact ℕ) → Type 0
  Born fs = children w.first fs x ≤ most * count_in ds (is_met w fs x)

  born_more : (fs : List (Fact ℕ)) (f : Fact ℕ) → IsPlain w.first f → Born fs → Born (fs ++ f ∷ [])
  born_more fs f m b =
      let same = children_same w.first fs f m x in
      let up =
      times_le w ds most (count_in ds (is_met w fs x)) (count_in ds (is_met w (fs ++ f ∷ []) x))
      (in_le ds (is_met w fs x) (is_met w (fs ++ f ∷ []) x) (met_stays w fs (f ∷ []) x)) in
      omega arith

  born_make : (fs new : List (Fact ℕ)) (k : IsMaking w fs new) → ((s : ℕ) → w.theory.below s s ≡ true)
      → suc k.more ≤ most → list_any (eqb k.by) ds ≡ true → Born fs → Born (fs ++ new)
  born_make fs new k itself few at b =
      let s = by_role (shape_of w.table k.by) in
      let e = with_concept (shape_of w.table k.by) in
      elim (cases_eq x k.at) [
        | inr ne ↦
            let same =
            ap (λ (gs : List (Fact ℕ)). children w.first (fs ++ gs) x) k.is_new
            ∙ children_other w.first fs k.at s e k.more x ne in
            let up =
            times_le w ds most (count_in ds (is_met w fs x)) (count_in ds (is_met w (fs ++ new) x))
            (in_le ds (is_met w fs x) (is_met w (fs ++ new) x) (met_stays w fs new x)) in
            omega arith
        | inl is ↦
            let c = ap (λ (gs : List (Fact ℕ)). children w.first (fs ++ gs) x) k.is_new in
            let more = children_more w.first fs k.at s e k.more x in
            let out = subst (λ (y : ℕ). is_met w fs y k.by ≡ false) (sym is) k.not_met in
            let here = subst (λ (y : ℕ). is_met w (fs ++ new) y k.by ≡ true) (sym is) (met_after w fs new k itself) in
            let up =
            times_more w ds most (count_in ds (is_met w fs x)) (count_in ds (is_met w (fs ++ new) x))
            (in_more ds (is_met w fs x) (is_met w (fs ++ new) x) k.by at (met_stays w fs new x) out here) in
            omega arith
      ]

  module _ (at a b : ℕ) (some : 1 ≤ most) (itself : (s : ℕ) → w.theory.below s s ≡ true)
      (begins : shape_of w.table 0 ≡ top)
      (asked : (c n s e : ℕ) → list_any (eqb c) ds ≡ true → shape_of w.table c ≡ at_least n s e → n ≤ most) where
    pub born : (ns : List ℕ) (trail : List Item) → IsGrown w (start at a b) ns trail → AreIn ds (facts_of trail)
        → Born (facts_of trail)
    born ns trail at_first all =
        let none =
        count_no_more 0 w.first w.first (λ z. is_at x (parent_from w.first (facts_of (start at a b)) z)) (omega arith)
        (λ z from low. ap (λ (t : Bool). is_at x (cond t None None)) (lt-ltb z w.first low)) in
        omega (arith, none)
    born ns trail (by_add ms old y d g adds out) all =
        let e = facts_after old (Has y d ∷ []) in
        let all' = in_front ds (facts_of old) (Has y d ∷ []) (subst (AreIn ds) e all) in
        subst Born (sym e)
        (born_more (facts_of old) (Has y d) tt (born ms old g all'))
    born ns trail (by_give ms old f g is_given out) all =
        let e = facts_after old (f ∷ []) in
        let all' = in_front ds (facts_of old) (f ∷ []) (subst (AreIn ds) e all) in
        subst Born (sym e)
        (born_more (facts_of old) f (given_plain w f is_given) (born ms old g all'))
    born ns trail (by_make ms old new g makes) all =
        let e = facts_after old new in
        let all' = in_front ds (facts_of old) new (subst (AreIn ds) e all) in
        let k = making w (facts_of old) new makes in
        let there = made_by w ds most some begins asked (facts_of old) new k all' in
        subst Born (sym e)
        (born_make (facts_of old) new k itself (made_few w ds most some begins asked (facts_of old) new k there) there
        (born ms old g all'))
    born ns trail (by_choice ms old c f g may alt) all =
        let e : facts_of (old ++ Mark c ∷ Says f ∷ []) ≡ facts_of old ++ f ∷ [] =
        facts_of-append old (Mark c ∷ Says f ∷ []) in
        let all' = in_front ds (facts_of old) (f ∷ []) (subst (AreIn ds) e all) in
        subst Born (sym e)
        (born_more (facts_of old) f (alternative_plain w.first w.table c.branch c.alternative f alt)
        (born ms old g all'))
