-- A trail has few nodes.
use Rattle.std.proofs.Common.{◌≡◌, ℕ, zero, suc, ◌+◌, ◌*◌, ◌^◌, ◌<◌, ◌≤◌, eqb, leb, ltb, true, List, [], ◌∷◌, ◌++◌}
use Rattle.std.proofs.Common.{length, None, ap, ◌∙◌, sym, subst, arith, inl, inr, le-leb, length-append}
use Rattle.std.specs.List.{list_any}
use Rattle.std.proofs.lemmas.Bool.{cases_Bool, ltb-true}
use Rattle.std.proofs.lemmas.Nat.{mul-le}
use Rattle.std.proofs.Math.Nat.{pow-zero, pow-suc}
use Rattle.std.proofs.Math.Seq.{take-append_seam}
use Rattle.calculus_specs.specs.Shape.{shape_of}
use Rattle.calculus_specs.specs.Shape.Shape.{top, at_least}
use Rattle.calculus_specs.specs.declared.facts.Fact.{Fact}
use Rattle.calculus_specs.specs.declared.facts.Fact.TheVariants.{Has}
use Rattle.calculus_specs.specs.State.{node_count_from, parent_from}
use Rattle.tableau_specs.specs.declared.Item.{Item}
use Rattle.tableau_specs.specs.declared.Item.TheVariants.{Fact as Says, Mark}
use Rattle.tableau_specs.specs.Items.{facts_of, says}
use Rattle.tableau_specs.specs.Steps.{SearchContext, IsGiven}
use Rattle.tableau_specs.specs.Reached.{start}
use Rattle.tableau_specs.proofs.Built.{IsBuilt, built_take}
use Rattle.tableau_specs.proofs.TreeShaped.{first_le, origin_of_parent}
use Rattle.search_laws.proofs.Counting.{count_most, count_all, count_run}
use Rattle.search_laws.specs.BoundLaws.{HasPath}
use Rattle.search_laws.specs.BoundLaws.HasPath.{from_first, below}
use Rattle.search_laws.specs.KeptSteps.{IsGrown}
use Rattle.search_laws.proofs.Grown.{facts_of-append}
use Rattle.search_laws.specs.KeptSteps.IsGrown.{at_first, by_add, by_give, by_make, by_choice}
use Rattle.search_laws.proofs.Rising.{AreIn, in_front}
use Rattle.search_laws.proofs.Tally.{facts_after}
use Rattle.search_laws.proofs.Plain.{IsPlain, plain_count, alternative_plain, given_plain}
use Rattle.search_laws.proofs.Level.{level, IsLevel, plain_level, levels_built}
use Rattle.search_laws.proofs.Paths.{had_in, AreTraced, few_above, traced_start, traced_stays, traced_fresh}
use Rattle.search_laws.proofs.Asked.{many, by_role, with_concept, IsMaking, making}
use Rattle.search_laws.proofs.BoundNodes.{deep, filled, filled_most, Fits, fits_plain, fits_make}

built_before : (w : SearchContext) (old new : List Item) → IsBuilt w.first (IsGiven w) (old ++ new)
    → IsBuilt w.first (IsGiven w) old
built_before w old new h =
    subst (IsBuilt w.first (IsGiven w)) (take-append_seam old new)
    (built_take w.first (IsGiven w) (old ++ new) (length old) h (omega (arith, length-append old new)))

-- ---- paths are levels

first_level : (first : ℕ) (fs : List (Fact ℕ)) → IsLevel first fs → (x : ℕ) → parent_from first fs x ≡ None
    → level first fs x ≡ 0
first_level first fs l x h = elim (cases_Bool (ltb x first))
    [ inl low ↦ l.first_is x (ltb-true x first low) | inr high ↦ l.none x (rw high at h) ]

pub path_level : (first : ℕ) (fs : List (Fact ℕ)) → IsLevel first fs → (x n : ℕ) → HasPath first fs x n
    → n ≡ level first fs x + 1
path_level first fs l x n (from_first x' is_first) = omega (arith, first_level first fs l x' is_first.has_no_parent)
path_level first fs l x n (below x' p m h path) =
    let o = origin_of_parent first fs x' p h in omega (arith, path_level first fs l p m path, l.up x' p o.0 o.1)

-- ---- what new nodes are made by

module _ (w : SearchContext) (ds : List ℕ) (most : ℕ) (some : 1 ≤ most) (begins : shape_of w.table 0 ≡ top)
    (asked : (c n s e : ℕ) → list_any (eqb c) ds ≡ true → shape_of w.table c ≡ at_least n s e → n ≤ most) where
  pub made_by : (fs new : List (Fact ℕ)) (k : IsMaking w fs new) → AreIn ds fs → list_any (eqb k.by) ds ≡ true
  made_by fs new k all = had_in ds fs k.at k.by all k.holds (λ zero'.
      let e : shape_of w.table k.by ≡ top = ap (shape_of w.table) zero' ∙ begins in
      elim k.is_shape [ inl sh ↦ (let l = sym e ∙ sh in cc) | inr sh ↦ (let l = sym e ∙ sh in cc) ])

  pub made_few : (fs new : List (Fact ℕ)) (k : IsMaking w fs new) → list_any (eqb k.by) ds ≡ true → suc k.more ≤ most
  made_few fs new k at = elim k.is_shape [
    | inl sh ↦ let one : many (shape_of w.table k.by) ≡ 1 = ap many sh in omega (arith, one, k.are_many, some)
    | inr sh ↦ asked k.by (suc k.more) (by_role (shape_of w.table k.by)) (with_concept (shape_of w.table k.by)) at sh
  ]

module _ (w : SearchContext) (at a b : ℕ) (ds : List ℕ) where
  -- ---- paths are short

  traced_plain : (fs : List (Fact ℕ)) (f : Fact ℕ) → IsPlain w.first f → AreTraced w.first ds fs
      → AreTraced w.first ds (fs ++ f ∷ [])
  traced_plain fs f p t v lt =
      traced_stays w.first ds fs (f ∷ []) v (plain_level w.first fs f p v)
      (t v (omega (arith, lt, plain_count w.first fs f p)))

  traced_make : (old : List Item) (new : List (Fact ℕ)) → IsBuilt w.first (IsGiven w) old → AreIn ds (facts_of old)
      → IsMaking w (facts_of old) new → AreTraced w.first ds (facts_of old) → AreTraced w.first ds (facts_of old ++ new)
  traced_make old new built all k t =
      subst (λ (gs : List (Fact ℕ)). AreTraced w.first ds (facts_of old ++ gs)) (sym k.is_new)
      (traced_fresh w ds (facts_of old) all (levels_built w old built).0 k.at (by_role (shape_of w.table k.by))
      (with_concept (shape_of w.table k.by)) (suc k.more) k.is_open t)

  traced : (ns : List ℕ) (trail : List Item) → IsGrown w (start at a b) ns trail → IsBuilt w.first (IsGiven w) trail
      → AreIn ds (facts_of trail) → AreTraced w.first ds (facts_of trail)
  traced ns trail at_first built all = traced_start w.first ds at a b
  traced ns trail (by_add ms old x d g adds out) built all =
      let e = facts_after old (Has x d ∷ []) in
      let all' = in_front ds (facts_of old) (Has x d ∷ []) (subst (AreIn ds) e all) in
      subst (AreTraced w.first ds) (sym e)
      (traced_plain (facts_of old) (Has x d) tt (traced ms old g (built_before w old (says (Has x d ∷ [])) built) all'))
  traced ns trail (by_give ms old f g is_given out) built all =
      let e = facts_after old (f ∷ []) in
      let all' = in_front ds (facts_of old) (f ∷ []) (subst (AreIn ds) e all) in
      subst (AreTraced w.first ds) (sym e)
      (traced_plain (facts_of old) f (given_plain w f is_given)
      (traced ms old g (built_before w old (says (f ∷ [])) built) all'))
  traced ns trail (by_make ms old new g makes) built all =
      let e = facts_after old new in
      let all' = in_front ds (facts_of old) new (subst (AreIn ds) e all) in
      let built' = built_before w old (says new) built in
      subst (AreTraced w.first ds) (sym e)
      (traced_make old new built' all' (making w (facts_of old) new makes) (traced ms old g built' all'))
  traced ns trail (by_choice ms old c f g may alt) built all =
      let e : facts_of (old ++ Mark c ∷ Says f ∷ []) ≡ facts_of old ++ f ∷ [] =
      facts_of-append old (Mark c ∷ Says f ∷ []) in
      let all' = in_front ds (facts_of old) (f ∷ []) (subst (AreIn ds) e all) in
      subst (AreTraced w.first ds) (sym e)
      (traced_plain (facts_of old) f (alternative_plain w.first w.table c.branch c.alternative f alt)
      (traced ms old g (built_before w old (Mark c ∷ Says f ∷ []) built) all'))

  abbrev pub Low : List (Fact ℕ) → Type 0
  Low fs = (v : ℕ) → v < node_count_from w.first fs → level w.first fs v ≤ 2 ^ length ds

  pub low : (ns : List ℕ) (trail : List Item) → IsGrown w (start at a b) ns trail → IsBuilt w.first (IsGiven w) trail
      → AreIn ds (facts_of trail) → Low (facts_of trail)
  low ns trail grown built all v lt =
      few_above w.first ds (facts_of trail) v (traced ns trail grown built all v lt)

  -- ---- the nodes of each level are few

  module _ (most : ℕ) (some : 1 ≤ most) (itself : (s : ℕ) → w.theory.below s s ≡ true)
      (begins : shape_of w.table 0 ≡ top)
      (asked : (c n s e : ℕ) → list_any (eqb c) ds ≡ true → shape_of w.table c ≡ at_least n s e → n ≤ most) where
    pub fits : (h : ℕ) (ns : List ℕ) (trail : List Item) → IsGrown w (start at a b) ns trail → AreIn ds (facts_of trail)
        → Fits w ds most h (facts_of trail)
    fits h ns trail at_first all =
        let few : deep w ds h (facts_of (start at a b)) ≤ w.first =
        count_most w.first (λ z. leb (level w.first (facts_of (start at a b)) z) h) in
        omega arith
    fits h ns trail (by_add ms old x d g adds out) all =
        let e = facts_after old (Has x d ∷ []) in
        let all' = in_front ds (facts_of old) (Has x d ∷ []) (subst (AreIn ds) e all) in
        subst (Fits w ds most h) (sym e) (fits_plain w ds most h (facts_of old) (Has x d) tt (fits h ms old g all'))
    fits h ns trail (by_give ms old f g is_given out) all =
        let e = facts_after old (f ∷ []) in
        let all' = in_front ds (facts_of old) (f ∷ []) (subst (AreIn ds) e all) in
        subst (Fits w ds most h) (sym e)
        (fits_plain w ds most h (facts_of old) f (given_plain w f is_given) (fits h ms old g all'))
    fits h ns trail (by_make ms old new g makes) all =
        let e = facts_after old new in
        let all' = in_front ds (facts_of old) new (subst (AreIn ds) e all) in
        let k = making w (facts_of old) new makes in
        let there = made_by w ds most some begins asked (facts_of old) new k all' in
        subst (Fits w ds most h) (sym e)
        (fits_make w ds most h (facts_of old) new k itself
        (made_few w ds most some begins asked (facts_of old) new k there) there (fits h ms old g all'))
    fits h ns trail (by_choice ms old c f g may alt) all =
        let e : facts_of (old ++ Mark c ∷ Says f ∷ []) ≡ facts_of old ++ f ∷ [] =
        facts_of-append old (Mark c ∷ Says f ∷ []) in
        let all' = in_front ds (facts_of old) (f ∷ []) (subst (AreIn ds) e all) in
        subst (Fits w ds most h) (sym e)
        (fits_plain w ds most h (facts_of old) f (alternative_plain w.first w.table c.branch c.alternative f alt)
        (fits h ms old g all'))

    -- ---- powers

    grows : (k g l d r : ℕ) → k ≤ d → r ≤ d * l → k + g * r ≤ d * (l * g + 1)
    grows k g l d r some' le =
        let m = mul-le g r g (d * l) (omega arith) le in
        let e : d * (l * g + 1) ≡ g * (d * l) + d = grind arith in
        omega arith

    turn : (k p x : ℕ) → (k * p) * x ≡ k * (p * x)
    turn k p x = grind arith

    pub deep_few : (fs : List (Fact ℕ)) (c : ℕ) → length ds ≤ c → IsLevel w.first fs → ((h : ℕ) → Fits w ds most h fs)
        → (h : ℕ) → deep w ds h fs ≤ w.first * (c * most + 1) ^ h
    deep_few fs c le l fit zero =
        let one = ap (λ (p : ℕ). w.first * p) (pow-zero (c * most + 1)) in omega (arith, fit 0)
    deep_few fs c le l fit (suc h) =
        let rest = deep_few fs c le l fit h in
        let d = deep w ds h fs in
        let firsts =
        count_run (node_count_from w.first fs) (λ z. leb (level w.first fs z) h) 0 w.first
        (omega (arith, first_le w.first fs))
        (λ z from lt. le-leb (level w.first fs z) h (omega (arith, l.first_is z (omega arith)))) in
        let r = filled_most w ds h fs in
        let wide = mul-le d (length ds) d c (omega arith) le in
        let step = grows w.first most c d (filled w ds h fs) firsts (omega arith) in
        let more =
        mul-le d (c * most + 1) (w.first * (c * most + 1) ^ h) (c * most + 1) rest (omega arith) in
        let same = turn w.first ((c * most + 1) ^ h) (c * most + 1) in
        let power = ap (λ (p : ℕ). w.first * p) (pow-suc (c * most + 1) h) in
        omega (arith, fit (suc h))

    pub nodes_few : (fs : List (Fact ℕ)) (c : ℕ) → length ds ≤ c → IsLevel w.first fs → ((h : ℕ) → Fits w ds most h fs)
        → Low fs → node_count_from w.first fs ≤ w.first * (c * most + 1) ^ (2 ^ length ds)
    nodes_few fs c le l fit lows =
        let all =
        count_all (node_count_from w.first fs) (λ z. leb (level w.first fs z) (2 ^ length ds))
        (λ z lt. le-leb (level w.first fs z) (2 ^ length ds) (lows z lt)) in
        omega (arith, all, deep_few fs c le l fit (2 ^ length ds))
