-- One run answers of individuals too.
use Rattle.std.proofs.Common.{◌≡◌, ℕ, ◌<◌, ◌||◌, eqb, Bool, true, false, List, [], ◌∷◌, ◌++◌, length, refl, ap}
use Rattle.std.proofs.Common.{◌∙◌, sym, subst, arith, inr, eq-eqb}
use Rattle.std.specs.List.{list_any}
use Rattle.std.proofs.lemmas.Bool.{or_left, or_right, and_parts, eqb-true, ltb-true, false_from_ne_true}
use Rattle.calculus_specs.specs.Concept.{name}
use Rattle.calculus_specs.specs.Normal.{negated_form}
use Rattle.calculus_specs.specs.Shape.{Shape, shape_of, has_parts_below, IsTable}
use Rattle.calculus_specs.specs.Shape.Shape.{top, not_name, some_of, at_least, at_most}
use Rattle.calculus_specs.specs.Tree.{tree_of}
use Rattle.calculus_specs.specs.Rows.{Row, IsChoice}
use Rattle.calculus_specs.specs.Rules.{Question}
use Rattle.calculus_specs.specs.declared.facts.Fact.{Fact}
use Rattle.calculus_specs.specs.declared.facts.Fact.TheVariants.{Has, Edge, Apart, Same}
use Rattle.calculus_specs.specs.Joins.{rep, merged}
use Rattle.calculus_specs.proofs.Joined.{by_last, rep-snoc, any-snoc}
use Rattle.calculus_specs.proofs.Tree.{tree_of-append}
use Rattle.tableau_specs.specs.declared.Item.{Item}
use Rattle.tableau_specs.specs.Items.{facts_of}
use Rattle.tableau_specs.specs.Reached.{start}
use Rattle.tableau_specs.proofs.Listed.{listed, most_listed}
use Rattle.search_laws.specs.Runs.{IsRun, joins_node, has_filler, LeavesOutAt}
use Rattle.search_laws.specs.ReuseLaws.{EndsSaturated, about, OneRunAnswersOfIndividuals}
use Rattle.search_laws.proofs.Root.{merged_root, merged_stays}
use Rattle.search_laws.proofs.Turned.{old_facts}
use Rattle.search_laws.proofs.ReuseSetting.{short, IsSetting}
use Rattle.search_laws.proofs.Running.{PutsNoMore, ever_now, is_complement, not_top, now_listed, was_put}
use Rattle.search_laws.proofs.Running.{lacks_class, no_part}
use Rattle.search_laws.proofs.Answering.{complement_tree, zero_tree, answered}

-- ---- a node that no fact joins is alone

pub record IsAlone (at : ℕ) (fs : List (Fact ℕ)) : Type 0 where
  pub stays : rep fs at ≡ at
  pub alone : (x : ℕ) → rep fs x ≡ at → x ≡ at

alone_after : (at : ℕ) (fs : List (Fact ℕ)) (f : Fact ℕ) → joins_node at f ≡ false → IsAlone at fs
    → IsAlone at (fs ++ f ∷ [])
alone_after at fs (Has x d) none g =
    record {
      stays = rep-snoc fs (Has x d) at ∙ g.stays;
      alone = λ y e. g.alone y (sym (rep-snoc fs (Has x d) y) ∙ e);
    }
alone_after at fs (Edge r x y) none g =
    record {
      stays = rep-snoc fs (Edge r x y) at ∙ g.stays;
      alone = λ z e. g.alone z (sym (rep-snoc fs (Edge r x y) z) ∙ e);
    }
alone_after at fs (Apart x y) none g =
    record {
      stays = rep-snoc fs (Apart x y) at ∙ g.stays;
      alone = λ z e. g.alone z (sym (rep-snoc fs (Apart x y) z) ∙ e);
    }
alone_after at fs (Same x y) none g =
    let one : ¬ (rep fs x ≡ at) =
    λ e. (let k = or_left (eqb x at) (eqb y at) (eq-eqb x at (g.alone x e)) in cc) in
    let other : ¬ (rep fs y ≡ at) =
    λ e. (let k = or_right (eqb x at) (eqb y at) (eq-eqb y at (g.alone y e)) in cc) in
    record {
      stays =
          rep-snoc fs (Same x y) at
          ∙ subst (λ (r : ℕ). merged (rep fs x) (rep fs y) r ≡ at) (sym g.stays)
          (merged_stays (rep fs x) (rep fs y) at one other);
      alone = λ z e. g.alone z
          (merged_root (rep fs x) (rep fs y) (rep fs z) at one other (sym (rep-snoc fs (Same x y) z) ∙ e));
    }

-- none of two passes
none_of : (s t : Bool) → (s || t) ≡ false → (s ≡ false) × (t ≡ false)
none_of false t h = (refl, h)
none_of true t h = absurd (cc)

is_alone : (at : ℕ) (fs : List (Fact ℕ)) → list_any (joins_node at) fs ≡ false → IsAlone at fs
is_alone at = by_last (λ (fs : List (Fact ℕ)). list_any (joins_node at) fs ≡ false → IsAlone at fs)
    (λ h. record { stays = refl; alone = λ x e. e })
    (λ fs f ih h.
    let t =
    none_of (list_any (joins_node at) fs) (joins_node at f) (sym (any-snoc (joins_node at) fs f) ∙ h) in
    alone_after at fs f t.1 (ih t.0))

-- ---- fillers are in the table

filler_below : (c s e : ℕ) (t : Shape) → has_parts_below c t ≡ true → has_filler s e t ≡ true → e < c
filler_below c s e (some_of r d) below is =
    omega (arith, ltb-true d c below, eqb-true d e (and_parts (eqb r s) (eqb d e) is).1)
filler_below c s e (at_least m r d) below is =
    omega (arith, ltb-true d c below, eqb-true d e (and_parts (eqb r s) (eqb d e) is).1)
filler_below c s e (at_most m r d) below is =
    omega (arith, ltb-true d c below, eqb-true d e (and_parts (eqb r s) (eqb d e) is).1)
filler_below c s e _ below is = cc

module _ (table : List Shape) (good : IsTable table) (c s e : ℕ) (is : has_filler s e (shape_of table c) ≡ true) where
  no_top : ¬ (shape_of table c ≡ top)
  no_top k = (let l = ap (has_filler s e) k in cc)

  asks_listed : c < length table
  asks_listed = listed table c no_top

  filler_listed : e < length table
  filler_listed =
      omega (arith, asks_listed, filler_below c s e (shape_of table c) (good.parts_below c asks_listed) is)

  asks_no_top : ¬ (c ≡ 0)
  asks_no_top z = no_top (ap (shape_of table) z ∙ good.begins_with_top)

-- ---- the law

module _ (q : Question) (table more : List Shape) (rows : List Row) (good : IsTable table)
    (longer : IsTable (table ++ more)) (fits : IsChoice q.theory table rows) (n a : ℕ)
    (shape_n : shape_of (table ++ more) n ≡ not_name a) (home : ℕ) (is_first : q.at < q.first) (rest : List Item)
    (earlier : List (List Item))
    (run : IsRun (short q table more rows) (start home 0 0) ((start home 0 0 ++ rest) ∷ earlier))
    (all : List (List Item)) (inside : PutsNoMore ((start home 0 0 ++ rest) ∷ earlier) all)
    (h : LeavesOutAt q.first q.at table all a) where
  abbrev now : List (Fact ℕ)
  now = old_facts home q.at 0 n (facts_of rest)

  alone : IsAlone q.at now
  alone = is_alone q.at now (false_from_ne_true (list_any (joins_node q.at) now) (λ joined.
      (let k = inside (joins_node q.at) (ever_now (joins_node q.at) (start home 0 0 ++ rest) earlier joined) in
      let l = h.is_never_joined in
      cc)))

  pub individual_setting : IsSetting q table more home 0 n a (facts_of rest)
  individual_setting = record {
    known = now_listed q table more rows good fits n a shape_n home 0 good.has_top rest earlier run;
    moves = inr refl;
    fillers = λ x c s e held is y edge root.
        let e_listed = filler_listed table good c s e is in
        h.complement_is_no_filler c s e
        (was_put q table more rows good fits n a shape_n home 0 good.has_top rest earlier run all inside x c
        (asks_no_top table good c s e is) held) is
        (subst (λ (d : ℕ). shape_of table d ≡ not_name a) root.1
        (is_complement q table more rows good fits n a shape_n home 0 good.has_top (omega (arith, root.1, e_listed))));
    complements = λ x c m s e d held sh neg y edge root.
        let e_listed = most_listed (short q table more rows) good c m s e sh in
        h.class_is_not_counted c m s e
        (was_put q table more rows good fits n a shape_n home 0 good.has_top rest earlier run all inside x c
        (not_top q table more rows good fits n a shape_n home 0 good.has_top c (at_most m s e) (λ k. cc) sh) held) sh
        (ap negated_form (sym (tree_of-append table more e e_listed)) ∙ sym neg.negates
        ∙ ap (tree_of (table ++ more)) (sym root.1) ∙ complement_tree (table ++ more) longer n a shape_n);
    alone = alone.alone;
    stays = alone.stays;
    is_first = is_first;
    lacks_class =
        lacks_class q table more rows good fits n a shape_n home 0 good.has_top rest earlier run all inside alone.stays
        alone.alone h.leaves_out;
    no_part =
        no_part q table more rows good fits n a shape_n home 0 good.has_top rest earlier run all inside alone.stays
        alone.alone h.leaves_out;
  }

pub one_run_answers_of_individuals : OneRunAnswersOfIndividuals
one_run_answers_of_individuals q table rows k at a trail earlier good fits have is_first run steps sat out =
    let asked = about q at (name a) in
    subst (EndsSaturated table rows a asked) steps
    (answered asked table rows q.at 0 a good fits have is_first good.has_top (zero_tree table good) trail earlier run
    sat out.leaves_out
    (λ more n longer shape_n rest before begun inside. individual_setting asked table more rows good longer fits n a
    shape_n q.at is_first rest before begun (trail ∷ earlier) inside out))
