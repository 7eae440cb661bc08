-- What is noted of a beginning serves a search that goes on from it.
use Rattle.std.proofs.Common.{◌≡◌, ℕ, ◌<◌, ◌==◌, ◌&&◌, ◌||◌, Bool, true, false, List, [], ◌∷◌, ◌++◌, refl, ap, ◌∙◌}
use Rattle.std.proofs.Common.{ltb, length, not, sym, arith}
use Rattle.std.specs.List.{list_any, list_all, All}
use Rattle.std.proofs.lemmas.Bool.{and_parts, ltb-true}
use Rattle.std.proofs.lemmas.List.Elements.{All-head, All-tail, All-cons, All-nil}
use Rattle.calculus_specs.specs.Reading.{is_fact_listed, are_listed}
use Rattle.calculus_specs.specs.Rows.{Row, IsChoice}
use Rattle.calculus_specs.specs.Rules.{Question}
use Rattle.calculus_specs.specs.Shape.{Shape, shape_of, has_parts_below, IsTable}
use Rattle.calculus_specs.specs.Shape.Shape.{top, bottom, name, not_name, intersection, union, some_of, all_of}
use Rattle.calculus_specs.specs.Shape.Shape.{at_least, at_most}
use Rattle.calculus_specs.specs.declared.facts.Fact.{Fact}
use Rattle.calculus_specs.specs.declared.facts.Fact.TheVariants.{Has, Edge, Apart, Same}
use Rattle.tableau_specs.specs.declared.Item.{Item}
use Rattle.tableau_specs.specs.Items.{facts_of}
use Rattle.tableau_specs.specs.Reached.{start, context_of}
use Rattle.tableau_specs.proofs.Listed.{facts_listed, follows_listed, start_listed}
use Rattle.search_laws.specs.Runs.{IsRun, was_ever}
use Rattle.search_laws.proofs.LongerShapes.{same_shape}
use Rattle.search_laws.proofs.Running.{run_follows}
use Rattle.tableau.specs.Seen.{SeenSets, holds, class_of, union_parts, is_one, complement_of, is_complement}
use Rattle.tableau.specs.Seen.{gives_more, has_complement, gives_class, gives_complement, HasGained, HasNoted}
use Rattle.tableau.specs.Seen.{AreSeenIn}
use Rattle.tableau.proofs.Noting.{bare_before}
use Rattle.axiom_sets.specs.Sets.{Limited}

-- ---- two facts, one after the other

both : (x y b : Bool) → ((y || false) || ((x || false) || b)) ≡ ((x || (y || false)) || b)
both true true b = refl
both true false b = refl
both false true b = refl
both false false b = refl

gained_both : (test : ℕ → Fact ℕ → Bool) (f g : Fact ℕ) (old mid new : Limited)
    → HasGained (λ a. list_any (test a) (f ∷ [])) old mid → HasGained (λ a. list_any (test a) (g ∷ [])) mid new
    → HasGained (λ a. list_any (test a) (f ∷ g ∷ [])) old new
gained_both test f g old mid new h k = record {
  limit = k.limit ∙ h.limit;
  held = λ a lt.
      k.held a (omega (arith, lt, h.limit))
      ∙ ap (λ (b : Bool). (test a g || false) || b) (h.held a lt)
      ∙ both (test a f) (test a g) (holds old a);
}

pub noted_both : (at : ℕ) (table : List Shape) (f g : Fact ℕ) (old mid new : SeenSets)
    → HasNoted at table (f ∷ []) old mid → HasNoted at table (g ∷ []) mid new
    → HasNoted at table (f ∷ g ∷ []) old new
noted_both at table f g old mid new h k = record {
  at_node =
      gained_both (gives_class at table) f g old.at_node mid.at_node new.at_node h.at_node k.at_node;
  complements =
      gained_both (gives_complement at table) f g old.complements mid.complements new.complements h.complements
      k.complements;
  bare =
      k.bare ∙ ap (λ (b : Bool). b && not (gives_more at g || false)) h.bare
      ∙ two old.bare (gives_more at f) (gives_more at g);
}
  where
    two : (b x y : Bool) → ((b && not (x || false)) && not (y || false)) ≡ (b && not (x || (y || false)))
    two true true y = refl
    two true false y = refl
    two false x y = refl

-- ---- behind another start

and_false : (b : Bool) → (b && false) ≡ false
and_false true = refl
and_false false = refl

ahead : (x y b : Bool) → ((x || (y || false)) || b) ≡ (x || (y || b))
ahead true y b = refl
ahead false true b = refl
ahead false false b = refl

module _ (at : ℕ) (table : List Shape) (begins : shape_of table 0 ≡ top) (a : ℕ) where
  class_none : gives_class at table a (Has at 0) ≡ false
  class_none =
      ap (λ (s : Shape). at == at && is_one a (class_of s)) begins ∙ and_false (at == at)

  complement_none : gives_complement at table a (Has at 0) ≡ false
  complement_none =
      ap (λ (s : Shape). is_one a (complement_of s) || (at == at && has_complement table a (union_parts s))) begins
      ∙ and_false (at == at)

-- where a run puts what a beginning did and two facts, the sets with these facts are those of the run
pub seen_behind : (at : ℕ) (table : List Shape) (sub not_sup : ℕ) (run begun : List (List Item)) (s s' : SeenSets)
    → shape_of table 0 ≡ top
    → ((p : Fact ℕ → Bool) → p (Has at 0) ≡ false
    → was_ever p run ≡ (p (Has at sub) || (p (Has at not_sup) || was_ever p begun)))
    → AreSeenIn at table begun s → HasNoted at table (Has at sub ∷ Has at not_sup ∷ []) s s'
    → AreSeenIn at table run s'
seen_behind at table sub not_sup run begun s s' begins puts_same seen noted = record {
  at_node = λ a lt.
      let below : a < s.at_node.limit = omega (arith, lt, noted.at_node.limit) in
      let p = gives_class at table a in
      noted.at_node.held a below
      ∙ ahead (p (Has at sub)) (p (Has at not_sup)) (holds s.at_node a)
      ∙ ap (λ (b : Bool). p (Has at sub) || (p (Has at not_sup) || b)) (seen.at_node a below)
      ∙ sym (puts_same p (class_none at table begins a));
  complements = λ a lt.
      let below : a < s.complements.limit = omega (arith, lt, noted.complements.limit) in
      let p = gives_complement at table a in
      noted.complements.held a below
      ∙ ahead (p (Has at sub)) (p (Has at not_sup)) (holds s.complements a)
      ∙ ap (λ (b : Bool). p (Has at sub) || (p (Has at not_sup) || b)) (seen.complements a below)
      ∙ sym (puts_same p (complement_none at table begins a));
  bare = λ still.
      let t = bare_before s.bare s'.bare _ noted.bare still in
      let p = gives_more at in
      puts_same p (and_false (at == at))
      ∙ neither (p (Has at sub)) (p (Has at not_sup)) (was_ever p begun) t.1
      ∙ seen.bare t.0;
}
  where
    neither : (x y b : Bool) → (x || (y || false)) ≡ false → (x || (y || b)) ≡ b
    neither true y b h = cc
    neither false true b h = cc
    neither false false b h = refl

-- ---- over a table that has grown

module _ (table more : List Shape) (good : IsTable table) (at a : ℕ) where
  same_complement : (d : ℕ) → d < length table → is_complement (table ++ more) a d ≡ is_complement table a d
  same_complement d lt = ap (λ (s : Shape). is_one a (complement_of s)) (same_shape table more d lt)

  same_parts : (c : ℕ) (ds : List ℕ) → c < length table → list_all (λ d. ltb d c) ds ≡ true
      → has_complement (table ++ more) a ds ≡ has_complement table a ds
  same_parts c [] lt h = refl
  same_parts c (d ∷ ds) lt h =
      let t = and_parts (ltb d c) (list_all (λ e. ltb e c) ds) h in
      (λ i. same_complement d (omega (arith, ltb-true d c t.0, lt)) i || same_parts c ds lt t.1 i)

  same_union : (c : ℕ) (s : Shape) → c < length table → has_parts_below c s ≡ true
      → has_complement (table ++ more) a (union_parts s) ≡ has_complement table a (union_parts s)
  same_union c (union parts) lt h = same_parts c parts lt h
  same_union c top lt h = refl
  same_union c bottom lt h = refl
  same_union c (name b) lt h = refl
  same_union c (not_name b) lt h = refl
  same_union c (intersection parts) lt h = refl
  same_union c (some_of r d) lt h = refl
  same_union c (all_of r d) lt h = refl
  same_union c (at_least n r d) lt h = refl
  same_union c (at_most n r d) lt h = refl

  same_class_given : (f : Fact ℕ) → is_fact_listed (length table) f ≡ true
      → gives_class at table a f ≡ gives_class at (table ++ more) a f
  same_class_given (Has x c) h =
      ap (λ (s : Shape). x == at && is_one a (class_of s)) (sym (same_shape table more c (ltb-true c (length table) h)))
  same_class_given (Edge r x y) h = refl
  same_class_given (Apart y z) h = refl
  same_class_given (Same y z) h = refl

  same_complement_given : (f : Fact ℕ) → is_fact_listed (length table) f ≡ true
      → gives_complement at table a f ≡ gives_complement at (table ++ more) a f
  same_complement_given (Has x c) h =
      let lt = ltb-true c (length table) h in
      sym
      (ap
      (λ (s : Shape). is_one a (complement_of s) || (x == at && has_complement (table ++ more) a (union_parts s)))
      (same_shape table more c lt)
      ∙ ap (λ (b : Bool). is_complement table a c || (x == at && b))
      (same_union c (shape_of table c) lt (good.parts_below c lt)))
  same_complement_given (Edge r x y) h = refl
  same_complement_given (Apart y z) h = refl
  same_complement_given (Same y z) h = refl

module _ (p q : Fact ℕ → Bool) (n : ℕ) (same : (f : Fact ℕ) → is_fact_listed n f ≡ true → p f ≡ q f) where
  any_same : (fs : List (Fact ℕ)) → are_listed n fs ≡ true → list_any p fs ≡ list_any q fs
  any_same [] h = refl
  any_same (f ∷ fs) h =
      let t = and_parts (is_fact_listed n f) (are_listed n fs) h in (λ i. same f t.0 i || any_same fs t.1 i)

  ever_same : (run : List (List Item)) → All (λ is. are_listed n (facts_of is) ≡ true) run
      → was_ever p run ≡ was_ever q run
  ever_same [] h = refl
  ever_same (is ∷ run) h =
      (λ i. any_same (facts_of is) (All-head (λ js. are_listed n (facts_of js) ≡ true) is run h) i
      || ever_same run (All-tail (λ js. are_listed n (facts_of js) ≡ true) is run h) i)

-- what is noted of a run is so over a table that has grown since
pub seen_grown : (at : ℕ) (table more : List Shape) (run : List (List Item)) (s : SeenSets) → IsTable table
    → All (λ is. are_listed (length table) (facts_of is) ≡ true) run → AreSeenIn at table run s
    → AreSeenIn at (table ++ more) run s
seen_grown at table more run s good listed seen = record {
  at_node = λ a lt.
      seen.at_node a lt
      ∙ ever_same (gives_class at table a) (gives_class at (table ++ more) a) (length table)
      (same_class_given table more good at a) run listed;
  complements = λ a lt.
      seen.complements a lt
      ∙ ever_same (gives_complement at table a) (gives_complement at (table ++ more) a) (length table)
      (same_complement_given table more good at a) run listed;
  bare = seen.bare;
}

-- ---- a search that goes on

module _ (q : Question) (table : List Shape) (rows : List Row) (good : IsTable table)
    (fits : IsChoice q.theory table rows) where
  abbrev IsListed : List Item → Type 0
  IsListed is = are_listed (length table) (facts_of is) ≡ true

  trail_listed : (trail : List Item) (earlier : List (List Item))
      → IsRun (context_of q table rows) (start q.at 0 0) (trail ∷ earlier) → IsListed trail
  trail_listed trail earlier run =
      facts_listed (length table) trail
      (follows_listed q table rows good fits (start q.at 0 0) (length earlier) trail
      (start_listed (length table) q.at 0 0 good.has_top good.has_top)
      (run_follows q table [] rows (start q.at 0 0) trail earlier run))

  pub run_listed : (trail : List Item) (earlier : List (List Item))
      → IsRun (context_of q table rows) (start q.at 0 0) (trail ∷ earlier) → All IsListed (trail ∷ earlier)
  run_listed trail [] run = All-cons IsListed trail [] (trail_listed trail [] run) (All-nil IsListed)
  run_listed trail (before ∷ earlier) run =
      All-cons IsListed trail (before ∷ earlier) (trail_listed trail (before ∷ earlier) run)
      (run_listed before earlier run.1)
