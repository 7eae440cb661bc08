-- A whole run.
use Rattle.std.proofs.Common.{◌≡◌, ℕ, suc, ◌<◌, ◌&&◌, ◌||◌, eqb, ltb, Bool, true, false, List, [], ◌∷◌, ◌++◌, length}
use Rattle.std.proofs.Common.{refl, ap, ◌∙◌, sym, subst, arith, inl, inr, eq-eqb, Contains}
use Rattle.std.specs.List.{list_any, All}
use Rattle.std.proofs.lemmas.List.{get_or_append_left}
use Rattle.std.proofs.lemmas.Bool.{or_cases, or_left, or_right, and_parts, and_from, eqb-true, ltb-true}
use Rattle.std.proofs.lemmas.Bool.{false_from_ne_true}
use Rattle.calculus_specs.specs.Shape.{Shape, shape_of, IsTable}
use Rattle.calculus_specs.specs.Shape.Shape.{top, name as name_shape, not_name, union}
use Rattle.calculus_specs.specs.Rows.{Row, IsChoice}
use Rattle.calculus_specs.specs.Rules.{Question}
use Rattle.calculus_specs.specs.declared.facts.Fact.{Fact}
use Rattle.calculus_specs.specs.declared.facts.Fact.TheVariants.{Has, Edge, Apart, Same}
use Rattle.calculus_specs.specs.Joins.{rep}
use Rattle.calculus_specs.specs.Reading.{are_listed}
use Rattle.calculus_specs.specs.State.{gives_concept, has}
use Rattle.calculus_specs.proofs.Joined.{rep-le}
use Rattle.tableau_specs.specs.declared.Item.{Item}
use Rattle.tableau_specs.specs.Items.{facts_of}
use Rattle.tableau_specs.specs.Steps.{IsLegal}
use Rattle.tableau_specs.specs.Reached.{start, Follows}
use Rattle.tableau_specs.proofs.Listed.{ItemListed, facts_listed, follows_listed, start_listed, disjunct_listed}
use Rattle.tableau_specs.proofs.Reached.{reached_built}
use Rattle.search_laws.specs.Runs.{IsRun, was_ever, puts, puts_at, makes_node, before_nodes, SetsApart, LeavesOut}
use Rattle.search_laws.specs.ReuseLaws.{IsUnnamed}
use Rattle.search_laws.proofs.BeforeNodes.{first_of, rest_of}
use Rattle.search_laws.proofs.Root.{IsRooted, built_rooted, end_is_other}
use Rattle.search_laws.proofs.LongerGiven.{given_avoids}
use Rattle.search_laws.proofs.First.{rep-rep}
use Rattle.search_laws.proofs.Paths.{giver}
use Rattle.search_laws.proofs.Rising.{any_more, is_has}
use Rattle.search_laws.proofs.Turned.{old_facts, has_listed}
use Rattle.search_laws.proofs.TurnedBlocks.{HaveBesides}
use Rattle.search_laws.proofs.ReuseSetting.{short, long, IsSetting}
use Rattle.search_laws.proofs.Stepping.{turned}

-- ---- what was ever in a run

pub run_follows : (q : Question) (table more : List Shape) (rows : List Row) (first trail : List Item)
    (earlier : List (List Item))
    → IsRun (short q table more rows) first (trail ∷ earlier)
    → Follows (short q table more rows) first (length earlier) trail
run_follows q table more rows first trail [] r = r
run_follows q table more rows first trail (before ∷ earlier) r =
    (before, run_follows q table more rows first before earlier r.1, r.0)

pub ever_now : (p : Fact ℕ → Bool) (trail : List Item) (earlier : List (List Item)) → list_any p (facts_of trail) ≡ true
    → was_ever p (trail ∷ earlier) ≡ true
ever_now p trail earlier h = or_left (list_any p (facts_of trail)) (was_ever p earlier) h

-- what was ever in the one run was in the other
abbrev pub PutsNoMore : List (List Item) → List (List Item) → Type 0
PutsNoMore run all = (p : Fact ℕ → Bool) → was_ever p run ≡ true → was_ever p all ≡ true

puts_no_more : (trail : List Item) (earlier all : List (List Item)) → PutsNoMore (trail ∷ earlier) all
    → PutsNoMore earlier all
puts_no_more trail earlier all inside p ever =
    inside p (or_right (list_any p (facts_of trail)) (was_ever p earlier) ever)

-- ---- what a node has was put

given_puts : (c : ℕ) (m : ℕ → ℕ) (at : ℕ) (fs : List (Fact ℕ)) → list_any (gives_concept (λ d. eqb d c) m at) fs ≡ true
    → list_any (puts c) fs ≡ true
given_puts c m at [] h = cc
given_puts c m at (Has y d ∷ fs) h =
    elim (or_cases (eqb (m y) at && eqb d c) (list_any (gives_concept (λ e. eqb e c) m at) fs) h) [
      | inl here ↦ or_left (eqb d c) (list_any (puts c) fs) (and_parts (eqb (m y) at) (eqb d c) here).1
      | inr later ↦ or_right (eqb d c) (list_any (puts c) fs) (given_puts c m at fs later)
    ]
given_puts c m at (Edge r y z ∷ fs) h = given_puts c m at fs h
given_puts c m at (Apart y z ∷ fs) h = given_puts c m at fs h
given_puts c m at (Same y z ∷ fs) h = given_puts c m at fs h

there_puts : (at c : ℕ) (fs : List (Fact ℕ)) → list_any (puts_at at c) fs ≡ true → list_any (puts c) fs ≡ true
there_puts at c = any_more (puts_at at c) (puts c) one
  where
    one : (f : Fact ℕ) → puts_at at c f ≡ true → puts c f ≡ true
    one (Has x d) h = (and_parts (eqb x at) (eqb d c) h).1
    one (Edge r x y) h = h
    one (Apart y z) h = h
    one (Same y z) h = h

puts_are : (x c : ℕ) (fs : List (Fact ℕ)) → list_any (puts_at x c) fs ≡ list_any (is_has x c) fs
puts_are x c [] = refl
puts_are x c (Has y d ∷ fs) = ap (λ (b : Bool). (eqb y x && eqb d c) || b) (puts_are x c fs)
puts_are x c (Edge r y z ∷ fs) = puts_are x c fs
puts_are x c (Apart y z ∷ fs) = puts_are x c fs
puts_are x c (Same y z ∷ fs) = puts_are x c fs

-- a node has what its representative has
has_rep : (fs : List (Fact ℕ)) (x c : ℕ) → has fs (rep fs x) c ≡ has fs x c
has_rep fs x c =
    ap (λ (r : ℕ). eqb c 0 || list_any (gives_concept (λ d. eqb d c) (rep fs) r) fs) (rep-rep fs x)

pub given_there : (node c : ℕ) (m : ℕ → ℕ) (at : ℕ) → at ≡ node → ((y : ℕ) → m y ≡ node → y ≡ node)
    → (fs : List (Fact ℕ))
    → list_any (gives_concept (λ d. eqb d c) m at) fs ≡ true
    → list_any (puts_at node c) fs ≡ true
given_there node c m at there alone [] h = cc
given_there node c m at there alone (Has y d ∷ fs) h =
    elim (or_cases (eqb (m y) at && eqb d c) (list_any (gives_concept (λ e. eqb e c) m at) fs) h) [
      | inl here ↦
          let t = and_parts (eqb (m y) at) (eqb d c) here in
          or_left (eqb y node && eqb d c) (list_any (puts_at node c) fs)
          (and_from (eqb y node) (eqb d c) (eq-eqb y node (alone y (eqb-true (m y) at t.0 ∙ there))) t.1)
      | inr later ↦
          or_right (eqb y node && eqb d c) (list_any (puts_at node c) fs) (given_there node c m at there alone fs later)
    ]
given_there node c m at there alone (Edge r y z ∷ fs) h = given_there node c m at there alone fs h
given_there node c m at there alone (Apart y z ∷ fs) h = given_there node c m at there alone fs h
given_there node c m at there alone (Same y z ∷ fs) h = given_there node c m at there alone fs h

puts_listed : (bound c : ℕ) (fs : List (Fact ℕ)) → are_listed bound fs ≡ true → list_any (puts c) fs ≡ true → c < bound
puts_listed bound c [] h g = cc
puts_listed bound c (Has y d ∷ fs) h g =
    let t = and_parts (ltb d bound) (are_listed bound fs) h in
    elim (or_cases (eqb d c) (list_any (puts c) fs) g) [
      | inl here ↦ omega (arith, eqb-true d c here, ltb-true d bound t.0)
      | inr later ↦ puts_listed bound c fs t.1 later
    ]
puts_listed bound c (Edge r y z ∷ fs) h g = puts_listed bound c fs h g
puts_listed bound c (Apart y z ∷ fs) h g = puts_listed bound c fs h g
puts_listed bound c (Same y z ∷ fs) h g = puts_listed bound c fs h g

-- ---- the run

module _ (q : Question) (table more : List Shape) (rows : List Row) (good : IsTable table)
    (fits : IsChoice q.theory table rows) (n a : ℕ) (shape_n : shape_of (table ++ more) n ≡ not_name a)
    (home sub : ℕ) (sub_listed : sub < length table) where
  pub is_complement : n < length table → shape_of table n ≡ not_name a
  is_complement lt = sym (get_or_append_left table more top n lt) ∙ shape_n

  pub items_listed : (trail : List Item) (earlier : List (List Item))
      → IsRun (short q table more rows) (start home sub 0) (trail ∷ earlier) → All (ItemListed (length table)) trail
  items_listed trail earlier r =
      follows_listed q table rows good fits (start home sub 0) (length earlier) trail
      (start_listed (length table) home sub 0 sub_listed good.has_top)
      (run_follows q table more rows (start home sub 0) trail earlier r)

  pub not_top : (c : ℕ) (s : Shape) → ¬ (top ≡ s) → shape_of table c ≡ s → ¬ (c ≡ 0)
  not_top c s ne sh e = ne (sym good.begins_with_top ∙ ap (shape_of table) (sym e) ∙ sh)

  never_put_there : (trail : List Item) (earlier all : List (List Item)) → PutsNoMore (trail ∷ earlier) all
      → LeavesOut q.first q.at table all a → All (ItemListed (length table)) trail
      → list_any (puts_at q.at n) (facts_of trail) ≡ false
  never_put_there trail earlier all inside h items =
      false_from_ne_true (list_any (puts_at q.at n) (facts_of trail)) (λ there.
      let lt =
      puts_listed (length table) n (facts_of trail) (facts_listed (length table) trail items)
      (there_puts q.at n (facts_of trail) there) in
      h.complement_is_not_there n (inside (puts_at q.at n) (ever_now (puts_at q.at n) trail earlier there))
      (is_complement lt))

  -- a trail of a run
  module _ (rest : List Item) (earlier : List (List Item))
      (run : IsRun (short q table more rows) (start home sub 0) ((start home sub 0 ++ rest) ∷ earlier)) where
    abbrev now : List (Fact ℕ)
    now = old_facts home q.at sub n (facts_of rest)

    items : All (ItemListed (length table)) (start home sub 0 ++ rest)
    items = items_listed (start home sub 0 ++ rest) earlier run

    pub now_listed : are_listed (length table) now ≡ true
    now_listed = facts_listed (length table) (start home sub 0 ++ rest) items

    -- what a node has, but for top, a fact gives it
    given_is : (x c : ℕ) → ¬ (c ≡ 0) → has now x c ≡ true
        → list_any (gives_concept (λ d. eqb d c) (rep now) (rep now x)) now ≡ true
    given_is x c other held =
        elim (or_cases (eqb c 0) (list_any (gives_concept (λ d. eqb d c) (rep now) (rep now x)) now) held) [
          | inl z ↦ absurd (other (eqb-true c 0 z))
          | inr given ↦ given
        ]

    module _ (all : List (List Item)) (inside : PutsNoMore ((start home sub 0 ++ rest) ∷ earlier) all) where
      -- and it was put
      pub was_put : (x c : ℕ) → ¬ (c ≡ 0) → has now x c ≡ true → was_ever (puts c) all ≡ true
      was_put x c other held =
          inside (puts c)
          (ever_now (puts c) (start home sub 0 ++ rest) earlier
          (given_puts c (rep now) (rep now x) now (given_is x c other held)))

      -- the node in question is joined to no other, and the whole run leaves the class out
      module _ (stays : rep now q.at ≡ q.at) (alone : (x : ℕ) → rep now x ≡ q.at → x ≡ q.at)
          (h : LeavesOut q.first q.at table all a) where
        put_there : (c : ℕ) → ¬ (c ≡ 0) → has now q.at c ≡ true → was_ever (puts_at q.at c) all ≡ true
        put_there c other held =
            inside (puts_at q.at c)
            (ever_now (puts_at q.at c) (start home sub 0 ++ rest) earlier
            (given_there q.at c (rep now) (rep now q.at) stays alone now (given_is q.at c other held)))

        pub lacks_class : (c : ℕ) → has now q.at c ≡ true → ¬ (shape_of table c ≡ name_shape a)
        lacks_class c held sh = h.class_is_not_there c (put_there c (not_top c (name_shape a) (λ k. cc) sh) held) sh

        pub no_part : (c : ℕ) (parts : List ℕ) → has now q.at c ≡ true → shape_of table c ≡ union parts
            → ¬ Contains parts n
        no_part c parts held sh part =
            h.unions_there_lack_complement c n parts (put_there c (not_top c (union parts) (λ k. cc) sh) held) sh part
            (is_complement (disjunct_listed (short q table more rows) good c n parts sh part))

        -- the node that was given the complement stands for it, and has its own concept too
        pub besides : SetsApart q.first q.at table all a (start home sub 0 ++ rest) → HaveBesides q.first q.at n now
        besides apart x high is_rep held =
            let lt = has_listed (length table) now good.has_top now_listed x n held in
            let sh = is_complement lt in
            let by = giver (rep now) (rep now x) n now (given_is x n (not_top n (not_name a) (λ k. cc) sh) held) in
            let up : rep now by.node ≡ x = by.stands ∙ is_rep in
            let own =
            apart by.node n (omega (arith, high, up, rep-le now by.node)) (puts_are by.node n now ∙ by.gives) sh in
            record {
              concept = own.concept;
              holds =
                  subst (λ (y : ℕ). has now y own.concept ≡ true) up (has_rep now by.node own.concept ∙ own.holds);
              is_not_there = false_from_ne_true (has now q.at own.concept) (λ there.
                  (let k = put_there own.concept own.is_not_top there in let l = own.is_never_there in cc));
              is_another = λ e. own.is_another (sym e);
            }

  -- ---- the other run

  -- the trail goes on from the start, and the other search follows with the same rest
  pub record IsFollowed (k : ℕ) (trail : List Item) : Type 0 where
    pub rest : List Item
    pub splits : trail ≡ start home sub 0 ++ rest
    pub follows : Follows (long q table more rows) (start q.at sub n) k (start q.at sub n ++ rest)

  module _ (all : List (List Item)) (h : LeavesOut q.first q.at table all a)
      (set_of : (rest : List Item) (earlier : List (List Item))
      → IsRun (short q table more rows) (start home sub 0) ((start home sub 0 ++ rest) ∷ earlier)
      → PutsNoMore ((start home sub 0 ++ rest) ∷ earlier) all
      → IsSetting q table more home sub n a (facts_of rest)) where
    one_more : (k : ℕ) (before trail : List Item) (earlier : List (List Item)) → IsFollowed k before
        → IsRun (short q table more rows) (start home sub 0) (trail ∷ before ∷ earlier)
        → PutsNoMore (trail ∷ before ∷ earlier) all
        → All (SetsApart q.first q.at table all a) (before_nodes q.first (trail ∷ before ∷ earlier))
        → IsFollowed (suc k) trail
    one_more k before trail earlier f run inside apart =
        let w = short q table more rows in
        let is : List Item = start home sub 0 ++ f.rest in
        let again : IsRun w (start home sub 0) (is ∷ earlier) =
        subst (λ (js : List Item). IsRun w (start home sub 0) (js ∷ earlier)) f.splits run.1 in
        let inner : PutsNoMore (is ∷ earlier) all =
        subst (λ (js : List Item). PutsNoMore (js ∷ earlier) all) f.splits
        (puts_no_more trail (before ∷ earlier) all inside) in
        let set = set_of f.rest earlier again inner in
        let Apart : List Item → Type 0 = SetsApart q.first q.at table all a in
        let own : makes_node q.first is trail ≡ true
        → HaveBesides q.first q.at n (old_facts home q.at sub n (facts_of f.rest)) =
        λ makes. besides f.rest earlier again all inner set.stays set.alone h
        (subst Apart f.splits
        (first_of Apart (makes_node q.first before trail) before (before_nodes q.first (before ∷ earlier))
        (ap (λ (js : List Item). makes_node q.first js trail) f.splits ∙ makes) apart)) in
        let t =
        turned q table more rows good n a shape_n home sub f.rest set trail (items_listed is earlier again) fits
        (never_put_there trail (before ∷ earlier) all inside h (items_listed trail (before ∷ earlier) run)) own
        (subst (λ (js : List Item). IsLegal w js trail) f.splits run.0) in
        record { rest = t.further; splits = t.splits; follows = (start q.at sub n ++ f.rest, f.follows, t.is_legal) }

    pub followed : (trail : List Item) (earlier : List (List Item))
        → IsRun (short q table more rows) (start home sub 0) (trail ∷ earlier) → PutsNoMore (trail ∷ earlier) all
        → All (SetsApart q.first q.at table all a) (before_nodes q.first (trail ∷ earlier))
        → IsFollowed (length earlier) trail
    followed trail [] run inside apart = record { rest = []; splits = run; follows = refl }
    followed trail (before ∷ earlier) run inside apart =
        one_more (length earlier) before trail earlier
        (followed before earlier run.1 (puts_no_more trail (before ∷ earlier) all inside)
        (rest_of (SetsApart q.first q.at table all a) (makes_node q.first before trail) before
        (before_nodes q.first (before ∷ earlier)) apart)) run inside apart

-- ---- where no axiom speaks of the node in question

module _ (q : Question) (table more : List Shape) (rows : List Row) (good : IsTable table)
    (fits : IsChoice q.theory table rows) (n a : ℕ) (shape_n : shape_of (table ++ more) n ≡ not_name a)
    (sub : ℕ) (sub_listed : sub < length table) (is_first : q.at < q.first) (unnamed : IsUnnamed q)
    (all : List (List Item)) (h : LeavesOut q.first q.at table all a) where
  pub unnamed_setting : (rest : List Item) (earlier : List (List Item))
      → IsRun (short q table more rows) (start q.at sub 0) ((start q.at sub 0 ++ rest) ∷ earlier)
      → PutsNoMore ((start q.at sub 0 ++ rest) ∷ earlier) all → IsSetting q table more q.at sub n a (facts_of rest)
  unnamed_setting rest earlier run inside =
      let now : List (Fact ℕ) = old_facts q.at q.at sub n (facts_of rest) in
      let w = short q table more rows in
      let avoided = given_avoids q table rows unnamed in
      let rooted : IsRooted w q.at is_first avoided now =
      built_rooted w q.at is_first avoided (start q.at sub 0 ++ rest)
      (reached_built w q.at sub 0 (length earlier) (start q.at sub 0 ++ rest) is_first
      (run_follows q table more rows (start q.at sub 0) (start q.at sub 0 ++ rest) earlier run)) in
      let ends = end_is_other w q.at is_first avoided now rooted in
      record {
        known = now_listed q table more rows good fits n a shape_n q.at sub sub_listed rest earlier run;
        moves = inl refl;
        fillers = λ x c s e held is y edge root. ends (λ r. q.theory.below r s) x y edge root.0;
        complements = λ x c m s e d held sh neg y edge root. ends (λ r. q.theory.below r s) x y edge root.0;
        alone = rooted.alone;
        stays = rooted.stays;
        is_first = is_first;
        lacks_class =
            lacks_class q table more rows good fits n a shape_n q.at sub sub_listed rest earlier run all inside
            rooted.stays rooted.alone h;
        no_part =
            no_part q table more rows good fits n a shape_n q.at sub sub_listed rest earlier run all inside
            rooted.stays rooted.alone h;
      }
