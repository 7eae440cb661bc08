-- The steps that a trail keeps, and its marks, are counted by what they raise.
use Rattle.std.proofs.Common.{◌≡◌, ℕ, suc, ◌+◌, ◌<◌, ◌≤◌, false, List, [], ◌∷◌, ◌++◌, length, refl, ap, ◌∙◌, sym, subst}
use Rattle.std.proofs.Common.{arith, length-append}
use Rattle.calculus_specs.specs.declared.facts.Fact.{Fact}
use Rattle.calculus_specs.specs.declared.facts.Fact.TheVariants.{Has, Edge, Apart, Same}
use Rattle.calculus_specs.specs.State.{node_count_from, is_so}
use Rattle.tableau_specs.specs.declared.Item.{Item}
use Rattle.tableau_specs.specs.declared.Item.TheVariants.{Fact as Says, Mark}
use Rattle.tableau_specs.specs.Items.{facts_of, says}
use Rattle.tableau_specs.specs.Steps.{SearchContext, IsGiven}
use Rattle.tableau_specs.specs.Reached.{start}
use Rattle.tableau_specs.proofs.Legal.{adds_supported}
use Rattle.search_laws.proofs.Given.{IsGiveCount}
use Rattle.search_laws.specs.BoundLaws.{mark_count, AreAtFirst}
use Rattle.search_laws.specs.KeptSteps.{StepCounts, one_adding, one_giving, one_making, one_joining, one_parting}
use Rattle.search_laws.specs.KeptSteps.{one_choosing, step_counts}
use Rattle.search_laws.specs.KeptSteps.{IsGrown}
use Rattle.search_laws.proofs.Grown.{facts_of-append, facts_of-says}
use Rattle.search_laws.specs.KeptSteps.IsGrown.{at_first, by_add, by_give, by_make, by_choice}
use Rattle.search_laws.proofs.Rising.{AreIn, in_front, given, joined, parted, given_le, joined_le, parted_le}
use Rattle.search_laws.proofs.Rising.{given_more, Rises, choice_rises}
use Rattle.search_laws.proofs.Counts.{count_front, generates_more}

-- ---- marks

mark_count-append : (is js : List Item) → mark_count (is ++ js) ≡ mark_count is + mark_count js
mark_count-append [] js = omega arith
mark_count-append (Says f ∷ is) js = mark_count-append is js
mark_count-append (Mark c ∷ is) js = omega (arith, mark_count-append is js)

mark_count-says : (fs : List (Fact ℕ)) → mark_count (says fs) ≡ 0
mark_count-says [] = refl
mark_count-says (f ∷ fs) = mark_count-says fs

pub first_front : (is js : List Item) → AreAtFirst (is ++ js) → AreAtFirst is
first_front [] js h = tt
first_front (Says f ∷ is) js h = first_front is js h
first_front (Mark c ∷ is) js h = (h.0, first_front is js h.1)

pub first_back : (is js : List Item) → AreAtFirst (is ++ js) → AreAtFirst js
first_back [] js h = h
first_back (Says f ∷ is) js h = first_back is js h
first_back (Mark c ∷ is) js h = first_back is js h.1

pub facts_after : (is : List Item) (fs : List (Fact ℕ)) → facts_of (is ++ says fs) ≡ facts_of is ++ fs
facts_after is fs = facts_of-append is (says fs) ∙ ap (λ (gs : List (Fact ℕ)). facts_of is ++ gs) (facts_of-says fs)

module _ (w : SearchContext) (at a b : ℕ) (here : at < w.first) (ds : List ℕ) (count : List (Fact ℕ) → ℕ)
    (counts : IsGiveCount w count) (v : ℕ) where
  -- the numbers that the steps raise, where so many steps of each kind are kept
  pub record Raised (n : StepCounts) (fs : List (Fact ℕ)) : Type 0 where
    pub adding : n.adding ≤ given ds v fs
    pub giving : n.giving ≤ count fs
    pub making : n.making + 1 ≤ node_count_from w.first fs
    pub joining : n.joining ≤ joined ds v fs
    pub parting : n.parting ≤ parted ds v fs

  -- and as many as these numbers stand for, with so many marks, where `AtFirst` says that all marks stand at their
  -- first alternative
  pub record Tally (ns : List ℕ) (n : StepCounts) (marks : ℕ) (AtFirst : Type 0) (fs : List (Fact ℕ)) : Type 0 where
    pub raised : Raised n fs
    pub all_steps : length ns ≡ n.adding + n.giving + n.making + n.joining + n.parting
    pub none_parting : AtFirst → n.parting ≡ 0
    pub all_marks : marks ≤ n.adding + n.joining + n.parting

  after_add : (ns : List ℕ) (n : StepCounts) (marks : ℕ) (A B : Type 0) (fs : List (Fact ℕ)) (x d : ℕ) → (B → A)
      → given ds v fs + 1 ≤ given ds v (fs ++ Has x d ∷ []) → Tally ns n marks A fs
      → Tally (ns ++ 1 ∷ []) (one_adding n) marks B (fs ++ Has x d ∷ [])
  after_add ns n marks A B fs x d imp rises t =
      let gs = Has x d ∷ [] in
      let j = joined_le ds v fs gs in
      let p = parted_le ds v fs gs in
      let k = count_front w.first fs gs in
      let c = counts.not_less fs gs in
      let long = length-append ns (1 ∷ []) in
      let r = t.raised in
      record {
        raised = record {
          adding = omega (arith, r.adding);
          giving = omega (arith, r.giving);
          making = omega (arith, r.making);
          joining = omega (arith, r.joining);
          parting = omega (arith, r.parting);
        };
        all_steps = omega (arith, t.all_steps);
        none_parting = λ h. t.none_parting (imp h);
        all_marks = omega (arith, t.all_marks);
      }

  after_make : (ns : List ℕ) (n : StepCounts) (marks : ℕ) (A B : Type 0) (fs gs : List (Fact ℕ)) → (B → A)
      → node_count_from w.first fs + 1 ≤ node_count_from w.first (fs ++ gs) → Tally ns n marks A fs
      → Tally (ns ++ 1 ∷ []) (one_making n) marks B (fs ++ gs)
  after_make ns n marks A B fs gs imp more t =
      let h = given_le ds v fs gs in
      let c = counts.not_less fs gs in
      let j = joined_le ds v fs gs in
      let p = parted_le ds v fs gs in
      let long = length-append ns (1 ∷ []) in
      let r = t.raised in
      record {
        raised = record {
          adding = omega (arith, r.adding);
          giving = omega (arith, r.giving);
          making = omega (arith, r.making);
          joining = omega (arith, r.joining);
          parting = omega (arith, r.parting);
        };
        all_steps = omega (arith, t.all_steps);
        none_parting = λ k. t.none_parting (imp k);
        all_marks = omega (arith, t.all_marks);
      }

  after_give : (ns : List ℕ) (n : StepCounts) (marks : ℕ) (A B : Type 0) (fs : List (Fact ℕ)) (f : Fact ℕ) → (B → A)
      → IsGiven w f → is_so fs f ≡ false → Tally ns n marks A fs
      → Tally (ns ++ 1 ∷ []) (one_giving n) marks B (fs ++ f ∷ [])
  after_give ns n marks A B fs f imp is_given out t =
      let gs = f ∷ [] in
      let h = given_le ds v fs gs in
      let j = joined_le ds v fs gs in
      let p = parted_le ds v fs gs in
      let k = count_front w.first fs gs in
      let c = counts.more fs f is_given out in
      let long = length-append ns (1 ∷ []) in
      let r = t.raised in
      record {
        raised = record {
          adding = omega (arith, r.adding);
          giving = omega (arith, r.giving);
          making = omega (arith, r.making);
          joining = omega (arith, r.joining);
          parting = omega (arith, r.parting);
        };
        all_steps = omega (arith, t.all_steps);
        none_parting = λ q. t.none_parting (imp q);
        all_marks = omega (arith, t.all_marks);
      }

  -- a choice that joins two nodes
  after_join : (ns : List ℕ) (n : StepCounts) (marks : ℕ) (A B : Type 0) (fs : List (Fact ℕ)) (y z k : ℕ) → (B → A)
      → joined ds v fs + 1 ≤ joined ds v (fs ++ Same y z ∷ []) → Tally ns n marks A fs
      → Tally (ns ++ k ∷ []) (one_joining n) (suc marks) B (fs ++ Same y z ∷ [])
  after_join ns n marks A B fs y z k imp rises t =
      let gs = Same y z ∷ [] in
      let h = given_le ds v fs gs in
      let p = parted_le ds v fs gs in
      let m = count_front w.first fs gs in
      let c = counts.not_less fs gs in
      let long = length-append ns (k ∷ []) in
      let r = t.raised in
      record {
        raised = record {
          adding = omega (arith, r.adding);
          giving = omega (arith, r.giving);
          making = omega (arith, r.making);
          joining = omega (arith, r.joining);
          parting = omega (arith, r.parting);
        };
        all_steps = omega (arith, t.all_steps);
        none_parting = λ q. t.none_parting (imp q);
        all_marks = omega (arith, t.all_marks);
      }

  -- one that sets two nodes apart, which is no first alternative
  after_part : (ns : List ℕ) (n : StepCounts) (marks : ℕ) (A B : Type 0) (fs : List (Fact ℕ)) (y z k : ℕ)
      → (B → k ≡ 1) → k ≡ 2 → parted ds v fs + 1 ≤ parted ds v (fs ++ Apart y z ∷ []) → Tally ns n marks A fs
      → Tally (ns ++ k ∷ []) (one_parting n) (suc marks) B (fs ++ Apart y z ∷ [])
  after_part ns n marks A B fs y z k one two rises t =
      let gs = Apart y z ∷ [] in
      let h = given_le ds v fs gs in
      let j = joined_le ds v fs gs in
      let m = count_front w.first fs gs in
      let c = counts.not_less fs gs in
      let long = length-append ns (k ∷ []) in
      let r = t.raised in
      record {
        raised = record {
          adding = omega (arith, r.adding);
          giving = omega (arith, r.giving);
          making = omega (arith, r.making);
          joining = omega (arith, r.joining);
          parting = omega (arith, r.parting);
        };
        all_steps = omega (arith, t.all_steps);
        none_parting = λ q. absurd (omega (arith, one q, two));
        all_marks = omega (arith, t.all_marks);
      }

  -- one that gives a node a concept
  after_choosing : (ns : List ℕ) (n : StepCounts) (marks : ℕ) (A B : Type 0) (fs : List (Fact ℕ)) (x d k : ℕ) → (B → A)
      → given ds v fs + 1 ≤ given ds v (fs ++ Has x d ∷ []) → Tally ns n marks A fs
      → Tally (ns ++ k ∷ []) (one_adding n) (suc marks) B (fs ++ Has x d ∷ [])
  after_choosing ns n marks A B fs x d k imp rises t =
      let u = after_add ns n marks A B fs x d imp rises t in
      let long = length-append ns (1 ∷ []) in
      let long' = length-append ns (k ∷ []) in
      record {
        raised = u.raised;
        all_steps = omega (arith, u.all_steps);
        none_parting = u.none_parting;
        all_marks = omega (arith, t.all_marks);
      }

  after_choice : (ns : List ℕ) (n : StepCounts) (marks : ℕ) (A B : Type 0) (fs : List (Fact ℕ)) (f : Fact ℕ) (k : ℕ)
      → (B → A) → (B → k ≡ 1) → Rises ds v fs f k → Tally ns n marks A fs
      → Tally (ns ++ k ∷ []) (one_choosing f n) (suc marks) B (fs ++ f ∷ [])
  after_choice ns n marks A B fs (Has x d) k imp one rises t = after_choosing ns n marks A B fs x d k imp rises t
  after_choice ns n marks A B fs (Edge r x y) k imp one rises t = absurd rises
  after_choice ns n marks A B fs (Apart y z) k imp one rises t =
      after_part ns n marks A B fs y z k one rises.1 rises.0 t
  after_choice ns n marks A B fs (Same y z) k imp one rises t = after_join ns n marks A B fs y z k imp rises t

  -- ---- what these numbers bound

  pub kept_most : (ns : List ℕ) (n : StepCounts) (marks : ℕ) (A : Type 0) (fs : List (Fact ℕ)) → Tally ns n marks A fs
      → length ns + 1 ≤ given ds v fs + node_count_from w.first fs + joined ds v fs + parted ds v fs + count fs
  kept_most ns n marks A fs t =
      let r = t.raised in
      omega (arith, t.all_steps, r.adding, r.giving, r.making, r.joining, r.parting)

  pub first_most : (ns : List ℕ) (n : StepCounts) (marks : ℕ) (A : Type 0) (fs : List (Fact ℕ)) → Tally ns n marks A fs
      → A → length ns + 1 ≤ given ds v fs + node_count_from w.first fs + joined ds v fs + count fs
  first_most ns n marks A fs t h =
      let r = t.raised in
      omega (arith, t.all_steps, t.none_parting h, r.adding, r.giving, r.making, r.joining)

  pub marks_most : (ns : List ℕ) (n : StepCounts) (marks : ℕ) (A : Type 0) (fs : List (Fact ℕ)) → Tally ns n marks A fs
      → marks ≤ given ds v fs + joined ds v fs + parted ds v fs
  marks_most ns n marks A fs t =
      let r = t.raised in omega (arith, t.all_marks, r.adding, r.joining, r.parting)

  -- ---- a trail

  abbrev counted : (ns : List ℕ) (trail : List Item) → IsGrown w (start at a b) ns trail → StepCounts
  counted ns trail g = step_counts w (start at a b) ns trail g

  pub tally : (ns : List ℕ) (trail : List Item) → (g : IsGrown w (start at a b) ns trail)
      → node_count_from w.first (facts_of trail) ≤ v → AreIn ds (facts_of trail)
      → Tally ns (step_counts w (start at a b) ns trail g) (mark_count trail) (AreAtFirst trail) (facts_of trail)
  tally ns trail at_first le all = record {
    raised = record {
      adding = omega arith;
      giving = omega arith;
      making = omega (arith, here);
      joining = omega arith;
      parting = omega arith;
    };
    all_steps = refl;
    none_parting = λ h. refl;
    all_marks = omega arith;
  }
  tally ns trail (by_add ms old x d g adds out) le all =
      let new = Has x d ∷ [] in
      let n : StepCounts = one_adding (counted ms old g) in
      let e = facts_after old new in
      let le' : node_count_from w.first (facts_of old ++ new) ≤ v =
      omega (arith, le, ap (λ (fs : List (Fact ℕ)). node_count_from w.first fs) e) in
      let all' = subst (AreIn ds) e all in
      let nodes = count_front w.first (facts_of old) new in
      let before = tally ms old g (omega arith) (in_front ds (facts_of old) new all') in
      let lt = adds_supported w (facts_of old) x d adds in
      let after =
      after_add ms (counted ms old g) (mark_count old) (AreAtFirst old) (AreAtFirst (old ++ says new)) (facts_of old) x
      d (first_front old (says new)) (given_more ds v (facts_of old) x d (omega arith) all' out) before in
      let m : mark_count (old ++ says new) ≡ mark_count old = omega (arith, mark_count-append old (says new)) in
      subst
      (λ (fs : List (Fact ℕ)). Tally (ms ++ 1 ∷ []) n (mark_count (old ++ says new)) (AreAtFirst (old ++ says new)) fs)
      (sym e)
      (subst (λ (k : ℕ). Tally (ms ++ 1 ∷ []) n k (AreAtFirst (old ++ says new)) (facts_of old ++ new)) (sym m) after)
  tally ns trail (by_give ms old f g is_given out) le all =
      let new = f ∷ [] in
      let n : StepCounts = one_giving (counted ms old g) in
      let e = facts_after old new in
      let le' : node_count_from w.first (facts_of old ++ new) ≤ v =
      omega (arith, le, ap (λ (fs : List (Fact ℕ)). node_count_from w.first fs) e) in
      let all' = subst (AreIn ds) e all in
      let nodes = count_front w.first (facts_of old) new in
      let before = tally ms old g (omega arith) (in_front ds (facts_of old) new all') in
      let after =
      after_give ms (counted ms old g) (mark_count old) (AreAtFirst old) (AreAtFirst (old ++ says new)) (facts_of old) f
      (first_front old (says new)) is_given out before in
      let m : mark_count (old ++ says new) ≡ mark_count old = omega (arith, mark_count-append old (says new)) in
      subst
      (λ (fs : List (Fact ℕ)). Tally (ms ++ 1 ∷ []) n (mark_count (old ++ says new)) (AreAtFirst (old ++ says new)) fs)
      (sym e)
      (subst (λ (k : ℕ). Tally (ms ++ 1 ∷ []) n k (AreAtFirst (old ++ says new)) (facts_of old ++ new)) (sym m) after)
  tally ns trail (by_make ms old new g makes) le all =
      let n : StepCounts = one_making (counted ms old g) in
      let e = facts_after old new in
      let le' : node_count_from w.first (facts_of old ++ new) ≤ v =
      omega (arith, le, ap (λ (fs : List (Fact ℕ)). node_count_from w.first fs) e) in
      let all' = subst (AreIn ds) e all in
      let nodes = count_front w.first (facts_of old) new in
      let before = tally ms old g (omega arith) (in_front ds (facts_of old) new all') in
      let after =
      after_make ms (counted ms old g) (mark_count old) (AreAtFirst old) (AreAtFirst (old ++ says new)) (facts_of old)
      new (first_front old (says new)) (generates_more w (facts_of old) new makes) before in
      let m : mark_count (old ++ says new) ≡ mark_count old =
      omega (arith, mark_count-append old (says new), mark_count-says new) in
      subst
      (λ (fs : List (Fact ℕ)). Tally (ms ++ 1 ∷ []) n (mark_count (old ++ says new)) (AreAtFirst (old ++ says new)) fs)
      (sym e)
      (subst (λ (k : ℕ). Tally (ms ++ 1 ∷ []) n k (AreAtFirst (old ++ says new)) (facts_of old ++ new)) (sym m) after)
  tally ns trail (by_choice ms old c f g may alt) le all =
      let new = Mark c ∷ Says f ∷ [] in
      let n : StepCounts = one_choosing f (counted ms old g) in
      let e : facts_of (old ++ new) ≡ facts_of old ++ f ∷ [] = facts_of-append old new in
      let le' : node_count_from w.first (facts_of old ++ f ∷ []) ≤ v =
      omega (arith, le, ap (λ (fs : List (Fact ℕ)). node_count_from w.first fs) e) in
      let all' = subst (AreIn ds) e all in
      let nodes = count_front w.first (facts_of old) (f ∷ []) in
      let before = tally ms old g (omega arith) (in_front ds (facts_of old) (f ∷ []) all') in
      let rises = choice_rises w ds v (facts_of old) c.branch c.alternative f (omega arith) all' may alt in
      let after =
      after_choice ms (counted ms old g) (mark_count old) (AreAtFirst old) (AreAtFirst (old ++ new)) (facts_of old) f
      c.alternative (first_front old new) (λ h. (first_back old new h).0) rises before in
      let m : mark_count (old ++ new) ≡ suc (mark_count old) = omega (arith, mark_count-append old new) in
      subst
      (λ (fs : List (Fact ℕ)). Tally (ms ++ c.alternative ∷ []) n (mark_count (old ++ new)) (AreAtFirst (old ++ new))
      fs)
      (sym e)
      (subst (λ (k : ℕ). Tally (ms ++ c.alternative ∷ []) n k (AreAtFirst (old ++ new)) (facts_of old ++ f ∷ []))
      (sym m) after)
