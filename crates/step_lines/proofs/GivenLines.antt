-- Lines of given facts.
use Rattle.std.proofs.Common.{◌≡◌, ℕ, ◌<◌, ◌&&◌, ltb, true, List, [], ◌∷◌, refl, subst, sym}
use Rattle.std.specs.List.{list_all}
use Rattle.std.proofs.lemmas.Bool.{and_parts, ltb-true}
use Rattle.lane_sieve.specs.Sets.{NumberSet}
use Rattle.calculus_specs.specs.Shape.{IsTable}
use Rattle.calculus_specs.specs.Tree.{tree_of}
use Rattle.calculus_specs.specs.declared.facts.Fact.{Fact}
use Rattle.calculus_specs.specs.declared.facts.Fact.TheVariants.{Has, Edge, Apart, Same}
use Rattle.calculus_specs.specs.Line.Line.{fact_line}
use Rattle.calculus_specs.specs.Reading.{read_fact}
use Rattle.calculus_specs.specs.State.{speaks_below}
use Rattle.tableau_specs.specs.Lines.{asked_in}
use Rattle.tableau_specs.specs.Steps.{SearchContext}
use Rattle.search_trace.specs.Premises.{is_node, holds, more_facts}
use Rattle.search_trace.specs.Trail.{MarkedFact, trail_within, makes_no_node, some_facts}
use Rattle.search_trace.specs.Grounded.{named, is_known_within}
use Rattle.search_trace.proofs.ByShape.{rules_by_shape}
use Rattle.step_finders.specs.declared.state.Given.{Given}
use Rattle.step_finders.specs.Giving.{IsGivenAt}
use Rattle.step_lines.specs.Kinds.{ServesGiven}
use Rattle.step_lines.proofs.Follows.{all_cons}
use Rattle.step_lines.proofs.RowLines.{first_is_known}

module _ (first : ℕ) (u : NumberSet) (ms : List MarkedFact) where
  one_known : (x : ℕ) → ltb x first ≡ true → list_all (is_known_within first u ms) (x ∷ []) ≡ true
  one_known x h = all_cons (is_known_within first u ms) x [] (first_is_known first u ms x (ltb-true x first h)) refl

  two_known : (x y : ℕ) → (ltb x first && ltb y first) ≡ true
      → list_all (is_known_within first u ms) (x ∷ y ∷ []) ≡ true
  two_known x y h =
      let t = and_parts (ltb x first) (ltb y first) h in
      all_cons (is_known_within first u ms) x (y ∷ []) (first_is_known first u ms x (ltb-true x first t.0))
      (one_known y t.1)

  -- the nodes of a fact on first nodes are known
  named_known : (f : Fact ℕ) → speaks_below first f ≡ true → list_all (is_known_within first u ms) (named f) ≡ true
  named_known (Has x c) h = one_known x h
  named_known (Edge r x y) h = two_known x y h
  named_known (Apart x y) h = two_known x y h
  named_known (Same x y) h = two_known x y h

-- and it makes none
makes_none : (first : ℕ) (f : Fact ℕ) → speaks_below first f ≡ true → makes_no_node first f ≡ true
makes_none first (Has x c) h = refl
makes_none first (Edge r x y) h = (and_parts (ltb x first) (ltb y first) h).1
makes_none first (Apart x y) h = refl
makes_none first (Same x y) h = refl

pub given_serves : (w : SearchContext) (fs : List (Fact ℕ)) → IsTable w.table → 0 < w.first → (g : Given)
    → IsGivenAt w g → (gs : List (Fact ℕ)) → gs ≡ [] → ServesGiven w fs g (fact_line g.«axiom» g.place) gs
given_serves w fs good pos g is gs none =
    let read : Fact _ = read_fact (tree_of w.table) g.fact in
    subst (ServesGiven w fs g (fact_line g.«axiom» g.place)) (sym none) (record {
      child = more_facts (read ∷ []);
      serves = record {
        are_so = refl;
        holds_by = λ q number u ms same grounded hold. record {
          rule = record { premises = is_node 0 ∷ []; children = more_facts (read ∷ []) ∷ [] };
          holds = record {
            is_rule = (rules_by_shape (asked_in w q) w.table good).by_fact g.«axiom» g.place read is.is_there;
            premises =
                all_cons (holds w.theory (trail_within w.first w.table u ms)) (is_node 0) []
                (first_is_known w.first u ms 0 pos) refl;
            are_next = refl;
          };
          children_are = refl;
        };
        knows = λ u ms grounded hold. named_known w.first u ms g.fact is.on_first;
        of_kind = λ p k kept kinds. refl;
        numbered = refl;
        has_part = (read, is.is_there);
      };
      no_grounds = refl;
      puts =
          some_facts (read ∷ []) (g.fact ∷ [])
          (all_cons (makes_no_node w.first) g.fact [] (makes_none w.first g.fact is.on_first) refl) (λ p h. h);
      single = refl;
    })
