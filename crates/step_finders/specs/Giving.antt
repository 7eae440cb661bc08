-- Facts that axioms give, and what it means that each is so.
use Rattle.std.specs.Prelude.{◌≡◌, ℕ, ◌==◌, ◌&&◌, true, false, List, All, length, Some}
use Rattle.std.specs.List.{list_any}
use Rattle.calculus_specs.specs.Concept.{Concept}
use Rattle.calculus_specs.specs.Tree.{tree_of}
use Rattle.calculus_specs.specs.declared.facts.Fact.{Fact}
use Rattle.calculus_specs.specs.declared.facts.Fact.TheVariants.{Edge}
use Rattle.calculus_specs.specs.Reading.{read_fact, is_fact_listed}
use Rattle.calculus_specs.specs.State.{speaks_below, is_so}
use Rattle.tableau_specs.specs.Steps.{SearchContext, IsGiven}
use Rattle.step_finders.specs.declared.state.Given.{Given}

-- the axiom gives the fact at the place, its concept is a number of the table, and it speaks of first nodes alone
pub record IsGivenAt (w : SearchContext) (g : Given) : Type 0 where
  pub is_there : w.fact_of g.«axiom» g.place ≡ Some (read_fact (tree_of w.table) g.fact)
  pub listed : is_fact_listed (length w.table) g.fact ≡ true
  pub on_first : speaks_below w.first g.fact ≡ true

-- the list has exactly the facts that axioms give
pub record AreGiven (w : SearchContext) (gs : List Given) : Type 0 where
  pub each : All (IsGivenAt w) gs
  pub every : (a p : ℕ) (f : Fact Concept) → w.fact_of a p ≡ Some f
      → list_any (λ g. g.«axiom» == a && g.place == p) gs ≡ true

-- the list has the role and the beginning of each edge to this node that axioms give
pub record AreGivenInto (w : SearchContext) (x : ℕ) (edges : List (ℕ × ℕ)) : Type 0 where
  pub each : All (λ p. IsGiven w (Edge p.0 p.1 x)) edges
  pub every : (r z : ℕ) → IsGiven w (Edge r z x) → list_any (λ p. p.0 == r && p.1 == z) edges ≡ true

module _ (w : SearchContext) (fs : List (Fact ℕ)) where
  -- the fact is given, and not so
  pub record IsGiving (g : Given) : Type 0 where
    pub is_given : IsGivenAt w g
    pub lacks : is_so fs g.fact ≡ false

  -- each fact that is given is so
  abbrev pub NothingToGive : Type 0
  NothingToGive = (f : Fact ℕ) → IsGiven w f → is_so fs f ≡ true
