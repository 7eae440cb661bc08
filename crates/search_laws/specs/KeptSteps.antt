-- The steps that a trail keeps: those that were not taken back.
use Rattle.std.specs.Prelude.{◌≡◌, ℕ, ◌+◌, false, List, [], ◌∷◌, ◌++◌}
use Rattle.calculus_specs.specs.declared.facts.Fact.{Fact}
use Rattle.calculus_specs.specs.declared.facts.Fact.TheVariants.{Has, Edge, Apart, Same}
use Rattle.calculus_specs.specs.State.{has, is_so}
use Rattle.tableau_specs.specs.declared.Choice.{Choice}
use Rattle.tableau_specs.specs.declared.Item.{Item}
use Rattle.tableau_specs.specs.declared.Item.TheVariants.{Fact as Says, Mark}
use Rattle.tableau_specs.specs.Items.{facts_of, says}
use Rattle.tableau_specs.specs.Steps.{SearchContext, IsGiven, Adds, Generates, MayBranch, IsAlternative}

-- the trail grows from the first by steps that it keeps. Each stands for a number: that of the alternative that its
-- mark has, or 1 where it has no mark
pub data IsGrown (w : SearchContext) (first : List Item) : List ℕ → List Item → Type 0 where
  at_first : IsGrown w first [] first
  by_add : (ds : List ℕ) (old : List Item) (x d : ℕ) → IsGrown w first ds old → Adds w (facts_of old) x d
      → has (facts_of old) x d ≡ false → IsGrown w first (ds ++ 1 ∷ []) (old ++ Says (Has x d) ∷ [])
  by_give : (ds : List ℕ) (old : List Item) (f : Fact ℕ) → IsGrown w first ds old → IsGiven w f
      → is_so (facts_of old) f ≡ false → IsGrown w first (ds ++ 1 ∷ []) (old ++ Says f ∷ [])
  by_make : (ds : List ℕ) (old : List Item) (new : List (Fact ℕ)) → IsGrown w first ds old
      → Generates w (facts_of old) new → IsGrown w first (ds ++ 1 ∷ []) (old ++ says new)
  by_choice : (ds : List ℕ) (old : List Item) (c : Choice) (f : Fact ℕ) → IsGrown w first ds old
      → MayBranch w (facts_of old) c.branch → IsAlternative w.table c.branch c.alternative f
      → IsGrown w first (ds ++ c.alternative ∷ []) (old ++ Mark c ∷ Says f ∷ [])

-- how many of the steps do what
pub record StepCounts : Type 0 where
  -- give a node a concept
  pub adding : ℕ
  -- put a given fact
  pub giving : ℕ
  -- make nodes
  pub making : ℕ
  -- join two nodes
  pub joining : ℕ
  -- set two nodes apart
  pub parting : ℕ

-- no step of any kind
abbrev pub no_steps : StepCounts
no_steps = record { adding = 0; giving = 0; making = 0; joining = 0; parting = 0 }

-- one step more that adds a concept to a node
abbrev pub one_adding : StepCounts → StepCounts
one_adding n =
    record { adding = n.adding + 1; giving = n.giving; making = n.making; joining = n.joining; parting = n.parting }

-- one step more that takes a given fact
abbrev pub one_giving : StepCounts → StepCounts
one_giving n =
    record { adding = n.adding; giving = n.giving + 1; making = n.making; joining = n.joining; parting = n.parting }

-- one step more that makes new nodes
abbrev pub one_making : StepCounts → StepCounts
one_making n =
    record { adding = n.adding; giving = n.giving; making = n.making + 1; joining = n.joining; parting = n.parting }

-- one step more that joins two nodes
abbrev pub one_joining : StepCounts → StepCounts
one_joining n =
    record { adding = n.adding; giving = n.giving; making = n.making; joining = n.joining + 1; parting = n.parting }

-- one step more that puts two nodes apart
abbrev pub one_parting : StepCounts → StepCounts
one_parting n =
    record { adding = n.adding; giving = n.giving; making = n.making; joining = n.joining; parting = n.parting + 1 }

-- a choice does what its fact says; none puts an edge
abbrev pub one_choosing : Fact ℕ → StepCounts → StepCounts
one_choosing (Has x d) n = one_adding n
one_choosing (Edge r x y) n = n
one_choosing (Apart y z) n = one_parting n
one_choosing (Same y z) n = one_joining n

-- how many steps of each kind a trail keeps
abbrev pub step_counts : (w : SearchContext) (first : List Item) (ds : List ℕ) (trail : List Item)
    → IsGrown w first ds trail → StepCounts
step_counts w first ds trail at_first = no_steps
step_counts w first ds trail (by_add es old x d g adds out) = one_adding (step_counts w first es old g)
step_counts w first ds trail (by_give es old f g is_given out) = one_giving (step_counts w first es old g)
step_counts w first ds trail (by_make es old new g makes) = one_making (step_counts w first es old g)
step_counts w first ds trail (by_choice es old c f g may alt) = one_choosing f (step_counts w first es old g)
