-- What the lines of each kind of step serve.
use Rattle.std.specs.Prelude.{◌≡◌, ℕ, ◌+◌, true, List, [], ◌∷◌, length, take, Some, slice_get}
use Rattle.calculus_specs.specs.Shape.{Shape, shape_of}
use Rattle.calculus_specs.specs.Shape.Shape.{union, at_least, at_most}
use Rattle.calculus_specs.specs.declared.facts.Fact.{Fact}
use Rattle.calculus_specs.specs.declared.facts.Fact.TheVariants.{Has}
use Rattle.calculus_specs.specs.State.{node_count_from, fresh_facts}
use Rattle.calculus_specs.specs.Line.{Line}
use Rattle.calculus_specs.specs.Line.Line.{some_line, least_line, bottom_line, clash_line, most_line, differ_line}
use Rattle.tableau_specs.specs.Clash.{filled_successors}
use Rattle.tableau_specs.specs.Steps.{SearchContext, below_of, IsAlternative}
use Rattle.tableau_specs.specs.declared.Branch.{Branch}
use Rattle.tableau_specs.specs.declared.Branch.TheVariants.{Or, Choose, Pair}
use Rattle.search_trace.specs.Premises.{Added, is_single, is_branching, is_clash}
use Rattle.search_trace.specs.Trail.{Puts}
use Rattle.search_trace.specs.Grounded.{named}
use Rattle.step_finders.specs.declared.clash.Clash.{Clash}
use Rattle.step_finders.specs.declared.clash.Clash.TheVariants.{Bottom, Both, Most, Differ}
use Rattle.step_finders.specs.declared.make.NewNodes.{NewNodes}
use Rattle.step_finders.specs.declared.state.Given.{Given}
use Rattle.step_lines.specs.Serving.{Serves, branch_nodes}

-- how many alternatives a branch has
abbrev pub part_count : Shape → ℕ
part_count (union parts) = length parts
part_count _ = 0

-- how many alternatives a choice has
abbrev pub alternative_count : List Shape → Branch → ℕ
alternative_count table (Or x c) = part_count (shape_of table c)
alternative_count table (Choose y c) = 2
alternative_count table (Pair y z) = 2

-- the line by which a concept of this shape makes nodes from y on
abbrev pub making_line : Shape → ℕ → ℕ → ℕ → Line
making_line (at_least n s e) x y c = least_line x y c
making_line _ x y c = some_line x y c

module _ (w : SearchContext) (fs : List (Fact ℕ)) where
  -- the line gives node x the concept d
  pub record ServesAddition (x d : ℕ) (line : Line) (grounds : List (Fact ℕ)) : Type 0 where
    pub child : Added
    pub serves : Serves w fs line grounds (child ∷ []) (x ∷ [])
    pub puts : Puts w.first w.table child (Has x d ∷ [])
    pub single : is_single line ≡ true

  -- the line makes these nodes
  pub record ServesNewNodes (m : NewNodes) (line : Line) (grounds : List (Fact ℕ)) : Type 0 where
    pub child : Added
    pub serves : Serves w fs line grounds (child ∷ []) (m.parent ∷ [])
    pub puts : Puts w.first w.table child (fresh_facts m.parent m.role m.filler (node_count_from w.first fs) m.count)
    pub single : is_single line ≡ true

  -- the line is that of a given fact, which rests on nothing
  pub record ServesGiven (g : Given) (line : Line) (grounds : List (Fact ℕ)) : Type 0 where
    pub child : Added
    pub serves : Serves w fs line grounds (child ∷ []) (named g.fact)
    pub no_grounds : grounds ≡ []
    pub puts : Puts w.first w.table child (g.fact ∷ [])
    pub single : is_single line ≡ true

  -- what the child in the place of an alternative adds
  pub record IsChild (children : List Added) (k : ℕ) (f : Fact ℕ) : Type 0 where
    pub added : Added
    pub stands : slice_get children k ≡ Some added
    pub puts : Puts w.first w.table added (f ∷ [])

  -- the line branches as the choice does
  pub record ServesChoice (b : Branch) (line : Line) (grounds : List (Fact ℕ)) : Type 0 where
    pub children : List Added
    pub serves : Serves w fs line grounds children (branch_nodes b)
    pub count : length children ≡ alternative_count w.table b
    pub alternatives : (k : ℕ) (f : Fact ℕ) → IsAlternative w.table b (k + 1) f → IsChild children k f
    pub branching : is_branching line ≡ true

  -- the line of an 'at most' of this shape names the first successors that it counts, one more than it allows
  abbrev pub NamesFirst : Shape → ℕ → ℕ → Line → Type 0
  NamesFirst (at_most n s e) x c line =
      line ≡ most_line x c (take (n + 1) (filled_successors w.first (below_of w) fs x s e))
  NamesFirst _ x c line = Unit {0}

  -- the line is that of the clash
  abbrev pub IsLineOf : Clash → Line → Type 0
  IsLineOf (Bottom x c) line = line ≡ bottom_line x
  IsLineOf (Both x c d) line = line ≡ clash_line x c
  IsLineOf (Most x c) line = NamesFirst (shape_of w.table c) x c line
  IsLineOf (Differ y z) line = line ≡ differ_line y z

  -- the line closes its branch
  pub record ServesClash (line : Line) (grounds : List (Fact ℕ)) : Type 0 where
    pub serves : Serves w fs line grounds [] []
    pub clash : is_clash line ≡ true
