-- The steps of a search. The table of legal steps fixes no strategy.
use Rattle.std.specs.Prelude.{◌≡◌, ℕ, ◌+◌, ◌<◌, ◌==◌, ◌&&◌, Bool, true, false, List, [], ◌∷◌, ◌++◌, length, take}
use Rattle.std.specs.Prelude.{Option, Some, slice_get, All, Contains}
use Rattle.std.specs.List.{list_any, list_all, range_with_len}
use Rattle.calculus_specs.specs.Concept.{Concept, name}
use Rattle.calculus_specs.specs.Shape.{Shape, shape_of}
use Rattle.calculus_specs.specs.Shape.Shape.{name as name_shape, intersection, union, some_of, all_of, at_least}
use Rattle.calculus_specs.specs.Shape.Shape.{at_most}
use Rattle.calculus_specs.specs.Tree.{tree_of, IsComplement}
use Rattle.calculus_specs.specs.Rows.{Part, Theory, part_at, conjunct_at, Trigger, Row}
use Rattle.calculus_specs.specs.Rows.Part.{inclusion}
use Rattle.calculus_specs.specs.Rows.Trigger.{always, names, edge, end_of}
use Rattle.calculus_specs.specs.declared.facts.Fact.{Fact}
use Rattle.calculus_specs.specs.declared.facts.Fact.TheVariants.{Has, Apart, Same}
use Rattle.calculus_specs.specs.Joins.{rep}
use Rattle.calculus_specs.specs.State.{node_count_from, has, label, has_edge, is_successor, are_apart, all_apart}
use Rattle.calculus_specs.specs.State.{fresh_facts, is_so, speaks_below}
use Rattle.calculus_specs.specs.Reading.{read_fact, is_fact_listed}
use Rattle.tableau_specs.specs.declared.Branch.{Branch}
use Rattle.tableau_specs.specs.declared.Branch.TheVariants.{Or, Choose, Pair}
use Rattle.tableau_specs.specs.declared.Choice.{Choice}
use Rattle.tableau_specs.specs.declared.Item.{Item}
use Rattle.tableau_specs.specs.declared.Item.TheVariants.{Fact as Says, Mark}
use Rattle.tableau_specs.specs.declared.Block.TheVariants.{Clear}
use Rattle.tableau_specs.specs.Items.{facts_of, says}
use Rattle.tableau_specs.specs.Blocked.{block_of}
use Rattle.tableau_specs.specs.Clash.{is_filled_successor, filled_successors, IsClash, IsPlainClash}

-- what the steps of a search read besides its trail: the parts and roles of its axioms, the concepts of its numbers,
-- the rows that it has chosen, how many first nodes there are, and the facts that the axioms give, by the number of the
-- axiom and the fact's place among its own, from 1
pub record SearchContext : Type 0 where
  pub theory : Theory
  pub table : List Shape
  pub rows : List Row
  pub first : ℕ
  pub fact_of : ℕ → ℕ → Option (Fact Concept)

-- which role is below which, in the context of a search
abbrev pub below_of : SearchContext → ℕ → ℕ → Bool
below_of w = w.theory.below

-- ---- rows

-- the shape is this name
abbrev pub is_named : ℕ → Shape → Bool
is_named a (name_shape b) = a == b
is_named a _ = false

-- whether x has the class that a conjunct names
abbrev pub has_name : SearchContext → List (Fact ℕ) → ℕ → Concept → Bool
has_name w fs x (name a) = list_any (λ c. is_named a (shape_of w.table c)) (label fs x)
has_name w fs x _ = false

-- whether x is in the conjuncts at these positions
abbrev pub has_names : SearchContext → List (Fact ℕ) → ℕ → List ℕ → Option Part → Bool
has_names w fs x positions (Some (inclusion cs d)) = list_all (λ i. has_name w fs x (conjunct_at cs i)) positions
has_names w fs x positions _ = false

-- whether some node is the end of an edge below s from x
abbrev pub begins_edge : SearchContext → List (Fact ℕ) → ℕ → ℕ → Bool
begins_edge w fs s x =
    list_any (λ y. has_edge fs (λ r. below_of w r s) x y) (range_with_len 0 (node_count_from w.first fs))

-- whether x is the end of an edge below s
abbrev pub ends_edge : SearchContext → List (Fact ℕ) → ℕ → ℕ → Bool
ends_edge w fs s x =
    list_any (λ z. has_edge fs (λ r. below_of w r s) z x) (range_with_len 0 (node_count_from w.first fs))

-- what the trigger of a row waits for is so of the node
abbrev pub is_triggered : SearchContext → List (Fact ℕ) → ℕ → Option Part → Trigger → Bool
is_triggered w fs x part always = true
is_triggered w fs x part (names positions) = has_names w fs x positions part
is_triggered w fs x part (edge s) = begins_edge w fs s x
is_triggered w fs x part (end_of s) = ends_edge w fs s x

-- whether the row is used at x
abbrev pub is_used_at : SearchContext → List (Fact ℕ) → Row → ℕ → Bool
is_used_at w fs row x = is_triggered w fs x (part_at w.theory row.axiom_number row.part_number) row.trigger

-- ---- runs of successors

-- whether the n nodes from y on are successors of x with the filler e, and pairwise apart. None need be a
-- representative: nodes that were made for 'at least n' stay such a run, whatever they are joined to later
abbrev pub is_run : SearchContext → List (Fact ℕ) → ℕ → ℕ → ℕ → ℕ → ℕ → Bool
is_run w fs x s e n y =
    list_all (is_filled_successor w.first (below_of w) fs x s e) (range_with_len y n)
    && all_apart fs (range_with_len y n)

-- ---- given facts

-- an axiom gives the fact, whose concept has a number in the table, and which speaks of first nodes alone
pub record IsGiven (w : SearchContext) (f : Fact ℕ) : Type 0 where
  pub axiom_number : ℕ
  pub place : ℕ
  pub is_there : w.fact_of axiom_number place ≡ Some (read_fact (tree_of w.table) f)
  pub listed : is_fact_listed (length w.table) f ≡ true
  pub on_first : speaks_below w.first f ≡ true

module _ (w : SearchContext) (fs : List (Fact ℕ)) where
  -- ---- Add

  -- y, at the end of an edge from x below a transitive role t below s, is to have 'all t e', since x has 'all s e'
  pub record IsCarried (x y c s t e : ℕ) : Type 0 where
    pub begin_is_node : x < node_count_from w.first fs
    pub end_is_node : y < node_count_from w.first fs
    pub holds : has fs x c ≡ true
    pub shape : shape_of w.table c ≡ all_of s e
    pub transitive : w.theory.is_transitive t ≡ true
    pub role_below : w.theory.below t s ≡ true
    pub edge : has_edge fs (λ r. below_of w r t) x y ≡ true

  -- a rule that makes no branch gives node x the concept d
  pub data Adds : ℕ → ℕ → Type 0 where
    by_and : (x c d : ℕ) (parts : List ℕ) → x < node_count_from w.first fs → has fs x c ≡ true
        → shape_of w.table c ≡ intersection parts → Contains parts d → Adds x d
    by_all : (x y c s e : ℕ) → x < node_count_from w.first fs → y < node_count_from w.first fs → has fs x c ≡ true
        → shape_of w.table c ≡ all_of s e
        → has_edge fs (λ r. below_of w r s) x y ≡ true → Adds y e
    by_carry : (x y c s t e d : ℕ) → IsCarried x y c s t e → shape_of w.table d ≡ all_of t e → Adds y d
    by_row : (x : ℕ) (row : Row) → x < node_count_from w.first fs → Contains w.rows row → is_used_at w fs row x ≡ true
        → Adds x row.concept

  -- ---- Generate

  -- x is a node at which nodes may be made: a clear representative
  pub record IsOpen (x : ℕ) : Type 0 where
    pub is_node : x < node_count_from w.first fs
    pub is_rep : rep fs x ≡ x
    pub is_clear : block_of w.first fs x ≡ Clear

  -- a rule makes new nodes with these facts
  pub data Generates : List (Fact ℕ) → Type 0 where
    by_some : (x c s e : ℕ) → IsOpen x → has fs x c ≡ true → shape_of w.table c ≡ some_of s e
        → filled_successors w.first (below_of w) fs x s e ≡ []
        → Generates (fresh_facts x s e (node_count_from w.first fs) 1)
    by_least : (x c n s e : ℕ) → IsOpen x → has fs x c ≡ true → shape_of w.table c ≡ at_least n s e
        → ((y : ℕ) → is_run w fs x s e n y ≡ false) → Generates (fresh_facts x s e (node_count_from w.first fs) n)

  -- ---- Choose

  -- there is something to choose
  pub data MayBranch : Branch → Type 0 where
    on_union : (x c : ℕ) (parts : List ℕ) → x < node_count_from w.first fs → has fs x c ≡ true
        → shape_of w.table c ≡ union parts
        → All (λ d. has fs x d ≡ false) parts → MayBranch (Or x c)
    on_filler : (x c n s e y : ℕ) → x < node_count_from w.first fs → has fs x c ≡ true
        → shape_of w.table c ≡ at_most n s e
        → is_successor fs (λ r. below_of w r s) x y ≡ true → has fs y e ≡ false
        → ((d : ℕ) → IsComplement w.table e d → has fs y d ≡ false)
        → MayBranch (Choose y e)
    on_pair : (x c n s e y z : ℕ) → x < node_count_from w.first fs → has fs x c ≡ true
        → shape_of w.table c ≡ at_most n s e
        → n < length (filled_successors w.first (below_of w) fs x s e)
        → Contains (filled_successors w.first (below_of w) fs x s e) y
        → Contains (filled_successors w.first (below_of w) fs x s e) z
        → ¬ (y ≡ z) → are_apart fs y z ≡ false → MayBranch (Pair y z)

-- the fact of an alternative, from 1, of a branch
pub data IsAlternative (table : List Shape) : Branch → ℕ → Fact ℕ → Type 0 where
  of_union : (x c k d : ℕ) (parts : List ℕ) → shape_of table c ≡ union parts → slice_get parts k ≡ Some d
      → IsAlternative table (Or x c) (k + 1) (Has x d)
  of_filler : (y e : ℕ) → IsAlternative table (Choose y e) 1 (Has y e)
  of_complement : (y e d : ℕ) → IsComplement table e d → IsAlternative table (Choose y e) 2 (Has y d)
  of_joining : (y z : ℕ) → IsAlternative table (Pair y z) 1 (Same y z)
  of_parting : (y z : ℕ) → IsAlternative table (Pair y z) 2 (Apart y z)

module _ (w : SearchContext) where
  abbrev pub HasClash : List Item → Type 0
  HasClash trail = IsClash w.first (below_of w) w.table (facts_of trail)

  abbrev pub HasPlainClash : List Item → Type 0
  HasPlainClash trail = IsPlainClash w.first (below_of w) w.table (facts_of trail)

  -- the mark of a choice at its next alternative
  abbrev pub next_choice : Choice → Choice
  next_choice c = record { line = c.line; branch = c.branch; alternative = c.alternative + 1 }

  -- a step from one trail to the next
  pub data IsLegal (old : List Item) : List Item → Type 0 where
    add : (x d : ℕ) → ¬ HasPlainClash old → Adds w (facts_of old) x d → has (facts_of old) x d ≡ false
        → IsLegal old (old ++ Says (Has x d) ∷ [])
    give : (f : Fact ℕ) → ¬ HasPlainClash old → IsGiven w f → is_so (facts_of old) f ≡ false
        → IsLegal old (old ++ Says f ∷ [])
    generate : (new : List (Fact ℕ)) → ¬ HasPlainClash old → Generates w (facts_of old) new
        → IsLegal old (old ++ says new)
    choose : (c : Choice) (f : Fact ℕ) → ¬ HasPlainClash old → MayBranch w (facts_of old) c.branch → c.alternative ≡ 1
        → IsAlternative w.table c.branch 1 f
        → IsLegal old (old ++ Mark c ∷ Says f ∷ [])
    back : (place : ℕ) (c : Choice) (f : Fact ℕ) → HasClash old → slice_get old place ≡ Some (Mark c)
        → IsAlternative w.table c.branch (c.alternative + 1) f
        → IsLegal old (take place old ++ Mark (next_choice c) ∷ Says f ∷ [])

  -- there is no plain clash, and nothing to add, to make or to choose, and each given fact is so; a concept that is to
  -- be carried and has no number in the table would be something to add
  pub record IsSaturated (trail : List Item) : Type 0 where
    pub no_clash : ¬ HasPlainClash trail
    pub no_add : (x d : ℕ) → Adds w (facts_of trail) x d → has (facts_of trail) x d ≡ true
    pub no_give : (f : Fact ℕ) → IsGiven w f → is_so (facts_of trail) f ≡ true
    pub no_carry : (x y c s t e : ℕ) → IsCarried w (facts_of trail) x y c s t e
        → (d : ℕ) × (shape_of w.table d ≡ all_of t e) × (has (facts_of trail) y d ≡ true)
    pub no_generate : (new : List (Fact ℕ)) → ¬ Generates w (facts_of trail) new
    pub no_choose : (b : Branch) (f : Fact ℕ) → MayBranch w (facts_of trail) b → ¬ IsAlternative w.table b 1 f
