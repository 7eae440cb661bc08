-- Alternatives of branches, and their facts.
use Rattle.std.proofs.Common.{◌≡◌, ℕ, ◌<◌, ltb, true, refl, List, length, sym, subst, arith}
use Rattle.calculus_specs.specs.Shape.{Shape}
use Rattle.calculus_specs.specs.declared.facts.Fact.{Fact}
use Rattle.calculus_specs.specs.declared.facts.Fact.TheVariants.{Has, Edge, Apart, Same}
use Rattle.std.proofs.lemmas.Bool.{and_parts, ltb-true}
use Rattle.tableau_specs.proofs.TreeShaped.{first_le}
use Rattle.step_agenda.specs.Entries.{IsFit}
use Rattle.tableau_specs.specs.declared.Branch.{Branch}
use Rattle.tableau_specs.specs.StepLaws.{BranchIsOn}
use Rattle.tableau_specs.specs.Steps.{SearchContext, IsAlternative}
use Rattle.calculus_specs.specs.State.{node_count_from, speaks_below}
use Rattle.step_finders.specs.declared.choosing.Choosing.{Choosing}
use Rattle.step_finders.specs.declared.choosing.Choosing.TheVariants as C
use Rattle.step_finders.specs.Choosing.{branch_of, HasGround}
use Rattle.step_lines.specs.Kinds.{part_count, alternative_count}
use Rattle.search_trace.specs.Trail.{makes_no_node}
use Rattle.search_state.proofs.Marks.{get-within}
use Rattle.tableau_specs.specs.Steps.IsAlternative.{of_union, of_filler, of_complement, of_joining, of_parting}

-- an alternative speaks of the nodes of its branch alone
pub alternative_fits : (table : List Shape) (n : ℕ) (b : Branch) (k : ℕ) (f : Fact ℕ) → IsAlternative table b k f
    → BranchIsOn n b → IsFit n f
alternative_fits table n b' k' f' (of_union x c k d parts sh get) on = on
alternative_fits table n b' k' f' (of_filler y e) on = on
alternative_fits table n b' k' f' (of_complement y e d is) on = on
alternative_fits table n b' k' f' (of_joining y z) on = on
alternative_fits table n b' k' f' (of_parting y z) on = on

-- and makes no node
pub alternative_makes_none : (first : ℕ) (table : List Shape) (b : Branch) (k : ℕ) (f : Fact ℕ)
    → IsAlternative table b k f → makes_no_node first f ≡ true
alternative_makes_none first table b' k' f' (of_union x c k d parts sh get) = refl
alternative_makes_none first table b' k' f' (of_filler y e) = refl
alternative_makes_none first table b' k' f' (of_complement y e d is) = refl
alternative_makes_none first table b' k' f' (of_joining y z) = refl
alternative_makes_none first table b' k' f' (of_parting y z) = refl

-- a branch with an alternative has one at least
pub alternative_counts : (table : List Shape) (b : Branch) (k : ℕ) (f : Fact ℕ) → IsAlternative table b k f
    → 0 < alternative_count table b
alternative_counts table b' k' f' (of_union x c k d parts sh get) =
    let long : 0 < length parts = omega (arith, get-within parts k d get) in
    subst (λ (s : Shape). 0 < part_count s) (sym sh) long
alternative_counts table b' k' f' (of_filler y e) = omega arith
alternative_counts table b' k' f' (of_complement y e d is) = omega arith
alternative_counts table b' k' f' (of_joining y z) = omega arith
alternative_counts table b' k' f' (of_parting y z) = omega arith

-- a choice speaks of nodes that are there
pub choice_on : (w : SearchContext) (fs : List (Fact ℕ)) (k : Choosing) → HasGround w fs k
    → BranchIsOn (node_count_from w.first fs) (branch_of k)
choice_on w fs (C.Union x c) h = h.is_node
choice_on w fs (C.Filler y e from r c) h = h.is_edge.end_is_node
choice_on w fs (C.Pair y z from r q c) h = (h.first_edge.end_is_node, h.second_edge.end_is_node)

-- ---- given facts

-- a fact of first nodes alone makes no node
pub given_makes_none : (w : SearchContext) (f : Fact ℕ) → speaks_below w.first f ≡ true → makes_no_node w.first f ≡ true
given_makes_none w (Has x c) h = refl
given_makes_none w (Edge r x y) h = (and_parts (ltb x w.first) (ltb y w.first) h).1
given_makes_none w (Apart y z) h = refl
given_makes_none w (Same y z) h = refl

-- and its nodes are there
pub given_fits : (w : SearchContext) (first : ℕ) (fs : List (Fact ℕ)) → first ≡ w.first → (f : Fact ℕ)
    → speaks_below w.first f ≡ true → IsFit (node_count_from first fs) f
given_fits w first fs is (Has x c) h = omega (arith, is, ltb-true x w.first h, first_le first fs)
given_fits w first fs is (Edge r x y) h =
    let b = and_parts (ltb x w.first) (ltb y w.first) h in (
      omega (arith, is, ltb-true x w.first b.0, first_le first fs),
      omega (arith, is, ltb-true y w.first b.1, first_le first fs),
    )
given_fits w first fs is (Apart y z) h =
    let b = and_parts (ltb y w.first) (ltb z w.first) h in (
      omega (arith, is, ltb-true y w.first b.0, first_le first fs),
      omega (arith, is, ltb-true z w.first b.1, first_le first fs),
    )
given_fits w first fs is (Same y z) h =
    let b = and_parts (ltb y w.first) (ltb z w.first) h in (
      omega (arith, is, ltb-true y w.first b.0, first_le first fs),
      omega (arith, is, ltb-true z w.first b.1, first_le first fs),
    )
