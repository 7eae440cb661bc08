-- Laws of clashes and of blocked nodes.
use Rattle.std.specs.Prelude.{◌≡◌, ℕ, ◌<◌, ◌≤◌, Bool, true, List, Some}
use Rattle.calculus_specs.specs.Shape.{Shape}
use Rattle.calculus_specs.specs.declared.facts.Fact.{Fact}
use Rattle.calculus_specs.specs.Joins.{rep}
use Rattle.calculus_specs.specs.State.{parent_from, is_label_part}
use Rattle.tableau_specs.specs.declared.Block.{Block}
use Rattle.tableau_specs.specs.declared.Block.TheVariants.{Clear, By, Under}
use Rattle.tableau_specs.specs.Blocked.{block_of}
use Rattle.tableau_specs.specs.Clash.{IsClash, IsPlainClash}

-- where a search finds a clash, some rule line without children has its premises
abbrev pub PlainClashIsClash : Type 0
PlainClashIsClash = (first : ℕ) (below : ℕ → ℕ → Bool) (table : List Shape) (fs : List (Fact ℕ))
    → IsPlainClash first below table fs → IsClash first below table fs

-- ---- blocked nodes

-- whether the parent of x, if it has one, has a clear representative
abbrev pub ParentIsClear : ℕ → List (Fact ℕ) → ℕ → Type 0
ParentIsClear first fs x = (p : ℕ) → parent_from first fs x ≡ Some p → block_of first fs (rep fs p) ≡ Clear

-- z is a clear representative below x that has the label of x
pub record MayBlock (first : ℕ) (fs : List (Fact ℕ)) (x z : ℕ) : Type 0 where
  pub is_less : z < x
  pub is_rep : rep fs z ≡ z
  pub is_clear : block_of first fs z ≡ Clear
  pub has_label : is_label_part fs x z ≡ true

-- what each answer says of a node that is no first node
abbrev pub BlockSays : ℕ → List (Fact ℕ) → ℕ → Block → Type 0
BlockSays first fs x Clear = ParentIsClear first fs x × ((z : ℕ) → ¬ MayBlock first fs x z)
BlockSays first fs x (By z) = ParentIsClear first fs x × MayBlock first fs x z
    × ((v : ℕ) → v < z → ¬ MayBlock first fs x v)
BlockSays first fs x Under = (p : ℕ) × (parent_from first fs x ≡ Some p) × ¬ (block_of first fs (rep fs p) ≡ Clear)

-- where parents are less than their nodes, as they are in each trail that a search reaches, first nodes are clear, and
-- any other node is what its block says
abbrev pub BlocksSayWhatTheyMean : Type 0
BlocksSayWhatTheyMean = (first : ℕ) (fs : List (Fact ℕ)) → ((x p : ℕ) → parent_from first fs x ≡ Some p → p < x)
    → ((x : ℕ) → x < first → block_of first fs x ≡ Clear)
    × ((x : ℕ) → first ≤ x → BlockSays first fs x (block_of first fs x))
