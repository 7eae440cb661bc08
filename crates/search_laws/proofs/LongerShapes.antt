-- Numbers of a table that grows keep what they stand for.
use Rattle.std.proofs.Common.{◌≡◌, ℕ, ◌<◌, List, ◌++◌, length, ap, ◌∙◌, sym, arith, length-append}
use Rattle.std.proofs.lemmas.List.{get_or_append_left}
use Rattle.calculus_specs.specs.Normal.{negated_form}
use Rattle.calculus_specs.specs.Shape.{Shape, shape_of}
use Rattle.calculus_specs.specs.Shape.Shape.{top}
use Rattle.calculus_specs.specs.Tree.{IsComplement}
use Rattle.calculus_specs.specs.declared.facts.Fact.{Fact}
use Rattle.calculus_specs.proofs.Tree.{tree_of-append}
use Rattle.tableau_specs.specs.declared.Branch.{Branch}
use Rattle.tableau_specs.specs.Steps.{IsAlternative}
use Rattle.tableau_specs.specs.Steps.IsAlternative.{of_union, of_filler, of_complement, of_joining, of_parting}
use Rattle.tableau_specs.proofs.Listed.{listed, BranchListed}

module _ (table more : List Shape) where
  pub same_shape : (c : ℕ) → c < length table → shape_of (table ++ more) c ≡ shape_of table c
  same_shape c lt = get_or_append_left table more top c lt

  pub shape_up : (c : ℕ) (s : Shape) → ¬ (s ≡ top) → shape_of table c ≡ s → shape_of (table ++ more) c ≡ s
  shape_up c s ne e = same_shape c (listed table c (λ k. ne (sym e ∙ k))) ∙ e

  pub shape_down : (c : ℕ) (s : Shape) → c < length table → shape_of (table ++ more) c ≡ s → shape_of table c ≡ s
  shape_down c s lt e = sym (same_shape c lt) ∙ e

  pub complement_up : (e d : ℕ) → e < length table → IsComplement table e d → IsComplement (table ++ more) e d
  complement_up e d lt neg = record {
    listed = omega (arith, neg.listed, length-append table more);
    negates =
        tree_of-append table more d neg.listed ∙ neg.negates ∙ ap negated_form (sym (tree_of-append table more e lt));
  }

  pub complement_down : (e d : ℕ) → e < length table → d < length table → IsComplement (table ++ more) e d
      → IsComplement table e d
  complement_down e d lt mt neg =
      record {
        listed = mt;
        negates = sym (tree_of-append table more d mt) ∙ neg.negates ∙ ap negated_form (tree_of-append table more e lt);
      }

  pub alternative_up : (b : Branch) (k : ℕ) (f : Fact ℕ) → BranchListed (length table) b → IsAlternative table b k f
      → IsAlternative (table ++ more) b k f
  alternative_up b k f lt (of_union x c k' d parts sh read) = of_union x c k' d parts (shape_up c _ (λ e. cc) sh) read
  alternative_up b k f lt (of_filler y e) = of_filler y e
  alternative_up b k f lt (of_complement y e d neg) = of_complement y e d (complement_up e d lt neg)
  alternative_up b k f lt (of_joining y z) = of_joining y z
  alternative_up b k f lt (of_parting y z) = of_parting y z
