-- The alternatives of a branch: there is a first one, each later one has one before it, and each number has one.
use Rattle.std.proofs.Common.{◌≡◌, ℕ, ◌+◌, ◌<◌, leb, List, [], length, Some, refl, ap, ◌∙◌, sym, arith}
use Rattle.std.specs.Prelude.{slice_get}
use Rattle.std.specs.List.{list_all}
use Rattle.std.proofs.lemmas.Bool.{and_parts, leb-true}
use Rattle.calculus_specs.specs.Shape.{Shape, shape_of, is_normal, is_disjunct, IsTable}
use Rattle.calculus_specs.specs.Shape.Shape.{union}
use Rattle.calculus_specs.specs.Tree.{tree_of}
use Rattle.calculus_specs.specs.Normal.{negated_form}
use Rattle.calculus_specs.proofs.Unique.{numbers_unique}
use Rattle.calculus_specs.specs.declared.facts.Fact.{Fact}
use Rattle.calculus_specs.specs.declared.facts.Fact.TheVariants.{Has}
use Rattle.tableau_specs.specs.declared.Branch.{Branch}
use Rattle.tableau_specs.specs.Steps.{SearchContext, MayBranch, IsAlternative}
use Rattle.tableau_specs.specs.Steps.MayBranch.{on_union, on_filler, on_pair}
use Rattle.tableau_specs.specs.Steps.IsAlternative.{of_union, of_filler, of_complement, of_joining, of_parting}
use Rattle.tableau_specs.specs.LineLaws.{IsNumbered}
use Rattle.tableau_specs.specs.Lines.{children_of_branch}
use Rattle.tableau_specs.proofs.BranchLines.{alternatives_are_children}
use Rattle.tableau_specs.proofs.Listed.{listed}
use Rattle.guided_search.proofs.Places.{got}

-- a branch has a first alternative
pub first_there : (w : SearchContext) (fs : List (Fact ℕ)) → IsTable w.table → (b : Branch) → MayBranch w fs b
    → (f : Fact ℕ) × IsAlternative w.table b 1 f
first_there w fs good b (on_union x c parts lt h sh none) =
    let within = listed w.table c (λ is. let clash = sym sh ∙ is in cc) in
    let normal = sym (ap (is_normal w.table) sh) ∙ good.are_normal c within in
    let two = and_parts (leb 2 (length parts)) (list_all (λ d. is_disjunct (shape_of w.table d)) parts) normal in
    let part = got parts 0 (omega (arith, leb-true 2 (length parts) two.0)) in
    (Has x part.it, of_union x c 0 part.it parts sh part.is_there)
first_there w fs good b (on_filler x c n s e y lt h sh next none out) = (_, of_filler y e)
first_there w fs good b (on_pair x c n s e y z lt h sh more cy cz ne apart) = (_, of_joining y z)

-- a branch with an alternative has each one before it
pub one_before : (table : List Shape) (b : Branch) → IsNumbered table b → (n : ℕ) (f : Fact ℕ)
    → IsAlternative table b n f
    → (j : ℕ) → j < n → (g : Fact ℕ) × IsAlternative table b (j + 1) g
one_before table b numbered n f alternative j lt =
    let kids = alternatives_are_children table 0 [] b in
    let range = kids.in_range n f alternative in
    let child = got (children_of_branch 0 table [] b) j (omega (arith, range.1, lt)) in
    let at = kids.only numbered j child.it child.is_there in
    (at.0, at.1)

-- each number has one alternative at most
module _ (table : List Shape) (good : IsTable table) where
  same_fact : (b d : Branch) (n m : ℕ) (f g : Fact ℕ) → b ≡ d → n ≡ m → IsAlternative table b n f
      → IsAlternative table d m g → f ≡ g
  same_fact b d n m f g is at (of_union x c k p parts sh here) (of_union y e j r others shape there) =
      let k_is : k ≡ j = omega (arith, at) in
      let c_is : c ≡ e = cc in
      let x_is : x ≡ y = cc in
      let same : union parts ≡ union others = sym sh ∙ ap (shape_of table) c_is ∙ shape in
      let parts_are : parts ≡ others = cc in
      let read : Some p ≡ Some r =
      sym here ∙ ap (slice_get parts) k_is ∙ ap (λ (ps : List ℕ). slice_get ps j) parts_are ∙ there in
      cc
  same_fact b d n m f g is at (of_filler y e) (of_filler z c) = cc
  same_fact b d n m f g is at (of_complement y e c neg) (of_complement z h k out) =
      let e_is : e ≡ h = cc in
      let y_is : y ≡ z = cc in
      let trees : tree_of table c ≡ tree_of table k =
      neg.negates ∙ ap (λ (i : ℕ). negated_form (tree_of table i)) e_is ∙ sym out.negates in
      let c_is = numbers_unique table good c k neg.listed out.listed trees in
      cc
  same_fact b d n m f g is at (of_joining y z) (of_joining u v) = cc
  same_fact b d n m f g is at (of_parting y z) (of_parting u v) = cc
  same_fact b d n m f g is at _ _ = cc

  pub one_alternative : (b : Branch) (n : ℕ) (f g : Fact ℕ) → IsAlternative table b n f → IsAlternative table b n g
      → f ≡ g
  one_alternative b n f g one two = same_fact b b n n f g refl refl one two
