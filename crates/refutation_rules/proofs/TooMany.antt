-- The line of more successors than are allowed.
use Rattle.std.proofs.Common.{◌≡◌, ℕ, ◌+◌, ◌&&◌, eqb, Bool, List, [], length, Some, None, refl, ap, ◌∙◌}
use Rattle.calculus_specs.specs.Shape.Shape.{at_most as most_shape}
use Rattle.calculus_specs.specs.Tree.{tree_of}
use Rattle.shq_nnf.specs.Shapes.{form_of}
use Rattle.shq_nnf.specs.declared.shapes.Shape.{Shape as Shown}
use Rattle.shq_nnf.specs.declared.shapes.Shape.TheVariants as S
use Rattle.calculus_specs.specs.State.{all_apart}
use Rattle.branch_facts.specs.NumberedBranch.{NumberedBranch as Branch}
use Rattle.calculus_specs.specs.Line.Line.{most_line}
use Rattle.calculus_specs.specs.Rules.{when, are_fillers, most_children}
use Rattle.refutation_rules.specs.Outcomes.{known_of}
use Rattle.refutation_rules.specs.RefutationContext.{RefutationContext, theory, line_children, IsHeldShape}
use Rattle.refutation_rules.proofs.Reading.{all_apart-read}

pub most_held : (f : RefutationContext) (k : Branch) (x c n s e : ℕ) (ys : List ℕ)
    → IsHeldShape f k x c (most_shape n s e)
    → line_children f k (most_line x c ys)
    ≡ when (eqb (length ys) (n + 1) && are_fillers (theory f) (known_of f.table k) x s (tree_of f.table e) ys
    && all_apart k.facts ys)
    (Some [])
most_held f k x c n s e ys h =
    h.goes_on (most_children (theory f) (known_of f.table k) x ys)
    ∙ ap (λ (b : Bool). when
    (eqb (length ys) (n + 1) && are_fillers (theory f) (known_of f.table k) x s (tree_of f.table e) ys && b) (Some []))
    (all_apart-read f.table k.facts ys)

pub most_none : (f : RefutationContext) (k : Branch) (x c : ℕ) (ys : List ℕ) (s : Shown)
    → IsHeldShape f k x c (form_of s) → ((n r e : ℕ) → s ≡ S.Max n r e → ⊥)
    → line_children f k (most_line x c ys) ≡ None
most_none f k x c ys (S.Max n r e) h other = absurd (other n r e refl)
most_none f k x c ys _ h other = h.goes_on (most_children (theory f) (known_of f.table k) x ys)
