use Rattle.std.proofs.Common.{◌++◌, subst, sym, ◌∙◌, ap, ℕ, List}
use Rattle.calculus_specs.specs.Rows.{conjuncts_in}
use Rattle.calculus_specs.specs.Shape.{shape_of}
use Rattle.calculus_specs.specs.Tree.{tree_of}
use Rattle.shq_nnf.specs.Numbers.{AreNumbers}
use Rattle.shq_nnf.specs.Opened.{conjunct_numbers_of}
use Rattle.shq_nnf.proofs.Stable.{conjuncts_of_number}
use Rattle.shq_nnf.proofs.concepts.Concepts.conjunct_list.Goals as goal

pub returns : goal.returns
returns c =
    let t = c.args.self.now in
    let k = c.args.concept in
    let pushed = ap (λ (l : List ℕ). l ++ conjunct_numbers_of k (shape_of t k)) c.new-members.ensures.items in
    subst (λ ns. AreNumbers t ns (conjuncts_in (tree_of t k)))
    (sym (c.in_ok-numbers.ensures ∙ c.deref.ensures.value ∙ c.in_ok-push_conjuncts.ensures ∙ pushed))
    (conjuncts_of_number t c.len-count.ensures.table k c.requires)
