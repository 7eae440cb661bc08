use Rattle.std.proofs.Common.{IfOk, map, length, subst, ◌∙◌, ap, ltb}
use Rattle.std.specs.List.{list_all}
use Rattle.shq_meaning.specs.Concept.{Concept}
use Rattle.calculus_specs.specs.Shape.{shape_of}
use Rattle.calculus_specs.specs.Tree.{tree_of}
use Rattle.shq_nnf.specs.Numbers.{IsNumber}
use Rattle.shq_nnf.specs.Opened.{is_open_conjunct, open_intersection}
use Rattle.shq_nnf.proofs.Opened.{conjuncts_listed, conjuncts_open, conjunct_trees}
use Rattle.shq_nnf.proofs.concepts.Concepts.intersection_of.Goals as goal

pub intersect-requires-clause-listed : goal.intersect-requires-clause-listed
intersect-requires-clause-listed c =
    let t = c.args.self.now in
    ap (list_all (λ k. ltb k (length t))) (c.deref.ensures.value ∙ c.in_ok-members.ensures)
    ∙ conjuncts_listed t c.len-count.ensures.table c.args.parts.now c.requires

pub intersect-requires-clause-opened : goal.intersect-requires-clause-opened
intersect-requires-clause-opened c =
    let t = c.args.self.now in
    ap (list_all (λ k. is_open_conjunct (shape_of t k))) (c.deref.ensures.value ∙ c.in_ok-members.ensures)
    ∙ conjuncts_open t c.len-count.ensures.table c.args.parts.now c.requires

pub returns-clause-number : goal.returns-clause-number
returns-clause-number c =
    let t = c.args.self.now in
    subst (λ (k : Concept). IfOk c.intersect.result (λ n. IsNumber c.intersect.new.self n k))
    (ap open_intersection
    (ap (map (tree_of t)) (c.deref.ensures.value ∙ c.in_ok-members.ensures)
    ∙ conjunct_trees t c.len-count.ensures.table c.args.parts.now c.requires))
    c.intersect.ensures.number
