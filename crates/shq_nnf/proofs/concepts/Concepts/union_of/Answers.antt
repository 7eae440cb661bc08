use Rattle.std.proofs.Common.{IfOk, map, length, subst, ◌∙◌, ap, ltb}
use Rattle.std.specs.List.{list_all}
use Rattle.shq_meaning.specs.Concept.{Concept}
use Rattle.calculus_specs.specs.Shape.{shape_of}
use Rattle.calculus_specs.specs.Tree.{tree_of}
use Rattle.shq_nnf.specs.Numbers.{IsNumber}
use Rattle.shq_nnf.specs.Opened.{is_open_disjunct, open_union}
use Rattle.shq_nnf.proofs.Opened.{disjuncts_listed, disjuncts_open, disjunct_trees}
use Rattle.shq_nnf.proofs.concepts.Concepts.union_of.Goals as goal

pub unite-requires-clause-listed : goal.unite-requires-clause-listed
unite-requires-clause-listed c =
    let t = c.args.self.now in
    ap (list_all (λ k. ltb k (length t))) (c.deref.ensures.value ∙ c.in_ok-members.ensures)
    ∙ disjuncts_listed t c.len-count.ensures.table c.args.parts.now c.requires

pub unite-requires-clause-opened : goal.unite-requires-clause-opened
unite-requires-clause-opened c =
    let t = c.args.self.now in
    ap (list_all (λ k. is_open_disjunct (shape_of t k))) (c.deref.ensures.value ∙ c.in_ok-members.ensures)
    ∙ disjuncts_open t c.len-count.ensures.table c.args.parts.now c.requires

pub returns-clause-number : goal.returns-clause-number
returns-clause-number c =
    let t = c.args.self.now in
    subst (λ (k : Concept). IfOk c.unite.result (λ n. IsNumber c.unite.new.self n k))
    (ap open_union
    (ap (map (tree_of t)) (c.deref.ensures.value ∙ c.in_ok-members.ensures)
    ∙ disjunct_trees t c.len-count.ensures.table c.args.parts.now c.requires))
    c.unite.ensures.number
