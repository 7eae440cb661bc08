use Rattle.std.proofs.Common.{◌≡◌, Some, ap, sym, ◌∙◌, arith}
use Rattle.std.proofs.lemmas.Result.{on_ok_weaker}
use Rattle.calculus_specs.specs.Shape.{shape_of}
use Rattle.search_rules.specs.Mosts.{filler_of_most}
use Rattle.search_rules.proofs.Counted.{filler_listed, none_more, one_more}
use Rattle.search_rules.proofs.mosts.push_most.Goals as goal

pub push_under-requires : goal.push_under-requires
push_under-requires c =
    let t = c.args.concepts.now in
    let is : filler_of_most (shape_of t c.args.number) ≡ Some c.in-Some.filler =
    sym (ap filler_of_most c.shape.ensures.shape) ∙ sym c.in-Some.ensures in
    let lt = filler_listed t c.len-count.ensures.table c.args.number c.in-Some.filler c.requires.listed is in
    omega (arith, lt, c.requires.count)

pub returns-in-Some-clause-mosts : goal.returns-in-Some-clause-mosts
returns-in-Some-clause-mosts c =
    let t = c.args.concepts.now in
    let is : filler_of_most (shape_of t c.args.number) ≡ Some c.in-Some.filler =
    sym (ap filler_of_most c.shape.ensures.shape) ∙ sym c.in-Some.ensures in
    let lt = filler_listed t c.len-count.ensures.table c.args.number c.in-Some.filler c.requires.listed is in
    on_ok_weaker c.push_under.result
    (λ set. one_more t c.len-count.ensures.table c.args.number c.in-Some.filler is c.args.lists.now.items
    c.push_under.new.lists.items (omega (arith, lt, c.requires.count)) set c.requires.before)
    c.push_under.ensures

pub returns-in-None-clause-mosts : goal.returns-in-None-clause-mosts
returns-in-None-clause-mosts c =
    λ d. none_more c.args.concepts.now c.len-count.ensures.table c.args.number
    (c.in-None.ensures ∙ ap filler_of_most c.shape.ensures.shape) d _ (c.requires.before d)
