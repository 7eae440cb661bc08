use Rattle.std.proofs.Common.{IfOk, subst, sym, ◌∙◌}
use Rattle.shq_meaning.specs.Concept.{Concept}
use Rattle.shq_nnf.specs.Numbers.{IsNumber}
use Rattle.shq_nnf.proofs.Numbers.{top_number}
use Rattle.shq_nnf.proofs.Opened.{union_with_top, union_without, union_is_normal, union_of_none, union_of_one}
use Rattle.shq_nnf.proofs.Opened.{union_of_many, listed_at}
use Rattle.shq_nnf.proofs.concepts.Concepts.unite.Goals as goal

pub returns-then-any_top-clause-number : goal.returns-then-any_top-clause-number
returns-then-any_top-clause-number c =
    let t = c.args.self.now in
    let good = c.len-count.ensures.table in
    subst (λ (k : Concept). IsNumber t 0 k)
    (union_with_top t good c.args.members.now c.requires.listed (sym c.any_top.ensures ∙ c.if-any_top.true))
    (top_number t good)

pub returns-in-empty-clause-number : goal.returns-in-empty-clause-number
returns-in-empty-clause-number c =
    let t = c.args.self.now in
    let good = c.len-count.ensures.table in
    subst (λ (k : Concept). IfOk c.put.result (λ n. IsNumber c.put.new.self n k))
    (sym (union_of_none t good c.args.members.now c.in-empty.len_below)
    ∙ union_without t good c.args.members.now c.requires.listed (sym c.any_top.ensures ∙ c.if-any_top.false))
    c.put.ensures.number

pub returns-in-len1-clause-number : goal.returns-in-len1-clause-number
returns-in-len1-clause-number c =
    let t = c.args.self.now in
    let good = c.len-count.ensures.table in
    record {
      listed = listed_at t good c.args.members.now c.requires.listed c.in-len1.len_at_least;
      stands_for =
          sym (union_of_one t good c.args.members.now c.in-len1.len_at_least c.in-len1.len_below)
          ∙ union_without t good c.args.members.now c.requires.listed (sym c.any_top.ensures ∙ c.if-any_top.false);
    }

pub put-requires-in_default-clause-normal : goal.put-requires-in_default-clause-normal
put-requires-in_default-clause-normal c =
    union_is_normal c.args.self.now c.len-count.ensures.table c.args.members.now c.requires.listed c.requires.opened
    (sym c.any_top.ensures ∙ c.if-any_top.false) c.in_default.len_at_least

pub returns-in_default-clause-number : goal.returns-in_default-clause-number
returns-in_default-clause-number c =
    let t = c.args.self.now in
    let good = c.len-count.ensures.table in
    subst (λ (k : Concept). IfOk c.put-in_default.result (λ n. IsNumber c.put-in_default.new.self n k))
    (union_of_many t good c.args.members.now c.in_default.len_at_least
    ∙ union_without t good c.args.members.now c.requires.listed (sym c.any_top.ensures ∙ c.if-any_top.false))
    c.put-in_default.ensures.number
