use Rattle.std.proofs.Common.{◌∙◌}
use Rattle.subsumption.specs.Rows.{holds}
use Rattle.realizer.specs.Realization.{type_lists}
use Rattle.realizer.specs.TypeRows.{typed_by}
use Rattle.realizer.proofs.Begun.{before_on}
use Rattle.realizer.proofs.Chains.{realization_log}
use Rattle.realizer.proofs.Realized.{type_lines_are, lines_listed}
use Rattle.realizer.proofs.Shown.{types_are_shown, still_settled}
use Rattle.realizer.proofs.realizing.lines_by.Goals as goal

pub returns-in_err-typing-clause-honest : goal.returns-in_err-typing-clause-honest
returns-in_err-typing-clause-honest c =
    realization_log c.args.ontology.now c.args.oracle.now.budget c.args.oracle.now.log c.requires.honest

pub settle_all-requires : goal.settle_all-requires
settle_all-requires c = record {
  before =
      before_on c.args.ontology.now c.args.oracle.now c.args.relation.now c.in_ok-typing.typing.axioms
      c.in_ok-typing.typing.rows.items c.requires.same c.requires.in_limit c.requires.honest c.requires.goes_on
      c.requires.settled
      c.in_ok-typing.ensures.axioms c.in_ok-typing.ensures.rows c.in_ok-typing.ensures.full;
}

pub returns-clause-listed : goal.returns-clause-listed
returns-clause-listed c =
    let r = c.args.relation.now in
    lines_listed c.args.ontology.now (holds r) c.in_ok-lines.lines
    (type_lines_are c.args.ontology.now c.settle_all.new.oracle r c.settle_all.new.self.axioms
    c.settle_all.new.self.rows.items c.in_ok-lines.lines (c.in_ok-settle_all.ensures.alike.ontology ∙ c.requires.same)
    c.in_ok-settle_all.ensures.ok
    (c.in_ok-lines.ensures
    ∙ (λ i. type_lists r.count (holds r) (c.individual_count.ensures.count i) (typed_by (c.deref.ensures.value i)))))

pub returns-clause-shown : goal.returns-clause-shown
returns-clause-shown c =
    types_are_shown c.args.ontology.now c.settle_all.new.oracle c.args.relation.now c.settle_all.new.self.axioms
    c.settle_all.new.self.rows.items (c.in_ok-settle_all.ensures.alike.ontology ∙ c.requires.same)
    c.in_ok-settle_all.ensures.ok

pub returns-clause-classes : goal.returns-clause-classes
returns-clause-classes c =
    still_settled c.args.ontology.now c.settle_all.new.oracle c.args.relation.now c.settle_all.new.self.axioms
    c.settle_all.new.self.rows.items (c.in_ok-settle_all.ensures.alike.ontology ∙ c.requires.same)
    c.in_ok-settle_all.ensures.ok
