use Rattle.std.proofs.Common.{◌∙◌}
use Rattle.shq_oracle.specs.Decided.{outcome_of}
use Rattle.shq_oracle.proofs.Adding.{same_outcome, spends_all}
use Rattle.shq_oracle.proofs.oracle.Oracle.decide.Goals as goal

pub returns-clause-spent : goal.returns-clause-spent
returns-clause-spent c =
    let f = c.in_ok-found.field-0 in
    spends_all outcome_of c.args.set.now c.args.query.now c.left-fuel.result f.steps f.ended (outcome_of f.answer)
    c.args.self.now c.keep_rules.new.self c.note.new.self c.left-fuel.ensures.left
    (c.keep_rules.ensures ∙ c.take_rules.ensures.same) c.in_ok-found.ensures.found.test.fueled
    c.note.ensures.same_budget c.note.result (same_outcome f.answer c.note.result c.note.ensures.answer)
    c.note.ensures.entry
