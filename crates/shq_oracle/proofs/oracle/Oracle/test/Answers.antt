use Rattle.std.proofs.Common.{◌∙◌}
use Rattle.shq_oracle.specs.declared.answer.Outcome.{Outcome}
use Rattle.shq_oracle.proofs.Adding.{spends_all}
use Rattle.shq_oracle.proofs.oracle.Oracle.test.Goals as goal

pub returns-clause-spent : goal.returns-clause-spent
returns-clause-spent c =
    let t = c.in_ok-tested.field-0 in
    spends_all (λ (v : Outcome). v) c.args.set.now c.args.query.now c.left-fuel.result t.steps t.ended t.outcome
    c.args.self.now c.keep_rules.new.self c.note_outcome.new.self c.left-fuel.ensures.left
    (c.keep_rules.ensures ∙ c.take_rules.ensures.same) c.in_ok-tested.ensures.tested.test.fueled
    c.note_outcome.ensures.same_budget c.note_outcome.result c.note_outcome.ensures.outcome
    c.note_outcome.ensures.entry
