use Rattle.std.proofs.Common.{◌≡◌, true, [], ◌∷◌, ◌++◌, ◌∙◌, subst}
use Rattle.std.specs.Prelude.{IfOk, IfSome}
use Rattle.axiom_sets.specs.Sets.{Limited}
use Rattle.shq_terms.specs.Listed.{Listed}
use Rattle.run_log.specs.declared.entry.Entry.TheVariants.{Test}
use Rattle.shq_oracle.specs.OracleLists.{OracleLists}
use Rattle.shq_oracle.specs.ApartLists.{IsAbout}
use Rattle.shq_oracle.specs.Decided.{IsTested}
use Rattle.shq_oracle.specs.declared.answer.Shown.{Shown}
use Rattle.shq_oracle.proofs.Adding.{adds_shown, spends_all}
use Rattle.shq_oracle.proofs.oracle.Oracle.test_apart.Goals as goal

pub returns-clause-entry : goal.returns-clause-entry
returns-clause-entry c =
    let l = c.args.self.now in
    let s = c.args.set.now in
    let q = c.args.query.now in
    let fuel = c.left-fuel.result in
    let rules = c.in_ok-rules.rules in
    let t = c.in_ok-tested.field-0 in
    let r = c.note_shown.result in
    let after = c.note_shown.new.self.log in
    let same : c.keep_rules.new.self ≡ l = c.keep_rules.ensures ∙ c.take_rules.ensures.same in
    let tested : IsTested l.ontology s q fuel true t =
    subst (λ (o : Listed). IsTested o s q fuel true t) c.in_ok-rules.ensures.ontology
    (subst (λ (v : Limited). IsTested rules.ontology v q fuel true t) c.in_ok-rules.ensures.set
    c.in_ok-tested.ensures.tested) in
    let about =
    subst (λ (o : OracleLists). IfOk r (λ (v : Shown). IfSome v.apart (IsAbout o.ontology s q.sub))) same
    c.note_shown.ensures.about in
    let log =
    subst (λ (o : OracleLists). IfOk r (λ (v : Shown). after ≡ o.log ++ Test s q t.steps t.ended ∷ [])) same
    c.note_shown.ensures.entry in
    adds_shown l.ontology s q fuel l.log after t r c.take_rules.ensures.of_axioms tested c.note_shown.ensures.outcome
    about c.note_shown.ensures.counted c.note_shown.ensures.classes log

pub returns-clause-spent : goal.returns-clause-spent
returns-clause-spent c =
    let t = c.in_ok-tested.field-0 in
    spends_all (λ (s : Shown). s.outcome) c.args.set.now c.args.query.now c.left-fuel.result t.steps t.ended t.outcome
    c.args.self.now c.keep_rules.new.self c.note_shown.new.self c.left-fuel.ensures.left
    (c.keep_rules.ensures ∙ c.take_rules.ensures.same) c.in_ok-tested.ensures.tested.test.fueled
    c.note_shown.ensures.same_budget c.note_shown.result c.note_shown.ensures.outcome c.note_shown.ensures.entry
