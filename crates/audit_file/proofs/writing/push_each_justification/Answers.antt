use Rattle.axiom_sets.specs.Sets.{IsWithin}
use Rattle.refutation_tree.specs.Written.{names_are_listed}
use Rattle.audit_file.specs.Written.{justification_text}
use Rattle.audit_file.specs.declared.entries.Justification.{Justification}
use Rattle.audit_file.proofs.Pushed.{text_more, all_more, fact_more}
use Rattle.audit_file.proofs.writing.push_each_justification.Goals as goal

pub loop-justification-preserved : goal.loop-justification-preserved
loop-justification-preserved c =
    let js = c.args.justifications.now in
    let i = c.loop-justification.justification-index in
    let j = c.justification-item.result in
    let o = c.args.ontology.now in
    let lt = c.loop-justification-test.true in
    let is = c.justification-item.is in
    record {
      text =
          text_more js i j lt is (justification_text o) c.args.text.now.items c.loop-justification.text.items
          c.push_justification.new.text.items c.loop-justification.invariant.text
          c.in_ok-push_justification.ensures.text;
      listed =
          all_more js i j lt is (λ (x : Justification). names_are_listed o x.refutation)
          c.loop-justification.invariant.listed;
      within =
          fact_more js i j lt is (λ (x : Justification). IsWithin x.set.limit x.set.members)
          c.loop-justification.invariant.within c.push_justification.ensures.within;
    }
