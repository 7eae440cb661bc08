use Rattle.std.proofs.Common.{◌≤◌, length, subst, arith}
use Rattle.std.specs.List.{All}
use Rattle.std.proofs.lemmas.List.{take_all}
use Rattle.axiom_sets.specs.Sets.{IsWithin}
use Rattle.finite_model.specs.ReadBack.{IsKept}
use Rattle.finite_model.specs.Written.{uses_listed_names}
use Rattle.audit_file.specs.Written.{repair_text}
use Rattle.audit_file.specs.declared.entries.Repair.{Repair}
use Rattle.audit_file.proofs.Pushed.{text_more, all_more, fact_more}
use Rattle.audit_file.proofs.writing.push_each_repair.Goals as goal

pub loop-repair-preserved : goal.loop-repair-preserved
loop-repair-preserved c =
    let rs = c.args.repairs.now in
    let i = c.loop-repair.repair-index in
    let r = c.repair-item.result in
    let o = c.args.ontology.now in
    let lt = c.loop-repair-test.true in
    let is = c.repair-item.is in
    record {
      text =
          text_more rs i r lt is (repair_text o) c.args.text.now.items c.loop-repair.text.items
          c.push_repair.new.text.items c.loop-repair.invariant.text c.in_ok-push_repair.ensures.text;
      listed = all_more rs i r lt is (λ (x : Repair). uses_listed_names o x.model) c.loop-repair.invariant.listed;
      within =
          fact_more rs i r lt is (λ (x : Repair). IsWithin x.set.limit x.set.members) c.loop-repair.invariant.within
          c.push_repair.ensures.within;
      kept =
          fact_more rs i r lt is (λ (x : Repair). IsKept o x.model) c.loop-repair.invariant.kept
          c.in_ok-push_repair.ensures.kept;
    }

pub returns-clause-kept : goal.returns-clause-kept
returns-clause-kept c =
    let rs = c.args.repairs.now in
    let o = c.args.ontology.now in
    let past : length rs ≤ c.loop-repair.repair-index = omega arith in
    subst (All (λ (r : Repair). IsKept o r.model)) (take_all c.loop-repair.repair-index rs past)
    c.loop-repair.invariant.kept
