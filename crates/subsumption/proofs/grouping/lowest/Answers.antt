use Rattle.std.proofs.Common.{◌≡◌, ◌++◌, ◌∙◌, get_or, ap}
use Rattle.std.specs.List.{filter}
use Rattle.axiom_sets.specs.Sets.{Limited}
use Rattle.subsumption.specs.Rows.{holds}
use Rattle.subsumption.specs.ClassSets.{has_class, class_list}
use Rattle.subsumption.specs.Groups.{holds_no_other}
use Rattle.subsumption.proofs.Grouped.{lowest_filtered, members_pass, member_at, members_rest, no_other_by}
use Rattle.subsumption.proofs.Grouped.{still_holds, filtered_at}
use Rattle.subsumption.proofs.grouping.lowest.Goals as goal

pub loop-candidate-init : goal.loop-candidate-init
loop-candidate-init c =
    let rows = c.args.relation.now in
    let cs = c.deref-candidate-items.result.now in
    let set = c.args.set.now in
    let is : cs ≡ class_list set = c.deref-candidate-items.ensures.value ∙ c.in_ok-candidates.ensures in
    record {
      listed =
          (λ i. c.new-lowest.ensures.items i ++ filter (holds_no_other rows.count (holds rows) (has_class set)) cs)
          ∙ lowest_filtered rows.count (holds rows) (has_class set) cs set is c.requires;
      kept =
          still_holds rows.count (holds rows) (has_class set) set c.in_ok-left.left c.requires
          (ap (λ (s : Limited). s.limit) c.in_ok-left.ensures)
          (λ x. ap (λ (s : Limited). has_class s x) c.in_ok-left.ensures);
      pass = members_pass rows.count (holds rows) (has_class set) cs set is c.requires;
    }

pub is_lowest-passes-requires-clause-member : goal.is_lowest-passes-requires-clause-member
is_lowest-passes-requires-clause-member c =
    let rows = c.args.relation.now in
    member_at rows.count (holds rows) (has_class c.args.set.now) c.deref-candidate-items.result.now
    c.loop-candidate.candidate-index c.loop-candidate.left c.loop-candidate-test.true c.loop-candidate.invariant.kept
    c.loop-candidate.invariant.pass

pub loop-candidate-preserved : goal.loop-candidate-preserved
loop-candidate-preserved c =
    let rows = c.args.relation.now in
    let cs = c.deref-candidate-items.result.now in
    let i = c.loop-candidate.candidate-index in
    let test = has_class c.args.set.now in
    let now = c.loop-candidate.left in
    record {
      listed =
          filtered_at rows.count (holds rows) test cs i (holds_no_other rows.count (holds rows) test)
          c.is_lowest-passes.result c.loop-candidate.lowest.items c.push_if.new.classes.items _
          c.loop-candidate-test.true
          (c.is_lowest-passes.ensures.lowest
          ∙ no_other_by rows.count (holds rows) test now c.loop-candidate.invariant.kept (get_or cs i 0))
          c.in_ok-push_if.ensures.listed c.loop-candidate.invariant.listed;
      kept =
          still_holds rows.count (holds rows) test now c.is_lowest-passes.new.set c.loop-candidate.invariant.kept
          c.is_lowest-passes.ensures.limit c.is_lowest-passes.ensures.same;
      pass = members_rest rows.count (holds rows) test cs i c.loop-candidate-test.true c.loop-candidate.invariant.pass;
    }
