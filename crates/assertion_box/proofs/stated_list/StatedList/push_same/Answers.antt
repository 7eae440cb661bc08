use Rattle.std.proofs.Common.{drop, ◌-◌, arith}
use Rattle.std.proofs.lemmas.List.{length-drop}
use Rattle.refutation_truth.specs.Facts.{same_facts}
use Rattle.assertion_box.proofs.Listing.{none_left, few_same}
use Rattle.assertion_box.proofs.stated_list.StatedList.push_same.Goals as goal

pub returns : goal.returns
returns c =
    let rest = drop (c.loop-next.next - 1) c.args.individuals.now in
    none_left c.args.number c.loop-next.next c.loop-next.self _ (same_facts rest)
    (few_same rest (omega (
      arith,
      c.loop-next-test.false,
      c.loop-next.auto.next-end,
      length-drop (c.loop-next.next - 1) c.args.individuals.now,
    )))
    c.loop-next.invariant.same
