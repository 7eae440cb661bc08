use Rattle.std.proofs.Common.{length, map, get_or, take, drop, refl, ap, ◌+◌, ◌-◌, arith, take_all}
use Rattle.std.proofs.lemmas.List.{length-append, length-drop}
use Rattle.calculus_specs.specs.declared.facts.Fact.TheVariants.{Apart}
use Rattle.assertion_box.specs.Stated.{numbered_facts}
use Rattle.assertion_box.proofs.Listing.{aparts_put, length-aparts}
use Rattle.assertion_box.proofs.stated_list.StatedList.push_different.Goals as goal

pub loop-first-preserved : goal.loop-first-preserved
loop-first-preserved c =
    let first = c.loop-first.first in
    let xs = c.args.individuals.now in
    let x = get_or xs first 0 in
    let rest = drop (first + 1) xs in
    let later = take (length xs - (first + 1)) rest in
    let all = take_all (length xs - (first + 1)) rest (omega (arith, length-drop (first + 1) xs)) in
    record {
      long = omega (
        arith,
        ap length c.in_ok-push_apart.ensures,
        length-append c.loop-first.self (numbered_facts c.args.number c.loop-first.place (map (Apart x) later)),
        length-aparts c.args.number c.loop-first.place x later,
        c.loop-first.invariant.long,
      );
      same =
          aparts_put c.args.number c.loop-first.place first xs c.loop-first.self _ c.push_apart.new.self _ later
          c.loop-first-test.true refl all c.in_ok-push_apart.ensures c.loop-first.invariant.same;
    }
