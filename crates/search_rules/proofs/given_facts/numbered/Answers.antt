use Rattle.std.proofs.Common.{List, ◌+◌, sym, subst}
use Rattle.ontology_limits.proofs.Numbers.{extends_twice}
use Rattle.step_finders.specs.declared.state.Given.{Given}
use Rattle.search_rules.specs.GivenFacts.{AreNumberedTo}
use Rattle.search_rules.proofs.Giving.{numbered_more}
use Rattle.search_rules.proofs.given_facts.numbered.Goals as goal

pub loop-place-preserved : goal.loop-place-preserved
loop-place-preserved c =
    let before = c.loop-place.concepts in
    let after = c.number_stated.new.concepts in
    let place = c.loop-place.place in
    record {
      kept = extends_twice c.args.concepts.now before after c.loop-place.invariant.kept c.in_ok-number.ensures.kept;
      are =
          subst (λ (gs : List Given). AreNumberedTo after c.args.stated.now gs (place + 1))
          (sym c.in_ok-push.ensures.items)
          (numbered_more before after c.in_ok-number.ensures.kept c.args.stated.now c.loop-place.given.items place
          c.in_ok-number.number c.loop-place.invariant.are c.in_ok-number.ensures.given);
    }
