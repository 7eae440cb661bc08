use Rattle.std.proofs.Common.{refl, arith, ◌∙◌}
use Rattle.blocking.proofs.Labels.{none_shown, one_shown}
use Rattle.blocking.proofs.print.print_of.Goals as goal

pub loop-concept-init : goal.loop-concept-init
loop-concept-init c = record { words = refl; shows = none_shown }

pub loop-concept-preserved : goal.loop-concept-preserved
loop-concept-preserved c = record {
  words = c.put_number.auto.words ∙ c.loop-concept.invariant.words;
  shows =
      one_shown c.loop-concept.print c.put_number.new.words c.args.concepts.now c.loop-concept.concept-index _
      (omega (arith, c.loop-concept-test.true)) refl c.put_number.ensures c.loop-concept.invariant.shows;
}
