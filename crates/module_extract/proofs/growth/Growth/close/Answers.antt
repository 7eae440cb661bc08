use Rattle.std.proofs.Common.{◌∙◌, refl}
use Rattle.module_extract.proofs.Joined.{next_settled, places_within}
use Rattle.module_extract.proofs.growth.Growth.close.Goals as goal

pub look_at_all-requires-clause-within : goal.look_at_all-requires-clause-within
look_at_all-requires-clause-within c =
    places_within c.args.axioms.now c.args.users.now c.in-Some.name c.places.result.now c.requires.index
    c.places.ensures

pub loop-name-preserved : goal.loop-name-preserved
loop-name-preserved c = record {
  growing = λ q h. c.in_ok-look_at_all.ensures.growing q (c.loop-name.invariant.growing q h);
  limit = c.in_ok-look_at_all.ensures.limit ∙ c.loop-name.invariant.limit;
  settled =
      next_settled c.args.axioms.now c.args.users.now c.loop-name.self _ c.look_at_all.new.self c.in-Some.name
      c.places.result.now c.requires.index c.places.ensures refl refl
      c.in-Some.ensures.items c.in_ok-look_at_all.ensures c.loop-name.invariant.settled;
}

pub returns-clause-growing : goal.returns-clause-growing
returns-clause-growing c = c.loop-name.invariant.growing
