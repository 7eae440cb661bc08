use Rattle.shq_oracle.specs.Decided.{IsTestedBy}
use Rattle.shq_oracle.proofs.Honest.{within_fuel, whole_fuel}
use Rattle.shq_oracle.proofs.tested.tested_by.Goals as goal

pub returns-in-Saturated : goal.returns-in-Saturated
returns-in-Saturated g c =
    within_fuel (λ n. IsTestedBy c.args.search.now n c.args.wants_apart) c.args.search.now.steps c.args.fuel
    c.requires.within c.with_no.result c.with_no.ensures

pub returns-in-Closed : goal.returns-in-Closed
returns-in-Closed g c =
    within_fuel (λ n. IsTestedBy c.args.search.now n c.args.wants_apart) c.args.search.now.steps c.args.fuel
    c.requires.within c.with_yes.result (c.with_yes.ensures c.args.wants_apart)

pub returns-in-Spent : goal.returns-in-Spent
returns-in-Spent g c =
    whole_fuel (λ n. IsTestedBy c.args.search.now n c.args.wants_apart) c.args.search.now c.args.fuel c.args.end
    c.in-Spent.is c.requires.ended c.with_trail.result (c.with_trail.ensures c.args.wants_apart)
