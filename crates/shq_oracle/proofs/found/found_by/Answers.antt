use Rattle.shq_oracle.specs.Decided.{IsFoundBy}
use Rattle.shq_oracle.proofs.Honest.{within_fuel, whole_fuel}
use Rattle.shq_oracle.proofs.found.found_by.Goals as goal

pub returns-in-Saturated : goal.returns-in-Saturated
returns-in-Saturated g c =
    within_fuel (IsFoundBy c.args.search.now) c.args.search.now.steps c.args.fuel c.requires.within c.with_model.result
    c.with_model.ensures

pub returns-in-Closed : goal.returns-in-Closed
returns-in-Closed g c =
    within_fuel (IsFoundBy c.args.search.now) c.args.search.now.steps c.args.fuel c.requires.within
    c.with_refutation.result c.with_refutation.ensures

pub returns-in-Spent : goal.returns-in-Spent
returns-in-Spent g c =
    whole_fuel (IsFoundBy c.args.search.now) c.args.search.now c.args.fuel c.args.end c.in-Spent.is c.requires.ended
    c.with_trail.result c.with_trail.ensures
