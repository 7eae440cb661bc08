use Rattle.std.proofs.Common.{◌≡◌, drop}
use Rattle.std.specs.Prelude.{slice_get}
use Rattle.shq_nnf.specs.Facts.{apart_facts}
use Rattle.shq_nnf.specs.Facts.{nth_fact}
use Rattle.refutation_rules.proofs.assertions.pair_at.Given as goal

-- the pair is at this place among those of the individuals from here on
abbrev pub invariant-loop-first : goal.invariant-loop-first
invariant-loop-first l =
    slice_get (apart_facts (drop l.first l.individuals)) l.rest ≡ nth_fact (apart_facts l.individuals) l.place
