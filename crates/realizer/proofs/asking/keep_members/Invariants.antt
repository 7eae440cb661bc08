use Rattle.finite_model.specs.ModelLists.{meaning}
use Rattle.realizer.proofs.Pruned.{AreKeptTo}
use Rattle.realizer.proofs.asking.keep_members.Given as goal

abbrev pub invariant-loop-individual : goal.invariant-loop-individual
invariant-loop-individual l = AreKeptTo (meaning l.model) l.class l.from l.individual l.fn.individuals l.individuals
