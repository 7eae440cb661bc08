use Rattle.std.proofs.Common.{◌+◌, ◌∙◌, ap, sym, subst}
use Rattle.shq_meaning.specs.Truth.{holds}
use Rattle.finite_model.specs.ModelLists.{meaning}
use Rattle.realizer.proofs.Pruned.{AreKeptTo, keeps_next, takes_next}
use Rattle.realizer.proofs.asking.keep_members.Goals.{then-not-holds, else-not-holds}
use Rattle.realizer.proofs.asking.keep_members.Goals as goal

pub loop-individual-preserved : goal.loop-individual-preserved
loop-individual-preserved c =
    let i = meaning c.args.model.now in
    let class = c.args.class.now in
    let from = c.args.from in
    let to = c.loop-individual.individual in
    let old = c.args.individuals.now in
    let now = c.loop-individual.individuals in
    let at = ap (holds i class) (sym c.individual-element.ensures.element) ∙ sym c.holds.ensures in
    elim c.if-not-holds.branch [
      | then-not-holds w ↦
          subst (AreKeptTo i class from (to + 1) old) (sym w.individuals-is)
          (takes_next i class from to old now c.loop-individual.invariant c.loop-individual.auto.individual
          w.take.new.self (at ∙ w.if-not-holds.true) w.take.ensures.limit w.take.ensures.members)
      | else-not-holds w ↦
          subst (AreKeptTo i class from (to + 1) old) (sym w.individuals-is)
          (keeps_next i class from to old now c.loop-individual.invariant c.loop-individual.auto.individual
          (at ∙ w.if-not-holds.false))
    ]
