use Rattle.std.proofs.Common.{length, arith}
use Rattle.shq_terms.proofs.Uses.{all_use_more}
use Rattle.shq_terms.proofs.Added.{added_distinct, added_longer, added_within}
use Rattle.shq_terms.proofs.ontology.Ontology.add_role.Goals as goal

pub invariant_of-self : goal.invariant_of-self
invariant_of-self c =
    let o = c.self.inside in
    let told = c.add.ensures in
    let old = o.roles in
    let new = c.add.new.self in
    let longer = added_longer old new c.args.iri.now c.add.result told.added told.unchanged in (
      c.self.invariant.0,
      c.self.invariant.1,
      added_within old new c.args.iri.now 1000 c.add.result told.room told.unchanged c.self.invariant.2,
      c.self.invariant.3,
      all_use_more (length o.classes) (length o.classes) (length old) (length new) (length o.individuals)
          (length o.individuals) (omega arith) longer (omega arith) o.axioms.items c.self.invariant.4,
      c.self.invariant.5,
      added_distinct old new c.args.iri.now c.add.result told.added told.unchanged c.self.invariant.6,
      c.self.invariant.7,
    )
