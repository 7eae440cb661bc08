use Rattle.std.proofs.Common.{length, arith}
use Rattle.shq_terms.proofs.Uses.{all_use_more}
use Rattle.shq_terms.proofs.Added.{added_distinct, added_longer, added_within}
use Rattle.shq_terms.proofs.ontology.Ontology.add_class.Goals as goal

pub invariant_of-self : goal.invariant_of-self
invariant_of-self c =
    let o = c.self.inside in
    let told = c.add.ensures in
    let old = o.classes in
    let new = c.add.new.self in
    let longer = added_longer old new c.args.iri.now c.add.result told.added told.unchanged in (
      c.self.invariant.0,
      added_within old new c.args.iri.now 20000 c.add.result told.room told.unchanged c.self.invariant.1,
      c.self.invariant.2,
      c.self.invariant.3,
      all_use_more (length old) (length new) (length o.roles) (length o.roles) (length o.individuals)
          (length o.individuals) longer (omega arith) (omega arith) o.axioms.items c.self.invariant.4,
      added_distinct old new c.args.iri.now c.add.result told.added told.unchanged c.self.invariant.5,
      c.self.invariant.6,
      c.self.invariant.7,
    )
