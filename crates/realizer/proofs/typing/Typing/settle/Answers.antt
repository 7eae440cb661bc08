use Rattle.std.proofs.Common.{◌∙◌, ℕ, Some, refl, ap, subst}
use Rattle.axiom_sets.specs.Sets.{Limited}
use Rattle.subsumption.specs.Rows.{holds}
use Rattle.subsumption.specs.ClassSets.{has_class}
use Rattle.realizer.specs.Asked.{IsOpenClass}
use Rattle.realizer.proofs.Begun.{begins, ends_at}
use Rattle.realizer.proofs.Counting.{fewer_open}
use Rattle.realizer.proofs.typing.Typing.settle.Goals as goal

pub loop-types-init : goal.loop-types-init
loop-types-init c =
    let r = c.args.relation.now in
    record {
      amid =
          begins c.args.oracle.now r c.args.self.now.axioms c.args.individual c.args.self.now.rows.items
          c.requires.before c.requires.individual c.in_ok-types.types
          (ap (λ (s : Limited). s.limit) c.in_ok-types.ensures ∙ c.above.ensures.limit)
          (λ y ly. ap (λ (s : Limited). has_class s y) c.in_ok-types.ensures ∙ c.above.ensures.members y ly
          ∙ ap (λ (n : ℕ). holds r n y) c.class_count.ensures.count);
      alike = record { ontology = refl; budget = refl };
    }

pub loop-types-smaller : goal.loop-types-smaller
loop-types-smaller c =
    let count = c.args.relation.now.count in
    let a = c.args.individual in
    let rows = c.loop-types.self.rows.items in
    let types = c.loop-types.types in
    let found : IsOpenClass count rows a types (Some c.in-Some.class) =
    subst (IsOpenClass count rows a types) c.in-Some.is c.in_ok-class.ensures in
    fewer_open count a c.in-Some.class rows c.ask.new.self.rows.items types c.ask.new.types found.0 found.1
    c.in_ok-ask.ensures.closer

pub returns-clause-ok : goal.returns-clause-ok
returns-clause-ok c =
    ends_at c.loop-types.oracle c.args.relation.now c.loop-types.self.axioms c.args.individual
    c.loop-types.self.rows.items c.loop-types.types c.loop-types.invariant.amid c.in_ok-class.field-0
    c.in_ok-class.ensures c.in_default.not-Some
