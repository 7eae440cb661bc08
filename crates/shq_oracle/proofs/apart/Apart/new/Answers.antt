use Rattle.std.proofs.Common.{sym, subst}
use Rattle.axiom_sets.specs.Sets.{Limited}
use Rattle.shq_terms.specs.Concept.{Concept}
use Rattle.run_log.specs.HonestLog.{IsAxiomSet}
use Rattle.shq_oracle.specs.ApartLists.{AreApart}
use Rattle.shq_oracle.proofs.apart.Apart.new.Goals as goal

pub invariant_of-result : goal.invariant_of-result
invariant_of-result c =
    let o = c.args.ontology.now in
    record {
      of_axioms = subst (IsAxiomSet o) (sym c.in_ok-axioms.ensures) c.requires.of_axioms;
      apart =
          subst (λ (s : Limited). AreApart o s c.in_ok-expression.expression c.args.steps c.args.classes)
          (sym c.in_ok-axioms.ensures)
          (subst (λ (u : Concept). AreApart o c.args.set.now u c.args.steps c.args.classes)
          (sym c.in_ok-expression.ensures) c.requires.apart);
    }
