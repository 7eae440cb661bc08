use Rattle.std.proofs.Common.{◌∙◌, sym, subst}
use Rattle.std.proofs.lemmas.List.Elements.{All-push}
use Rattle.audit_file.specs.Fitting.{IsOfAxioms, AreOfAxioms}
use Rattle.audit_file.specs.declared.entries.Justification.{Justification}
use Rattle.audit_file.proofs.reading.read_justification.Goals as goal

pub returns-clause-of_axioms : goal.returns-clause-of_axioms
returns-clause-of_axioms c =
    subst (AreOfAxioms c.args.ontology.now) (sym c.in_ok-put_justification.ensures.put)
    (record {
      justified =
          All-push (λ (j : Justification). IsOfAxioms c.args.ontology.now j.set) c.args.audit.now.justifications
          (record { set = c.in_ok-set.set; refutation = c.in_ok-refutation.refutation }) c.requires.justified
          (c.in_ok-set.ensures.limit ∙ c.axiom_count.ensures.count);
      repaired = c.requires.repaired;
    })
