use Rattle.std.proofs.Common.{◌∙◌, sym, subst}
use Rattle.std.proofs.lemmas.List.Elements.{All-push}
use Rattle.audit_file.specs.Fitting.{IsOfAxioms, AreOfAxioms}
use Rattle.audit_file.specs.declared.entries.Repair.{Repair}
use Rattle.audit_file.proofs.reading.read_repair.Goals as goal

pub returns-clause-of_axioms : goal.returns-clause-of_axioms
returns-clause-of_axioms c =
    subst (AreOfAxioms c.args.ontology.now) (sym c.in_ok-put_repair.ensures.put)
    (record {
      justified = c.requires.justified;
      repaired =
          All-push (λ (r : Repair). IsOfAxioms c.args.ontology.now r.set) c.args.audit.now.repairs
          (record { set = c.in_ok-set.set; model = c.in_ok-model.model }) c.requires.repaired
          (c.in_ok-set.ensures.limit ∙ c.axiom_count.ensures.count);
    })
