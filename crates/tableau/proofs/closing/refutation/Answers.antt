use Rattle.std.proofs.Common.{◌≡◌, true, List, length, ap, subst, sym, ◌∙◌}
use Rattle.std.specs.List.{list_all}
use Rattle.axiom_sets.specs.Sets.{Limited}
use Rattle.shq_terms.specs.Listed.{Listed}
use Rattle.calculus_specs.specs.Shape.{Shape}
use Rattle.closed_search.specs.Finished.{are_over}
use Rattle.closed_search.specs.Named.{AreRoleAxioms}
use Rattle.closed_search.specs.Trace.{TraceLists, lines_in}
use Rattle.closed_search.specs.Refuted.{uses_names}
use Rattle.tableau.proofs.Names.{closing_is_over, closing_is_listed}
use Rattle.tableau.proofs.closing.refutation.Goals as goal

pub refutation_of-requires-clause-over : goal.refutation_of-requires-clause-over
refutation_of-requires-clause-over g c =
    subst (λ (table : List Shape). are_over (length table) (lines_in c.take_trace-trace.result) ≡ true)
    (sym c.concepts.ensures.concepts)
    (subst (λ (t : TraceLists). are_over (length c.args.rules.now.table) (lines_in t) ≡ true)
    (sym c.take_trace-trace.ensures.trace) (closing_is_over c.args.rules.now c.args.progress.now c.requires.closing))

pub refutation_of-requires-clause-listed : goal.refutation_of-requires-clause-listed
refutation_of-requires-clause-listed g c =
    subst (λ (o : Listed). list_all (uses_names o c.concepts.result.now) (lines_in c.take_trace-trace.result) ≡ true)
    (sym c.ontology.ensures)
    (subst (λ (table : List Shape). list_all (uses_names c.args.rules.now.ontology table)
    (lines_in c.take_trace-trace.result)
    ≡ true)
    (sym c.concepts.ensures.concepts)
    (subst
    (λ (t : TraceLists). list_all (uses_names c.args.rules.now.ontology c.args.rules.now.table) (lines_in t) ≡ true)
    (sym c.take_trace-trace.ensures.trace)
    (closing_is_listed c.args.rules.now c.args.progress.now c.requires.closing c.requires.from_nothing)))

pub refutation_of-requires-clause-role_limit : goal.refutation_of-requires-clause-role_limit
refutation_of-requires-clause-role_limit g c =
    c.role_axioms.ensures.limit ∙ sym (ap (λ (s : Limited). s.limit) c.set.ensures.set)

pub refutation_of-requires-clause-role_axioms : goal.refutation_of-requires-clause-role_axioms
refutation_of-requires-clause-role_axioms g c =
    let found = c.role_axioms.result.now.members in
    subst (λ (o : Listed). AreRoleAxioms o.axioms c.set.result.now.members found) (sym c.ontology.ensures)
    (subst (λ (s : Limited). AreRoleAxioms c.args.rules.now.ontology.axioms s.members found) (sym c.set.ensures.set)
    c.role_axioms.ensures.members)
