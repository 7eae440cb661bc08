use Rattle.std.proofs.Common.{◌≡◌, ◌∙◌, ap, length}
use Rattle.realizer.specs.ClassNames.{are_listed}
use Rattle.individual_jobs.proofs.Realized.{instances_listed}
use Rattle.job_tests.proofs.realization_tests.are_members_by.Goals as goal

pub are_lines-requires : goal.are_lines-requires
are_lines-requires c =
    let o = c.args.ontology.now in
    ap (are_listed (length o.individuals)) c.items.ensures
    ∙ instances_listed o c.args.class.now c.in_ok-found.found c.in_ok-found.ensures.found
