use Rattle.std.proofs.Common.{length, ap, ◌∙◌}
use Rattle.shq_terms.specs.Listed.{Listed}
use Rattle.finite_model.specs.ModelLists.{meaning}
use Rattle.model_builder.proofs.Whole.{built_by, is_counter_model, names_listed}
use Rattle.model_builder.proofs.model.build.Goals as goal

pub returns-clause-built : goal.returns-clause-built
returns-clause-built g c =
    built_by c.args.rules.now c.args.query.now c.args.tree.now.entries (meaning c.in_ok-model.model) c.requires.within
    c.requires.saturated
    c.concepts-concepts.result.now c.roles.result.now c.role_count-count.result c.args.tree.now.first
    c.concepts-concepts.ensures.concepts c.roles.ensures
    (c.role_count-count.ensures.count ∙ ap (λ (o : Listed). length o.roles) c.ontology.ensures) c.requires.first
    c.in_ok-model.ensures

pub returns-clause-counter_model : goal.returns-clause-counter_model
returns-clause-counter_model g c =
    is_counter_model c.args.rules.now c.args.query.now c.args.tree.now.entries (meaning c.in_ok-model.model)
    c.requires.within c.requires.saturated (returns-clause-built g c)

pub returns-clause-listed : goal.returns-clause-listed
returns-clause-listed g c =
    names_listed c.args.rules.now.ontology c.in_ok-model.model (returns-clause-counter_model g c).names_are_listed
    c.size-size.ensures.inside
