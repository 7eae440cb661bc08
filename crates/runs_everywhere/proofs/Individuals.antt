-- Taxonomies, types, instances and reasons in every world.
use Rattle.std.proofs.Common.{inl, inr, refl}
use Rattle.all_worlds.specs.Worlds.{World}
use Rattle.job_inputs.specs.declared.status.Status.TheVariants.{Done}
use Rattle.runs_everywhere.specs.Laws.{IsTaxonomyIn, IsRealizationIn, AreFoundIn, AreExplainedIn}
use Rattle.runs_everywhere.specs.Laws.{TaxonomiesHoldIn, TypesHoldIn, InstancesHoldIn, ReasonsHoldIn}
use Rattle.runs_everywhere.proofs.Carried.{on_document, on_class}
use Rattle.runs_everywhere.proofs.Classes.{subsumption, types, instances, reasons}
use Rattle.ontology_jobs.proofs.Done.{never_long}

module _ {d : Type 0} (w : World d) where
  pub taxonomies_hold : TaxonomiesHoldIn w
  taxonomies_hold budget bytes out log (inl long) = absurd (never_long bytes out log Done refl long)
  taxonomies_hold budget bytes out log (inr (short, on)) =
      on_document _ (IsTaxonomyIn w out) bytes on (record {
        part_of = on.so.part_of;
        is_so = subsumption w bytes on.ontology on.kept on.is_document on.so.part_of on.so.is_so;
        text = on.so.text;
      })

  pub types_hold : TypesHoldIn w
  types_hold budget bytes out log (inl long) = absurd (never_long bytes out log Done refl long)
  types_hold budget bytes out log (inr (short, on)) =
      on_document _ (IsRealizationIn w out) bytes on (record {
        types = on.so.types;
        are_types = types w bytes on.ontology on.kept on.is_document on.so.types on.so.are_types;
        text = on.so.text;
      })

  pub instances_hold : InstancesHoldIn w
  instances_hold class budget bytes out log (inl long) = absurd (never_long bytes out log Done refl long)
  instances_hold class budget bytes out log (inr (short, on)) =
      on_class _ (AreFoundIn w out) class bytes on (record {
        found = on.so.found;
        are_instances = instances w class bytes on.ontology on.query on.is_question on.so.found on.so.are_instances;
        text = on.so.text;
      })

  pub reasons_hold : ReasonsHoldIn w
  reasons_hold class budget bytes out log (inl long) = absurd (never_long bytes out log Done refl long)
  reasons_hold class budget bytes out log (inr (short, on)) =
      on_class _ (AreExplainedIn w out) class bytes on (record {
        reasons = on.so.reasons;
        are_reasons = reasons w class bytes on.ontology on.query on.is_question on.so.reasons on.so.are_reasons;
        text = on.so.text;
      })
