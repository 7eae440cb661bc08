use Rattle.classification_jobs.proofs.Same.{one_taxonomy, one_text}
use Rattle.classification_jobs.proofs.taxonomy_laws.taxonomies_are_unique.Goals as goal

pub returns-clause-taxonomy : goal.returns-clause-taxonomy
returns-clause-taxonomy c = one_taxonomy

pub returns-clause-text : goal.returns-clause-text
returns-clause-text c = one_text
