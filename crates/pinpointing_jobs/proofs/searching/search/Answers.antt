use Rattle.std.proofs.Common.{◌≡◌, ◌∙◌, List, false, sym, subst}
use Rattle.std.specs.Prelude.{OnErr}
use Rattle.std.specs.List.{list_any}
use Rattle.query_asker.specs.Entry.{Entry}
use Rattle.query_asker.specs.Entries.{is_spent}
use Rattle.pinpointing_jobs.proofs.Searched.{alone_searched, alone_begun}
use Rattle.pinpointing_jobs.proofs.searching.search.Goals as goal

pub returns-clause-found : goal.returns-clause-found
returns-clause-found c =
    alone_searched c.args.ontology.now c.args.query.now c.args.budget c.new-oracle.result c.replace-begun.result
    c.search_with-outcome.new.oracle.log c.into_log.result
    c.new-oracle.ensures (c.replace-begun.ensures.value ∙ c.requires.unlogged) c.into_log.ensures
    c.search_with-outcome.result c.search_with-outcome.ensures.found

pub returns-clause-begun : goal.returns-clause-begun
returns-clause-begun c =
    alone_begun c.args.ontology.now c.args.query.now c.args.budget c.new-oracle.result c.replace-begun.result
    c.search_with-outcome.new.oracle.log c.into_log.result
    c.new-oracle.ensures (c.replace-begun.ensures.value ∙ c.requires.unlogged) c.into_log.ensures
    c.search_with-outcome.result c.search_with-outcome.ensures.begun

pub returns-clause-unspent : goal.returns-clause-unspent
returns-clause-unspent c =
    subst (λ (log : List Entry). OnErr c.search_with-outcome.result (list_any is_spent log ≡ false))
    (sym c.into_log.ensures) c.search_with-outcome.ensures.unspent
