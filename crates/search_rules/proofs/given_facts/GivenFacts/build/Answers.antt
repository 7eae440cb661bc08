use Rattle.std.proofs.Common.{◌≡◌, true, List, sym, subst}
use Rattle.std.specs.List.{All}
use Rattle.assertion_box.specs.Stated.{Stated}
use Rattle.search_rules.specs.GivenFacts.{fact_has_counts}
use Rattle.search_rules.proofs.Giving.{stated_counts}
use Rattle.search_rules.proofs.given_facts.GivenFacts.build.Goals as goal

pub numbered-requires : goal.numbered-requires
numbered-requires c = record {
  counts =
      subst (λ (ss : List Stated). All (λ s. fact_has_counts s.fact ≡ true) ss) (sym c.in_ok-stated.ensures)
      (stated_counts c.args.ontology.now.axioms c.args.only.now c.requires.in_limit.counts);
}
