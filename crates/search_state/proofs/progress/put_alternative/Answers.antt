use Rattle.std.proofs.Common.{ℕ, sym, subst, List}
use Rattle.calculus_specs.specs.declared.facts.Fact.{Fact}
use Rattle.calculus_specs.specs.State.{node_count_from}
use Rattle.step_agenda.specs.Entries.{IsFit}
use Rattle.step_agenda.specs.Trail.{TreeEntries, facts_in}
use Rattle.search_state.proofs.Entries.{facts-marked}
use Rattle.search_state.proofs.progress.put_alternative.Goals as goal

pub add-requires : goal.add-requires
add-requires g c =
    subst (λ (t : TreeEntries). IsFit (node_count_from t.first (facts_in t.entries)) c.args.fact)
    (sym c.in_ok-put_mark.ensures.marked)
    (subst (λ (fs : List (Fact ℕ)). IsFit (node_count_from c.args.tree.now.first fs) c.args.fact)
    (sym (facts-marked c.args.tree.now.entries c.args.choice)) c.requires)
