use Rattle.std.proofs.Common.{subst, sym, ap, ◌∙◌}
use Rattle.branch_facts.specs.declared.branch_facts.Entry.{Entry}
use Rattle.branch_facts.specs.Seen.{index_of, entry_facts, AreEntries}
use Rattle.branch_facts.proofs.Grown.{from_ok}
use Rattle.branch_facts.proofs.Entries.{entry_more, index_more}
use Rattle.branch_facts.proofs.branch_facts.BranchFacts.add.Goals as goal

pub invariant_of-self-else-is_err : goal.invariant_of-self-else-is_err
invariant_of-self-else-is_err c =
    let es = c.self.inside.entries.items in
    let entry : Entry =
    record { fact = c.args.fact; seen = c.lengths-seen.result.0; links = c.lengths-seen.result.1 } in
    let fine = sym c.if-is_err.ensures.value in
    let index = from_ok c.put-outcome.result _ fine c.put-outcome.ensures.index in
    let entries = from_ok c.put-outcome.result _ fine c.put-outcome.ensures.entries in
    let are =
    entry_more es c.self.inside.index entry c.self.invariant.1 c.self.invariant.0 c.lengths-seen.ensures.seen
    c.lengths-seen.ensures.links in (
      index_more es c.self.inside.index c.put-outcome.new.index entry c.self.invariant.0 index
          ∙ ap (λ us. index_of (entry_facts us)) (sym entries),
      subst AreEntries (sym entries) are,
    )
