use Rattle.std.proofs.Common.{◌≡◌, ◌<◌, length, subst, arith, ap, sym, ◌∙◌, take}
use Rattle.std.proofs.lemmas.List.{take-map}
use Rattle.branch_facts.specs.declared.branch_facts.Entry.{Entry}
use Rattle.branch_facts.specs.NumberedBranch.{NumberedBranch}
use Rattle.branch_facts.specs.Seen.{index_of, entry_facts, AreEntries}
use Rattle.branch_facts.proofs.Entries.{first_entries, cut_at_entry}
use Rattle.branch_facts.proofs.branch_facts.BranchFacts.undo_to.Goals as goal

pub invariant_of-self : goal.invariant_of-self
invariant_of-self c =
    let es = c.self.inside.entries.items in
    let m = c.args.mark.facts in
    let lt : m < length es = omega (arith, c.if-mark-len.true, c.len.ensures) in
    let cut =
    cut_at_entry m es c.self.inside.index c.index-entry.result.now lt c.self.invariant.1 c.self.invariant.0
    (sym c.index-entry.ensures) in
    let entries = first_entries m es (omega (arith, lt)) c.self.invariant.1 in
    let kept : c.truncate-then-mark-len.new.self.items ≡ take m es = c.truncate-then-mark-len.ensures.items in
    (c.cut.ensures ∙ cut ∙ ap (λ us. index_of (entry_facts us)) (sym kept), subst AreEntries (sym kept) entries)

pub returns-then-mark-len : goal.returns-then-mark-len
returns-then-mark-len c =
    let nodes = c.truncate.ensures.keys ∙ ap (λ (w : NumberedBranch). take c.args.mark.nodes w.nodes) c.self.view_is in
    let facts =
    ap entry_facts c.truncate-then-mark-len.ensures.items
    ∙ sym (take-map (λ (e : Entry). e.fact) c.args.mark.facts c.self.inside.entries.items)
    ∙ ap (λ (w : NumberedBranch). take c.args.mark.facts w.facts) c.self.view_is in
    λ k. record { nodes = nodes k; facts = facts k }
