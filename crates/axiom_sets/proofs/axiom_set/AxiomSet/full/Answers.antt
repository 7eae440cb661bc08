use Rattle.axiom_sets.proofs.Kept.{full_kept, full_contains}
use Rattle.axiom_sets.proofs.axiom_set.AxiomSet.full.Goals as goal

pub invariant_of-result : goal.invariant_of-result
invariant_of-result c =
    full_kept c.args.limit c.in_ok-words.words.len c.in_ok-words.words.items c.deref_mut.result.now
    c.take_number.new.words c.in_ok-words.ensures c.in_ok-words.words.ok.0 c.deref_mut.ensures.value
    c.take_number.auto.words c.take_number.ensures
    c.ranges.limit.fits

pub returns-clause-members : goal.returns-clause-members
returns-clause-members c =
    full_contains c.args.limit c.in_ok-words.words.len c.in_ok-words.words.items c.deref_mut.result.now
    c.take_number.new.words c.in_ok-words.ensures c.in_ok-words.words.ok.0 c.deref_mut.ensures.value
    c.take_number.auto.words c.take_number.ensures
