use Rattle.std.proofs.Common.{List, subst}
use Rattle.axiom_sets.specs.Sets.{Limited}
use Rattle.audit_check.specs.Territory.{GrowsBy}
use Rattle.audit_check.proofs.Found.{empty_alone, empty_apart, all_transversals}
use Rattle.audit_check.proofs.search.transversals.Goals as goal

pub put_transversals-requires-clause-alone : goal.put_transversals-requires-clause-alone
put_transversals-requires-clause-alone c = empty_alone c.args.sets.now c.in_ok-hit.hit c.in_ok-hit.ensures.members

pub put_transversals-requires-clause-apart : goal.put_transversals-requires-clause-apart
put_transversals-requires-clause-apart c =
    empty_apart c.in_ok-barred.barred c.in_ok-hit.hit c.in_ok-barred.ensures.members

pub returns-clause-members : goal.returns-clause-members
returns-clause-members c =
    let sets = c.args.sets.now in
    let new = c.put_transversals.new.found.items in
    all_transversals c.args.limit sets c.in_ok-hit.hit c.in_ok-barred.barred new c.in_ok-hit.ensures.limit
    c.in_ok-hit.ensures.members c.in_ok-barred.ensures.members
    (subst (λ (xs : List Limited). GrowsBy sets c.in_ok-hit.hit c.in_ok-barred.barred xs new) c.new-found.ensures.items
    (c.in_ok-within.ensures.grown c.if-prove.false))
