use Rattle.std.proofs.Common.{List, sym, ◌∙◌, subst}
use Rattle.std.proofs.lemmas.Bool.{true≢false}
use Rattle.axiom_sets.specs.Sets.{Limited}
use Rattle.audit_check.specs.Territory.{ComesFrom, GrowsBy}
use Rattle.audit_check.proofs.Found.{empty_alone, empty_apart, from_root, all_transversals}
use Rattle.audit_check.proofs.Ascending.{same_is, is_same, not_more}
use Rattle.audit_check.proofs.listed.are_transversals.Goals as goal

pub put_transversals-requires-clause-alone : goal.put_transversals-requires-clause-alone
put_transversals-requires-clause-alone c = empty_alone c.args.sets.now c.in_ok-hit.hit c.in_ok-hit.ensures.members

pub put_transversals-requires-clause-apart : goal.put_transversals-requires-clause-apart
put_transversals-requires-clause-apart c =
    empty_apart c.in_ok-barred.barred c.in_ok-hit.hit c.in_ok-barred.ensures.members

pub returns-then-not-within : goal.returns-then-not-within
returns-then-not-within c =
    let sets = c.args.sets.now in
    let list = c.args.list.now in
    let new = c.put_transversals.new.found.items in
    let from = from_root c.args.limit sets c.in_ok-hit.hit c.in_ok-barred.barred new c.in_ok-hit.ensures.limit
    (subst (λ (xs : List Limited). ComesFrom sets c.in_ok-hit.hit c.in_ok-barred.barred xs new)
    c.new-found.ensures.items c.in_ok-within.ensures.from) in (
      λ f. absurd (true≢false (sym f)),
      λ are. absurd
          (not_more c.args.limit sets list new c.in_ok-within.ensures.order c.requires.order from are
          (c.in_ok-within.ensures.stopped c.if-not-within.true)),
    )

pub returns : goal.returns
returns c =
    let sets = c.args.sets.now in
    let list = c.args.list.now in
    let new = c.put_transversals.new.found.items in
    let are =
    all_transversals c.args.limit sets c.in_ok-hit.hit c.in_ok-barred.barred new c.in_ok-hit.ensures.limit
    c.in_ok-hit.ensures.members c.in_ok-barred.ensures.members
    (subst (λ (xs : List Limited). GrowsBy sets c.in_ok-hit.hit c.in_ok-barred.barred xs new) c.new-found.ensures.items
    (c.in_ok-within.ensures.grown c.if-not-within.false)) in (
      λ h. same_is c.args.limit sets list new c.in_ok-within.ensures.order c.requires.order are
          (sym c.deref.ensures.value ∙ c.are_same.ensures.0 h),
      λ are'. c.are_same.ensures.1
          (c.deref.ensures.value
          ∙ is_same c.args.limit sets list new c.in_ok-within.ensures.order c.requires.order are are'),
    )
