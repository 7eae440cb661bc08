use Rattle.std.proofs.Common.{◌≤◌, ap, sym, ◌∙◌, arith}
use Rattle.std.specs.FinSet as set
use Rattle.lane_sieve.specs.Sets.{NumberSet}
use Rattle.edit_session.proofs.Members.{none_up_to, one_up, none_up, all_up}
use Rattle.edit_session.proofs.inclusion.grown.Goals as goal
use Rattle.edit_session.proofs.inclusion.grown.Goals.{then-has, else-has}

pub loop-below-init : goal.loop-below-init
loop-below-init c = record {
  limit = c.in_ok-grown.ensures.limit;
  members =
      none_up_to c.args.set.now.members c.in_ok-grown.grown.members c.args.set.now.limit
      c.limit-below-end.ensures.within c.in_ok-grown.ensures.members;
}

pub loop-below-preserved : goal.loop-below-preserved
loop-below-preserved c =
    let s = c.args.set.now.members in
    let t = c.loop-below.grown.members in
    elim c.if-has.branch [
      | then-has w ↦ record {
        limit = ap (λ g. g.limit) w.grown-is ∙ w.put.ensures.limit ∙ c.loop-below.invariant.limit;
        members =
            λ k. ap (λ g. set.contains g.members k) w.grown-is
            ∙ ap (λ (m : NumberSet). set.contains m k) w.put.ensures.members
            ∙ one_up s t c.loop-below.below c.loop-below.invariant.members (sym c.has.ensures ∙ w.if-has.true) k;
      }
      | else-has w ↦ record {
        limit = ap (λ g. g.limit) w.grown-is ∙ c.loop-below.invariant.limit;
        members =
            λ k. ap (λ g. set.contains g.members k) w.grown-is
            ∙ none_up s t c.loop-below.below c.loop-below.invariant.members (sym c.has.ensures ∙ w.if-has.false) k;
      }
    ]

pub returns-clause-members : goal.returns-clause-members
returns-clause-members c =
    let end : c.args.set.now.limit ≤ c.loop-below.below =
    omega (arith, c.limit-below-end.ensures.limit, c.loop-below-test.false) in
    all_up c.args.set.now.members c.loop-below.grown.members c.loop-below.below c.loop-below.invariant.members
    (λ k h. let w = c.limit-below-end.ensures.within k h in (w.0, omega (arith, w.1, end)))
