use Rattle.model_builder.proofs.Walked.{waiting_within, ends_within, walked_on, walk_is_over, nothing_left}
use Rattle.model_builder.proofs.walk.walk.Goals as goal

pub bounds-next-x : goal.bounds-next-x
bounds-next-x c = waiting_within _ _ c.requires.begin _ _ _ _ c.loop-x.invariant c.in-Some.ensures.items

pub visit-requires : goal.visit-requires
visit-requires c =
    rw c.items.ensures
    (ends_within _ _ c.requires.begin _ _ _ _ c.loop-x.invariant c.in-Some.ensures.items _ c.index-next-x.is
    c.requires.inside)

pub loop-x-preserved : goal.loop-x-preserved
loop-x-preserved c =
    walked_on _ _ c.requires.begin _ _ _ _ c.loop-x.invariant c.in-Some.ensures.items _ c.index-next-x.is _ _
    (rw c.items.ensures at c.in_ok-visit.ensures)

pub returns : goal.returns
returns c =
    walk_is_over _ _ _ _ c.requires.begin c.loop-x.invariant
    (nothing_left _ _ _ c.in_default.ensures.items c.in_default.ensures.rest c.in_default.ensures.cases.0)
