use Rattle.std.proofs.Common.{ℕ, ◌+◌, List, [], drop, subst, sym, ◌∙◌, inl, inr, arith}
use Rattle.std.proofs.lemmas.Bool.{cases_lt}
use Rattle.std.proofs.lemmas.List.{drop_more, drop_all}
use Rattle.completion_tree.specs.Trail.{facts_in}
use Rattle.blocking.specs.Followed.{IsBound}
use Rattle.blocking.proofs.Hinted.{bound_found, none_found}
use Rattle.blocking.proofs.block_list.lowered.Goals as goal

pub loop-other-preserved : goal.loop-other-preserved
loop-other-preserved g c =
    let changed = c.args.changed.now in
    let at = c.loop-other.other-index in
    c.lower-least.ensures (drop (at + 1) changed)
    (subst (λ (left : List ℕ). IsBound (facts_in c.args.tree.now.entries) c.args.blocks.now c.args.node left c.loop-other.least)
    (drop_more changed at 0 (omega (arith, c.loop-other-test.true))) c.loop-other.invariant)

pub returns : goal.returns
returns g c =
    let fs = facts_in c.args.tree.now.entries in
    let blocks = c.args.blocks.now in
    let x = c.args.node in
    let least = c.loop-other.least in
    let b : IsBound fs blocks x [] least =
    subst (λ (left : List ℕ). IsBound fs blocks x left least)
    (drop_all c.loop-other.other-index c.args.changed.now (omega (arith, c.loop-other-test.false))) c.loop-other.invariant in
    elim (cases_lt least x) [
      | inl lt ↦ c.block_before.ensures.by lt ∙ sym (bound_found fs blocks x least b lt)
      | inr le ↦ c.block_before.ensures.clear le ∙ sym (none_found fs blocks x least b le)
    ]
