use Rattle.std.proofs.Common.{◌≡◌, ◌∙◌, refl, sym, subst, inl, inr}
use Rattle.tableau_specs.specs.declared.Block.{Block}
use Rattle.tableau_specs.specs.declared.Block.TheVariants.{Clear, By}
use Rattle.blocking.specs.Hinted.{known_at, IsHint}
use Rattle.blocking.proofs.block_list.bound_of.Goals as goal

pub returns-in-Clear-clause-bound : goal.returns-in-Clear-clause-bound
returns-in-Clear-clause-bound c =
    let h = c.args.hints.now in
    let x = c.args.node in
    let k = known_at h.known x in
    let clear : k.hint ≡ Clear = sym c.hint.ensures.hint ∙ c.in-Clear.is in
    inl (refl, subst (λ (b : Block). IsHint h.known h.changed x k.label b) clear c.hint.ensures.holds)

pub returns-in-By-clause-bound : goal.returns-in-By-clause-bound
returns-in-By-clause-bound c =
    let h = c.args.hints.now in
    let x = c.args.node in
    let k = known_at h.known x in
    let by : k.hint ≡ By c.in-By.other = sym c.hint.ensures.hint ∙ c.in-By.is in
    inr (
      sym c.has_changed.ensures ∙ c.if-not-has_changed.true,
      subst (λ (b : Block). IsHint h.known h.changed x k.label b) by c.hint.ensures.holds,
    )
