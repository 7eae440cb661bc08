use Rattle.std.proofs.Common.{ap, sym, subst, ◌∙◌}
use Rattle.branch_facts.specs.Seen.{Index as PlainIndex, through}
use Rattle.branch_facts.proofs.Links.{IsStep, step}
use Rattle.branch_facts.proofs.index.Index.representative.Goals as goal

pub loop-lower-smaller : goal.loop-lower-smaller
loop-lower-smaller c =
    let links = c.self.inside.links.entries in
    let x = c.loop-lower.reached in
    (subst (IsStep links x) (sym c.in-Some.ensures.value) (step links c.self.invariant x)).0

pub loop-lower-preserved : goal.loop-lower-preserved
loop-lower-preserved c =
    let links = c.self.inside.links.entries in
    let x = c.loop-lower.reached in
    let leads = (subst (IsStep links x) (sym c.in-Some.ensures.value) (step links c.self.invariant x)).1 in
    ap (λ (i : PlainIndex). through i.links c.in-Some.lower.now) (sym c.self.view_is) ∙ leads
    ∙ ap (λ (i : PlainIndex). through i.links x) c.self.view_is ∙ c.loop-lower.invariant

pub returns-clause-reached : goal.returns-clause-reached
returns-clause-reached c =
    let links = c.self.inside.links.entries in
    let x = c.loop-lower.reached in
    let stays = subst (IsStep links x) (sym c.in_default.ensures.value) (step links c.self.invariant x) in
    sym stays ∙ ap (λ (i : PlainIndex). through i.links x) c.self.view_is ∙ c.loop-lower.invariant

pub returns-clause-stays : goal.returns-clause-stays
returns-clause-stays c =
    let links = c.self.inside.links.entries in
    let x = c.loop-lower.reached in
    let stays = subst (IsStep links x) (sym c.in_default.ensures.value) (step links c.self.invariant x) in
    ap (λ (i : PlainIndex). through i.links x) (sym c.self.view_is) ∙ stays
