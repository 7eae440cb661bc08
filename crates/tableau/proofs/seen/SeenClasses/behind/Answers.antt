use Rattle.std.proofs.Common.{[], ◌∷◌, subst}
use Rattle.calculus_specs.specs.declared.facts.Fact.TheVariants.{Has}
use Rattle.tableau.specs.Seen.{SeenSets, HasNoted}
use Rattle.tableau.proofs.NotedBehind.{noted_both}
use Rattle.tableau.proofs.Telling.{noted_still}
use Rattle.tableau.proofs.seen.SeenClasses.behind.Goals as goal

pub returns-clause-noted : goal.returns-clause-noted
returns-clause-noted g c =
    let table = (g.R.Rules.context c.args.rules.now).table in
    let at = c.args.at in
    let first = c.note_classes.new.self in
    let both = c.note_classes-2.new.self in
    noted_still at table (Has at c.args.sub ∷ Has at c.args.not_sup ∷ []) c.args.self.now both c.forget_apart.new.self
    (noted_both at table (Has at c.args.sub) (Has at c.args.not_sup) c.args.self.now first both
    (subst (λ (s : SeenSets). HasNoted at table (Has at c.args.sub ∷ []) s first) c.in_ok-seen.ensures
    c.note_classes.ensures.noted)
    c.note_classes-2.ensures.noted)
    c.forget_apart.ensures.same
