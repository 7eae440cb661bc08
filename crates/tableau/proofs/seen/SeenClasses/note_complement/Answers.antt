use Rattle.std.proofs.Common.{subst}
use Rattle.tableau.specs.Seen.{SeenSets, is_complement, HasGained}
use Rattle.tableau.proofs.seen.SeenClasses.note_complement.Goals as goal

pub returns-clause-complements : goal.returns-clause-complements
returns-clause-complements g c =
    let table = (g.R.Rules.context c.args.rules.now).table in
    subst
    (λ (s : SeenSets). HasGained (λ a. is_complement table a c.args.concept) s.complements c.put_complement.new.set)
    c.self.view_is c.put_complement.ensures
