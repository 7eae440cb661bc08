use Rattle.std.proofs.Common.{ℕ, Option, subst}
use Rattle.tableau.specs.Seen.{is_one, HasGained}
use Rattle.tableau.proofs.seen.put_complement.Goals as goal

pub returns : goal.returns
returns g c =
    subst (λ (found : Option ℕ). HasGained (λ a. is_one a found) c.args.set.now c.put_if.new.set)
    c.complement_of.ensures c.put_if.ensures
