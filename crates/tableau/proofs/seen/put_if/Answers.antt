use Rattle.std.proofs.Common.{refl}
use Rattle.std.specs.Prelude.{Option}
use Rattle.std.proofs.Common.{ℕ, subst, sym}
use Rattle.tableau.specs.Seen.{is_one, HasGained}
use Rattle.tableau.proofs.Noting.{gains_none}
use Rattle.tableau.proofs.seen.put_if.Goals as goal

pub returns-in-Some : goal.returns-in-Some
returns-in-Some c =
    subst (λ (found : Option ℕ). HasGained (λ a. is_one a found) c.args.set.now c.put_class.new.set) (sym c.in-Some.is)
    c.put_class.ensures

pub returns-in-None : goal.returns-in-None
returns-in-None c =
    subst (λ (found : Option ℕ). HasGained (λ a. is_one a found) c.args.set.now c.args.set.now) (sym c.in-None.is)
    (gains_none c.args.set.now c.args.set.now _ (λ a. refl) refl)
