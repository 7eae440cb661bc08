-- Laws of the test that one condition implies another.
use Rattle.std.proofs.Common.{◌≡◌, Bool, true, false, not, refl, ap}
use Rattle.std.proofs.lemmas.Bool.{or_right}
use Rattle.shq_meaning.specs.Truth.{implies}

pub implied : (a b : Bool) → implies a b ≡ true → a ≡ true → b ≡ true
implied true b h e = h
implied false b h e = cc

pub implies_from : (a b : Bool) → (a ≡ true → b ≡ true) → implies a b ≡ true
implies_from true b h = h refl
implies_from false b h = refl

pub implies_false : (a b : Bool) → a ≡ false → implies a b ≡ true
implies_false a b none = ap (λ v. implies v b) none

pub implies_true : (a b : Bool) → b ≡ true → implies a b ≡ true
implies_true a b h = or_right (not a) b h
