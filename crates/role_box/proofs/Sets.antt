-- What the changes of a set of roles say of each role.
use Rattle.std.proofs.Common.{◌≡◌, ℕ, ◌||◌, eqb, Bool, false, List, ap, sym, ◌∙◌, eq-eqb}
use Rattle.std.specs.Prelude.{replicate}
use Rattle.std.specs.Ordering.{nat_cmp}
use Rattle.std.specs.Cmp.{nat_cmp_total}
use Rattle.std.specs.FinSet as sets
use Rattle.std.proofs.Math.Bool.{or_comm}
use Rattle.std.proofs.lemmas.Bool.{eqb-true}
use Rattle.shq_terms.proofs.Bools.{same_truth}
use Rattle.lane_sieve.specs.Sets.{NumberSet, number_set}
use Rattle.lane_sieve.proofs.Bits.{contains_insert}
use Rattle.lane_sieve.proofs.Vectors.{number_set-zeros}
use Rattle.role_box.specs.Rows.{has}

pub has_none : (s : ℕ) → has (replicate 16 0) s ≡ false
has_none s = ap (λ (t : NumberSet). sets.contains t s) (number_set-zeros 16) ∙ sets.contains-empty nat_cmp s

eqb_turned : (a b : ℕ) → eqb a b ≡ eqb b a
eqb_turned a b =
    same_truth (eqb a b) (eqb b a) (λ h. eq-eqb b a (sym (eqb-true a b h))) (λ h. eq-eqb a b (sym (eqb-true b a h)))

pub has_put : (old new : List ℕ) (r s : ℕ) → number_set new ≡ sets.insert (number_set old) r
    → has new s ≡ (has old s || eqb r s)
has_put old new r s e =
    ap (λ (t : NumberSet). sets.contains t s) e ∙ contains_insert (number_set old) r s
    ∙ ap (λ (b : Bool). b || has old s) (eqb_turned s r) ∙ or_comm (eqb r s) (has old s)

pub has_united : (old others new : List ℕ) (s : ℕ) → number_set new ≡ sets.union (number_set old) (number_set others)
    → has new s ≡ (has old s || has others s)
has_united old others new s e =
    ap (λ (t : NumberSet). sets.contains t s) e
    ∙ sets.contains-union nat_cmp_total (number_set old) (number_set others) s
