-- Sets of marks.
use Rattle.std.proofs.Common.{◌≡◌, ℕ, ◌||◌, Bool, true, false, refl, ap, ◌∙◌, sym}
use Rattle.std.specs.Cmp.{nat_cmp_total}
use Rattle.std.specs.Ordering.{nat_cmp, eq_by_cmp}
use Rattle.std.specs.FinSet as sets
use Rattle.refutation_tree.specs.NumberSets.{NumberSet}

or_or : (a b : Bool) → (a || (b || false)) ≡ (b || a)
or_or true true = refl
or_or true false = refl
or_or false true = refl
or_or false false = refl

-- the union with the set of one mark has the mark more
pub union_one : (s : NumberSet) (m : ℕ) → sets.union s (sets.insert sets.empty m) ≡ sets.insert s m
union_one s m =
    sets.same_set nat_cmp_total sets.nat_cmp-IsAntisymmetric (sets.union s (sets.insert sets.empty m)) (sets.insert s m)
    (λ k.
    let one : sets.contains (sets.insert (sets.empty {R = nat_cmp}) m) k ≡ (eq_by_cmp nat_cmp k m || false) =
    sets.contains-insert nat_cmp_total sets.empty m k
    ∙ ap (λ (b : Bool). eq_by_cmp nat_cmp k m || b) (sets.contains-empty nat_cmp k) in
    sets.contains-union nat_cmp_total s (sets.insert sets.empty m) k
    ∙ ap (λ (b : Bool). sets.contains s k || b) one
    ∙ or_or (sets.contains s k) (eq_by_cmp nat_cmp k m)
    ∙ sym (sets.contains-insert nat_cmp_total s m k))
