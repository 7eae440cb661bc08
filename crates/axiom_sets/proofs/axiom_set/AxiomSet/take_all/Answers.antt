use Rattle.std.proofs.Common.{◌≡◌, ◌∙◌, ◌++◌, List, ℕ, ap, take, drop, length}
use Rattle.std.specs.FinSet as set
use Rattle.lane_sieve.specs.Sets.{number_set}
use Rattle.lane_sieve.proofs.Vectors.{whole_back}
use Rattle.axiom_sets.proofs.Kept.{kept_after, difference_within}
use Rattle.axiom_sets.proofs.axiom_set.AxiomSet.take_all.Goals as goal

pub invariant_of-self : goal.invariant_of-self
invariant_of-self c =
    let xs = c.self.inside.words.items in
    let ws = c.subtract.new.xs in
    let os = c.other.inside.words.items in
    let limit = c.self.inside.limit in
    let same : length ws ≡ length xs = c.subtract.auto.xs ∙ ap length c.deref_mut.ensures.value in
    let back : take c.self.inside.words.len (ws ++ drop (length ws) xs) ≡ ws =
    whole_back c.self.inside.words.len ws xs same c.self.inside.words.ok.0 in
    let members : number_set ws ≡ set.difference (number_set xs) (number_set os) =
    c.subtract.ensures
    ∙ ap (λ (ys : List ℕ). set.difference (number_set ys) (number_set c.deref.result.now)) c.deref_mut.ensures.value
    ∙ ap (λ (ys : List ℕ). set.difference (number_set xs) (number_set ys)) c.deref.ensures.value in
    kept_after limit xs (take c.self.inside.words.len (ws ++ drop (length ws) xs))
    (set.difference (number_set xs) (number_set os)) c.self.invariant (ap length back ∙ same)
    (ap number_set back ∙ members)
    (difference_within limit (number_set xs) (number_set os) c.self.invariant.within)
