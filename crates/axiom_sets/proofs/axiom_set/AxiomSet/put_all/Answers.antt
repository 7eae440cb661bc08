use Rattle.std.proofs.Common.{◌≡◌, ◌∙◌, ◌++◌, List, ℕ, ap, sym, subst, take, drop, length}
use Rattle.std.specs.FinSet as set
use Rattle.lane_sieve.specs.Sets.{number_set}
use Rattle.lane_sieve.proofs.Vectors.{whole_back}
use Rattle.axiom_sets.specs.Sets.{Limited, IsWithin}
use Rattle.axiom_sets.proofs.Kept.{kept_after, union_within}
use Rattle.axiom_sets.proofs.axiom_set.AxiomSet.put_all.Goals as goal

pub invariant_of-self : goal.invariant_of-self
invariant_of-self c =
    let xs = c.self.inside.words.items in
    let ws = c.unite.new.xs in
    let os = c.other.inside.words.items in
    let limit = c.self.inside.limit in
    let same : length ws ≡ length xs = c.unite.auto.xs ∙ ap length c.deref_mut.ensures.value in
    let back : take c.self.inside.words.len (ws ++ drop (length ws) xs) ≡ ws =
    whole_back c.self.inside.words.len ws xs same c.self.inside.words.ok.0 in
    let members : number_set ws ≡ set.union (number_set xs) (number_set os) =
    c.unite.ensures
    ∙ ap (λ (ys : List ℕ). set.union (number_set ys) (number_set c.deref.result.now)) c.deref_mut.ensures.value
    ∙ ap (λ (ys : List ℕ). set.union (number_set xs) (number_set ys)) c.deref.ensures.value in
    let within : IsWithin limit (number_set os) =
    subst (λ (n : ℕ). IsWithin n (number_set os))
    (ap (λ (s : Limited). s.limit) c.other.view_is ∙ c.requires ∙ sym (ap (λ (s : Limited). s.limit) c.self.view_is))
    c.other.invariant.within in
    kept_after limit xs (take c.self.inside.words.len (ws ++ drop (length ws) xs))
    (set.union (number_set xs) (number_set os)) c.self.invariant (ap length back ∙ same) (ap number_set back ∙ members)
    (union_within limit (number_set xs) (number_set os) c.self.invariant.within within)
