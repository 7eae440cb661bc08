use Rattle.std.proofs.Common.{◌≡◌, ◌≤◌, ◌∙◌, ◌++◌, List, ℕ, ap, take, drop, length, arith}
use Rattle.std.specs.FinSet as set
use Rattle.lane_sieve.specs.Sets.{number_set}
use Rattle.axiom_sets.specs.Sets.{Limited}
use Rattle.lane_sieve.proofs.Vectors.{whole_back}
use Rattle.axiom_sets.proofs.Kept.{kept_after, put_within}
use Rattle.axiom_sets.proofs.axiom_set.AxiomSet.put.Goals as goal

pub invariant_of-self : goal.invariant_of-self
invariant_of-self c =
    let xs = c.self.inside.words.items in
    let ws = c.put_number.new.words in
    let limit = c.self.inside.limit in
    let high : c.args.number ≤ limit = omega (arith, c.requires.high, ap (λ (s : Limited). s.limit) c.self.view_is) in
    let same : length ws ≡ length xs = c.put_number.auto.words ∙ ap length c.deref_mut.ensures.value in
    let back : take c.self.inside.words.len (ws ++ drop (length ws) xs) ≡ ws =
    whole_back c.self.inside.words.len ws xs same c.self.inside.words.ok.0 in
    let members : number_set ws ≡ set.insert (number_set xs) c.args.number =
    c.put_number.ensures ∙ ap (λ (ys : List ℕ). set.insert (number_set ys) c.args.number) c.deref_mut.ensures.value in
    kept_after limit xs (take c.self.inside.words.len (ws ++ drop (length ws) xs))
    (set.insert (number_set xs) c.args.number) c.self.invariant (ap length back ∙ same) (ap number_set back ∙ members)
    (put_within limit c.args.number (number_set xs) c.self.invariant.within c.requires.low high)
