use Rattle.std.proofs.Common.{◌≡◌, ℕ, true, List, sym, ap, subst, ◌∙◌}
use Rattle.std.specs.FinSet as set
use Rattle.calculus_specs.specs.declared.facts.Fact.{Fact}
use Rattle.calculus_specs.specs.Joins.{rep}
use Rattle.calculus_specs.specs.State.{is_so}
use Rattle.fact_tree.specs.Told.{gives}
use Rattle.completion_tree.specs.Trail.{facts_in}
use Rattle.completion_tree.specs.Marks.{facts_within, first_node, second_node, is_join, AreWithin, SomeWithin}
use Rattle.completion_tree.proofs.Resting.{if_ok_both, some-more, holds-within, rep_stays}
use Rattle.completion_tree.proofs.marks.marks_through_joins.Goals as goal

pub with_joins-requires-clause-first : goal.with_joins-requires-clause-first
with_joins-requires-clause-first g c =
    let fs = c.args.facts.now.facts in
    ap (rep fs) c.ends-first.ensures.first ∙ rep_stays fs (first_node c.args.asked) ∙ sym c.ends-first.ensures.first

pub with_joins-requires-clause-second : goal.with_joins-requires-clause-second
with_joins-requires-clause-second g c =
    let fs = c.args.facts.now.facts in
    ap (rep fs) c.ends-first.ensures.second ∙ rep_stays fs (second_node c.args.asked) ∙ sym c.ends-first.ensures.second

pub returns : goal.returns
returns g c =
    let es = c.args.trail.now in
    let q = c.args.asked in
    let m : ℕ → ℕ = rep (facts_in es) in
    let a = c.ends-first.result.0 in
    let b = c.ends-first.result.1 in
    let same = c.requires.same in
    let first : a ≡ m (first_node q) =
    c.ends-first.ensures.first ∙ ap (λ (fs : List (Fact ℕ)). rep fs (first_node q)) same in
    let second : b ≡ m (second_node q) =
    c.ends-first.ensures.second ∙ ap (λ (fs : List (Fact ℕ)). rep fs (second_node q)) same in
    let some : SomeWithin (gives m q) c.in_ok-ground.ground es =
    subst (λ (fs : List (Fact ℕ)). SomeWithin (gives (rep fs) q) c.in_ok-ground.ground es) same
    c.in_ok-ground.ensures in
    if_ok_both c.with_joins.result (λ u. set.is_subset c.in_ok-ground.ground u ≡ true)
    (λ u. AreWithin (is_join (rep c.args.facts.now.facts) a b) u es) (λ u. is_so (facts_within u es) q ≡ true)
    (λ u more are. holds-within es u q (some-more (gives m q) c.in_ok-ground.ground u es more some)
    (subst (λ (fs : List (Fact ℕ)). AreWithin (is_join (rep fs) (m (first_node q)) (m (second_node q))) u es) same
    (subst (λ (n : ℕ). AreWithin (is_join (rep c.args.facts.now.facts) n (m (second_node q))) u es) first
    (subst (λ (n : ℕ). AreWithin (is_join (rep c.args.facts.now.facts) a n) u es) second are)))
    (ap (λ (fs : List (Fact ℕ)). is_so fs q) (sym same) ∙ c.requires.holds))
    c.with_joins.ensures.more c.with_joins.ensures.joins
