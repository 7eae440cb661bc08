use Rattle.std.proofs.Common.{ℕ, Option, MatchOption, subst}
use Rattle.step_finders.specs.Choosing.{NoPair, IsPair, IsChoosable}
use Rattle.step_finders.proofs.Each.{answers_more}
use Rattle.step_finders.proofs.choose.find_pair_by_most.Goals as goal

pub pair_of-requires-clause-pair : goal.pair_of-requires-clause-pair
pair_of-requires-clause-pair g c =
    let w = g.R.Rules.context c.args.search.now.rules.now in
    let fs = g.S.State.facts c.args.search.now.state.now in
    subst (λ (o : Option (ℕ × ℕ)). MatchOption o (NoPair w fs c.args.node c.args.count c.args.role c.args.filler)
    (λ p. IsPair w fs c.args.node c.args.count c.args.role c.args.filler p.0 p.1))
    c.in-Some.is c.in_ok-first.ensures

pub returns-in-Some : goal.returns-in-Some
returns-in-Some g c =
    let w = g.R.Rules.context c.args.search.now.rules.now in
    let fs = g.S.State.facts c.args.search.now.state.now in
    answers_more c.pair_of.result ⊥ (NoPair w fs c.args.node c.args.count c.args.role c.args.filler) (IsChoosable w fs)
    (IsChoosable w fs) (λ k. absurd k) (λ k h. h) c.pair_of.ensures
