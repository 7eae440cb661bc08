use Rattle.std.proofs.Common.{◌≡◌, ◌+◌, ◌-◌, ◌*◌, ◌<◌, ◌≤◌, ◌∙◌, [], ◌∷◌, sym, ap, length, arith}
use Rattle.std.specs.FinSet as set
use Rattle.lane_sieve.specs.Sets.{number_set, passing}
use Rattle.lane_sieve.proofs.Ranges.{passing_first, passing_none}
use Rattle.lane_sieve.proofs.numbers.NumbersIterator.next.Goals as goal

pub returns-in_err-number-clause-steps : goal.returns-in_err-number-clause-steps
returns-in_err-number-clause-steps c =
    let ws = c.self.inside.words.now in
    let from = c.self.inside.from in
    let empty : c.args.self.now ≡ [] =
    sym c.self.view_is
    ∙ passing_none (set.contains (number_set ws)) from (64 * length ws - from)
    (λ k low high. c.in_err-number.ensures.none k low) in
    rw c.from_residual.ensures (empty, empty)

pub returns-clause-steps : goal.returns-clause-steps
returns-clause-steps c =
    let ws = c.self.inside.words.now in
    let from = c.self.inside.from in
    let n = c.in_ok-number.number in
    let low : from ≤ n = c.in_ok-number.ensures.from in
    let high : n < 64 * length ws = c.in_ok-number.ensures.within in
    let e : from + (64 * length ws - from) - (n + 1) ≡ 64 * length ws - (n + 1) = omega arith in
    sym c.self.view_is
    ∙ passing_first (set.contains (number_set ws)) from (64 * length ws - from) n low (omega arith)
    c.in_ok-number.ensures.least c.in_ok-number.ensures.member
    ∙ ap (λ k. n ∷ passing (set.contains (number_set ws)) (n + 1) k) e

pub returns-clause-goes : goal.returns-clause-goes
returns-clause-goes c =
    record { on = λ _. (tt, tt, omega (arith, ap length (returns-clause-steps c))); keeps = tt; rests = λ _. tt }
