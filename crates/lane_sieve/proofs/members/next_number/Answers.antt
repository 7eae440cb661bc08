use Rattle.std.proofs.Common.{◌≡◌, ℕ, ◌+◌, ◌*◌, ◌/◌, ◌≤◌, false, length, arith, inl, inr}
use Rattle.std.specs.FinSet as set
use Rattle.lane_sieve.specs.Sets.{number_set}
use Rattle.std.proofs.lemmas.Bool.{cases_lt}
use Rattle.lane_sieve.proofs.Next.{if_none, contains-past, here-member, here-least, here-within, here-none}
use Rattle.lane_sieve.proofs.Next.{none_in_zeros, word-member, word-least}
use Rattle.lane_sieve.proofs.members.next_number.Goals as goal

pub returns-then-place-words-clause-none : goal.returns-then-place-words-clause-none
returns-then-place-words-clause-none c = λ k low. contains-past c.args.words.now k (omega arith)

pub returns-then-rest-ne0-clause-member : goal.returns-then-rest-ne0-clause-member
returns-then-rest-ne0-clause-member c =
    here-member c.args.words.now c.args.from (c.type_inv.words (c.args.from / 64)).fits (omega arith)

pub returns-then-rest-ne0-clause-least : goal.returns-then-rest-ne0-clause-least
returns-then-rest-ne0-clause-least c =
    here-least c.args.words.now c.args.from (c.type_inv.words (c.args.from / 64)).fits (omega arith)

pub returns-then-rest-ne0-clause-within : goal.returns-then-rest-ne0-clause-within
returns-then-rest-ne0-clause-within c =
    omega (arith, here-within c.args.words.now c.args.from (c.type_inv.words (c.args.from / 64)).fits (omega arith))

pub returns-in_err-found-clause-none : goal.returns-in_err-found-clause-none
returns-in_err-found-clause-none c =
    let none : (k : ℕ) → c.args.from ≤ k → set.contains (number_set c.args.words.now) k ≡ false =
    λ k low. elim (cases_lt k (64 * (c.args.from / 64 + 1))) [
      | inl lt ↦
          here-none c.args.words.now c.args.from (c.type_inv.words (c.args.from / 64)).fits c.if-rest-ne0.false k low lt
      | inr ge ↦ elim (cases_lt k (64 * length c.args.words.now)) [
        | inl lt ↦
            none_in_zeros c.args.words.now (c.args.from / 64 + 1) (length c.args.words.now)
            (λ i l h. c.in_err-found.ensures.none i l) k ge lt
        | inr past ↦ contains-past c.args.words.now k past
      ]
    ] in
    if_none c.from_residual.result _ none

pub returns-clause-member : goal.returns-clause-member
returns-clause-member c =
    word-member c.args.words.now c.in_ok-found.found (c.type_inv.words c.in_ok-found.found).fits
    c.in_ok-found.ensures.some

pub returns-clause-least : goal.returns-clause-least
returns-clause-least c =
    λ k low high. elim (cases_lt k (64 * (c.args.from / 64 + 1))) [
      | inl lt ↦
          here-none c.args.words.now c.args.from (c.type_inv.words (c.args.from / 64)).fits c.if-rest-ne0.false k low lt
      | inr ge ↦ elim (cases_lt k (64 * c.in_ok-found.found)) [
        | inl lt ↦
            none_in_zeros c.args.words.now (c.args.from / 64 + 1) c.in_ok-found.found c.in_ok-found.ensures.first k ge
            lt
        | inr past ↦
            word-least c.args.words.now c.in_ok-found.found (c.type_inv.words c.in_ok-found.found).fits
            c.in_ok-found.ensures.some k past high
      ]
    ]
