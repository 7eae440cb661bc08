use Rattle.std.proofs.Common.{◌≡◌, ◌-◌, ℕ, List, [], arith, refl, subst, inl}
use Rattle.lane_sieve.specs.Sets.{NumberSet}
use Rattle.pinpointing_specs.specs.Sets.{Limited}
use Rattle.set_questions.specs.Asked.{Answers, IsUnknownIf, ShowsNoOther, Spends}
use Rattle.set_questions.specs.Meaning.{Meaning}
use Rattle.set_questions.specs.declared.entail.Reply.{Reply}
use Rattle.set_questions.specs.declared.entail.Reply.TheVariants.{Yes, No, Spent}
use Rattle.set_questions.specs.Listed.{oracle_meaning}
use Rattle.set_questions.proofs.InBudget.{no_test}
use Rattle.set_questions.proofs.set_oracle.SetOracleEntail.ask.Goals as goal

-- an answer that holds whatever is left takes one unit
takes_one : (m m' : Meaning) (sets : List Limited) (asked : Limited) (a : Reply) → ¬ (m.left ≡ 0) → m'.left ≡ m.left - 1
    → ((size left asks : ℕ) (taken : List Limited) → Answers (oracle_meaning size sets left asks taken) asked a)
    → Spends m m' a
takes_one m m' sets asked (Yes part) some less h = (some, less)
takes_one m m' sets asked No some less h = (some, less)
takes_one m m' sets asked Spent some less h = absurd (some (h 0 m.left 0 []))

nothing_remembered : (m : Meaning) (asked : Limited) (a : Reply) → ((s : NumberSet) → m.unknown s)
    → IsUnknownIf m asked a
nothing_remembered m asked (Yes part) all = tt
nothing_remembered m asked No all = tt
nothing_remembered m asked Spent all = all asked.members

nothing_shown : (m m' : Meaning) (a : Reply) → ((s : NumberSet) → m'.shown_yes s → m.shown_yes s) → ShowsNoOther m m' a
nothing_shown m m' (Yes part) before = λ s shown. inl (before s shown)
nothing_shown m m' No before = before
nothing_shown m m' Spent before = before

pub returns-clause-answer : goal.returns-clause-answer
returns-clause-answer c =
    let o = c.args.self.now in
    subst (λ (sets : List Limited). Answers
    (oracle_meaning o.count sets (o.left - 1) c.saturating_add-self-2.result o.taken.items) c.args.set.now
    c.in_ok-found.found)
    c.deref.ensures.value
    (c.in_ok-found.ensures o.count (o.left - 1) c.saturating_add-self-2.result o.taken.items)

pub returns-clause-spends : goal.returns-clause-spends
returns-clause-spends c =
    let o = c.args.self.now in
    takes_one (oracle_meaning o.count o.yes_sets.items o.left o.asks o.taken.items)
    (oracle_meaning o.count o.yes_sets.items (o.left - 1) c.saturating_add-self-2.result o.taken.items)
    c.deref.result.now c.args.set.now c.in_ok-found.found (omega (arith, c.if-self-eq0.false)) refl
    c.in_ok-found.ensures

pub returns-clause-unknown : goal.returns-clause-unknown
returns-clause-unknown c =
    let o = c.args.self.now in
    nothing_remembered
    (oracle_meaning o.count o.yes_sets.items (o.left - 1) c.saturating_add-self-2.result o.taken.items) c.args.set.now
    c.in_ok-found.found (λ s. tt)

pub returns-clause-shown : goal.returns-clause-shown
returns-clause-shown c =
    let o = c.args.self.now in
    nothing_shown (oracle_meaning o.count o.yes_sets.items o.left o.asks o.taken.items)
    (oracle_meaning o.count o.yes_sets.items (o.left - 1) c.saturating_add-self-2.result o.taken.items)
    c.in_ok-found.found (λ s shown. shown)

pub returns-clause-in_budget : goal.returns-clause-in_budget
returns-clause-in_budget c =
    let o = c.args.self.now in
    no_test (oracle_meaning o.count o.yes_sets.items o.left o.asks o.taken.items)
    (oracle_meaning o.count o.yes_sets.items (o.left - 1) c.saturating_add-self-2.result o.taken.items)
    c.in_ok-found.found refl
