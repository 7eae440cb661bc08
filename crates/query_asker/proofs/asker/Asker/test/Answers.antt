use Rattle.std.proofs.Common.{◌≡◌, ◌∙◌, ℕ, length, ap, sym, subst, arith}
use Rattle.lane_sieve.specs.Sets.{IsPart}
use Rattle.set_questions.specs.Meaning.{one_more}
use Rattle.set_questions.specs.Asked.{Answers, ShowsNoOther, AsksInBudget}
use Rattle.shq_oracle.specs.Entries.{spent_of, nodes_of, IsAnswered}
use Rattle.shq_oracle.specs.Shown.{IsShownYes}
use Rattle.query_asker.specs.AskerLists.{AskerLists}
use Rattle.query_asker.specs.Told.{asker_meaning, IsUnknown}
use Rattle.query_asker.specs.Asking.{IsAsker, IsLater, lists_of}
use Rattle.shq_oracle.specs.declared.answer.Outcome.TheVariants.{Undecided}
use Rattle.query_asker.specs.Deciding.{GainsAtMostOne}
use Rattle.query_asker.proofs.Logged.{with_asks}
use Rattle.query_asker.proofs.Tested.{is_new, after_test, answered, unknown, shows, later, same_nodes, gains}
use Rattle.query_asker.proofs.Tested.{in_budget, gains_none, gains_one}
use Rattle.query_asker.proofs.asker.Asker.test.Goals as goal

pub test-requires-clause-is_new : goal.test-requires-clause-is_new
test-requires-clause-is_new c =
    let i = c.self.inside in
    let s = c.args.part.now in
    let new : ¬ IsAnswered (lists_of i.oracle i.query.now i.among i.first i.asks).gained s i.query.now =
    subst (λ (a : AskerLists). ¬ IsAnswered a.gained s a.query) (sym c.self.view_is) c.requires.is_new in
    is_new i.oracle i.query.now i.among i.first i.asks c.self.invariant.can_ask.others s new

pub returns-then-left-eq0-clause-unknown : goal.returns-then-left-eq0-clause-unknown
returns-then-left-eq0-clause-unknown c =
    subst (λ (a : AskerLists). ¬ IsAnswered a.gained c.args.part.now a.query) (sym c.self.view_is) c.requires.is_new

pub invariant_of-self-2 : goal.invariant_of-self-2
invariant_of-self-2 c =
    let i = c.self.inside in
    let o = i.oracle in
    let s = c.args.part.now in
    let a = lists_of o i.query.now i.among i.first i.asks in
    let d = c.test.ensures in
    let ok = c.in_ok-outcome.ensures in
    let new : ¬ IsAnswered a.gained s i.query.now =
    subst (λ (b : AskerLists). ¬ IsAnswered b.gained s b.query) (sym c.self.view_is) c.requires.is_new in
    let part : IsPart s.members a.local_part =
    subst (λ (b : AskerLists). IsPart s.members b.local_part) (sym c.self.view_is) c.requires.local_part in
    let some : ¬ (spent_of o.log ≡ o.budget) =
    λ e. absurd (omega (arith, e, c.left.ensures.left, c.if-left-eq0.false)) in
    subst (IsAsker c.test.new.self i.query.now i.among i.first i.memo) (sym c.saturating_add-counted.ensures)
    (after_test o i.query.now i.among i.first i.asks c.test.new.self s c.in_ok-outcome.outcome c.self.invariant.is_log
    some d.same_ontology d.same_budget ok.entry ok.spent d.within part new i.memo c.self.invariant)

pub returns-clause-answer : goal.returns-clause-answer
returns-clause-answer c =
    let i = c.self.inside in
    let o = i.oracle in
    let s = c.args.part.now in
    let a = lists_of o i.query.now i.among i.first i.asks in
    let d = c.test.ensures in
    let ok = c.in_ok-outcome.ensures in
    let new : ¬ IsAnswered a.gained s i.query.now =
    subst (λ (b : AskerLists). ¬ IsAnswered b.gained s b.query) (sym c.self.view_is) c.requires.is_new in
    let part : IsPart s.members a.local_part =
    subst (λ (b : AskerLists). IsPart s.members b.local_part) (sym c.self.view_is) c.requires.local_part in
    let some : ¬ (spent_of o.log ≡ o.budget) =
    λ e. absurd (omega (arith, e, c.left.ensures.left, c.if-left-eq0.false)) in
    let limit : s.limit ≡ length o.ontology.axioms =
    c.requires.limit ∙ ap (λ (b : AskerLists). length b.ontology.axioms) (sym c.self.view_is) in
    subst
    (λ (n : ℕ). Answers (asker_meaning (lists_of c.test.new.self i.query.now i.among i.first n)) s c.reply_to.result)
    (sym c.saturating_add-counted.ensures)
    (answered o i.query.now i.among i.first i.asks c.test.new.self s c.in_ok-outcome.outcome c.self.invariant.is_log
    some d.same_ontology d.same_budget ok.entry ok.spent d.within part new i.memo c.self.invariant limit
    c.reply_to.result c.reply_to.ensures)

pub returns-clause-unknown : goal.returns-clause-unknown
returns-clause-unknown c =
    let i = c.self.inside in
    let o = i.oracle in
    let s = c.args.part.now in
    let a = lists_of o i.query.now i.among i.first i.asks in
    let d = c.test.ensures in
    let ok = c.in_ok-outcome.ensures in
    let new : ¬ IsAnswered a.gained s i.query.now =
    subst (λ (b : AskerLists). ¬ IsAnswered b.gained s b.query) (sym c.self.view_is) c.requires.is_new in
    let part : IsPart s.members a.local_part =
    subst (λ (b : AskerLists). IsPart s.members b.local_part) (sym c.self.view_is) c.requires.local_part in
    let some : ¬ (spent_of o.log ≡ o.budget) =
    λ e. absurd (omega (arith, e, c.left.ensures.left, c.if-left-eq0.false)) in
    subst (λ (n : ℕ). IsUnknown (lists_of c.test.new.self i.query.now i.among i.first n) s c.reply_to.result)
    (sym c.saturating_add-counted.ensures)
    (unknown o i.query.now i.among i.first i.asks c.test.new.self s c.in_ok-outcome.outcome c.self.invariant.is_log some
    d.same_ontology d.same_budget ok.entry ok.spent d.within part new c.self.invariant.first_within c.reply_to.result
    c.reply_to.ensures)

pub returns-then-left-eq0-clause-shown : goal.returns-then-left-eq0-clause-shown
returns-then-left-eq0-clause-shown c = λ s h. subst (λ (a : AskerLists). IsShownYes a.gained a.query s) c.self.view_is h

pub returns-clause-shown : goal.returns-clause-shown
returns-clause-shown c =
    let i = c.self.inside in
    let o = i.oracle in
    let s = c.args.part.now in
    let a = lists_of o i.query.now i.among i.first i.asks in
    let d = c.test.ensures in
    let ok = c.in_ok-outcome.ensures in
    let new : ¬ IsAnswered a.gained s i.query.now =
    subst (λ (b : AskerLists). ¬ IsAnswered b.gained s b.query) (sym c.self.view_is) c.requires.is_new in
    let part : IsPart s.members a.local_part =
    subst (λ (b : AskerLists). IsPart s.members b.local_part) (sym c.self.view_is) c.requires.local_part in
    let some : ¬ (spent_of o.log ≡ o.budget) =
    λ e. absurd (omega (arith, e, c.left.ensures.left, c.if-left-eq0.false)) in
    subst (λ (n : ℕ). ShowsNoOther (asker_meaning c.args.self.now)
    (asker_meaning (lists_of c.test.new.self i.query.now i.among i.first n)) c.reply_to.result)
    (sym c.saturating_add-counted.ensures)
    (subst (λ (b : AskerLists). ShowsNoOther (asker_meaning b)
    (asker_meaning (lists_of c.test.new.self i.query.now i.among i.first (one_more i.asks))) c.reply_to.result)
    c.self.view_is
    (shows o i.query.now i.among i.first i.asks c.test.new.self s c.in_ok-outcome.outcome c.self.invariant.is_log some
    d.same_ontology d.same_budget ok.entry ok.spent d.within part new c.self.invariant.first_within c.reply_to.result
    c.reply_to.ensures))

pub returns-clause-in_budget : goal.returns-clause-in_budget
returns-clause-in_budget c =
    let i = c.self.inside in
    let o = i.oracle in
    let s = c.args.part.now in
    let a = lists_of o i.query.now i.among i.first i.asks in
    let d = c.test.ensures in
    let ok = c.in_ok-outcome.ensures in
    let new : ¬ IsAnswered a.gained s i.query.now =
    subst (λ (b : AskerLists). ¬ IsAnswered b.gained s b.query) (sym c.self.view_is) c.requires.is_new in
    let part : IsPart s.members a.local_part =
    subst (λ (b : AskerLists). IsPart s.members b.local_part) (sym c.self.view_is) c.requires.local_part in
    let some : ¬ (spent_of o.log ≡ o.budget) =
    λ e. absurd (omega (arith, e, c.left.ensures.left, c.if-left-eq0.false)) in
    subst (λ (n : ℕ). AsksInBudget (asker_meaning c.args.self.now)
    (asker_meaning (lists_of c.test.new.self i.query.now i.among i.first n)) c.reply_to.result)
    (sym c.saturating_add-counted.ensures)
    (subst (λ (b : AskerLists). AsksInBudget (asker_meaning b)
    (asker_meaning (lists_of c.test.new.self i.query.now i.among i.first (one_more i.asks))) c.reply_to.result)
    c.self.view_is
    (in_budget o i.query.now i.among i.first i.asks c.test.new.self s c.in_ok-outcome.outcome
    c.self.invariant.is_log some d.same_ontology d.same_budget ok.entry ok.spent d.within part new
    c.self.invariant.first_within c.reply_to.result c.reply_to.ensures))

pub returns-clause-later : goal.returns-clause-later
returns-clause-later c =
    let i = c.self.inside in
    let o = i.oracle in
    let s = c.args.part.now in
    let a = lists_of o i.query.now i.among i.first i.asks in
    let d = c.test.ensures in
    let ok = c.in_ok-outcome.ensures in
    let new : ¬ IsAnswered a.gained s i.query.now =
    subst (λ (b : AskerLists). ¬ IsAnswered b.gained s b.query) (sym c.self.view_is) c.requires.is_new in
    let part : IsPart s.members a.local_part =
    subst (λ (b : AskerLists). IsPart s.members b.local_part) (sym c.self.view_is) c.requires.local_part in
    let some : ¬ (spent_of o.log ≡ o.budget) =
    λ e. absurd (omega (arith, e, c.left.ensures.left, c.if-left-eq0.false)) in
    subst (λ (n : ℕ). IsLater c.args.self.now (lists_of c.test.new.self i.query.now i.among i.first n))
    (sym c.saturating_add-counted.ensures)
    (subst (λ (b : AskerLists). IsLater b (lists_of c.test.new.self i.query.now i.among i.first (one_more i.asks)))
    c.self.view_is
    (later o i.query.now i.among i.first i.asks c.test.new.self s c.in_ok-outcome.outcome c.self.invariant.is_log some
    d.same_ontology d.same_budget ok.entry ok.spent d.within part new c.self.invariant.first_within))

pub returns-clause-nodes : goal.returns-clause-nodes
returns-clause-nodes c =
    let i = c.self.inside in
    let o = i.oracle in
    let s = c.args.part.now in
    let a = lists_of o i.query.now i.among i.first i.asks in
    let d = c.test.ensures in
    let ok = c.in_ok-outcome.ensures in
    let new : ¬ IsAnswered a.gained s i.query.now =
    subst (λ (b : AskerLists). ¬ IsAnswered b.gained s b.query) (sym c.self.view_is) c.requires.is_new in
    let part : IsPart s.members a.local_part =
    subst (λ (b : AskerLists). IsPart s.members b.local_part) (sym c.self.view_is) c.requires.local_part in
    let some : ¬ (spent_of o.log ≡ o.budget) =
    λ e. absurd (omega (arith, e, c.left.ensures.left, c.if-left-eq0.false)) in
    same_nodes o i.query.now i.among i.first i.asks c.test.new.self s c.in_ok-outcome.outcome c.self.invariant.is_log
    some d.same_ontology d.same_budget ok.entry ok.spent d.within part new c.self.invariant.first_within
    ∙ ap (λ (b : AskerLists). nodes_of b.gained) c.self.view_is

pub returns-then-left-eq0-clause-gains : goal.returns-then-left-eq0-clause-gains
returns-then-left-eq0-clause-gains c =
    let i = c.self.inside in
    let s = c.args.part.now in
    let a = lists_of i.oracle i.query.now i.among i.first i.asks in
    subst (λ (n : ℕ). GainsAtMostOne c.args.self.now (lists_of i.oracle i.query.now i.among i.first n) s)
    (sym c.saturating_add-counted.ensures)
    (subst (λ (b : AskerLists). GainsAtMostOne b (with_asks a (one_more i.asks)) s) c.self.view_is
    (gains_one a (with_asks a (one_more i.asks)) s Undecided (gains_none a s)))

pub returns-clause-gains : goal.returns-clause-gains
returns-clause-gains c =
    let i = c.self.inside in
    let o = i.oracle in
    let s = c.args.part.now in
    let a = lists_of o i.query.now i.among i.first i.asks in
    let d = c.test.ensures in
    let ok = c.in_ok-outcome.ensures in
    let v = c.in_ok-outcome.outcome in
    let new : ¬ IsAnswered a.gained s i.query.now =
    subst (λ (b : AskerLists). ¬ IsAnswered b.gained s b.query) (sym c.self.view_is) c.requires.is_new in
    let part : IsPart s.members a.local_part =
    subst (λ (b : AskerLists). IsPart s.members b.local_part) (sym c.self.view_is) c.requires.local_part in
    let some : ¬ (spent_of o.log ≡ o.budget) =
    λ e. absurd (omega (arith, e, c.left.ensures.left, c.if-left-eq0.false)) in
    let after = lists_of c.test.new.self i.query.now i.among i.first (one_more i.asks) in
    subst (λ (n : ℕ). GainsAtMostOne c.args.self.now (lists_of c.test.new.self i.query.now i.among i.first n) s)
    (sym c.saturating_add-counted.ensures)
    (subst (λ (b : AskerLists). GainsAtMostOne b after s) c.self.view_is
    (gains_one a after s v
    (gains o i.query.now i.among i.first i.asks c.test.new.self s v c.self.invariant.is_log some d.same_ontology
    d.same_budget ok.entry ok.spent d.within part new c.self.invariant.first_within)))
