use Rattle.std.proofs.Common.{◌≡◌, ◌∙◌, length, ap, sym, subst}
use Rattle.std.specs.Prelude.{IfOk, OnOk, OnErr}
use Rattle.std.specs.List.{list_any}
use Rattle.axiom_sets.specs.Sets.{Limited}
use Rattle.std.proofs.lemmas.Result.{IfOk-weaker}
use Rattle.lane_sieve.specs.Sets.{IsPart}
use Rattle.set_questions.specs.Asked.{Answers, IsUnknownIf, ShowsNoOther, AsksInBudget}
use Rattle.set_questions.specs.Meaning.{one_more}
use Rattle.set_questions.proofs.InBudget.{no_test}
use Rattle.shq_oracle.specs.Entries.{is_spent, IsAnswered}
use Rattle.query_asker.specs.declared.known.Known.TheVariants.{Answered, Unknown}
use Rattle.query_asker.specs.AskerLists.{AskerLists}
use Rattle.shq_oracle.specs.declared.answer.Outcome.TheVariants.{Undecided}
use Rattle.query_asker.specs.Told.{asker_meaning, IsUnknown, part_in}
use Rattle.query_asker.specs.Asking.{IsLater}
use Rattle.query_asker.specs.Deciding.{IsKnown, GainsAtMostOne}
use Rattle.query_asker.proofs.Answering.{keeps_later, lifted, unknown_whole, left_out, shows_counted, local_inside}
use Rattle.query_asker.proofs.Answering.{local_later, still_in_budget}
use Rattle.query_asker.proofs.Logged.{with_asks}
use Rattle.query_asker.proofs.Tested.{gains_none, gains_one}
use Rattle.query_asker.proofs.asker.AskerEntail.ask.Goals as goal

pub returns-in-Answered-clause-unknown : goal.returns-in-Answered-clause-unknown
returns-in-Answered-clause-unknown c =
    let s = c.args.set.now in
    let new = c.known.new.self in
    let reply = c.in-Answered.reply in
    let known : IsKnown c.args.self.now new s (Answered reply) = rw c.in-Answered.is at c.in_ok-reply.ensures.known in
    left_out new s (c.requires ∙ ap (λ (b : AskerLists). length b.ontology.axioms) (sym known.0)) reply known.2

pub returns-in-Answered-clause-shown : goal.returns-in-Answered-clause-shown
returns-in-Answered-clause-shown c =
    let a = c.args.self.now in
    let new = c.known.new.self in
    let reply = c.in-Answered.reply in
    let known : IsKnown a new c.args.set.now (Answered reply) = rw c.in-Answered.is at c.in_ok-reply.ensures.known in
    shows_counted a new (one_more a.asks) reply known.0

pub test-requires-clause-local_part : goal.test-requires-clause-local_part
test-requires-clause-local_part c =
    let p = c.in-Unknown.part in
    let known : IsKnown c.args.self.now c.known.new.self c.args.set.now (Unknown p) =
    rw c.in-Unknown.is at c.in_ok-reply.ensures.known in
    subst (λ (b : AskerLists). IsPart p.members b.local_part) (sym known.0)
    (local_inside c.args.self.now c.args.set.now p known.1)

pub test-requires-clause-is_new : goal.test-requires-clause-is_new
test-requires-clause-is_new c =
    let p = c.in-Unknown.part in
    let known : IsKnown c.args.self.now c.known.new.self c.args.set.now (Unknown p) =
    rw c.in-Unknown.is at c.in_ok-reply.ensures.known in
    subst (λ (b : AskerLists). ¬ IsAnswered b.gained p b.query) (sym known.0) known.2

pub returns-in-Unknown-clause-answer : goal.returns-in-Unknown-clause-answer
returns-in-Unknown-clause-answer c =
    let s = c.args.set.now in
    let p = c.in-Unknown.part in
    let new = c.test.new.self in
    let known : IsKnown c.args.self.now c.known.new.self s (Unknown p) =
    rw c.in-Unknown.is at c.in_ok-reply.ensures.known in
    let later : IsLater c.args.self.now new = subst (λ (b : AskerLists). IsLater b new) known.0 c.test.ensures.later in
    IfOk-weaker c.test.result (Answers (asker_meaning new) p) (Answers (asker_meaning new) s)
    (λ answer h. lifted new s p answer (local_later c.args.self.now new s p later known.1) h) c.test.ensures.answer

pub returns-in-Unknown-clause-unknown : goal.returns-in-Unknown-clause-unknown
returns-in-Unknown-clause-unknown c =
    let s = c.args.set.now in
    let p = c.in-Unknown.part in
    let new = c.test.new.self in
    let known : IsKnown c.args.self.now c.known.new.self s (Unknown p) =
    rw c.in-Unknown.is at c.in_ok-reply.ensures.known in
    let later : IsLater c.args.self.now new = subst (λ (b : AskerLists). IsLater b new) known.0 c.test.ensures.later in
    let limit : s.limit ≡ length new.ontology.axioms =
    c.requires ∙ ap (λ (b : AskerLists). length b.ontology.axioms) (sym later.is_more) in
    IfOk-weaker c.test.result (IsUnknown new p) (IsUnknownIf (asker_meaning new) s)
    (λ reply h. left_out new s limit reply
    (unknown_whole new s p (local_later c.args.self.now new s p later known.1) reply h))
    c.test.ensures.unknown

pub returns-in-Unknown-clause-shown : goal.returns-in-Unknown-clause-shown
returns-in-Unknown-clause-shown c =
    let new = c.test.new.self in
    let known : IsKnown c.args.self.now c.known.new.self c.args.set.now (Unknown c.in-Unknown.part) =
    rw c.in-Unknown.is at c.in_ok-reply.ensures.known in
    subst (λ (b : AskerLists). IfOk c.test.result (ShowsNoOther (asker_meaning b) (asker_meaning new))) known.0
    c.test.ensures.shown

pub returns-in-Unknown-clause-keeps : goal.returns-in-Unknown-clause-keeps
returns-in-Unknown-clause-keeps c =
    let new = c.test.new.self in
    let known : IsKnown c.args.self.now c.known.new.self c.args.set.now (Unknown c.in-Unknown.part) =
    rw c.in-Unknown.is at c.in_ok-reply.ensures.known in
    keeps_later c.args.self.now new (subst (λ (b : AskerLists). IsLater b new) known.0 c.test.ensures.later)

pub returns-in-Answered-clause-logged : goal.returns-in-Answered-clause-logged
returns-in-Answered-clause-logged c =
    let a = c.args.self.now in
    let new = c.known.new.self in
    let s = part_in a c.args.set.now in
    let known : IsKnown a new c.args.set.now (Answered c.in-Answered.reply) =
    rw c.in-Answered.is at c.in_ok-reply.ensures.known in
    let counted = with_asks a (one_more a.asks) in
    subst (λ (b : AskerLists). GainsAtMostOne a b s) (sym known.0) (gains_one a counted s Undecided (gains_none a s))

pub returns-in-Unknown-clause-logged : goal.returns-in-Unknown-clause-logged
returns-in-Unknown-clause-logged c =
    let a = c.args.self.now in
    let p = c.in-Unknown.part in
    let new = c.test.new.self in
    let known : IsKnown a c.known.new.self c.args.set.now (Unknown p) =
    rw c.in-Unknown.is at c.in_ok-reply.ensures.known in
    let same : p ≡ part_in a c.args.set.now = λ i. record { limit = known.1.limit i; members = known.1.members i } in
    subst (λ (t : Limited). OnOk c.test.result (GainsAtMostOne a new t)) same
    (subst (λ (b : AskerLists). OnOk c.test.result (GainsAtMostOne b new p)) known.0 c.test.ensures.gains)

pub returns-in-Unknown-clause-unchanged : goal.returns-in-Unknown-clause-unchanged
returns-in-Unknown-clause-unchanged c =
    let new = c.test.new.self in
    let known : IsKnown c.args.self.now c.known.new.self c.args.set.now (Unknown c.in-Unknown.part) =
    rw c.in-Unknown.is at c.in_ok-reply.ensures.known in
    subst (λ (b : AskerLists). OnErr c.test.result (new ≡ b)) known.0 c.test.ensures.unchanged

pub returns-in-Answered-clause-in_budget : goal.returns-in-Answered-clause-in_budget
returns-in-Answered-clause-in_budget c =
    let a = c.args.self.now in
    let new = c.known.new.self in
    let reply = c.in-Answered.reply in
    let known : IsKnown a new c.args.set.now (Answered reply) = rw c.in-Answered.is at c.in_ok-reply.ensures.known in
    no_test (asker_meaning a) (asker_meaning new) reply (ap (λ (b : AskerLists). list_any is_spent b.gained) known.0)

pub returns-in-Unknown-clause-in_budget : goal.returns-in-Unknown-clause-in_budget
returns-in-Unknown-clause-in_budget c =
    let new = c.test.new.self in
    let known : IsKnown c.args.self.now c.known.new.self c.args.set.now (Unknown c.in-Unknown.part) =
    rw c.in-Unknown.is at c.in_ok-reply.ensures.known in
    subst (λ (b : AskerLists). IfOk c.test.result (AsksInBudget (asker_meaning b) (asker_meaning new))) known.0
    c.test.ensures.in_budget

pub returns-in-Unknown-clause-ran_out : goal.returns-in-Unknown-clause-ran_out
returns-in-Unknown-clause-ran_out c =
    let new = c.test.new.self in
    let known : IsKnown c.args.self.now c.known.new.self c.args.set.now (Unknown c.in-Unknown.part) =
    rw c.in-Unknown.is at c.in_ok-reply.ensures.known in
    still_in_budget c.args.self.now new c.test.result
    (subst (λ (b : AskerLists). OnErr c.test.result (new ≡ b)) known.0 c.test.ensures.unchanged)
