use Rattle.std.proofs.Common.{◌≡◌, ◌∙◌, length, ap, sym, subst}
use Rattle.std.specs.Prelude.{IfOk, OnOk, OnErr}
use Rattle.std.specs.List.{list_any}
use Rattle.set_questions.specs.Asked.{ShowsNoOther, AsksInBudget}
use Rattle.set_questions.specs.Meaning.{Keeps, one_more}
use Rattle.lane_sieve.specs.Sets.{IsPart}
use Rattle.set_questions.proofs.InBudget.{no_test}
use Rattle.run_log.specs.Entries.{nodes_of, is_spent, IsAnswered}
use Rattle.pinpointing_jobs.specs.AskerLists.{AskerLists, origin_of}
use Rattle.pinpointing_jobs.specs.Told.{asker_meaning}
use Rattle.pinpointing_jobs.proofs.Answering.{left_out, shows_counted, local_inside}
use Rattle.pinpointing_jobs.specs.AskerKnown.TheVariants.{Answered, Unknown}
use Rattle.pinpointing_jobs.specs.Deciding.{IsKnown}
use Rattle.audit_jobs.proofs.Asked.{asked_answer, asked_unknown, asked_shown, asked_keeps, asked_counted}
use Rattle.audit_jobs.proofs.Asked.{asked_uncounted, asked_taken, asked_same, asked_in_budget, asked_ran_out}
use Rattle.audit_jobs.proofs.witness.WitnessEntail.ask.Goals as goal

pub returns-in-Answered-clause-unknown : goal.returns-in-Answered-clause-unknown
returns-in-Answered-clause-unknown c =
    let s = c.args.set.now in
    let new = c.known.new.self in
    let reply = c.in-Answered.reply in
    let known : IsKnown c.self.inside.asker new s (Answered reply) =
    rw c.in-Answered.is at c.in_ok-reply.ensures.known in
    let limit : s.limit ≡ length c.self.inside.asker.ontology.axioms =
    c.requires ∙ ap (λ (b : AskerLists). length b.ontology.axioms) (sym c.self.view_is) in
    left_out new s (limit ∙ ap (λ (b : AskerLists). length b.ontology.axioms) (sym known.0)) reply known.2

pub returns-in-Answered-clause-shown : goal.returns-in-Answered-clause-shown
returns-in-Answered-clause-shown c =
    let a = c.self.inside.asker in
    let new = c.known.new.self in
    let reply = c.in-Answered.reply in
    let known : IsKnown a new c.args.set.now (Answered reply) = rw c.in-Answered.is at c.in_ok-reply.ensures.known in
    subst (λ (x : AskerLists). ShowsNoOther (asker_meaning x) (asker_meaning new) reply) c.self.view_is
    (shows_counted a new (one_more a.asks) reply known.0)

pub decide-requires-clause-local_part : goal.decide-requires-clause-local_part
decide-requires-clause-local_part c =
    let p = c.in-Unknown.part in
    let known : IsKnown c.self.inside.asker c.known.new.self c.args.set.now (Unknown p) =
    rw c.in-Unknown.is at c.in_ok-reply.ensures.known in
    subst (λ (b : AskerLists). IsPart p.members b.local_part) (sym known.0)
    (local_inside c.self.inside.asker c.args.set.now p known.1)

pub decide-requires-clause-is_new : goal.decide-requires-clause-is_new
decide-requires-clause-is_new c =
    let p = c.in-Unknown.part in
    let known : IsKnown c.self.inside.asker c.known.new.self c.args.set.now (Unknown p) =
    rw c.in-Unknown.is at c.in_ok-reply.ensures.known in
    subst (λ (b : AskerLists). ¬ IsAnswered b.gained p b.query) (sym known.0) known.2

pub returns-in-Unknown-clause-answer : goal.returns-in-Unknown-clause-answer
returns-in-Unknown-clause-answer c =
    let known : IsKnown c.self.inside.asker c.known.new.self c.args.set.now (Unknown c.in-Unknown.part) =
    rw c.in-Unknown.is at c.in_ok-reply.ensures.known in
    asked_answer c.self.inside.asker c.known.new.self c.decide.new.self c.args.set.now c.in-Unknown.part known
    c.decide.result c.decide.ensures.told c.decide.ensures.unchanged

pub returns-in-Unknown-clause-unknown : goal.returns-in-Unknown-clause-unknown
returns-in-Unknown-clause-unknown c =
    let known : IsKnown c.self.inside.asker c.known.new.self c.args.set.now (Unknown c.in-Unknown.part) =
    rw c.in-Unknown.is at c.in_ok-reply.ensures.known in
    asked_unknown c.self.inside.asker c.known.new.self c.decide.new.self c.args.set.now c.in-Unknown.part known
    c.decide.result c.decide.ensures.told c.decide.ensures.unchanged
    (c.requires ∙ ap (λ (b : AskerLists). length b.ontology.axioms) (sym c.self.view_is))

pub returns-in-Unknown-clause-shown : goal.returns-in-Unknown-clause-shown
returns-in-Unknown-clause-shown c =
    let known : IsKnown c.self.inside.asker c.known.new.self c.args.set.now (Unknown c.in-Unknown.part) =
    rw c.in-Unknown.is at c.in_ok-reply.ensures.known in
    subst (λ (x : AskerLists). IfOk c.decide.result (ShowsNoOther (asker_meaning x) (asker_meaning c.decide.new.self)))
    c.self.view_is
    (asked_shown c.self.inside.asker c.known.new.self c.decide.new.self c.args.set.now c.in-Unknown.part known
    c.decide.result c.decide.ensures.told c.decide.ensures.unchanged)

pub returns-in-Unknown-clause-keeps : goal.returns-in-Unknown-clause-keeps
returns-in-Unknown-clause-keeps c =
    let known : IsKnown c.self.inside.asker c.known.new.self c.args.set.now (Unknown c.in-Unknown.part) =
    rw c.in-Unknown.is at c.in_ok-reply.ensures.known in
    subst (λ (x : AskerLists). Keeps (asker_meaning x) (asker_meaning c.decide.new.self)) c.self.view_is
    (asked_keeps c.self.inside.asker c.known.new.self c.decide.new.self c.args.set.now c.in-Unknown.part known
    c.decide.result c.decide.ensures.told c.decide.ensures.unchanged)

pub returns-in-Unknown-clause-counted : goal.returns-in-Unknown-clause-counted
returns-in-Unknown-clause-counted c =
    let known : IsKnown c.self.inside.asker c.known.new.self c.args.set.now (Unknown c.in-Unknown.part) =
    rw c.in-Unknown.is at c.in_ok-reply.ensures.known in
    subst (λ (x : AskerLists). OnOk c.decide.result (c.decide.new.self.asks ≡ one_more x.asks)) c.self.view_is
    (asked_counted c.self.inside.asker c.known.new.self c.decide.new.self c.args.set.now c.in-Unknown.part known
    c.decide.result c.decide.ensures.told c.decide.ensures.unchanged)

pub returns-in-Unknown-clause-uncounted : goal.returns-in-Unknown-clause-uncounted
returns-in-Unknown-clause-uncounted c =
    let known : IsKnown c.self.inside.asker c.known.new.self c.args.set.now (Unknown c.in-Unknown.part) =
    rw c.in-Unknown.is at c.in_ok-reply.ensures.known in
    subst (λ (x : AskerLists). OnErr c.decide.result (c.decide.new.self.asks ≡ x.asks)) c.self.view_is
    (asked_uncounted c.self.inside.asker c.known.new.self c.decide.new.self c.args.set.now c.in-Unknown.part known
    c.decide.result c.decide.ensures.told c.decide.ensures.unchanged)

pub returns-in-Unknown-clause-taken : goal.returns-in-Unknown-clause-taken
returns-in-Unknown-clause-taken c =
    let known : IsKnown c.self.inside.asker c.known.new.self c.args.set.now (Unknown c.in-Unknown.part) =
    rw c.in-Unknown.is at c.in_ok-reply.ensures.known in
    subst (λ (x : AskerLists). nodes_of c.decide.new.self.gained ≡ nodes_of x.gained) c.self.view_is
    (asked_taken c.self.inside.asker c.known.new.self c.decide.new.self c.args.set.now c.in-Unknown.part known
    c.decide.result c.decide.ensures.told c.decide.ensures.unchanged)

pub returns-in-Unknown-clause-same : goal.returns-in-Unknown-clause-same
returns-in-Unknown-clause-same c =
    let known : IsKnown c.self.inside.asker c.known.new.self c.args.set.now (Unknown c.in-Unknown.part) =
    rw c.in-Unknown.is at c.in_ok-reply.ensures.known in
    subst (λ (x : AskerLists). origin_of c.decide.new.self ≡ origin_of x) c.self.view_is
    (asked_same c.self.inside.asker c.known.new.self c.decide.new.self c.args.set.now c.in-Unknown.part known
    c.decide.result c.decide.ensures.told c.decide.ensures.unchanged)

pub returns-in-Answered-clause-in_budget : goal.returns-in-Answered-clause-in_budget
returns-in-Answered-clause-in_budget c =
    let a = c.self.inside.asker in
    let new = c.known.new.self in
    let reply = c.in-Answered.reply in
    let known : IsKnown a new c.args.set.now (Answered reply) = rw c.in-Answered.is at c.in_ok-reply.ensures.known in
    subst (λ (x : AskerLists). AsksInBudget (asker_meaning x) (asker_meaning new) reply) c.self.view_is
    (no_test (asker_meaning a) (asker_meaning new) reply (ap (λ (b : AskerLists). list_any is_spent b.gained) known.0))

pub returns-in-Unknown-clause-in_budget : goal.returns-in-Unknown-clause-in_budget
returns-in-Unknown-clause-in_budget c =
    let known : IsKnown c.self.inside.asker c.known.new.self c.args.set.now (Unknown c.in-Unknown.part) =
    rw c.in-Unknown.is at c.in_ok-reply.ensures.known in
    subst (λ (x : AskerLists). IfOk c.decide.result (AsksInBudget (asker_meaning x) (asker_meaning c.decide.new.self)))
    c.self.view_is
    (asked_in_budget c.self.inside.asker c.known.new.self c.decide.new.self c.args.set.now c.in-Unknown.part known
    c.decide.result c.decide.ensures.told c.decide.ensures.unchanged)

pub returns-in-Unknown-clause-ran_out : goal.returns-in-Unknown-clause-ran_out
returns-in-Unknown-clause-ran_out c =
    let known : IsKnown c.self.inside.asker c.known.new.self c.args.set.now (Unknown c.in-Unknown.part) =
    rw c.in-Unknown.is at c.in_ok-reply.ensures.known in
    let new = c.decide.new.self in
    subst (λ (x : AskerLists). OnErr c.decide.result ((asker_meaning new).ran_out ≡ (asker_meaning x).ran_out))
    c.self.view_is
    (asked_ran_out c.self.inside.asker c.known.new.self new c.args.set.now c.in-Unknown.part known
    c.decide.result c.decide.ensures.told c.decide.ensures.unchanged)
