use Rattle.std.proofs.Common.{List, subst}
use Rattle.shq_oracle.specs.Entry.{Entry}
use Rattle.edit_session.specs.Places.{plain_noted}
use Rattle.edit_session.specs.Asking.{IsTold, IsRecalled}
use Rattle.edit_session.proofs.Deciding.{recalled, not_answered, noted_seen, noted_others, noted_longer}
use Rattle.edit_session.proofs.asking.decide_noted.Goals as goal

pub returns-in-Some-clause-decided : goal.returns-in-Some-clause-decided
returns-in-Some-clause-decided c =
    let s = c.args.live.now in
    let q = c.args.query.now in
    let told = subst (IsRecalled c.entries-2.result.now s q) c.in-Some.is c.in_ok-told.ensures in
    recalled c.args.ontology.now s q c.args.budget c.args.log.now c.in-Some.told
    (subst (λ (log : List Entry). IsTold log s q c.in-Some.told) c.entries-2.ensures told)

pub returns-in-Some-clause-noted : goal.returns-in-Some-clause-noted
returns-in-Some-clause-noted c =
    noted_seen c.args.live.now c.args.log.now c.entries.result.now c.entries.ensures c.args.noted.now c.see_all.new.self
    c.see_all.ensures.filed c.see_all.ensures.within c.requires.noted

pub returns-in_err-forget_yes-clause-noted : goal.returns-in_err-forget_yes-clause-noted
returns-in_err-forget_yes-clause-noted c =
    let s = c.args.live.now in
    let q = c.args.query.now in
    let log = c.args.log.now in
    let seen =
    noted_seen s log c.entries.result.now c.entries.ensures c.args.noted.now c.see_all.new.self c.see_all.ensures.filed
    c.see_all.ensures.within c.requires.noted in
    let none =
    not_answered log s q c.in_ok-told.field-0 c.in_default.not-Some
    (subst (λ (es : List Entry). IsRecalled es s q c.in_ok-told.field-0) c.entries-2.ensures c.in_ok-told.ensures) in
    noted_others s log c.entries-3.result.now c.entries-3.ensures c.see_all.new.self c.forget_yes.new.self q
    c.forget_yes.ensures.others c.forget_yes.ensures.seen none seen

pub test-requires-clause-new : goal.test-requires-clause-new
test-requires-clause-new c =
    let s = c.args.live.now in
    let q = c.args.query.now in
    not_answered c.args.log.now s q c.in_ok-told.field-0 c.in_default.not-Some
    (subst (λ (es : List Entry). IsRecalled es s q c.in_ok-told.field-0) c.entries-2.ensures c.in_ok-told.ensures)

pub returns-clause-noted : goal.returns-clause-noted
returns-clause-noted c =
    let s = c.args.live.now in
    let q = c.args.query.now in
    let log = c.args.log.now in
    let seen =
    noted_seen s log c.entries.result.now c.entries.ensures c.args.noted.now c.see_all.new.self c.see_all.ensures.filed
    c.see_all.ensures.within c.requires.noted in
    let none =
    not_answered log s q c.in_ok-told.field-0 c.in_default.not-Some
    (subst (λ (es : List Entry). IsRecalled es s q c.in_ok-told.field-0) c.entries-2.ensures c.in_ok-told.ensures) in
    noted_longer (plain_noted c.forget_yes.new.self) s.members log c.test.new.log c.test.ensures.longer
    (noted_others s log c.entries-3.result.now c.entries-3.ensures c.see_all.new.self c.forget_yes.new.self q
    c.forget_yes.ensures.others c.forget_yes.ensures.seen none seen)
