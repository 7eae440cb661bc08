use Rattle.std.proofs.Common.{◌≡◌, ◌∙◌, length, ap, sym, subst}
use Rattle.run_log.specs.Entries.{IsAnswered}
use Rattle.run_log.specs.HonestLog.{IsAxiomSet}
use Rattle.pinpointing_jobs.specs.Decided.{outcome_of}
use Rattle.pinpointing_jobs.specs.AskerLists.{AskerLists}
use Rattle.audit_jobs.specs.Kept.{IsEvidence}
use Rattle.audit_jobs.specs.Told.{HasTold}
use Rattle.audit_jobs.proofs.Keeping.{names_up_to, evidence_moved, evidence_gained, has_told}
use Rattle.audit_jobs.proofs.Asked.{evidence_same}
use Rattle.audit_jobs.proofs.witness.Witness.decide.Goals as goal

pub invariant_of-self : goal.invariant_of-self
invariant_of-self c =
    let a = c.self.inside.asker in
    evidence_moved a.ontology a.query a.gained c.self.inside.evidence c.self.invariant c.make_room.new.evidence
    c.make_room.ensures.refutations c.make_room.ensures.models

pub invariant_of-self-in_err-names : goal.invariant_of-self-in_err-names
invariant_of-self-in_err-names c =
    let a = c.self.inside.asker in
    evidence_moved a.ontology a.query a.gained c.self.inside.evidence c.self.invariant c.make_room.new.evidence
    c.make_room.ensures.refutations c.make_room.ensures.models

pub decide-requires-clause-is_new : goal.decide-requires-clause-is_new
decide-requires-clause-is_new c =
    subst (λ (b : AskerLists). ¬ IsAnswered b.gained c.args.part b.query) (sym c.self.view_is) c.requires.is_new

pub invariant_of-self-in_err-answer : goal.invariant_of-self-in_err-answer
invariant_of-self-in_err-answer c =
    let a = c.self.inside.asker in
    let e = c.make_room.new.evidence in
    evidence_same a c.decide.new.self e c.in_err-answer.ensures.unchanged
    (evidence_moved a.ontology a.query a.gained c.self.inside.evidence c.self.invariant e
    c.make_room.ensures.refutations c.make_room.ensures.models)

pub keep-requires-clause-limit : goal.keep-requires-clause-limit
keep-requires-clause-limit c =
    let a = c.self.inside.asker in
    let limit : c.args.part.limit ≡ length a.ontology.axioms =
    c.requires.limit ∙ ap (λ (b : AskerLists). length b.ontology.axioms) (sym c.self.view_is) in
    names_up_to a.ontology c.args.part a.query c.in_ok-names.names.limit c.in_ok-answer.answer
    (c.in_ok-names.ensures.limit ∙ c.limit.ensures.limit) limit c.in_ok-answer.ensures.evidence

pub invariant_of-self-2 : goal.invariant_of-self-2
invariant_of-self-2 c =
    let a = c.self.inside.asker in
    let e = c.make_room.new.evidence in
    let limit : c.args.part.limit ≡ length a.ontology.axioms =
    c.requires.limit ∙ ap (λ (b : AskerLists). length b.ontology.axioms) (sym c.self.view_is) in
    let set_is : IsAxiomSet a.ontology c.args.part = record { limit_is = limit; within = c.limit.ensures.within } in
    let before : IsEvidence a.ontology a.query a.gained e =
    evidence_moved a.ontology a.query a.gained c.self.inside.evidence c.self.invariant e c.make_room.ensures.refutations
    c.make_room.ensures.models in
    evidence_gained a c.decide.new.self c.args.part e c.keep.new.evidence c.in_ok-answer.answer before set_is
    c.in_ok-answer.ensures.evidence c.keep.ensures.kept c.in_ok-answer.ensures.gains

pub returns-clause-told : goal.returns-clause-told
returns-clause-told c =
    subst (λ (x : AskerLists). HasTold x c.decide.new.self c.args.part c.keep.result) c.self.view_is
    (has_told c.self.inside.asker c.decide.new.self c.args.part (outcome_of c.in_ok-answer.answer) c.keep.result
    c.keep.ensures.reply c.in_ok-answer.ensures.gains c.in_ok-answer.ensures.answer
    c.in_ok-answer.ensures.unknown c.in_ok-answer.ensures.shown)
