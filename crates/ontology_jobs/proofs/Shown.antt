-- What the log of a run that is done shows.
use Rattle.std.proofs.Common.{◌≡◌, ℕ, List, refl, sym, ◌∙◌, inl, inr, subst}
use Rattle.edit_session.specs.Entry.{Entry}
use Rattle.audit_jobs.specs.Decided.{Matches}
use Rattle.audit_jobs.specs.Decisions.{IsDecisionTold}
use Rattle.pinpointing_jobs.specs.Listings.{IsListing}
use Rattle.classifier.proofs.Settled.{classified}
use Rattle.job_inputs.specs.Questions.{Text}
use Rattle.job_inputs.specs.declared.status.Status.TheVariants.{Done}
use Rattle.ontology_jobs.specs.Shown.{ShowsDecision, DoneAnswersAreShown}
use Rattle.ontology_jobs.specs.Words.{check, audit, decide, classify, realize, instances, reasons, session}
use Rattle.ontology_jobs.specs.Words.{pinpoint, evidence}
use Rattle.ontology_jobs.proofs.Done.{never_long, decided, listed, evidenced, done_is_finished}

-- the one test of a question ended as is printed
decision_shown : (question : Text) (budget : ℕ) (bytes out : List ℕ) (log : List Entry)
    → (t : IsDecisionTold question budget bytes out Done log) → ShowsDecision question out log t.ontology t.query
decision_shown question budget bytes out log t =
    let one = t.logged.honest.one in
    let same : t.logged.ended ≡ one.ended = let both = sym t.logged.is_log ∙ one.is_log in cc both in
    record {
      decision = t.decision;
      text = t.text;
      decided = sym t.status;
      one = one;
      matches = subst (Matches t.decision) same t.logged.matches;
    }

pub done_shown : DoneAnswersAreShown
done_shown (check query) bytes out log (inl long) = absurd (never_long bytes out log Done refl long)
done_shown (check query) bytes out log (inr (short, (checked, none))) = none
done_shown (audit query) bytes out log (inl long) = absurd (never_long bytes out log Done refl long)
done_shown (audit query) bytes out log (inr (short, (audited, none))) = none
done_shown (decide question budget) bytes out log answer =
    let t = decided question budget bytes out log answer in
    record {
      ontology = t.ontology;
      query = t.query;
      is_question = t.is_question;
      so = decision_shown question budget bytes out log t;
    }
done_shown (classify budget) bytes out log (inl long) = absurd (never_long bytes out log Done refl long)
done_shown (classify budget) bytes out log (inr (short, on)) =
    record { ontology = on.ontology; kept = on.kept; is_document = on.is_document; so = on.so.shown }
done_shown (realize budget) bytes out log (inl long) = absurd (never_long bytes out log Done refl long)
done_shown (realize budget) bytes out log (inr (short, on)) = record {
  ontology = on.ontology;
  kept = on.kept;
  is_document = on.is_document;
  so = ((classified on.ontology log on.so.classes.relation on.so.classes.settled).shown, on.so.shown);
}
done_shown (instances class budget) bytes out log (inl long) = absurd (never_long bytes out log Done refl long)
done_shown (instances class budget) bytes out log (inr (short, on)) =
    record { ontology = on.ontology; query = on.query; is_question = on.is_question; so = on.so.shown }
done_shown (reasons class budget) bytes out log (inl long) = absurd (never_long bytes out log Done refl long)
done_shown (reasons class budget) bytes out log (inr (short, on)) = record {
  ontology = on.ontology;
  query = on.query;
  is_question = on.is_question;
  so = record { blocks = on.so.blocks; is_log = on.so.is_log.is_log; whole = on.so.whole; shown = on.so.shown };
}
done_shown (session budget) bytes out log (inl long) = absurd (never_long bytes out log Done refl long)
done_shown (session budget) bytes out log (inr (short, on)) = record {
  ontology = on.ontology;
  kept = on.kept;
  end = on.end;
  is_document = on.is_document;
  so = record { next = on.so.0; has_told = on.so.1.has_told };
}
done_shown (pinpoint wanted statement budget) bytes out log answer =
    let p = listed wanted statement budget bytes out log answer in
    let l = p.listed in
    let listing =
    subst (IsListing wanted p.ontology p.query budget log l.sets) (done_is_finished l.finished l.status) l.listing in
    record { ontology = p.ontology; query = p.query; is_question = p.is_question; so = listing.1 }
done_shown (evidence statement budget) bytes out log answer =
    let e = evidenced statement budget bytes out log answer in
    record {
      ontology = e.ontology;
      query = e.query;
      is_question = e.is_question;
      so = e.answer.shown (done_is_finished e.answer.finished e.answer.written.status);
    }
