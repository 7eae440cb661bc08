-- Lists of justifications and repairs in every world.
use Rattle.std.proofs.Common.{◌≡◌, ℕ, Bool, true, false, List, inl, inr, refl, sym, subst}
use Rattle.axiom_sets.specs.Sets.{Limited}
use Rattle.shq_terms.specs.Listed.{Listed}
use Rattle.shq_terms.specs.declared.axioms.Query.{Query as Asked}
use Rattle.all_worlds.specs.Worlds.{World}
use Rattle.answers_everywhere.specs.Laws.{IsOfWorld}
use Rattle.answers_everywhere.proofs.Everywhere.{questions}
use Rattle.pinpointing_jobs.specs.Listings.{listing_text, end_status, IsListing}
use Rattle.pinpointing_jobs.specs.Answers.{IsPinpointed}
use Rattle.pinpointing_jobs.specs.declared.wanted.Wanted.{Wanted}
use Rattle.audit_jobs.proofs.Accepted.{evidence_accepted}
use Rattle.job_inputs.specs.Questions.{follows}
use Rattle.job_inputs.specs.declared.status.Status.{Status}
use Rattle.job_inputs.specs.declared.status.Status.TheVariants.{Done, Undecided}
use Rattle.ontology_jobs.specs.Answers.{AnswersJob}
use Rattle.ontology_jobs.specs.Entry.{Entry}
use Rattle.ontology_jobs.specs.Words.{pinpoint}
use Rattle.ontology_jobs.proofs.Done.{never_refused, never_long, listed, evidenced, done_is_finished}
use Rattle.ontology_jobs.proofs.Accepted.{lists_all as accepted_lists_all}
use Rattle.runs_everywhere.specs.Laws.{ListsAreWholeIn, PartialListsHoldIn, AcceptedAuditsListAllIn}
use Rattle.runs_everywhere.specs.Laws.{EvidenceListsAllIn, HaveListed}
use Rattle.runs_everywhere.specs.Sets.{HasAllIn, HasSomeIn}
use Rattle.runs_everywhere.proofs.Worlds.{of_question}
use Rattle.runs_everywhere.proofs.Sets.{has_all, has_some, lists_all}

undecided_is_unfinished : (b : Bool) → Undecided ≡ end_status b → b ≡ false
undecided_is_unfinished true is = absurd (cc is)
undecided_is_unfinished false is = refl

module _ (wanted : Wanted) (statement : List ℕ) (budget : ℕ) (bytes out : List ℕ) (log : List Entry) where
  undecided : AnswersJob (pinpoint wanted statement budget) bytes out Undecided log
      → IsPinpointed wanted statement budget bytes out Undecided log
  undecided (inl long) = absurd (never_long bytes out log Undecided refl long)
  undecided (inr (short, inl refused)) =
      absurd (never_refused (follows statement) bytes out Undecided refl refused.reply refused.refused refused.answer)
  undecided (inr (short, inr listed)) = listed

  -- the list of an answer that is finished, or of one that is not, and what holds of its sets
  of_list : (s : Status) (p : IsPinpointed wanted statement budget bytes out s log) (finished : Bool)
      → p.listed.finished ≡ finished → (is_so : Listed → Asked → List Limited → Type 0)
      → (IsListing wanted p.ontology p.query budget log p.listed.sets finished
      → is_so p.ontology p.query p.listed.sets)
      → HaveListed wanted finished is_so statement bytes out
  of_list s p finished is is_so so =
      let l = p.listed in
      record {
        ontology = p.ontology;
        query = p.query;
        is_question = p.is_question;
        sets = l.sets;
        text = subst (λ (b : Bool). out ≡ listing_text p.ontology wanted b l.sets) is l.text;
        so = so (subst (IsListing wanted p.ontology p.query budget log l.sets) is l.listing);
      }

module _ {d : Type 0} (w : World d) where
  pub whole_lists : ListsAreWholeIn w
  whole_lists wanted statement budget bytes out log answer =
      let p = listed wanted statement budget bytes out log answer in
      of_list wanted statement budget bytes out log Done p true (done_is_finished p.listed.finished p.listed.status)
      (HasAllIn w wanted)
      (λ listing.
      has_all w p.ontology p.query (of_question w (follows statement) bytes p.ontology p.query p.is_question)
      wanted p.listed.sets listing.0)

  pub partial_lists : PartialListsHoldIn w
  partial_lists wanted statement budget bytes out log answer =
      let p = undecided wanted statement budget bytes out log answer in
      of_list wanted statement budget bytes out log Undecided p false
      (undecided_is_unfinished p.listed.finished p.listed.status) (HasSomeIn w wanted)
      (λ listing.
      has_some w p.ontology p.query (of_question w (follows statement) bytes p.ontology p.query p.is_question)
      wanted log p.listed.sets listing.0)

  pub accepted_audits : AcceptedAuditsListAllIn w
  accepted_audits query bytes log answer =
      let h = accepted_lists_all query bytes log answer in
      let a = h.is_asked in
      record {
        both = h.both;
        asked = h.asked;
        rest = h.rest;
        lists = h.lists;
        is_asked = h.is_asked;
        is_audit = h.is_audit;
        are_all =
            lists_all w h.both h.asked
            (subst (λ (l : Listed). IsOfWorld w l.axioms h.asked) (sym a.both_are)
            (questions w bytes a.document a.kept a.end a.is_document (follows query) a.counts h.asked a.is_query))
            h.lists h.are_all;
      }

  pub evidence_lists : EvidenceListsAllIn w
  evidence_lists statement budget bytes out log answer short =
      let h =
      evidence_accepted statement budget bytes out log (evidenced statement budget bytes out log answer) short in
      record {
        ontology = h.ontology;
        query = h.query;
        lists = h.audit;
        is_question = h.is_question;
        is_read = h.is_read;
        are_all =
            lists_all w h.ontology h.query
            (of_question w (follows statement) bytes h.ontology h.query h.is_question) h.audit h.lists_all;
      }
