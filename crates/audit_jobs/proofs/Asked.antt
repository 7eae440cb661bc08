-- What one ask of an object that keeps evidence says, and what it leaves as it is.
use Rattle.std.proofs.Common.{◌≡◌, length, ap, sym, ◌∙◌, subst}
use Rattle.std.specs.Prelude.{Result, Ok, Err, IfOk, OnOk, OnErr}
use Rattle.axiom_sets.specs.Sets.{Limited}
use Rattle.shq_terms.specs.NoMemory.{NoMemory}
use Rattle.set_questions.specs.Asked.{Answers, IsUnknownIf, ShowsNoOther, AsksInBudget}
use Rattle.set_questions.specs.Meaning.{Keeps, one_more}
use Rattle.set_questions.specs.declared.entail.Reply.{Reply}
use Rattle.run_log.specs.Entries.{nodes_of}
use Rattle.pinpointing_jobs.specs.AskerLists.{AskerLists, origin_of}
use Rattle.pinpointing_jobs.specs.Told.{asker_meaning}
use Rattle.pinpointing_jobs.specs.Asking.{IsLater}
use Rattle.pinpointing_jobs.specs.Deciding.{IsKnown}
use Rattle.pinpointing_jobs.specs.AskerKnown.TheVariants.{Unknown}
use Rattle.pinpointing_jobs.proofs.Tested.{nothing_later}
use Rattle.pinpointing_jobs.proofs.Answering.{keeps_later, lifted, local_later, unknown_whole, left_out}
use Rattle.pinpointing_jobs.proofs.Answering.{still_in_budget}
use Rattle.audit_jobs.specs.declared.evidence.Evidence.{Evidence}
use Rattle.audit_jobs.specs.Kept.{IsEvidence}
use Rattle.audit_jobs.specs.Told.{HasTold}

-- ---- evidence

pub evidence_same : (a b : AskerLists) (e : Evidence) → b ≡ a → IsEvidence a.ontology a.query a.gained e
    → IsEvidence b.ontology b.query b.gained e
evidence_same a b e same h = subst (λ (x : AskerLists). IsEvidence x.ontology x.query x.gained e) (sym same) h

-- ---- one ask

later : (mid new : AskerLists) (p : Limited) (r : Result Reply NoMemory) → IfOk r (HasTold mid new p)
    → OnErr r (new ≡ mid) → IsLater mid new
later mid new p (Ok reply) told same = told.later
later mid new p (Err x) told same = nothing_later mid new p same

answered : (mid new : AskerLists) (s p : Limited) (known : IsKnown mid mid s (Unknown p)) (r : Result Reply NoMemory)
    → IfOk r (HasTold mid new p) → IfOk r (Answers (asker_meaning new) s)
answered mid new s p known (Ok reply) told =
    lifted new s p reply (local_later mid new s p told.later known.1) told.answer
answered mid new s p known (Err x) told = tt

left_out_of : (mid new : AskerLists) (s p : Limited) (limit : s.limit ≡ length mid.ontology.axioms)
    (known : IsKnown mid mid s (Unknown p)) (r : Result Reply NoMemory)
    → IfOk r (HasTold mid new p)
    → IfOk r (IsUnknownIf (asker_meaning new) s)
left_out_of mid new s p limit known (Ok reply) told =
    left_out new s (limit ∙ ap (λ (b : AskerLists). length b.ontology.axioms) (sym told.later.is_more)) reply
    (unknown_whole new s p (local_later mid new s p told.later known.1) reply told.unknown)
left_out_of mid new s p limit known (Err x) told = tt

shown : (mid new : AskerLists) (p : Limited) (r : Result Reply NoMemory) → IfOk r (HasTold mid new p)
    → IfOk r (ShowsNoOther (asker_meaning mid) (asker_meaning new))
shown mid new p (Ok reply) told = told.shown
shown mid new p (Err x) told = tt

in_budget : (mid new : AskerLists) (p : Limited) (r : Result Reply NoMemory) → IfOk r (HasTold mid new p)
    → IfOk r (AsksInBudget (asker_meaning mid) (asker_meaning new))
in_budget mid new p (Ok reply) told = told.in_budget
in_budget mid new p (Err x) told = tt

counted : (mid new : AskerLists) (p : Limited) (r : Result Reply NoMemory) → IfOk r (HasTold mid new p)
    → OnOk r (new.asks ≡ one_more mid.asks)
counted mid new p (Ok reply) told = told.counted
counted mid new p (Err x) told = tt

uncounted : (mid new : AskerLists) (p : Limited) (r : Result Reply NoMemory) → OnErr r (new ≡ mid)
    → OnErr r (new.asks ≡ mid.asks)
uncounted mid new p (Ok reply) same = tt
uncounted mid new p (Err x) same = ap (λ (x : AskerLists). x.asks) same

taken : (mid new : AskerLists) (p : Limited) (r : Result Reply NoMemory) → IfOk r (HasTold mid new p)
    → OnErr r (new ≡ mid) → nodes_of new.gained ≡ nodes_of mid.gained
taken mid new p (Ok reply) told same = told.nodes
taken mid new p (Err x) told same = ap (λ (x : AskerLists). nodes_of x.gained) same

-- with what was known before
module _ (old mid new : AskerLists) (s p : Limited) (known : IsKnown old mid s (Unknown p)) (r : Result Reply NoMemory)
    (told : IfOk r (HasTold mid new p)) (unchanged : OnErr r (new ≡ mid)) where
  stays : IsKnown mid mid s (Unknown p)
  stays = subst (λ (x : AskerLists). IsKnown x mid s (Unknown p)) (sym known.0) known

  pub asked_answer : IfOk r (Answers (asker_meaning new) s)
  asked_answer = answered mid new s p stays r told

  pub asked_unknown : s.limit ≡ length old.ontology.axioms → IfOk r (IsUnknownIf (asker_meaning new) s)
  asked_unknown limit =
      left_out_of mid new s p (limit ∙ ap (λ (x : AskerLists). length x.ontology.axioms) (sym known.0)) stays r told

  pub asked_shown : IfOk r (ShowsNoOther (asker_meaning old) (asker_meaning new))
  asked_shown =
      subst (λ (x : AskerLists). IfOk r (ShowsNoOther (asker_meaning x) (asker_meaning new))) known.0
      (shown mid new p r told)

  pub asked_in_budget : IfOk r (AsksInBudget (asker_meaning old) (asker_meaning new))
  asked_in_budget =
      subst (λ (x : AskerLists). IfOk r (AsksInBudget (asker_meaning x) (asker_meaning new))) known.0
      (in_budget mid new p r told)

  pub asked_ran_out : OnErr r ((asker_meaning new).ran_out ≡ (asker_meaning old).ran_out)
  asked_ran_out =
      subst (λ (x : AskerLists). OnErr r ((asker_meaning new).ran_out ≡ (asker_meaning x).ran_out)) known.0
      (still_in_budget mid new r unchanged)

  pub asked_keeps : Keeps (asker_meaning old) (asker_meaning new)
  asked_keeps =
      keeps_later old new (subst (λ (x : AskerLists). IsLater x new) known.0 (later mid new p r told unchanged))

  pub asked_counted : OnOk r (new.asks ≡ one_more old.asks)
  asked_counted = subst (λ (x : AskerLists). OnOk r (new.asks ≡ one_more x.asks)) known.0 (counted mid new p r told)

  pub asked_uncounted : OnErr r (new.asks ≡ old.asks)
  asked_uncounted = subst (λ (x : AskerLists). OnErr r (new.asks ≡ x.asks)) known.0 (uncounted mid new p r unchanged)

  pub asked_taken : nodes_of new.gained ≡ nodes_of old.gained
  asked_taken = taken mid new p r told unchanged ∙ ap (λ (x : AskerLists). nodes_of x.gained) known.0

  pub asked_same : origin_of new ≡ origin_of old
  asked_same = ap origin_of (later mid new p r told unchanged).is_more ∙ ap origin_of known.0
