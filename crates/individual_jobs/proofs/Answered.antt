-- From the reasons that were found to what is answered.
use Rattle.std.proofs.Common.{◌≡◌, ℕ, ◌<◌, Bool, true, false, List, length, get_or, Result, Ok, Err, ap, sym, ◌∙◌}
use Rattle.std.proofs.Common.{subst, arith}
use Rattle.std.specs.Prelude.{IfOk, OnErr}
use Rattle.std.proofs.lemmas.List.{get_or-map, length-map}
use Rattle.std.proofs.lemmas.List.Elements.{Contains-get_or}
use Rattle.lane_sieve.specs.Sets.{passing}
use Rattle.lane_sieve.proofs.Ranges.{passing-at}
use Rattle.shq_terms.specs.NoMemory.{NoMemory as OutOfMemory}
use Rattle.shq_terms.specs.Concept.{Concept}
use Rattle.shq_terms.specs.Listed.{Listed}
use Rattle.realizer.specs.Entry.{Entry}
use Rattle.job_inputs.specs.declared.status.Status.{Status}
use Rattle.individual_jobs.specs.declared.searching.Explained.{Explained}
use Rattle.individual_jobs.specs.ReasonLists.{ReasonLists}
use Rattle.individual_jobs.specs.Reasons.{individual_of}
use Rattle.individual_jobs.specs.Answers.{HasBlocks}
use Rattle.individual_jobs.specs.Searching.{HasExplained, ExplainsTo, ExplainsAll, AreWritable, IsAnswerBy}
use Rattle.individual_jobs.specs.Searching.{IsExplainedOn}
use Rattle.individual_jobs.proofs.Explained.{stays_begun}

-- ---- what was found can be written

module _ (o : Listed) (c : Concept) (budget : ℕ) (rs : List ReasonLists) (log : List Entry)
    (all : HasExplained o c budget (length o.individuals) rs log) where
  individual_listed : (k : ℕ) (d : ReasonLists) → k < length rs → (get_or rs k d).individual < length o.individuals
  individual_listed k d within =
      let among : get_or (passing all.are_reasons.test 0 (length o.individuals)) k 0 ≡ (get_or rs k d).individual =
      ap (λ (l : List ℕ). get_or l k 0) (sym all.are_reasons.listed) ∙ get_or-map individual_of rs k d 0 within in
      let long : k < length (passing all.are_reasons.test 0 (length o.individuals)) =
      omega (arith, within, ap length all.are_reasons.listed, length-map rs individual_of) in
      let passes = passing-at all.are_reasons.test 0 (length o.individuals) k 0 long in
      omega (arith, passes.2, among)

  pub writable : AreWritable o rs
  writable k d within =
      let reasons = all.are_reasons.reasons (get_or rs k d) (Contains-get_or rs k d within) in
      record {
        listed = individual_listed k d within;
        limits =
            λ i s less. ((reasons.all (get_or (get_or rs k d).justifications i s)).0
            (Contains-get_or (get_or rs k d).justifications i s less)).limit_is;
      }

pub found_writable : (o : Listed) (c : Concept) (budget : ℕ) (log : List Entry) (e : Explained)
    → ExplainsAll o c budget log e → e.finished ≡ true → AreWritable o e.reasons.items
found_writable o c budget log e found finished =
    writable o c budget e.reasons.items log
    (subst (ExplainsTo o c budget (length o.individuals) e.reasons.items log) finished found)

-- ---- the answer on an ontology

explained_by : (o : Listed) (c : Concept) (budget : ℕ) (rs : List ReasonLists) (log : List Entry) (b : Bool)
    (s : Status) (out : List ℕ)
    → ExplainsTo o c budget (length o.individuals) rs log b → IsAnswerBy o rs b s out
    → IsExplainedOn budget o c log s out
explained_by o c budget rs log true s out all (done, text) =
    subst (λ (t : Status). IsExplainedOn budget o c log t out) (sym done)
    (record {
      reasons = rs;
      are_reasons = record {
        instances =
            record { test = all.are_reasons.test; is_so = all.are_reasons.is_so; listed = all.are_reasons.listed };
        reasons = all.are_reasons.reasons;
      };
      text = text;
      blocks = all.blocks;
      is_log = all.is_log;
      whole = all.count_is;
      shown = all.shown;
    })
explained_by o c budget rs log false s out cut (undecided, text) =
    subst (λ (t : Status). IsExplainedOn budget o c log t out) (sym undecided) (record { text = text; cut_short = cut })

pub all_explained : {T : Type 0} (o : Listed) (c : Concept) (budget : ℕ) (log : List Entry) (e : Explained)
    (r : Result (Status × T) OutOfMemory) (text : T → List ℕ)
    → ExplainsAll o c budget log e
    → IfOk r (λ a. IsAnswerBy o e.reasons.items e.finished a.0 (text a.1))
    → IfOk r (λ a. IsExplainedOn budget o c log a.0 (text a.1))
all_explained o c budget log e (Ok a) text found written =
    explained_by o c budget e.reasons.items log e.finished a.0 (text a.1) found written
all_explained o c budget log e (Err x) text found written = tt

pub all_begun : {T : Type 0} (o : Listed) (c : Concept) (budget : ℕ) (log : List Entry) (e : Explained)
    (r : Result T OutOfMemory)
    → ExplainsAll o c budget log e → OnErr r (e.finished ≡ true) → OnErr r (HasBlocks o c budget log)
all_begun o c budget log e (Ok a) found finished = tt
all_begun o c budget log e (Err x) found finished =
    stays_begun o c budget (length o.individuals) e.reasons.items log
    (subst (ExplainsTo o c budget (length o.individuals) e.reasons.items log) finished found)
