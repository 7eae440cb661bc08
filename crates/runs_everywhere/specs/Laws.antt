-- What a run answers, in a world and in that of each finite interpretation.
use Rattle.std.specs.Prelude.{◌≡◌, ℕ, ◌≤◌, Bool, true, false, List, ◌++◌, length, codes, Ok}
use Rattle.axiom_sets.specs.Sets.{Limited}
use Rattle.shq_terms.specs.Concept.{Concept}
use Rattle.shq_terms.specs.Listed.{Listed}
use Rattle.shq_terms.specs.declared.axioms.Axiom.{Axiom}
use Rattle.shq_terms.specs.declared.axioms.Query.{Query as Asked}
use Rattle.pinpointing_specs.specs.Truth.{Interpretation, PlacesIndividuals}
use Rattle.all_worlds.specs.Worlds.{World, FollowsIn}
use Rattle.all_worlds.specs.Finite.{world_of}
use Rattle.search_starts.specs.Laws.{FollowsInAll}
use Rattle.certificate_lines.specs.Lines.{lines}
use Rattle.decision_jobs.specs.Laws.{HaveAsked}
use Rattle.audit_check.specs.AuditText.{audit_in}
use Rattle.audit_jobs.specs.AuditLists.{AuditLists}
use Rattle.audit_jobs.specs.Audited.{audit_after, IsAskedOn}
use Rattle.decision_jobs.specs.Decisions.{entailed_line, not_entailed_line}
use Rattle.pinpointing_jobs.specs.Listings.{listing_text}
use Rattle.pinpointing_jobs.specs.declared.wanted.Wanted.{Wanted}
use Rattle.realizer.specs.Instances.{instances_text}
use Rattle.realizer.specs.Realization.{realization_text}
use Rattle.realizer.specs.declared.types.Types.{Types}
use Rattle.subsumption.specs.Groups.{Parthood}
use Rattle.edit_session.specs.Answers.{OnScript}
use Rattle.job_inputs.specs.Answer.{line}
use Rattle.job_inputs.specs.Questions.{Text, follows, IsQuestion}
use Rattle.job_inputs.specs.Refusals.{OnDocument}
use Rattle.job_inputs.specs.declared.status.Status.TheVariants.{Done, Undecided}
use Rattle.classification_jobs.specs.TaxonomyLaws.{taxonomy_by}
use Rattle.classification_jobs.specs.TaxonomyText.{taxonomy_text}
use Rattle.individual_jobs.specs.Answers.{OnClass}
use Rattle.individual_jobs.specs.ReasonLists.{ReasonLists}
use Rattle.individual_jobs.specs.Reasons.{reasons_text}
use Rattle.ontology_jobs.specs.Answers.{AnswersJob}
use Rattle.ontology_jobs.specs.Entry.{Entry}
use Rattle.ontology_jobs.specs.Laws.{HaveRead}
use Rattle.ontology_jobs.specs.Words.{check, audit, decide, classify, realize, instances, reasons, pinpoint}
use Rattle.ontology_jobs.specs.Words.{evidence, session}
use Rattle.runs_everywhere.specs.Sets.{HasAllIn, HasSomeIn, ListsAllIn}
use Rattle.runs_everywhere.specs.Names.{IsSubsumptionIn, AreInstancesIn, AreTypesIn, AreReasonsIn}
use Rattle.runs_everywhere.specs.Sessions.{AreToldIn}

-- ---- verdicts

-- the text begins with the line
pub record BeginsWithLine (first out : List ℕ) : Type 0 where
  pub more : List ℕ
  pub text : out ≡ line first ++ more

-- the query does not follow in the world of each finite interpretation
abbrev pub FailsInAFiniteWorld : List Axiom → Asked → Type 0
FailsInAFiniteWorld axioms q =
    ¬ ((i : Interpretation) (placed : PlacesIndividuals i) → FollowsIn (world_of i placed) axioms q)

-- where the first line of an answer is a yes, the query of the question follows from the axioms of the document
abbrev pub YesFollowsIn : {d : Type 0} → World d → Type 0
YesFollowsIn w = (question : Text) (budget : ℕ) (bytes out : List ℕ) (log : List Entry)
    → AnswersJob (decide question budget) bytes out Done log → BeginsWithLine (entailed_line question) out
    → HaveAsked (FollowsInAll w) question bytes

-- where it is a no, the query does not follow, already in a finite world
abbrev pub NoFailsInAFiniteWorld : Type 0
NoFailsInAFiniteWorld = (question : Text) (budget : ℕ) (bytes out : List ℕ) (log : List Entry)
    → AnswersJob (decide question budget) bytes out Done log → BeginsWithLine (not_entailed_line question) out
    → HaveAsked FailsInAFiniteWorld question bytes

-- a query that is answered by `accepted entailed` follows from the axioms of the document
abbrev pub AcceptedQueriesFollowIn : {d : Type 0} → World d → Type 0
AcceptedQueriesFollowIn w = (query bytes : List ℕ) (log : List Entry)
    → AnswersJob (check query) bytes (line (codes "accepted entailed")) Done log
    → HaveRead (FollowsInAll w) query bytes

-- and one that is answered by `accepted not entailed` does not, already in a finite world
abbrev pub AcceptedQueriesFailInAFiniteWorld : Type 0
AcceptedQueriesFailInAFiniteWorld = (query bytes : List ℕ) (log : List Entry)
    → AnswersJob (check query) bytes (line (codes "accepted not entailed")) Done log
    → HaveRead FailsInAFiniteWorld query bytes

-- ---- lists of sets

-- the statement is a query on the document that the bytes are, the text is a list of sets, and this is so of them
pub record HaveListed (wanted : Wanted) (finished : Bool) (is_so : Listed → Asked → List Limited → Type 0)
    (statement bytes out : List ℕ) : Type 0 where
  pub ontology : Listed
  pub query : Asked
  pub is_question : IsQuestion (follows statement) bytes ontology query
  pub sets : List Limited
  pub text : out ≡ listing_text ontology wanted finished sets
  pub so : is_so ontology query sets

-- a list that is done has exactly the wanted sets
abbrev pub ListsAreWholeIn : {d : Type 0} → World d → Type 0
ListsAreWholeIn w = (wanted : Wanted) (statement : List ℕ) (budget : ℕ) (bytes out : List ℕ) (log : List Entry)
    → AnswersJob (pinpoint wanted statement budget) bytes out Done log
    → HaveListed wanted true (HasAllIn w wanted) statement bytes out

-- one that is undecided is told as partial, and has wanted sets alone
abbrev pub PartialListsHoldIn : {d : Type 0} → World d → Type 0
PartialListsHoldIn w = (wanted : Wanted) (statement : List ℕ) (budget : ℕ) (bytes out : List ℕ) (log : List Entry)
    → AnswersJob (pinpoint wanted statement budget) bytes out Undecided log
    → HaveListed wanted false (HasSomeIn w wanted) statement bytes out

-- the document, the query on it and the audit behind it that texts are, and the lists of the audit are exactly all
-- justifications of the query and all its repairs
pub record HaveAuditedIn {d : Type 0} (w : World d) (query bytes : List ℕ) : Type 0 where
  pub both : Listed
  pub asked : Asked
  pub rest : List ℕ
  pub lists : AuditLists
  pub is_asked : IsAskedOn query bytes both asked rest
  pub is_audit : audit_after both rest ≡ Ok lists
  pub are_all : ListsAllIn w both asked lists

-- what is answered by `accepted audit` lists exactly all
abbrev pub AcceptedAuditsListAllIn : {d : Type 0} → World d → Type 0
AcceptedAuditsListAllIn w = (query bytes : List ℕ) (log : List Entry)
    → AnswersJob (audit query) bytes (line (codes "accepted audit")) Done log → HaveAuditedIn w query bytes

-- the statement is a query on the document that the bytes are, the text is read as an audit, and the lists of the audit
-- are exactly all justifications of the query and all its repairs
pub record HaveEvidenceIn {d : Type 0} (w : World d) (statement bytes out : List ℕ) : Type 0 where
  pub ontology : Listed
  pub query : Asked
  pub lists : AuditLists
  pub is_question : IsQuestion (follows statement) bytes ontology query
  pub is_read : audit_in ontology (lines out) ≡ Ok lists
  pub are_all : ListsAllIn w ontology query lists

-- evidence that is done, of as many lines as can be numbered, lists exactly all
abbrev pub EvidenceListsAllIn : {d : Type 0} → World d → Type 0
EvidenceListsAllIn w = (statement : List ℕ) (budget : ℕ) (bytes out : List ℕ) (log : List Entry)
    → AnswersJob (evidence statement budget) bytes out Done log → length (lines out) ≤ 4294967293
    → HaveEvidenceIn w statement bytes out

-- ---- classes and individuals

-- the text is the taxonomy of which class is part of which
pub record IsTaxonomyIn {d : Type 0} (w : World d) (out : List ℕ) (o : Listed) : Type 0 where
  pub part_of : Parthood
  pub is_so : IsSubsumptionIn w o part_of
  pub text : out ≡ taxonomy_text o (taxonomy_by o part_of)

-- a classification that is done prints it
abbrev pub TaxonomiesHoldIn : {d : Type 0} → World d → Type 0
TaxonomiesHoldIn w = (budget : ℕ) (bytes out : List ℕ) (log : List Entry)
    → AnswersJob (classify budget) bytes out Done log → OnDocument (IsTaxonomyIn w out) bytes

-- the text says the direct types of each listed individual
pub record IsRealizationIn {d : Type 0} (w : World d) (out : List ℕ) (o : Listed) : Type 0 where
  pub types : Types
  pub are_types : AreTypesIn w o types
  pub text : out ≡ realization_text o types

-- a realization that is done prints them
abbrev pub TypesHoldIn : {d : Type 0} → World d → Type 0
TypesHoldIn w = (budget : ℕ) (bytes out : List ℕ) (log : List Entry)
    → AnswersJob (realize budget) bytes out Done log → OnDocument (IsRealizationIn w out) bytes

-- the text lists the instances of the class expression
pub record AreFoundIn {d : Type 0} (w : World d) (out : List ℕ) (o : Listed) (c : Concept) : Type 0 where
  pub found : List ℕ
  pub are_instances : AreInstancesIn w o c found
  pub text : out ≡ instances_text o found

-- a list of instances that is done has just these
abbrev pub InstancesHoldIn : {d : Type 0} → World d → Type 0
InstancesHoldIn w = (class : List ℕ) (budget : ℕ) (bytes out : List ℕ) (log : List Entry)
    → AnswersJob (instances class budget) bytes out Done log → OnClass class bytes (AreFoundIn w out)

-- the text lists the instances of the class expression, each with its justifications
pub record AreExplainedIn {d : Type 0} (w : World d) (out : List ℕ) (o : Listed) (c : Concept) : Type 0 where
  pub reasons : List ReasonLists
  pub are_reasons : AreReasonsIn w o c reasons
  pub text : out ≡ reasons_text o reasons

-- a list of reasons that is done has just these
abbrev pub ReasonsHoldIn : {d : Type 0} → World d → Type 0
ReasonsHoldIn w = (class : List ℕ) (budget : ℕ) (bytes out : List ℕ) (log : List Entry)
    → AnswersJob (reasons class budget) bytes out Done log → OnClass class bytes (AreExplainedIn w out)

-- ---- sessions

-- a session that is done answers each query of its script by what follows from the axioms that are live then
abbrev pub SessionsHoldIn : {d : Type 0} → World d → Type 0
SessionsHoldIn w = (budget : ℕ) (bytes out : List ℕ) (log : List Entry)
    → AnswersJob (session budget) bytes out Done log → OnScript (AreToldIn w out) bytes
