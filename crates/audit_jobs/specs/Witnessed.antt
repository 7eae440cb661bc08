-- What the search for justifications and repairs finds, with the evidence of its tests.
use Rattle.std.specs.Prelude.{◌≡◌, ◌⊎◌, ℕ, ◌++◌, [], true, false, List, length, Contains}
use Rattle.std.specs.List.{list_any}
use Rattle.lane_sieve.specs.Sets.{NumberSet, IsPart}
use Rattle.axiom_sets.specs.Sets.{Limited}
use Rattle.pinpointing_specs.specs.LocalModule.{FollowsFrom, of_axioms, IsJustification, IsRepair}
use Rattle.pinpointing_specs.specs.Order.{IsAscending}
use Rattle.pinpointing_specs.specs.Smallest.{numbers_to, rest, IsExplored}
use Rattle.set_questions.specs.InOrder.{HaveOneLimit}
use Rattle.pinpointing_jobs.specs.Known.{AreKnownAmong}
use Rattle.pinpointing_jobs.specs.TreeFound.{Found}
use Rattle.shq_terms.specs.Listed.{Listed}
use Rattle.shq_terms.specs.declared.axioms.Query.{Query as Asked}
use Rattle.refutation_tree.specs.RefutationLists.{RefutationLists}
use Rattle.run_log.specs.declared.entry.Entry.{Entry}
use Rattle.run_log.specs.Entries.{spent_of, nodes_of, is_spent}
use Rattle.run_log.specs.HonestLog.{IsJustificationSet, IsHonestWithin, AreTestsOf, AsksNoAnswer, AreTreeNodes}
use Rattle.run_log.specs.HonestLog.{AsksFewPerNode}
use Rattle.run_log.specs.Shown.{IsShownYes, IsShownNo}
use Rattle.audit_jobs.specs.declared.evidence.CounterModel.{CounterModel}
use Rattle.audit_jobs.specs.declared.searching.Searched.{Searched}
use Rattle.audit_jobs.specs.Kept.{AreShown, HasRefutation}

-- ---- the log

-- Each entry is true, and no more than the budget is spent; each test is one of the query, and none is made for which
-- an earlier entry answers; the nodes are those of a hitting-set tree, and there are at most as many tests for each
-- of them as axioms, and one. The sets that are tested are not kept within the local module.
pub record IsEvidenceLog (o : Listed) (q : Asked) (budget : ℕ) (log : List Entry) : Type 0 where
  pub budget_kept : IsHonestWithin o budget log
  pub tests : AreTestsOf q log
  pub new : AsksNoAnswer log
  pub nodes : AreTreeNodes o q log
  pub few : AsksFewPerNode o log

-- the log of such a search, in which no test ended because the budget was spent
pub record IsUnspentLog (o : Listed) (q : Asked) (budget : ℕ) (log : List Entry) : Type 0 where
  pub honest : IsEvidenceLog o q budget log
  pub unspent : list_any is_spent log ≡ false

-- where memory was refused, nothing was asked, or the log is such a one: that the budget was spent is told without
-- memory
abbrev pub HasAsked : Listed → Asked → ℕ → List Entry → Type 0
HasAsked o q budget log = (log ≡ []) ⊎ IsUnspentLog o q budget log

-- ---- what was found

-- one of the models is that of a set with each axiom outside of the leaf
abbrev pub HasModelOutside : List CounterModel → Limited → Type 0
HasModelOutside ms l = (m : CounterModel) × Contains ms m × IsPart (rest l) m.set.members

-- justifications and leaves, each with evidence among that of the tests; all of them where the budget sufficed
pub record IsWitnessed (o : Listed) (q : Asked) (f : Found) (rs : List RefutationLists) (ms : List CounterModel) :
    Type 0 where
  pub order : IsAscending f.justifications.items
  pub justifications : (j : Limited) → Contains f.justifications.items j → IsJustificationSet o q j
  pub limits : HaveOneLimit (f.justifications.items ++ f.leaves.items)
  pub are_shown : AreShown o q rs ms
  pub refuted : (j : Limited) → Contains f.justifications.items j → HasRefutation rs j
  pub modelled : (l : Limited) → Contains f.leaves.items l → HasModelOutside ms l
  pub explored : f.finished ≡ true
      → IsExplored (FollowsFrom o.axioms q) (length o.axioms) f.justifications.items f.leaves.items

-- the set of all axioms
abbrev pub IsOfAll : Listed → NumberSet → Type 0
IsOfAll o m = m ≡ numbers_to (length o.axioms)

-- The log shows each justification and each repair: a test found that the query follows from just the axioms of the
-- one, and one that it does not follow from a set that has each axiom but those of the other, which is one of the
-- nodes.
pub record ShowsEvidence (o : Listed) (q : Asked) (log : List Entry) : Type 0 where
  pub justifications : (j : NumberSet) → IsJustification o.axioms q j → IsShownYes log q j
  pub repairs : (r : NumberSet) → IsRepair o.axioms q r → IsShownNo log q (numbers_to (length o.axioms)) r
  pub taken : (r : NumberSet) → IsRepair o.axioms q r → Contains (nodes_of log) (of_axioms o.axioms r)

-- justifications were found, and as far as the log shows, which asks among all axioms, some are lacking
pub record IsCutShort (o : Listed) (q : Asked) (log : List Entry) : Type 0 where
  pub found : List Limited
  pub justifications : (j : Limited) → Contains found j → IsJustificationSet o q j
  pub known : AreKnownAmong (IsOfAll o) o q log found

-- a query was searched, with this log; if the search was finished, no test ended because the budget was spent
pub record IsSearched (o : Listed) (q : Asked) (budget : ℕ) (log : List Entry) (s : Searched) : Type 0 where
  pub honest : IsEvidenceLog o q budget log
  pub witnessed : IsWitnessed o q s.found s.evidence.refutations.items s.evidence.models.items
  pub shown : s.found.finished ≡ true → ShowsEvidence o q log
  pub unspent : s.found.finished ≡ true → list_any is_spent log ≡ false
  pub spent : s.found.finished ≡ false → spent_of log ≡ budget
  pub cut_short : s.found.finished ≡ false → IsCutShort o q log
