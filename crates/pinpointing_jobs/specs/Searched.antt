-- What the search for justifications and repairs finds.
use Rattle.std.specs.Prelude.{◌≡◌, ℕ, ◌-◌, ◌++◌, true, false, List, length, cond}
use Rattle.std.specs.List.{Contains, list_any}
use Rattle.axiom_sets.specs.Sets.{Limited, IsWithin}
use Rattle.pinpointing_specs.specs.Smallest.{rest, IsExplored}
use Rattle.pinpointing_specs.specs.Order.{IsAscending}
use Rattle.pinpointing_specs.specs.Nodes.{AreNodes, AreSettled}
use Rattle.query_asker.specs.InOrder.{HaveOneLimit}
use Rattle.repair_list.specs.TreeFound.{Found}
use Rattle.shq_terms.specs.Listed.{Listed}
use Rattle.shq_terms.specs.declared.axioms.Query.{Query as Asked}
use Rattle.pinpointing_specs.specs.LocalModule.{FollowsFrom}
use Rattle.query_asker.specs.Entry.{Entry}
use Rattle.query_asker.specs.Entries.{spent_of, nodes_of, is_spent}
use Rattle.query_asker.specs.HonestLog.{IsJustificationSet, IsPinpointingLog}
use Rattle.query_asker.specs.Shown.{ShowsPinpointing}
use Rattle.pinpointing_jobs.specs.Known.{HasAllShown, LeavesSomeOpen}

-- a leaf: a set of axioms of the ontology without which the query does not follow
pub record IsLeaf (o : Listed) (q : Asked) (l : Limited) : Type 0 where
  pub limit_is : l.limit ≡ length o.axioms
  pub within : IsWithin l.limit l.members
  pub ends : ¬ FollowsFrom o.axioms q (rest l)

-- what is known of a search's log, and of the justifications and leaves that it found
pub record IsSearched (o : Listed) (q : Asked) (budget : ℕ) (log : List Entry) (f : Found) : Type 0 where
  pub honest : IsPinpointingLog o q budget log
  -- justifications in their order, and leaves
  pub order : IsAscending f.justifications.items
  pub justifications : (j : Limited) → Contains f.justifications.items j → IsJustificationSet o q j
  pub leaves : (l : Limited) → Contains f.leaves.items l → IsLeaf o q l
  pub limits : HaveOneLimit (f.justifications.items ++ f.leaves.items)
  -- the nodes of the log are those of a hitting-set tree with these labels, and settled, the last one apart where the
  -- budget was spent
  pub nodes : AreNodes f.justifications.items (nodes_of log)
  pub leaf_taken : (l : Limited) → Contains f.leaves.items l → Contains (nodes_of log) l
  pub settled : AreSettled f.justifications.items f.leaves.items (nodes_of log)
      (cond f.finished (length (nodes_of log)) (length (nodes_of log) - 1))
  -- nothing that was found is left out, and a search that is not finished lacks some
  pub all_shown : HasAllShown o q log f.justifications.items
  pub left_open : f.finished ≡ false → LeavesSomeOpen o q log f.justifications.items
  -- a finished search found all, and its log shows it; no test ended because the budget was spent
  pub explored : f.finished ≡ true
      → IsExplored (FollowsFrom o.axioms q) (length o.axioms) f.justifications.items f.leaves.items
  pub shown : f.finished ≡ true → ShowsPinpointing o q log
  pub unspent : f.finished ≡ true → list_any is_spent log ≡ false
  pub spent : f.finished ≡ false → spent_of log ≡ budget
