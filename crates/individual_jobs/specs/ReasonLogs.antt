-- Honest logs of the search why individuals are in a class expression: one search for justifications after another, in
-- the order of the list of individuals, each a block of the log.
use Rattle.std.specs.Prelude.{◌≡◌, ℕ, ◌≤◌, List, Some, slice_get, length}
use Rattle.std.specs.List.{flat_map}
use Rattle.shq_terms.specs.Concept.{Concept}
use Rattle.shq_terms.specs.Listed.{Listed}
use Rattle.shq_terms.specs.declared.axioms.Query.{Query}
use Rattle.realizer.specs.Entry.{Entry}
use Rattle.realizer.specs.HonestLog.{IsHonestWithin, AreTestsOf, AsksNoAnswer, AreTreeNodes, AsksFewPerNode}
use Rattle.realizer.specs.HonestLog.{StaysInModule}
use Rattle.pinpointing_jobs.specs.Wanted.{ShowsAll}
use Rattle.realizer.specs.Instances.{instance_query}

-- Part of a log that is by itself what the log of a search for the justifications of one query is, the budget apart:
-- each test is one of the query and asks nothing that the block has answered, the nodes are those of one hitting-set
-- tree, there are few tests for each, and no set goes beyond the query's local module.
pub record IsBlock (o : Listed) (q : Query) (block : List Entry) : Type 0 where
  pub tests : AreTestsOf q block
  pub new : AsksNoAnswer block
  pub nodes : AreTreeNodes o q block
  pub few : AsksFewPerNode o block
  pub in_module : StaysInModule o q block

-- blocks, one after the other
abbrev pub joined_blocks : List (List Entry) → List Entry
joined_blocks blocks = flat_map (λ block. block) blocks

-- each block is that of the individual whose place it has
abbrev pub AreBlocks : Listed → Concept → List (List Entry) → Type 0
AreBlocks o c blocks =
    (a : ℕ) (block : List Entry) → slice_get blocks a ≡ Some block → IsBlock o (instance_query c a) block

-- the log has just these blocks, those of the first individuals of the list, and is honest within the budget
pub record IsReasonLog (o : Listed) (c : Concept) (budget : ℕ) (blocks : List (List Entry)) (log : List Entry)
    : Type 0 where
  pub budget_kept : IsHonestWithin o budget log
  pub is_log : log ≡ joined_blocks blocks
  pub each : AreBlocks o c blocks
  pub listed : length blocks ≤ length o.individuals

-- each block shows all justifications of its individual, and all repairs
abbrev pub AreShown : Listed → Concept → List (List Entry) → Type 0
AreShown o c blocks =
    (a : ℕ) (block : List Entry) → slice_get blocks a ≡ Some block → ShowsAll o (instance_query c a) block
