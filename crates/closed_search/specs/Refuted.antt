-- The refutation of a search whose lines close everything.
use Rattle.std.specs.Prelude.{◌≡◌, ℕ, ◌+◌, ◌<◌, ◌&&◌, Bool, List, [], ◌∷◌, length, Some}
use Rattle.std.specs.List.{list_all}
use Rattle.shq_terms.specs.declared.axioms.Query.{Query}
use Rattle.axiom_sets.specs.Sets.{Limited, member_list}
use Rattle.shq_terms.specs.Listed.{Listed}
use Rattle.shq_terms.specs.Uses.{uses_listed}
use Rattle.calculus_specs.specs.Shape.{Shape}
use Rattle.calculus_specs.specs.Tree.{tree_of}
use Rattle.calculus_specs.specs.Line.{Line}
use Rattle.calculus_specs.specs.Valid.{IsRefutation}
use Rattle.refutation_truth.specs.Theory.{node_in_question, question_in}
use Rattle.search_trace.specs.RefutationLists.{RefutationLists}
use Rattle.search_trace.specs.RuleLine.{concept_numbers}
use Rattle.search_trace.specs.Written.{line_is_listed}
use Rattle.search_trace.specs.ReadBack.{IsWritable}
use Rattle.search_trace.specs.Leaves.{leaves}
use Rattle.search_trace.specs.Noted.{NotedLine, start_of}
use Rattle.search_trace.specs.Back.{step_of}

-- whether the names of a concept of the table are listed
abbrev pub concept_is_listed : Listed → List Shape → ℕ → Bool
concept_is_listed o table c = uses_listed (length o.classes) (length o.roles) (tree_of table c)

-- whether the names in the line are listed: those of its concept, and its role
abbrev pub uses_names : Listed → List Shape → Line → Bool
uses_names o table line = list_all (concept_is_listed o table) (concept_numbers line) && line_is_listed o line

-- from the start of a search for what refutes the query, over a set of axioms, the lines close everything; the node in
-- question is one of the first
pub record CloseAll (o : Listed) (set : Limited) (table : List Shape) (query : Query) (lines : List NotedLine) :
    Type 0 where
  pub at_first : node_in_question (length o.individuals) query.on < length o.individuals + 1
  pub closes : leaves (step_of (question_in o (member_list set) query) table)
      (start_of (question_in o (member_list set) query) ∷ []) lines
      ≡ Some []

-- the refutation is valid over the axioms that it names, and can be written
pub record IsWrittenRefutation (o : Listed) (query : Query) (r : RefutationLists) : Type 0 where
  pub refutes : IsRefutation (question_in o (member_list r.axioms) query) r.shapes r.lines
  pub writable : IsWritable o r
