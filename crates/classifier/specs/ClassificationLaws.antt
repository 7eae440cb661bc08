-- What follows of the tests of a classification.
use Rattle.std.specs.Prelude.{◌≡◌, ℕ, ◌+◌, ◌<◌, ◌||◌, true, List, length}
use Rattle.shq_terms.specs.Concept.{Concept}
use Rattle.shq_terms.specs.Listed.{Listed}
use Rattle.shq_terms.specs.declared.axioms.On.TheVariants.{Any}
use Rattle.shq_meaning.specs.Truth.{Entails}
use Rattle.subsumption.specs.Theory.{all_axioms}
use Rattle.subsumption.specs.Limits.{IsOntologyInLimit, IsInLimit}
use Rattle.subsumption.specs.Entry.{Entry}
use Rattle.subsumption.specs.HonestLog.{IsClassificationLog}
use Rattle.subsumption.specs.Shown.{IsRuledOut}
use Rattle.subsumption.specs.Matrices.{Matrix, has}
use Rattle.subsumption.specs.Rows.{Rows, holds}
use Rattle.subsumption.specs.Subsumption.{query_at}
use Rattle.classifier.specs.ClassificationClassified.{IsClassified}
use Rattle.subsumption.specs.Mirrors.{Mirrors}

-- what the log of a classification rules out does not follow
abbrev pub ExclusionsAreTrue : Type 0
ExclusionsAreTrue = (o : Listed) (budget : ℕ) (log : List Entry) (x y : Concept) → IsClassificationLog o budget log
    → IsRuledOut log x y → ¬ Entails (all_axioms o.axioms) (record { sub = x; sup = y; on = Any })

-- where each pair is known or ruled out, what is known is which class is included in which
abbrev pub SettledIsClassified : Type 0
SettledIsClassified = (o : Listed) (budget : ℕ) (log : List Entry) (known : Rows) (ruled_out : Matrix)
    → IsClassificationLog o budget log → Mirrors o log known ruled_out
    → ((x y : ℕ) → x < length o.classes + 2 → y < length o.classes + 2 → (holds known x y || has ruled_out x y) ≡ true)
    → IsClassified o log known

-- each question between two classes of an ontology within the limits is within them
abbrev pub QuestionsAreInLimit : Type 0
QuestionsAreInLimit = (o : Listed) (x y : ℕ) → IsOntologyInLimit o → x < length o.classes + 2 → y < length o.classes + 2
    → IsInLimit o (query_at (length o.classes) x y)
