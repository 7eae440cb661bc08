-- Where each pair is settled, the classification is done.
use Rattle.std.proofs.Common.{◌≡◌, ◌⊎◌, ℕ, ◌+◌, ◌<◌, ◌||◌, true, List, length, subst}
use Rattle.shq_terms.specs.Concept.{Concept}
use Rattle.shq_terms.specs.Listed.{Listed}
use Rattle.subsumption.specs.Entry.{Entry}
use Rattle.subsumption.specs.HonestLog.{IsChain, IsClassificationLog}
use Rattle.subsumption.specs.Shown.{IsRuledOut, ShowsClasses}
use Rattle.subsumption.specs.Matrices.{Matrix, has}
use Rattle.subsumption.specs.Rows.{Rows, holds}
use Rattle.subsumption.specs.Subsumption.{class_at}
use Rattle.subsumption.specs.Mirrors.{Mirrors}
use Rattle.subsumption.specs.Settled.{IsSettled, IsShownPair}
use Rattle.subsumption.proofs.InLimit.{HasNumber, has_number}
use Rattle.subsumption.proofs.Settled.{is_settled}
use Rattle.classifier.specs.ClassificationClassified.{IsClassified}

-- each class has a number
shows : (o : Listed) (log : List Entry)
    → ((x y : ℕ) → x < length o.classes + 2 → y < length o.classes + 2 → IsShownPair (length o.classes) log x y)
    → ShowsClasses o log
shows o log shown x y cx cy differ = at (has_number o x cx) (has_number o y cy)
  where
    at : HasNumber o x → HasNumber o y → IsChain log x y ⊎ IsRuledOut log x y
    at (a, la, ea) (b, lb, eb) =
        let n = length o.classes in
        subst (λ (z : Concept). IsChain log z y ⊎ IsRuledOut log z y) ea
        (subst (λ (z : Concept). IsChain log (class_at n a) z ⊎ IsRuledOut log (class_at n a) z) eb (shown a b la lb))

pub classified : (o : Listed) (log : List Entry) (r : Rows) → IsSettled o log r → IsClassified o log r
classified o log r s = record { count_is = s.count_is; order = s.order; is_so = s.is_so; shown = shows o log s.shown }

pub is_classified : (o : Listed) (budget : ℕ) (log : List Entry) → IsClassificationLog o budget log
    → (known : Rows) (ruled_out : Matrix) → Mirrors o log known ruled_out
    → ((x y : ℕ) → x < length o.classes + 2 → y < length o.classes + 2 → (holds known x y || has ruled_out x y) ≡ true)
    → IsClassified o log known
is_classified o budget log honest known ruled_out m settled =
    classified o log known (is_settled o budget log honest known ruled_out m settled)
