-- What is known of each two classes, and what is ruled out, as far as a log goes.
use Rattle.std.specs.Prelude.{◌≡◌, ◌↔◌, ℕ, ◌+◌, ◌<◌, ◌&&◌, ◌||◌, Bool, true, List, length}
use Rattle.shq_terms.specs.Listed.{Listed}
use Rattle.shq_oracle.specs.Entry.{Entry}
use Rattle.shq_oracle.specs.HonestLog.{IsChain}
use Rattle.shq_oracle.specs.Shown.{IsRuledOut}
use Rattle.subsumption.specs.Matrices.{Matrix, has}
use Rattle.subsumption.specs.Rows.{Rows, holds}
use Rattle.subsumption.specs.Subsumption.{class_at}

-- What is known is just what tests of the log lead to, in any number of steps. What is ruled out is just what they rule
-- out.
pub record Mirrors (o : Listed) (log : List Entry) (known : Rows) (ruled_out : Matrix) : Type 0 where
  pub count_is : known.count ≡ length o.classes
  pub size_is : ruled_out.size ≡ length o.classes + 2
  pub known_is : (x y : ℕ) → x < length o.classes + 2 → y < length o.classes + 2
      → (holds known x y ≡ true ↔ IsChain log (class_at (length o.classes) x) (class_at (length o.classes) y))
  pub ruled_out_is : (x y : ℕ) → x < length o.classes + 2 → y < length o.classes + 2
      → (has ruled_out x y ≡ true ↔ IsRuledOut log (class_at (length o.classes) x) (class_at (length o.classes) y))

-- ---- what follows if x is included in y

-- what is ruled out for x is ruled out for each class that y is included in
abbrev pub passed_up : Rows → ℕ → ℕ → Matrix → ℕ → ℕ → Bool
passed_up known x y old a b = has old a b || (holds known y a && has old x b)

-- and if y is ruled out, each class that is included in x is
abbrev pub passed_on : Rows → ℕ → ℕ → Matrix → ℕ → ℕ → Bool
passed_on known x y old a b = passed_up known x y old a b || (passed_up known x y old a y && holds known b x)
