-- Two questions that say the same to a line.
use Rattle.std.specs.Prelude.{◌≡◌, ℕ}
use Rattle.calculus_specs.specs.Rows.{Theory, part_at}
use Rattle.calculus_specs.specs.Rules.{Question}
use Rattle.calculus_specs.specs.Line.{Line}
use Rattle.calculus_specs.specs.Line.Line.{start_line, and_line, or_line, all_line, carry_line, row_line, range_line}
use Rattle.calculus_specs.specs.Line.Line.{some_line, least_line, choose_line, pair_line, bottom_line, clash_line}
use Rattle.calculus_specs.specs.Line.Line.{most_line, fact_line, differ_line}

-- two theories with the same roles
pub record HaveSameRoles (one other : Theory) : Type 0 where
  pub below : (r s : ℕ) → one.below r s ≡ other.below r s
  pub transitive : (t : ℕ) → one.is_transitive t ≡ other.is_transitive t

-- they ask the same, of the same nodes, over the same roles
pub record AskTheSame (one other : Question) : Type 0 where
  pub roles : HaveSameRoles one.theory other.theory
  pub sub : one.sub ≡ other.sub
  pub sup : one.sup ≡ other.sup
  pub first : one.first ≡ other.first
  pub at : one.at ≡ other.at

-- and they have the same part or the same fact that the line names, if it names one
abbrev pub HaveSamePart : Question → Question → Line → Type 0
HaveSamePart one other (row_line x a p positions) = part_at one.theory a p ≡ part_at other.theory a p
HaveSamePart one other (range_line x y a) = part_at one.theory a 1 ≡ part_at other.theory a 1
HaveSamePart one other (fact_line a p) = one.fact_of a p ≡ other.fact_of a p
HaveSamePart one other start_line = Unit {0}
HaveSamePart one other (and_line x c) = Unit {0}
HaveSamePart one other (or_line x c) = Unit {0}
HaveSamePart one other (all_line x y c) = Unit {0}
HaveSamePart one other (carry_line x y t c) = Unit {0}
HaveSamePart one other (some_line x y c) = Unit {0}
HaveSamePart one other (least_line x y c) = Unit {0}
HaveSamePart one other (choose_line y c) = Unit {0}
HaveSamePart one other (pair_line y z) = Unit {0}
HaveSamePart one other (bottom_line x) = Unit {0}
HaveSamePart one other (clash_line x c) = Unit {0}
HaveSamePart one other (most_line x c ys) = Unit {0}
HaveSamePart one other (differ_line y z) = Unit {0}
