use Rattle.std.proofs.Common.{◌≡◌, ℕ, ◌<◌, length, None}
use Rattle.std.specs.Prelude.{slice_index_or}
use Rattle.search_rules.specs.Tables.{FindsComplement}
use Rattle.search_rules.proofs.complements.complement_numbers.Given as goal

abbrev pub invariant-loop-number : goal.invariant-loop-number
invariant-loop-number l = record {
  same : l.concepts ≡ l.fn.concepts;
  long : length l.found.items ≡ l.number;
  each : (c : ℕ) → c < l.number → FindsComplement l.fn.concepts c (slice_index_or l.found.items c None);
}
