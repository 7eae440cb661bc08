use Rattle.std.proofs.Common.{◌≡◌, ◌+◌, ◌≤◌, drop, map}
use Rattle.std.specs.Prelude.{option_map}
use Rattle.finite_model.specs.ModelText.{elements_from}
use Rattle.refutation_tree.specs.RefutationText.{with_numbers}
use Rattle.audit_file.specs.AuditText.{numbers_set}
use Rattle.audit_file.proofs.reader.numbers_set.Given as goal

abbrev pub invariant-loop-word : goal.invariant-loop-word
invariant-loop-word l = record {
  told : option_map (λ ns. record { limit = l.count; members = with_numbers ns l.set.members })
      (elements_from (l.last + 1) (l.count + 1) (map (λ w. w.now) (drop l.word-index l.words)))
      ≡ numbers_set l.count (map (λ w. w.now) l.words);
  limit : l.set.limit ≡ l.count;
  high : l.last ≤ l.count;
}
