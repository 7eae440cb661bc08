use Rattle.std.proofs.Common.{rules, sym, subst, List, ℕ}
use Rattle.fact_tree.specs.Short.{ArePrinted}
use Rattle.fact_tree.proofs.Printed.{printed_top}
use Rattle.fact_tree.proofs.node.Node.new_in.Goals as goal

pub invariant_of-result : goal.invariant_of-result
invariant_of-result g c = (
  search rules,
  subst (λ (cs : List ℕ). ArePrinted cs c.put_number.new.words) (sym c.in_ok-push-2.ensures.items)
      (printed_top c.new-concepts.result.items _ c.put_number.new.words c.new-concepts.ensures.items
      c.put_number.ensures),
  search rules,
  search rules,
)
