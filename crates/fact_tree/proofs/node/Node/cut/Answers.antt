use Rattle.std.proofs.Common.{rules, take, sym, subst, List, ℕ}
use Rattle.fact_tree.specs.Short.{ArePrinted, AreIndexed, EachIsNew}
use Rattle.fact_tree.proofs.Printed.{printed_taken}
use Rattle.fact_tree.proofs.Indexed.{first_new}
use Rattle.fact_tree.proofs.node.Node.cut.Goals as goal

pub invariant_of-self : goal.invariant_of-self
invariant_of-self g c =
    let cs = c.self.inside.concepts.items in (
      search rules,
      subst (λ (ds : List ℕ). ArePrinted ds c.self.inside.print) (sym c.truncate-2.ensures.items)
          (printed_taken c.args.concepts cs c.self.inside.print c.self.invariant.1),
      subst (λ (ds : List ℕ). AreIndexed ds c.forget_after.new.bits.items) (sym c.truncate-2.ensures.items)
          (subst (λ (ds : List ℕ). AreIndexed (take c.args.concepts ds) c.forget_after.new.bits.items)
          c.as_slice.ensures.value c.forget_after.ensures),
      subst EachIsNew (sym c.truncate-2.ensures.items) (first_new c.args.concepts cs c.self.invariant.3),
    )
