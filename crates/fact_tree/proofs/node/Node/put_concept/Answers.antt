use Rattle.std.proofs.Common.{rules, arith, ap, length, ◌∷◌, [], sym, subst, List, ℕ}
use Rattle.std.proofs.lemmas.List.{length-append}
use Rattle.fact_tree.specs.Short.{ArePrinted, EachIsNew}
use Rattle.fact_tree.proofs.Printed.{printed_more, printed_put}
use Rattle.fact_tree.proofs.Indexed.{new_behind}
use Rattle.fact_tree.proofs.node.Node.put_concept.Goals as goal

pub invariant_of-self-in_err-put_last : goal.invariant_of-self-in_err-put_last
invariant_of-self-in_err-put_last g c = (
  search rules,
  subst (λ (cs : List ℕ). ArePrinted cs c.put_number.new.words) (sym c.in_err-put_last.ensures.unchanged)
      (printed_more c.self.inside.concepts.items c.self.inside.print c.put_number.new.words _ c.put_number.ensures
      c.self.invariant.1),
  c.put_last.ensures.indexed,
  subst EachIsNew (sym c.in_err-put_last.ensures.unchanged) c.self.invariant.3,
)

pub invariant_of-self-2 : goal.invariant_of-self-2
invariant_of-self-2 g c = (
  record {
    members_short = c.self.invariant.0.members_short;
    concepts_short =
        omega (
          arith,
          ap length c.in_ok-put_last.ensures.put,
          length-append c.self.inside.concepts.items (c.args.concept ∷ []),
          c.if-len-ge-MOST.false,
          c.len.ensures,
        );
    edges_short = c.self.invariant.0.edges_short;
    aparts_short = c.self.invariant.0.aparts_short;
  },
  subst (λ (cs : List ℕ). ArePrinted cs c.put_number.new.words) (sym c.in_ok-put_last.ensures.put)
      (printed_put c.self.inside.concepts.items c.self.inside.print c.put_number.new.words c.args.concept
      c.put_number.ensures c.self.invariant.1),
  c.put_last.ensures.indexed,
  new_behind c.self.inside.concepts.items c.put_last.new.concepts.items c.args.concept c.in_ok-put_last.ensures.put
      (search rules) c.self.invariant.3,
)
