use Rattle.std.proofs.Common.{◌+◌, drop, refl, sym, ap, ◌∙◌, subst, List, ℕ}
use Rattle.std.proofs.Math.ListN.{drop_of_length-le}
use Rattle.fact_tree.specs.Kept.{putting, Begins}
use Rattle.fact_tree.proofs.Growing.{begins_itself, begins_having, putting_step}
use Rattle.fact_tree.proofs.node.Node.put_concepts.Goals as goal

pub loop-index-init : goal.loop-index-init
loop-index-init g c = record { same = refl; begins = begins_itself c.args.self.now }

pub loop-index-preserved : goal.loop-index-preserved
loop-index-preserved g c =
    let put = c.in_ok-put_concept.ensures.put in
    record {
      same =
          ap (putting (drop (c.loop-index.index + 1) c.args.concepts.now)) put
          ∙ sym (putting_step c.loop-index.self c.args.concepts.now c.loop-index.index c.loop-index-test.true)
          ∙ c.loop-index.invariant.same;
      begins =
          subst (Begins c.args.self.now) (sym put)
          (begins_having c.args.self.now c.loop-index.self _ c.loop-index.invariant.begins);
    }

pub returns-clause-put : goal.returns-clause-put
returns-clause-put g c =
    ap (λ (cs : List ℕ). putting cs c.loop-index.self)
    (sym (drop_of_length-le c.args.concepts.now c.loop-index-test.false))
    ∙ c.loop-index.invariant.same
