use Rattle.std.proofs.Common.{◌++◌, sym, subst, ap, ◌∙◌}
use Rattle.fact_tree.specs.Kept.{Lists, Begins}
use Rattle.fact_tree.proofs.Growing.{on_err, on_err_by, begins_putting, begins_edges, begins_aparts}
use Rattle.fact_tree.proofs.node.Node.absorb.Goals as goal

pub returns-in_err-put_edges-clause-begins : goal.returns-in_err-put_edges-clause-begins
returns-in_err-put_edges-clause-begins g c =
    on_err _ _
    (subst (Begins c.args.self.now) (sym (c.in_err-put_edges.ensures.unchanged ∙ c.in_ok-put_concepts.ensures.put))
    (begins_putting c.args.self.now c.concepts.result.now))

pub returns-in_err-put_aparts-clause-begins : goal.returns-in_err-put_aparts-clause-begins
returns-in_err-put_aparts-clause-begins g c =
    let old = c.args.self.now in
    let put =
    c.in_ok-put_edges.ensures.put
    ∙ ap (λ (n : Lists). record n { edges = n.edges ++ c.edges.result.now }) c.in_ok-put_concepts.ensures.put in
    on_err _ _
    (subst (Begins old) (sym (c.in_err-put_aparts.ensures.unchanged ∙ put))
    (begins_edges old c.concepts.result.now c.edges.result.now))

pub returns-clause-begins : goal.returns-clause-begins
returns-clause-begins g c =
    let old = c.args.self.now in
    let put =
    c.in_ok-put_edges.ensures.put
    ∙ ap (λ (n : Lists). record n { edges = n.edges ++ c.edges.result.now }) c.in_ok-put_concepts.ensures.put in
    let all =
    c.in_ok-put_aparts.ensures.put ∙ ap (λ (n : Lists). record n { aparts = n.aparts ++ c.aparts.result.now }) put in
    on_err_by c.put_members.result _ _
    (λ same. subst (Begins old) (sym (same ∙ all))
    (begins_aparts old c.concepts.result.now c.edges.result.now c.aparts.result.now))
    c.put_members.ensures.unchanged
