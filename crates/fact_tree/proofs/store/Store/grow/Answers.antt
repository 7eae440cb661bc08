use Rattle.std.proofs.Common.{◌≡◌, [], ◌∷◌, length, take, sym, ap, ◌∙◌}
use Rattle.std.proofs.Math.Seq.{take-append_seam, take-length}
use Rattle.fact_tree.specs.Kept.{Kept}
use Rattle.fact_tree.specs.Entries.{HasMore}
use Rattle.fact_tree.proofs.Growing.{on_err}
use Rattle.fact_tree.proofs.store.Store.grow.Goals as goal

pub returns-in_err-push-2-clause-begins : goal.returns-in_err-push-2-clause-begins
returns-in_err-push-2-clause-begins g c =
    let links : c.self.inside.links.items ≡ c.args.self.now.links = ap (λ (k : Kept). k.links) c.self.view_is in
    let nodes : c.self.inside.nodes.items ≡ c.args.self.now.nodes = ap (λ (k : Kept). k.nodes) c.self.view_is in
    on_err c.from_residual-in_err-push-2.result
    (HasMore c.args.self.now (record { links = c.push.new.self.items; nodes = c.push-2.new.self.items })) (record {
      links =
          (λ i. take (length (sym links i)) (c.in_ok-push.ensures.items i))
          ∙ take-append_seam c.self.inside.links.items (c.len-2.result ∷ []) ∙ links;
      nodes =
          (λ i. take (length (sym nodes i)) (c.in_err-push-2.ensures.items i)) ∙ take-length c.self.inside.nodes.items
          ∙ nodes;
    })

pub returns-in_err-node-clause-begins : goal.returns-in_err-node-clause-begins
returns-in_err-node-clause-begins g c =
    let links : c.self.inside.links.items ≡ c.args.self.now.links = ap (λ (k : Kept). k.links) c.self.view_is in
    let nodes : c.self.inside.nodes.items ≡ c.args.self.now.nodes = ap (λ (k : Kept). k.nodes) c.self.view_is in
    on_err _ (HasMore c.args.self.now (record { links = c.push.new.self.items; nodes = c.self.inside.nodes.items }))
    (record {
      links =
          (λ i. take (length (sym links i)) (c.in_ok-push.ensures.items i))
          ∙ take-append_seam c.self.inside.links.items (c.len-2.result ∷ []) ∙ links;
      nodes =
          (λ i. take (length (sym nodes i)) c.self.inside.nodes.items) ∙ take-length c.self.inside.nodes.items ∙ nodes;
    })

pub returns-in_err-push-clause-begins : goal.returns-in_err-push-clause-begins
returns-in_err-push-clause-begins g c =
    let links : c.self.inside.links.items ≡ c.args.self.now.links = ap (λ (k : Kept). k.links) c.self.view_is in
    let nodes : c.self.inside.nodes.items ≡ c.args.self.now.nodes = ap (λ (k : Kept). k.nodes) c.self.view_is in
    on_err _ (HasMore c.args.self.now (record { links = c.push.new.self.items; nodes = c.self.inside.nodes.items }))
    (record {
      links =
          (λ i. take (length (sym links i)) (c.in_err-push.ensures.items i)) ∙ take-length c.self.inside.links.items
          ∙ links;
      nodes =
          (λ i. take (length (sym nodes i)) c.self.inside.nodes.items) ∙ take-length c.self.inside.nodes.items ∙ nodes;
    })
