use Rattle.std.proofs.Common.{◌≡◌, ◌≢◌, List, get_or, subst, ap, ◌∙◌, arith, get_or-set_other}
use Rattle.std.proofs.lemmas.List.{get_or_default}
use Rattle.fact_tree.specs.Kept.{Lists, Kept, bare, absorbing, absorbed_at, lists_at, set_each}
use Rattle.fact_tree.specs.Entries.{AreLonger, IsLonger}
use Rattle.fact_tree.proofs.Growing.{on_err}
use Rattle.fact_tree.proofs.store.Store.join.Goals as goal

pub returns-in_err-absorb_in-clause-begins : goal.returns-in_err-absorb_in-clause-begins
returns-in_err-absorb_in-clause-begins g c =
    on_err c.from_residual.result
    (IsLonger c.args.low c.args.self.now
    (record { links = c.self.inside.links.items; nodes = c.absorb_in.new.nodes.items }))
    (record {
      links = ap (λ (k : Kept). k.links) c.self.view_is;
      lists =
          subst (λ (ns : List Lists). AreLonger c.args.low ns c.absorb_in.new.nodes.items)
          (ap (λ (k : Kept). k.nodes) c.self.view_is) c.in_err-absorb_in.ensures.begins;
    })

pub returns-clause-put : goal.returns-clause-put
returns-clause-put g c =
    let high = c.args.high in
    let low = c.args.low in
    let old = c.args.self.now in
    let links : c.self.inside.links.items ≡ old.links = ap (λ (k : Kept). k.links) c.self.view_is in
    let nodes : c.absorb_in.new.nodes.items ≡ absorbed_at high low old.nodes =
    c.in_ok-absorb_in.ensures.put ∙ ap (absorbed_at high low) (ap (λ (k : Kept). k.nodes) c.self.view_is) in
    let n : Lists = c.index.result.now in
    let other : high ≢ low = omega (arith, c.requires.falls) in
    let at : n ≡ lists_at old high =
    c.index.ensures ∙ ap (λ (ns : List Lists). get_or ns high n) nodes
    ∙ get_or-set_other old.nodes low high (absorbing (lists_at old high) (lists_at old low)) n other
    ∙ get_or_default old.nodes high n bare c.requires.exists in
    let members : c.members.result.now ≡ (lists_at old high).members =
    c.members.ensures ∙ ap (λ (u : Lists). u.members) at in
    let all : c.link_in.new.links.items ≡ set_each (lists_at old high).members low old.links =
    c.link_in.ensures ∙ (λ i. set_each (members i) low (links i)) in
    λ i. record { links = all i; nodes = nodes i }
