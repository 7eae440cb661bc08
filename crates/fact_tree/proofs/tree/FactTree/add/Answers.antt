use Rattle.std.proofs.Common.{ℕ, ◌≡◌, length, sym, subst, ap, ◌∙◌, arith, List}
use Rattle.calculus_specs.specs.Joins.{rep}
use Rattle.calculus_specs.specs.State.{node_count_from}
use Rattle.fact_tree.specs.declared.tree.Entry.{Entry}
use Rattle.fact_tree.specs.declared.store.Lengths.{Lengths}
use Rattle.fact_tree.specs.Kept.{Kept, kept_of, at_of, after_at}
use Rattle.fact_tree.specs.Entries.{facts_of, AreEntries, AreFit, IsFit, IsPlace, AreOrdered, Leads, lengths_of}
use Rattle.fact_tree.proofs.Growing.{from_ok}
use Rattle.fact_tree.proofs.Law.{count_in, kept_linked, count_is, links_count, place_of, ordered_of}
use Rattle.fact_tree.proofs.Entries.{entries_more, fit_after, kept_more}
use Rattle.fact_tree.proofs.tree.FactTree.add.Goals as goal

pub places-at-requires : goal.places-at-requires
places-at-requires g c =
    let first = c.self.inside.first in
    let fs = facts_of c.self.inside.entries.items in
    subst (λ (n : ℕ). IsFit n c.args.fact)
    (sym (ap (λ (k : Kept). length k.links) c.self.invariant.0 ∙ links_count first fs c.self.invariant.2
    ∙ ap count_in c.self.view_is))
    c.requires

pub put-outcome-requires-clause-place : goal.put-outcome-requires-clause-place
put-outcome-requires-clause-place g c =
    let first = c.self.inside.first in
    let fs = facts_of c.self.inside.entries.items in
    let links = kept_linked first fs c.self.invariant.2 in
    let leads = subst (λ (k : Kept). Leads (rep fs) k.links) (sym c.self.invariant.0) links.leads in
    let at = c.places-at.ensures.at (rep fs) leads in
    let high = c.places-at.ensures.high (rep fs) leads in
    let fit =
    subst (λ (n : ℕ). IsFit n c.args.fact) (sym (count_is first fs c.self.invariant.2 ∙ ap count_in c.self.view_is))
    c.requires in
    let place = place_of (rep fs) (kept_of first fs) c.args.fact links fit in
    subst (λ (k : Kept). IsPlace c.lengths-lengths.result.node c.places-at.result.1 k) (sym c.self.invariant.0)
    (subst (λ (n : ℕ). IsPlace n c.places-at.result.1 (kept_of first fs))
    (sym (ap (λ (u : Lengths). u.node) c.lengths-lengths.ensures ∙ at))
    (subst (λ (n : ℕ). IsPlace (at_of (rep fs) c.args.fact) n (kept_of first fs)) (sym high) place))

pub lengths-lengths-requires : goal.lengths-lengths-requires
lengths-lengths-requires g c =
    let first = c.self.inside.first in
    let fs = facts_of c.self.inside.entries.items in
    let links = kept_linked first fs c.self.invariant.2 in
    let at =
    c.places-at.ensures.at (rep fs)
    (subst (λ (k : Kept). Leads (rep fs) k.links) (sym c.self.invariant.0) links.leads) in
    let fit =
    subst (λ (n : ℕ). IsFit n c.args.fact) (sym (count_is first fs c.self.invariant.2 ∙ ap count_in c.self.view_is))
    c.requires in
    let place = place_of (rep fs) (kept_of first fs) c.args.fact links fit in
    omega (arith, place.node_exists, at, ap (λ (k : Kept). length k.nodes) c.self.invariant.0)

pub put-outcome-requires-clause-ordered : goal.put-outcome-requires-clause-ordered
put-outcome-requires-clause-ordered g c =
    let first = c.self.inside.first in
    let fs = facts_of c.self.inside.entries.items in
    let links = kept_linked first fs c.self.invariant.2 in
    let leads = subst (λ (k : Kept). Leads (rep fs) k.links) (sym c.self.invariant.0) links.leads in
    let at = c.places-at.ensures.at (rep fs) leads in
    let high = c.places-at.ensures.high (rep fs) leads in
    subst (λ (n : ℕ). AreOrdered n c.places-at.result.1 c.args.fact)
    (sym (ap (λ (u : Lengths). u.node) c.lengths-lengths.ensures ∙ at))
    (subst (λ (n : ℕ). AreOrdered (at_of (rep fs) c.args.fact) n c.args.fact) (sym high)
    (ordered_of (rep fs) c.args.fact))

pub invariant_of-self-else-is_err : goal.invariant_of-self-else-is_err
invariant_of-self-else-is_err g c =
    let first = c.self.inside.first in
    let es = c.self.inside.entries.items in
    let fs = facts_of es in
    let e : Entry = record { fact = c.args.fact; lengths = c.lengths-lengths.result } in
    let links = kept_linked first fs c.self.invariant.2 in
    let leads = subst (λ (k : Kept). Leads (rep fs) k.links) (sym c.self.invariant.0) links.leads in
    let at = c.places-at.ensures.at (rep fs) leads in
    let high = c.places-at.ensures.high (rep fs) leads in
    let fine = sym c.if-is_err.ensures.value in
    let store = from_ok c.put-outcome.result _ fine c.put-outcome.ensures.store in
    let items = from_ok c.put-outcome.result _ fine c.put-outcome.ensures.entries in
    let is : IsFit (node_count_from first fs) e.fact =
    subst (λ (n : ℕ). IsFit n c.args.fact) (sym (ap count_in c.self.view_is)) c.requires in
    let node : e.lengths.node ≡ at_of (rep fs) e.fact = ap (λ (u : Lengths). u.node) c.lengths-lengths.ensures ∙ at in
    let lengths : e.lengths ≡ lengths_of (at_of (rep fs) e.fact) (kept_of first fs) =
    c.lengths-lengths.ensures ∙ (λ i. lengths_of (at i) (c.self.invariant.0 i)) in (
      store ∙ (λ i. after_at (node i) (high i) e.fact (c.self.invariant.0 i)) ∙ sym (kept_more first es e)
          ∙ ap (λ (us : List Entry). kept_of first (facts_of us)) (sym items),
      subst (AreEntries first) (sym items) (entries_more first es e c.self.invariant.1 c.self.invariant.2 is lengths),
      subst (λ (us : List Entry). AreFit first (facts_of us)) (sym items) (fit_after first es e c.self.invariant.2 is),
      c.self.invariant.3,
    )
