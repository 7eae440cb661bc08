use Rattle.std.proofs.Common.{◌≡◌, ◌<◌, ℕ, List, length, get_or, sym, subst, ap, ◌∙◌, arith}
use Rattle.std.proofs.lemmas.List.{get_or_default}
use Rattle.axiom_sets.specs.NumberSets.{NumberSet}
use Rattle.completion_tree.specs.declared.tree.Entry.{Entry}
use Rattle.completion_tree.specs.Trail.{facts_in, is_fact, places}
use Rattle.completion_tree.specs.Marks.{marks_at, IsGroundedBy}
use Rattle.completion_tree.proofs.Resting.{if_ok_by}
use Rattle.completion_tree.proofs.Places.{places-length, facts-count, place_below, grounded_by}
use Rattle.completion_tree.proofs.trail.Trail.marks_of_fact.Goals as goal

pub index-requires : goal.index-requires
index-requires g c =
    let es = c.self.inside.entries.items in
    omega (
      arith,
      c.requires,
      ap (λ us. length (facts_in us)) c.self.view_is,
      facts-count es,
      places-length is_fact 0 es,
      ap length c.self.invariant.0,
      c.self.inside.facts.ok,
    )

pub index-requires-2 : goal.index-requires-2
index-requires-2 g c =
    let es = c.self.inside.entries.items in
    let i = c.args.index in
    let n : ℕ = c.index.result.now in
    let lt : i < length (places is_fact 0 es) = omega
    (arith, c.requires, ap (λ us. length (facts_in us)) c.self.view_is, facts-count es, places-length is_fact 0 es) in
    omega
    (arith, place_below is_fact es i n lt, ap (λ (us : List ℕ). get_or us i n) c.self.invariant.0, c.index.ensures)

pub returns : goal.returns
returns g c =
    let es = c.self.inside.entries.items in
    let i = c.args.index in
    let e : Entry = c.index-2.result.now in
    let n : ℕ = c.index.result.now in
    let lt : i < length (facts_in es) = omega (arith, c.requires, ap (λ us. length (facts_in us)) c.self.view_is) in
    let len : i < length (places is_fact 0 es) = omega (arith, lt, facts-count es, places-length is_fact 0 es) in
    let place : n ≡ get_or (places is_fact 0 es) i 0 =
    c.index.ensures ∙ ap (λ (us : List ℕ). get_or us i n) c.self.invariant.0
    ∙ get_or_default (places is_fact 0 es) i n 0 len in
    let at : e ≡ get_or es (get_or (places is_fact 0 es) i 0) e =
    c.index-2.ensures ∙ ap (λ (k : ℕ). get_or es k e) place in
    if_ok_by c.copied_marks.result (λ u. u ≡ marks_at e) (IsGroundedBy c.args.self.now i)
    (λ u is. subst (λ (us : List Entry). IsGroundedBy us i u) c.self.view_is
    (subst (λ (v : NumberSet). IsGroundedBy es i v) (sym is) (grounded_by es i e lt at)))
    c.copied_marks.ensures
