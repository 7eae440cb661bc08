use Rattle.std.proofs.Common.{List, ℕ, ap, sym, subst, ◌∙◌}
use Rattle.assertion_box.specs.Stated.{Stated}
use Rattle.assertion_box.specs.Places.{ArePlacesOf, list_at}
use Rattle.assertion_box.proofs.Placed.{are_places}
use Rattle.assertion_box.proofs.facts.Facts.of.Goals as goal

pub returns : goal.returns
returns c =
    let named =
    ap (λ (ls : List (List ℕ)). list_at ls c.args.individual) c.deref.ensures.value
    ∙ c.self.invariant c.args.individual in
    subst (λ (ss : List Stated). ArePlacesOf c.args.individual ss c.new.result) c.self.view_is
    (subst (λ (ps : List ℕ). ArePlacesOf c.args.individual c.self.inside.stated ps)
    (sym (c.new.ensures ∙ c.list_at.ensures ∙ named))
    (are_places c.args.individual c.self.inside.stated))
