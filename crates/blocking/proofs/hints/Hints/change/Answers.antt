use Rattle.std.proofs.Common.{◌≡◌, ◌<◌, ◌∙◌, ap, sym, subst, arith, length, ℕ, List, []}
use Rattle.std.specs.Prelude.{slice_set}
use Rattle.std.proofs.lemmas.List.{length-set}
use Rattle.blocking.specs.Hinted.{KnownNode, HintLists, IsHint, AreShown, AreHints}
use Rattle.blocking.proofs.Hinted.{hints_changed, shown_changed}
use Rattle.blocking.proofs.hints.Hints.change.Goals as goal

pub invariant_of-self-2 : goal.invariant_of-self-2
invariant_of-self-2 c =
    let ks = c.self.inside.known.items in
    let prints = c.self.inside.prints in
    let n = c.args.node in
    let k = c.args.known in
    let same : ks ≡ c.args.self.now.known = ap (λ (h : HintLists). h.known) c.self.view_is in
    let there : n < length ks = omega (arith, c.requires.there, ap length same) in
    let hint : IsHint ks [] n k.label k.hint =
    subst (λ (ls : List KnownNode). IsHint ls [] n k.label k.hint) (sym same) c.requires.hint in (
      ap length c.set.ensures ∙ length-set prints n c.args.print ∙ c.self.invariant.0 ∙ sym (length-set ks n k),
      subst (λ (ps : List (List ℕ)). AreShown (slice_set ks n k) ps) (sym c.set.ensures)
          (shown_changed ks prints c.self.invariant.1 c.self.invariant.0 k c.args.print c.requires.shown n there),
      subst (λ (but : List ℕ). AreHints (slice_set ks n k) but) (sym c.in_ok-push.ensures.items)
          (hints_changed ks c.self.inside.changed.items n k c.self.invariant.2 there hint),
    )
