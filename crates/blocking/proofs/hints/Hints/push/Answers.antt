use Rattle.std.proofs.Common.{◌≡◌, ◌++◌, [], ◌∷◌, ap, sym, subst, arith, length, ℕ, List}
use Rattle.std.proofs.lemmas.List.{length-append}
use Rattle.blocking.specs.Hinted.{KnownNode, HintLists, IsHint, AreShown, AreHints}
use Rattle.blocking.proofs.Hinted.{hints_more, shown_more}
use Rattle.blocking.proofs.hints.Hints.push.Goals as goal

pub invariant_of-self-in-Ok : goal.invariant_of-self-in-Ok
invariant_of-self-in-Ok c =
    let ks = c.self.inside.known.items in
    let prints = c.self.inside.prints in
    let changed = c.self.inside.changed.items in
    let k = c.args.known in
    let same : ks ≡ c.args.self.now.known = ap (λ (h : HintLists). h.known) c.self.view_is in
    let hint : IsHint ks [] (length ks) k.label k.hint =
    subst (λ (ls : List KnownNode). IsHint ls [] (length ls) k.label k.hint) (sym same) c.requires.hint in
    let long : length (prints ++ c.args.print ∷ []) ≡ length (ks ++ k ∷ []) =
    omega (arith, c.self.invariant.0, length-append prints (c.args.print ∷ []), length-append ks (k ∷ [])) in
    subst
    (λ (ls : List KnownNode). (length c.push.new.self ≡ length ls) × AreShown ls c.push.new.self × AreHints ls changed)
    (sym c.in-Ok.ensures.items)
    (subst
    (λ (ps : List (List ℕ)). (length ps ≡ length (ks ++ k ∷ [])) × AreShown (ks ++ k ∷ []) ps
    × AreHints (ks ++ k ∷ []) changed)
    (sym c.in_ok-push.ensures.ok) (
      long,
      shown_more ks prints c.self.invariant.1 c.self.invariant.0 k c.args.print c.requires.shown,
      hints_more ks changed k c.self.invariant.2 hint,
    ))
