use Rattle.std.proofs.Common.{◌≡◌, ◌<◌, ◌∙◌, ap, sym, subst, arith, length, List, []}
use Rattle.std.specs.Prelude.{slice_set}
use Rattle.std.proofs.lemmas.List.{length-set, get_or_read}
use Rattle.blocking.specs.Hinted.{KnownNode, HintLists, nothing_known, known_at, known_of, IsHint, AreShown, AreHints}
use Rattle.blocking.proofs.Hinted.{hints_renewed, shown_renewed}
use Rattle.blocking.proofs.hints.Hints.renew.Goals as goal

pub invariant_of-self : goal.invariant_of-self
invariant_of-self c =
    let ks = c.self.inside.known.items in
    let n = c.args.node in
    let same : ks ≡ c.args.self.now.known = ap (λ (h : HintLists). h.known) c.self.view_is in
    let there : n < length ks = omega (arith, c.requires.there, ap length same) in
    let k : c.index_mut.result.now ≡ known_at ks n =
    get_or_read ks n c.index_mut.result.now there c.index_mut.ensures.value nothing_known in
    let is : c.set_hint.new.self ≡ known_of (known_at ks n).label (known_at ks n).may_block c.args.hint =
    c.set_hint.ensures ∙ ap (λ (m : KnownNode). known_of m.label m.may_block c.args.hint) k in
    let hint : IsHint ks [] n (known_at ks n).label c.args.hint =
    subst (λ (ls : List KnownNode). IsHint ls [] n (known_at ls n).label c.args.hint) (sym same) c.requires.hint in
    subst
    (λ (m : KnownNode). (length c.self.inside.prints ≡ length (slice_set ks n m))
    × AreShown (slice_set ks n m) c.self.inside.prints × AreHints (slice_set ks n m) c.self.inside.changed.items)
    (sym is) (
      c.self.invariant.0
          ∙ sym (length-set ks n (known_of (known_at ks n).label (known_at ks n).may_block c.args.hint)),
      shown_renewed ks c.self.inside.prints c.self.invariant.1 n c.args.hint there,
      hints_renewed ks c.self.inside.changed.items n c.args.hint c.self.invariant.2 there hint,
    )
