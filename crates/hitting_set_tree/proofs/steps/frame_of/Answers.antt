use Rattle.std.proofs.Common.{◌≡◌, ◌∙◌, ◌&&◌, ◌||◌, not, ℕ, ap, sym, subst}
use Rattle.std.specs.Cmp.{nat_cmp_total}
use Rattle.std.specs.FinSet as set
use Rattle.lane_sieve.specs.Sets.{NumberSet}
use Rattle.axiom_sets.specs.Sets.{Limited}
use Rattle.hitting_set_tree.specs.Territory.{Frames}
use Rattle.hitting_set_tree.proofs.Children.{frames}
use Rattle.hitting_set_tree.proofs.steps.frame_of.Goals as goal

pub returns : goal.returns
returns c =
    let node = c.args.node in
    let label = c.args.label.now in
    let own = c.in_ok-own.own in
    let both = c.put_all.new.self in
    let ahead = c.take_all.new.self in
    let bars : (k : ℕ)
    → set.contains both.members k ≡ (set.contains node.barred.members k || set.contains label.members k) = λ k.
    ap (λ (s : NumberSet). set.contains s k) c.put_all.ensures.members
    ∙ set.contains-union nat_cmp_total node.barred.members label.members k in
    let less : (k : ℕ)
    → set.contains ahead.members k ≡ (set.contains label.members k && not (set.contains node.barred.members k)) = λ k.
    ap (λ (s : NumberSet). set.contains s k) c.take_all.ensures.members
    ∙ set.contains-difference nat_cmp_total c.in_ok-ahead.ahead.members node.barred.members k
    ∙ ap (λ (s : Limited). set.contains s.members k && not (set.contains node.barred.members k))
    c.in_ok-ahead.ensures in
    subst (λ (l : Limited). Frames node label (record { hit = node.hit; barred = both; ahead = ahead; label = l }))
    (sym c.in_ok-own.ensures)
    (frames node label both ahead c.requires.node c.requires.apart
    (c.put_all.ensures.limit ∙ c.requires.node.barred_limit)
    (c.take_all.ensures.limit ∙ ap (λ (s : Limited). s.limit) c.in_ok-ahead.ensures ∙ c.requires.limit) bars less)
