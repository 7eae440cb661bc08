use Rattle.std.proofs.Common.{◌≡◌, ◌*◌, ◌∙◌, ap, arith, List, ℕ, length}
use Rattle.std.specs.Ordering.{nat_cmp}
use Rattle.std.specs.Cmp.Lexicographic.{slice_cmp}
use Rattle.lane_sieve.specs.Sets.{number_set, members_below}
use Rattle.axiom_sets.specs.Sets.{Limited, member_list}
use Rattle.axiom_sets.proofs.Kept.{kept_short, kept-list}
use Rattle.axiom_sets.proofs.axiom_set.AxiomSet.cmp_list.Goals as goal

pub compare_numbers-requires-clause-short : goal.compare_numbers-requires-clause-short
compare_numbers-requires-clause-short c = omega (
  arith,
  kept_short c.self.inside.limit c.self.inside.words.items c.self.invariant,
  ap (λ (ws : List ℕ). length ws) c.deref.ensures.value,
)

pub returns : goal.returns
returns c =
    let left : members_below (number_set c.deref.result.now) (64 * length c.deref.result.now)
    ≡ member_list c.args.self.now =
    ap (λ (ws : List ℕ). members_below (number_set ws) (64 * length ws)) c.deref.ensures.value
    ∙ kept-list c.self.inside.limit c.self.inside.words.items c.self.invariant
    ∙ ap (λ (s : Limited). member_list s) c.self.view_is in
    let right : members_below (number_set c.deref-2.result.now) (64 * length c.deref-2.result.now)
    ≡ member_list c.args.other.now =
    ap (λ (ws : List ℕ). members_below (number_set ws) (64 * length ws)) c.deref-2.ensures.value
    ∙ kept-list c.other.inside.limit c.other.inside.words.items c.other.invariant
    ∙ ap (λ (s : Limited). member_list s) c.other.view_is in
    c.compare_numbers.ensures
    ∙ ap (λ (xs : List ℕ). slice_cmp nat_cmp xs
    (members_below (number_set c.deref-2.result.now) (64 * length c.deref-2.result.now)))
    left
    ∙ ap (slice_cmp nat_cmp (member_list c.args.self.now)) right
