use Rattle.std.proofs.Common.{◌*◌, ◌∙◌, ap, arith, List, ℕ, length}
use Rattle.lane_sieve.specs.Sets.{number_set, members_below}
use Rattle.axiom_sets.specs.Sets.{Limited, member_list}
use Rattle.axiom_sets.proofs.Kept.{kept_short, kept-list}
use Rattle.axiom_sets.proofs.axiom_set.AxiomSet.numbers.Goals as goal

pub new-requires : goal.new-requires
new-requires c = omega (
  arith,
  kept_short c.self.inside.limit c.self.inside.words.items c.self.invariant,
  ap (λ (ws : List ℕ). length ws) c.deref.ensures.value,
)

pub returns-clause-members : goal.returns-clause-members
returns-clause-members c =
    c.new.ensures ∙ ap (λ (ws : List ℕ). members_below (number_set ws) (64 * length ws)) c.deref.ensures.value
    ∙ kept-list c.self.inside.limit c.self.inside.words.items c.self.invariant
    ∙ ap (λ (s : Limited). member_list s) c.self.view_is
