use Rattle.std.proofs.Common.{◌≡◌, ◌*◌, ◌∙◌, ap, arith, List, ℕ, length}
use Rattle.lane_sieve.specs.Sets.{number_set, members_below}
use Rattle.axiom_sets.specs.Sets.{Limited, member_list}
use Rattle.axiom_sets.proofs.Kept.{kept_short, kept-count, kept-list}
use Rattle.axiom_sets.proofs.axiom_set.AxiomSet.len.Goals as goal

counted : (c : goal.After-count_numbers)
    → c.count_numbers.result
    ≡ length (members_below (number_set c.self.inside.words.items) (64 * length c.self.inside.words.items))
counted c =
    c.count_numbers.ensures
    ∙ ap (λ (ws : List ℕ). length (members_below (number_set ws) (64 * length ws))) c.deref.ensures.value

pub count_numbers-requires : goal.count_numbers-requires
count_numbers-requires c = omega (
  arith,
  kept_short c.self.inside.limit c.self.inside.words.items c.self.invariant,
  ap (λ (ws : List ℕ). length ws) c.deref.ensures.value,
)

pub overflow_cast-result : goal.overflow_cast-result
overflow_cast-result c = record {
  fits = omega (
    arith,
    counted c,
    kept-count c.self.inside.limit c.self.inside.words.items c.self.invariant,
    c.self.invariant.small,
  );
}

pub returns : goal.returns
returns c =
    counted c
    ∙ ap (λ (xs : List ℕ). length xs) (kept-list c.self.inside.limit c.self.inside.words.items c.self.invariant)
    ∙ ap (λ (s : Limited). length (member_list s)) c.self.view_is
