use Rattle.std.proofs.Common.{◌≡◌, ◌∙◌, sym, ap}
use Rattle.std.specs.Bool.{one_answer}
use Rattle.std.specs.FinSet as set
use Rattle.std.proofs.lemmas.Bool.{true≢false}
use Rattle.lane_sieve.specs.Sets.{IsPart}
use Rattle.axiom_sets.specs.Sets.{Limited}
use Rattle.axiom_sets.specs.Compared.{limited_eq, limited_decides}
use Rattle.axiom_sets.proofs.Same.{set_of_parts, same_limited}
use Rattle.axiom_sets.proofs.comparing.AxiomSetPartialEq.eq.Goals as goal

part_of_same : (s t : Limited) → s ≡ t → IsPart s.members t.members
part_of_same s t e k h = ap (λ (x : Limited). set.contains x.members k) (sym e) ∙ h

pub returns-then-contains_all-clause-same : goal.returns-then-contains_all-clause-same
returns-then-contains_all-clause-same c =
    let s = c.args.self.now in
    let t = c.args.other.now in (
      λ yes'. same_limited s t (sym c.limit.ensures.limit ∙ c.if-limit.false ∙ c.limit-2.ensures.limit)
          (set_of_parts s.members t.members (c.contains_all-then-contains_all.ensures.0 yes')
          (c.contains_all.ensures.0 c.if-contains_all.true)),
      λ e. c.contains_all-then-contains_all.ensures.1 (part_of_same s t e),
    )

pub returns-then-contains_all-clause-value : goal.returns-then-contains_all-clause-value
returns-then-contains_all-clause-value c =
    one_answer c.contains_all-then-contains_all.result (limited_eq c.args.self.now c.args.other.now)
    (returns-then-contains_all-clause-same c) (limited_decides c.args.self.now c.args.other.now)

pub returns-else-contains_all-clause-same : goal.returns-else-contains_all-clause-same
returns-else-contains_all-clause-same c = (
  λ yes'. absurd (true≢false (sym yes' ∙ c.if-contains_all.false)),
  λ e. c.contains_all.ensures.1 (part_of_same c.args.other.now c.args.self.now (sym e)),
)

pub returns-else-contains_all-clause-value : goal.returns-else-contains_all-clause-value
returns-else-contains_all-clause-value c =
    one_answer c.contains_all.result (limited_eq c.args.self.now c.args.other.now)
    (returns-else-contains_all-clause-same c) (limited_decides c.args.self.now c.args.other.now)
