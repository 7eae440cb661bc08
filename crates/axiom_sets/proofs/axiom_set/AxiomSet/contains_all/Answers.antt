use Rattle.std.proofs.Common.{◌≡◌, ◌∙◌, sym, ap, length}
use Rattle.lane_sieve.specs.Sets.{number_set}
use Rattle.axiom_sets.specs.Sets.{Limited}
use Rattle.axiom_sets.proofs.Kept.{same_length, part_along}
use Rattle.axiom_sets.proofs.axiom_set.AxiomSet.contains_all.Goals as goal

pub is_part-requires : goal.is_part-requires
is_part-requires c =
    let limits : c.other.inside.limit ≡ c.self.inside.limit =
    ap (λ (s : Limited). s.limit) c.other.view_is ∙ sym c.requires
    ∙ sym (ap (λ (s : Limited). s.limit) c.self.view_is) in
    ap length c.deref.ensures.value
    ∙ same_length c.other.inside.limit c.self.inside.limit c.other.inside.words.items c.self.inside.words.items
    c.other.invariant c.self.invariant limits
    ∙ sym (ap length c.deref-2.ensures.value)

pub returns : goal.returns
returns c =
    let part : number_set c.deref.result.now ≡ c.args.other.now.members =
    ap number_set c.deref.ensures.value ∙ ap (λ (s : Limited). s.members) c.other.view_is in
    let whole : number_set c.deref-2.result.now ≡ c.args.self.now.members =
    ap number_set c.deref-2.ensures.value ∙ ap (λ (s : Limited). s.members) c.self.view_is in (
      λ h. part_along _ _ _ _ part whole (c.is_part.ensures.0 h),
      λ within. c.is_part.ensures.1 (part_along _ _ _ _ (sym part) (sym whole) within),
    )
