use Rattle.std.proofs.Common.{◌≡◌, ◌∙◌, sym, ap, length}
use Rattle.lane_sieve.specs.Sets.{number_set}
use Rattle.axiom_sets.specs.Sets.{Limited}
use Rattle.axiom_sets.proofs.Kept.{same_length, meet_along}
use Rattle.axiom_sets.proofs.axiom_set.AxiomSet.meets.Goals as goal

pub do_meet-requires : goal.do_meet-requires
do_meet-requires c =
    let limits : c.self.inside.limit ≡ c.other.inside.limit =
    ap (λ (s : Limited). s.limit) c.self.view_is ∙ c.requires ∙ sym (ap (λ (s : Limited). s.limit) c.other.view_is) in
    ap length c.deref.ensures.value
    ∙ same_length c.self.inside.limit c.other.inside.limit c.self.inside.words.items c.other.inside.words.items
    c.self.invariant c.other.invariant limits
    ∙ sym (ap length c.deref-2.ensures.value)

pub returns : goal.returns
returns c =
    let left : number_set c.deref.result.now ≡ c.args.self.now.members =
    ap number_set c.deref.ensures.value ∙ ap (λ (s : Limited). s.members) c.self.view_is in
    let right : number_set c.deref-2.result.now ≡ c.args.other.now.members =
    ap number_set c.deref-2.ensures.value ∙ ap (λ (s : Limited). s.members) c.other.view_is in (
      λ h. meet_along _ _ _ _ left right (c.do_meet.ensures.0 h),
      λ common. c.do_meet.ensures.1 (meet_along _ _ _ _ (sym left) (sym right) common),
    )
