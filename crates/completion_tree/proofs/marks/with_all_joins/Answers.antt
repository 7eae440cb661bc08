use Rattle.std.proofs.Common.{◌≡◌, ◌<◌, ℕ, [], ◌∷◌, List, length, get_or, subst, ap, arith}
use Rattle.std.specs.Prelude.{filter}
use Rattle.calculus_specs.specs.Joins.{rep}
use Rattle.completion_tree.specs.declared.tree.Entry.{Entry}
use Rattle.completion_tree.specs.Trail.{is_same, places}
use Rattle.completion_tree.specs.Marks.{is_join, AreWithin}
use Rattle.completion_tree.proofs.Resting.{part_itself, part_on, are-next}
use Rattle.completion_tree.proofs.Places.{place_below, read_entry, joins_done, filtered_below}
use Rattle.completion_tree.proofs.marks.with_all_joins.Goals as goal

pub loop-place-init : goal.loop-place-init
loop-place-init g c = record { more = part_itself c.args.ground; joins = tt }

pub entry-requires : goal.entry-requires
entry-requires g c =
    let es = c.args.trail.now in
    let i = c.loop-place.place-index in
    let all = c.joins-place-items.ensures in
    let lt : i < length (places is_same 0 es) = omega (arith, c.loop-place-test.true, ap length all) in
    omega (arith, place_below is_same es i 0 lt, ap (λ (us : List ℕ). get_or us i 0) all)

pub loop-place-preserved : goal.loop-place-preserved
loop-place-preserved g c =
    let p = is_join (rep c.args.facts.now.facts) c.args.first c.args.second in
    let es = c.args.trail.now in
    let i = c.loop-place.place-index in
    let e = c.entry.result.now in
    let all = c.joins-place-items.ensures in
    let lt : i < length (places is_same 0 es) = omega (arith, c.loop-place-test.true, ap length all) in
    let at : e ≡ get_or (filter is_same es) i e =
    read_entry is_same es i _ e lt (ap (λ (us : List ℕ). get_or us i 0) all) c.entry.ensures in
    let here : AreWithin p c.in_ok-used.used (get_or (filter is_same es) i e ∷ []) =
    subst (λ (d : Entry). AreWithin p c.in_ok-used.used (d ∷ [])) at c.in_ok-used.ensures.joins in
    record {
      more =
          part_on c.args.ground c.loop-place.used c.in_ok-used.used c.loop-place.invariant.more
          c.in_ok-used.ensures.more;
      joins =
          are-next p c.loop-place.used c.in_ok-used.used (filter is_same es) i e (filtered_below is_same es i lt)
          c.loop-place.invariant.joins c.in_ok-used.ensures.more here;
    }

pub returns-clause-joins : goal.returns-clause-joins
returns-clause-joins g c =
    let es = c.args.trail.now in
    joins_done (rep c.args.facts.now.facts) c.args.first c.args.second c.loop-place.used es c.loop-place.place-index
    (omega (arith, c.loop-place-test.false, ap length c.joins-place-items.ensures)) c.loop-place.invariant.joins
