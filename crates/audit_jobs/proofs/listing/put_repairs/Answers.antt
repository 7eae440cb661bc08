use Rattle.std.proofs.Common.{◌<◌, ◌∙◌, length, refl, arith}
use Rattle.audit_jobs.proofs.Putting.{repair_after, has_model, repair_put, repair_justifications, no_repairs}
use Rattle.audit_jobs.proofs.Putting.{all_repairs}
use Rattle.audit_jobs.proofs.listing.put_repairs.Goals as goal

pub loop-place-init : goal.loop-place-init
loop-place-init c = record {
  listing =
      no_repairs c.args.sets.now c.args.audit.now.repairs c.args.models.now.items c.requires.none c.requires.modelled;
  justifications = refl;
}

pub put_repair-requires-clause-after : goal.put_repair-requires-clause-after
put_repair-requires-clause-after c =
    let a = c.loop-place.audit in
    let ms = c.loop-place.models.items in
    let lt : c.loop-place.place < length c.args.sets.now = c.loop-place-test.true in
    repair_after c.args.sets.now c.requires.order c.args.models.now.items c.loop-place.place a a ms ms
    c.index-sets-place.result lt c.index-sets-place.is c.loop-place.invariant.listing

pub put_repair-requires-clause-modelled : goal.put_repair-requires-clause-modelled
put_repair-requires-clause-modelled c =
    let a = c.loop-place.audit in
    let ms = c.loop-place.models.items in
    let lt : c.loop-place.place < length c.args.sets.now = c.loop-place-test.true in
    has_model c.args.sets.now c.requires.order c.args.models.now.items c.loop-place.place a a ms ms
    c.index-sets-place.result lt c.index-sets-place.is c.loop-place.invariant.listing

pub loop-place-preserved : goal.loop-place-preserved
loop-place-preserved c =
    let a = c.loop-place.audit in
    let b = c.put_repair.new.audit in
    let ms = c.loop-place.models.items in
    let left = c.put_repair.new.models.items in
    let lt : c.loop-place.place < length c.args.sets.now = c.loop-place-test.true in
    let puts = c.in_ok-put_repair.ensures in
    record {
      listing =
          repair_put c.args.sets.now c.requires.order c.args.models.now.items c.loop-place.place a b ms left
          c.index-sets-place.result lt c.index-sets-place.is c.loop-place.invariant.listing puts;
      justifications =
          repair_justifications c.args.sets.now c.requires.order c.args.models.now.items c.loop-place.place a b ms left
          c.index-sets-place.result lt c.index-sets-place.is c.loop-place.invariant.listing puts
          ∙ c.loop-place.invariant.justifications;
    }

pub returns-clause-listed : goal.returns-clause-listed
returns-clause-listed c =
    all_repairs c.args.sets.now c.args.models.now.items c.loop-place.place c.loop-place.audit.repairs
    c.loop-place.models.items (omega (arith, c.loop-place-test.false)) c.loop-place.invariant.listing
