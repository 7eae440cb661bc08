use Rattle.std.proofs.Common.{◌<◌, ◌∙◌, length, refl, arith}
use Rattle.audit_jobs.proofs.Putting.{justification_after, has_refutation, justification_put, justification_repairs}
use Rattle.audit_jobs.proofs.Putting.{no_justifications, all_justifications}
use Rattle.audit_jobs.proofs.listing.put_justifications.Goals as goal

pub loop-place-init : goal.loop-place-init
loop-place-init c = record {
  listing =
      no_justifications c.args.sets.now c.args.audit.now.justifications c.args.refutations.now.items c.requires.none
      c.requires.refuted;
  repairs = refl;
}

pub put_justification-requires-clause-after : goal.put_justification-requires-clause-after
put_justification-requires-clause-after c =
    let a = c.loop-place.audit in
    let rs = c.loop-place.refutations.items in
    let lt : c.loop-place.place < length c.args.sets.now = c.loop-place-test.true in
    justification_after c.args.sets.now c.requires.order c.args.refutations.now.items c.loop-place.place a a rs rs
    c.index-sets-place.result lt c.index-sets-place.is c.loop-place.invariant.listing

pub put_justification-requires-clause-refuted : goal.put_justification-requires-clause-refuted
put_justification-requires-clause-refuted c =
    let a = c.loop-place.audit in
    let rs = c.loop-place.refutations.items in
    let lt : c.loop-place.place < length c.args.sets.now = c.loop-place-test.true in
    has_refutation c.args.sets.now c.requires.order c.args.refutations.now.items c.loop-place.place a a rs rs
    c.index-sets-place.result lt c.index-sets-place.is c.loop-place.invariant.listing

pub loop-place-preserved : goal.loop-place-preserved
loop-place-preserved c =
    let a = c.loop-place.audit in
    let b = c.put_justification.new.audit in
    let rs = c.loop-place.refutations.items in
    let left = c.put_justification.new.refutations.items in
    let lt : c.loop-place.place < length c.args.sets.now = c.loop-place-test.true in
    let puts = c.in_ok-put_justification.ensures in
    record {
      listing =
          justification_put c.args.sets.now c.requires.order c.args.refutations.now.items c.loop-place.place a b rs left
          c.index-sets-place.result lt c.index-sets-place.is c.loop-place.invariant.listing puts;
      repairs =
          justification_repairs c.args.sets.now c.requires.order c.args.refutations.now.items c.loop-place.place a b rs
          left c.index-sets-place.result lt c.index-sets-place.is c.loop-place.invariant.listing puts
          ∙ c.loop-place.invariant.repairs;
    }

pub returns-clause-listed : goal.returns-clause-listed
returns-clause-listed c =
    all_justifications c.args.sets.now c.args.refutations.now.items c.loop-place.place c.loop-place.audit.justifications
    c.loop-place.refutations.items (omega (arith, c.loop-place-test.false)) c.loop-place.invariant.listing
