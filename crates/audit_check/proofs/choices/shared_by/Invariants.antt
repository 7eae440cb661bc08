use Rattle.std.proofs.Common.{◌≡◌, take}
use Rattle.audit_check.specs.Territory.{AreShared}
use Rattle.audit_check.proofs.choices.shared_by.Given as goal

abbrev pub invariant-loop-place : goal.invariant-loop-place
invariant-loop-place l = record {
  limit : l.blocked.limit ≡ l.fitting.limit;
  shared : AreShared (take l.place l.sets) l.others.members l.number l.fitting.members l.blocked.members;
}
