use Rattle.std.proofs.Common.{◌≡◌, length}
use Rattle.module_extract.specs.Users.{IsIndex}
use Rattle.module_extract.proofs.users.Users.new.Given as goal

abbrev pub invariant-loop-place : goal.invariant-loop-place
invariant-loop-place l = record {
  classes : length l.users.classes.items ≡ l.classes;
  roles : length l.users.roles.items ≡ l.roles;
  index : IsIndex l.axioms l.place l.users;
}
