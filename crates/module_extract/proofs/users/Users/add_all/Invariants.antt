use Rattle.std.proofs.Common.{take}
use Rattle.module_extract.specs.Users.{HasGained}
use Rattle.module_extract.proofs.users.Users.add_all.Given as goal

abbrev pub invariant-loop-name : goal.invariant-loop-name
invariant-loop-name l = HasGained l.initial.self l.self (take l.name-index l.names) l.place
