use Rattle.std.proofs.Common.{}
use Rattle.module_extract.proofs.Gained.{gained_more}
use Rattle.module_extract.proofs.users.Users.add_all.Goals as goal

pub loop-name-preserved : goal.loop-name-preserved
loop-name-preserved c =
    gained_more c.args.self.now c.loop-name.self c.add.new.self c.args.names.now c.loop-name.name-index _ c.args.place
    c.loop-name-test.true c.loop-name.invariant c.in_ok-add.ensures
