use Rattle.audit_file.proofs.Blocks.{block_is, behind_is}
use Rattle.audit_file.proofs.reader.Reader.block.Goals as goal

pub returns-clause-block : goal.returns-clause-block
returns-clause-block c =
    block_is c.self.inside.number c.block_len-len.result c.self.inside.rest.now c.args.self.now c.self.view_is
    c.block_len-len.ensures.len

pub returns-clause-behind : goal.returns-clause-behind
returns-clause-behind c =
    behind_is c.self.inside.number c.block_len-len.result c.self.inside.rest.now c.args.self.now c.self.view_is
    c.block_len-len.ensures.len
