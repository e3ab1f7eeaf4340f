use Rattle.std.proofs.Common.{arith}
use Rattle.eds_value.proofs.Lines.{block_put}
use Rattle.eds_value.proofs.line.put_block.Goals as goal

pub returns-clause-put : goal.returns-clause-put
returns-clause-put c =
    let p = c.put_before in
    block_put c.args.block c.args.room.now p.new.room c.args.end p.result c.args.size (omega arith) c.requires.few p.ensures.start p.ensures.put
