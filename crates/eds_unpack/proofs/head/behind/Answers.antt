use Rattle.eds_unpack.proofs.SegmentReads.{slice_behind}
use Rattle.eds_unpack.proofs.head.behind.Goals as goal

pub returns : goal.returns
returns c = slice_behind c.args.count c.args.parts.now
