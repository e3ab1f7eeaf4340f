use Rattle.std.proofs.Common.{arith}
use Rattle.eds_names.proofs.FilesLemmas.{declared-next, arounds-next, found-next}
use Rattle.eds_names.proofs.space.read_files.Goals as goal

pub loop-file-preserved : goal.loop-file-preserved
loop-file-preserved c =
    let tree = c.index-trees-file.result in
    record {
      declared = declared-next c.args.trees.now c.loop-file.file tree tree c.loop-file.register.counts c.read_file.new.register.counts c.loop-file.register.declared.items c.read_file.new.register.declared.items _ (omega arith) c.index-trees-file.is c.in_ok-read_file.ensures.declared c.in_ok-read_file.ensures.counts c.loop-file.invariant.declared;
      arounds = arounds-next c.args.trees.now c.loop-file.file tree tree c.loop-file.register.arounds c.read_file.new.register.arounds _ (omega arith) c.index-trees-file.is c.in_ok-read_file.ensures.arounds c.loop-file.invariant.arounds;
      found = found-next c.args.trees.now c.loop-file.file tree tree c.loop-file.register.found c.read_file.new.register.found _ (omega arith) c.index-trees-file.is c.in_ok-read_file.ensures.found c.loop-file.invariant.found;
    }
