use Rattle.std.proofs.Common.{length}
use Rattle.eds_io.specs.Files.{HaveOwnNames}
use Rattle.eds_io.proofs.files.have_own_names.Given as goal

abbrev pub invariant-loop-rest : goal.invariant-loop-rest
invariant-loop-rest l = record {
  on : HaveOwnNames l.files → HaveOwnNames l.rest;
  back : HaveOwnNames l.rest → HaveOwnNames l.files;
}

abbrev pub decreases-loop-rest : goal.decreases-loop-rest
decreases-loop-rest l = length l.rest
