use Rattle.eds_host.proofs.OneFrame.{plans_read_one}
use Rattle.eds_host.proofs.Resumed.{ends_may_resume, joined_runs_resume, resumed_ends_may_resume}
use Rattle.eds_host.proofs.law.runs_resume.Goals as goal

pub returns : goal.returns
returns c = record {
  ends = ends_may_resume c.packed_sizes.ensures;
  further = resumed_ends_may_resume c.packed_sizes.ensures;
  join = joined_runs_resume c.packed_sizes.ensures (plans_read_one c.one_outcome.ensures);
}
