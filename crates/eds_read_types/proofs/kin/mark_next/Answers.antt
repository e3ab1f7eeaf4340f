use Rattle.std.proofs.Common.{◌&&◌, length}
use Rattle.eds_graph.specs.Reaching.{mark}
use Rattle.eds_read_types.specs.Kin.{is_over}
use Rattle.eds_read_types.proofs.KinFacts.{above-next}
use Rattle.eds_read_types.proofs.kin.mark_next.Goals as goal

pub returns : goal.returns
returns c = above-next (length c.args.rows.now) c.args.id (λ c' k. mark c.args.given.now c' && is_over c.args.rows.now c.args.own c' k) c.args.marks.now c.mark_if.new.marks c.requires c.mark_if.ensures.long c.mark_if.ensures.set
