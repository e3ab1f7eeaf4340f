use Rattle.std.proofs.Common.{ap}
use Rattle.eds_base.specs.Refusals.{least}
use Rattle.eds_generic.proofs.Endless.{no_own-ends}
use Rattle.eds_generic.proofs.used.instance.Goals as goal

pub members-requires : goal.members-requires
members-requires c = no_own-ends c.args.faces.now (ap least c.requires) _
