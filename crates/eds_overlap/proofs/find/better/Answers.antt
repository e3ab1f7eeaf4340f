use Rattle.eds_overlap.specs.Pairs.{Named}
use Rattle.eds_overlap.proofs.Listing.{met_apart}
use Rattle.eds_overlap.proofs.find.better.Goals as goal

pub returns-in-None : goal.returns-in-None
returns-in-None c = met_apart c.args.table.now (Named c.args.used.now) c.args.second.0 c.args.first c.args.best c.in-None.ensures.none
