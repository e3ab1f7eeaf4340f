use Rattle.std.proofs.Common.{arith}
use Rattle.eds_types.specs.Rows.{id_of}
use Rattle.eds_overlap.specs.Pairs.{Named}
use Rattle.eds_overlap.proofs.Listing.{met_none, met_next, met_end}
use Rattle.eds_overlap.proofs.find.first_among.Goals as goal

pub loop-first-init : goal.loop-first-init
loop-first-init c = met_none c.args.table.now (Named c.args.used.now) c.args.second.0 c.args.best

pub loop-first-preserved : goal.loop-first-preserved
loop-first-preserved c =
    met_next c.args.table.now (Named c.args.used.now) c.args.second.0 c.args.ids.now c.loop-first.first-index (id_of 0) c.args.best c.loop-first.found c.better-found.result (omega arith) c.loop-first.invariant c.better-found.ensures

pub returns : goal.returns
returns c = met_end c.args.table.now (Named c.args.used.now) c.args.second.0 c.args.ids.now c.loop-first.first-index c.args.best c.loop-first.found (omega arith) c.loop-first.invariant
