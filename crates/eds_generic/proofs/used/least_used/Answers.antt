use Rattle.std.proofs.Common.{refl, arith}
use Rattle.eds_names.proofs.RepeatsLemmas.{least-next_of}
use Rattle.eds_generic.specs.Uses.{use_breaks}
use Rattle.eds_generic.proofs.Cycling.{least-end_of}
use Rattle.eds_generic.proofs.used.least_used.Goals as goal

pub loop-used-init : goal.loop-used-init
loop-used-init c = record {
  found = refl;
  clean = c.new-clean.ensures c.args.faces.now c.args.types.now;
}

pub loop-used-preserved : goal.loop-used-preserved
loop-used-preserved c = record {
  found = least-next_of (use_breaks c.args.faces.now c.args.types.now) c.args.uses.now c.loop-used.used-index c.used-item.result _ c.loop-used.found c.in_ok-here.here c.first-found.result _ (omega arith) c.used-item.is c.in_ok-here.ensures.least c.first-found.ensures.first c.loop-used.invariant.found;
  clean = c.in_ok-here.ensures.clean;
}

pub returns : goal.returns
returns c = least-end_of (use_breaks c.args.faces.now c.args.types.now) c.args.uses.now c.loop-used.used-index c.loop-used.found _ (omega arith) c.loop-used.invariant.found
