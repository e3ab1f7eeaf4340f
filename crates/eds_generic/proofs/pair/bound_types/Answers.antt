use Rattle.std.proofs.Common.{◌-◌, arith, rules}
use Rattle.eds_generic.proofs.Indexing.{bound-start, bound-next}
use Rattle.eds_generic.proofs.pair.bound_types.Goals as goal

pub loop-left-init : goal.loop-left-init
loop-left-init c = record {
  bound = bound-start c.args.face c.args.types.now c.args.maps.now c.args.count c.in_ok-bound.bound.items (search rules);
  few = omega arith;
}

pub loop-left-preserved : goal.loop-left-preserved
loop-left-preserved c = record {
  bound = bound-next c.args.face c.args.types.now c.args.maps.now (c.loop-left.left - 1) c.loop-left.left c.args.count c.index-maps-left.result _ c.loop-left.bound.items c.note.new.bound.items (omega (arith, c.loop-left.invariant.few)) (omega arith) c.index-maps-left.is c.loop-left.invariant.bound c.note.ensures;
  few = omega (arith, c.loop-left.invariant.few);
}
