use Rattle.std.proofs.Common.{◌-◌, arith, ap, map, string_bytes}
use Rattle.eds_generic.proofs.RepeatedMembers.{none-later, none-repeated, later-next, repeated-next, repeated-all}
use Rattle.eds_generic.proofs.members.first_repeated.Goals as goal

pub loop-left-init : goal.loop-left-init
loop-left-init c = record {
  later = λ q. none-later c.args.members.now (map string_bytes c.new-later.result.keys) q (ap (map string_bytes) c.new-later.ensures.empty);
  found = none-repeated c.args.members.now;
  few = omega arith;
}

pub loop-left-preserved : goal.loop-left-preserved
loop-left-preserved c = record {
  later = λ q. later-next c.args.members.now (c.loop-left.left - 1) c.loop-left.left c.index-members-left.result _ c.name_of-name.result.now (map string_bytes c.loop-left.later.keys) (map string_bytes c.note_later.new.later.keys) (omega (arith, c.loop-left.invariant.few)) (omega arith) c.index-members-left.is c.name_of-name.ensures c.loop-left.invariant.later c.in_ok-repeated.ensures.later q;
  found = repeated-next c.args.members.now (c.loop-left.left - 1) c.loop-left.left c.index-members-left.result _ c.name_of-name.result.now (map string_bytes c.loop-left.later.keys) c.in_ok-repeated.repeated _ _ (omega (arith, c.loop-left.invariant.few)) (omega arith) c.index-members-left.is c.name_of-name.ensures c.loop-left.invariant.later c.in_ok-repeated.ensures.found c.loop-left.invariant.found c.first_of-found.ensures;
  few = omega (arith, c.loop-left.invariant.few);
}

pub returns : goal.returns
returns c = repeated-all c.args.members.now c.loop-left.left _ (omega arith) c.loop-left.invariant.found
