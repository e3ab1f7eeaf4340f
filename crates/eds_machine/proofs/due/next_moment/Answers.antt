use Rattle.eds_machine.proofs.MomentLaws.{timers_near, least_is_next}
use Rattle.eds_machine.proofs.due.next_moment.Goals as goal

pub loop-nanoseconds-init : goal.loop-nanoseconds-init
loop-nanoseconds-init c = record {
  near = timers_near c.args.standing.at c.args.transitions.now c.timers-timers.result.now c.timers-timers.ensures c.requires.near;
  least = least_is_next c.args.standing c.args.transitions.now c.timers-timers.result.now c.timers-timers.ensures;
}
