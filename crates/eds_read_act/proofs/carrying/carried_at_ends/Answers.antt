use Rattle.std.proofs.Common.{◌≡◌, map, drop, subst, sym, IfSome}
use Rattle.eds_plan.specs.Carried.{leaving, arriving}
use Rattle.eds_read_act.specs.Carrying.{end_fields}
use Rattle.eds_read_act.specs.Numbered.{at_number}
use Rattle.eds_read_act.proofs.Sharing.{alike-made}
use Rattle.eds_read_act.proofs.carrying.carried_at_ends.Goals as goal

pub push_end-requires-clause-sent : goal.push_end-requires-clause-sent
push_end-requires-clause-sent c =
    subst (λ o. IfSome (at_number c.loop-end.carried.sent o) (λ fs. fs ≡ end_fields leaving c.end-item.result)) (sym c.alike_number-alike.ensures)
    (alike-made leaving c.args.ends.now c.end-item.result c.loop-end.carried.sent (map (end_fields leaving) (drop c.loop-end.end-index c.args.ends.now)) c.in_ok-earlier.earlier c.loop-end.invariant.sent)

pub push_end-requires-clause-received : goal.push_end-requires-clause-received
push_end-requires-clause-received c =
    subst (λ o. IfSome (at_number c.loop-end.carried.received o) (λ fs. fs ≡ end_fields arriving c.end-item.result)) (sym c.alike_number-alike.ensures)
    (alike-made arriving c.args.ends.now c.end-item.result c.loop-end.carried.received (map (end_fields arriving) (drop c.loop-end.end-index c.args.ends.now)) c.in_ok-earlier.earlier c.loop-end.invariant.received)
