use Rattle.std.proofs.Common.{◌+◌}
use Rattle.eds_host.proofs.Adapted.{state_later}
use Rattle.eds_host.proofs.line.tick_line.Goals as goal

pub returns-clause-states : goal.returns-clause-states
returns-clause-states c =
    let states = c.in_ok-handled.ensures.states in
    record { all = states.all; each = λ i s e. state_later c.args.setting.now.table.now c.args.setting.now.plan.now i c.go_on.new.now (c.args.now.now + c.args.n) s c.in_ok-handled.ensures.until c.requires.now (states.each i s e) }
