use Rattle.std.proofs.Common.{◌≡◌, drop}
use Rattle.eds_read_act.specs.Numbered.{numbered}
use Rattle.eds_read_act.specs.Sending.{as_command}
use Rattle.eds_read_act.proofs.sending.command_among.Given as goal

abbrev pub invariant-loop-at : goal.invariant-loop-at
invariant-loop-at l = numbered (as_command l.name) l.at (drop l.at l.members) ≡ numbered (as_command l.name) 0 l.members
