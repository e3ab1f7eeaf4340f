use Rattle.std.proofs.Common.{◌≡◌, take}
use Rattle.eds_host.specs.Mirrors.{dues_of}
use Rattle.eds_host.specs.Settings.{running}
use Rattle.eds_host.proofs.beginning.all_due.Given as goal

abbrev pub invariant-loop-i : goal.invariant-loop-i
invariant-loop-i l = l.dues ≡ dues_of (running l.setting) 0 (take l.i l.states)
