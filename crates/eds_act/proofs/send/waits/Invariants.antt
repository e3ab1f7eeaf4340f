use Rattle.std.proofs.Common.{◌≡◌, drop}
use Rattle.eds_act.specs.Does.{waits}
use Rattle.eds_act.proofs.send.waits.Given as goal

abbrev pub invariant-loop-one : goal.invariant-loop-one
invariant-loop-one l = waits (drop l.one-index l.waiting) l.face l.member l.name ≡ waits l.waiting l.face l.member l.name
