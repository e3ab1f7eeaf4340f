use Rattle.std.proofs.Common.{◌≡◌, ◌++◌, drop}
use Rattle.eds_machine.specs.Reactions.{without}
use Rattle.eds_machine.proofs.waiting.without.Given as goal

abbrev pub invariant-loop-one : goal.invariant-loop-one
invariant-loop-one l = l.left ++ without (drop l.one-index l.waiting) l.face l.member l.name ≡ without l.waiting l.face l.member l.name
