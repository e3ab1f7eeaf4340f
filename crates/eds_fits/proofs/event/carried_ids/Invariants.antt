use Rattle.std.proofs.Common.{◌≡◌, ◌++◌, drop}
use Rattle.eds_fits.specs.Deciding.{carried_ids}
use Rattle.eds_fits.proofs.event.carried_ids.Given as goal

-- the types so far, and those to come, are all of them
abbrev pub invariant-loop-argument : goal.invariant-loop-argument
invariant-loop-argument l = l.ids.items ++ carried_ids l.way (drop l.argument-index l.arguments) ≡ carried_ids l.way l.arguments
