use Rattle.std.proofs.Common.{◌≡◌, ◌++◌, drop}
use Rattle.eds_fits.specs.Deciding.{argument_ids}
use Rattle.eds_fits.proofs.activity.argument_ids.Given as goal

-- the types so far, and those to come, are all of them
abbrev pub invariant-loop-id : goal.invariant-loop-id
invariant-loop-id l = l.ids.items ++ argument_ids (drop l.id-index l.arguments) ≡ argument_ids l.arguments
