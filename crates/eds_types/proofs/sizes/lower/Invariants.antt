use Rattle.std.proofs.Common.{◌≡◌, ◌<◌, ℕ, length, drop, slice_index}
use Rattle.eds_types.specs.LeastSize.{lowered}
use Rattle.eds_types.proofs.sizes.lower.Given as goal

abbrev pub invariant-loop-id : goal.invariant-loop-id
invariant-loop-id l = (id : ℕ) → id < length l.families → lowered l.size (drop l.id-index l.chain) id (slice_index l.families id) ≡ lowered l.size l.chain id (slice_index l.initial.families id)
