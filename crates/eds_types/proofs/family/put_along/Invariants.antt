use Rattle.std.proofs.Common.{◌≡◌, ℕ, length, option_map, slice_get}
use Rattle.eds_types.specs.Families.{with_member}
use Rattle.eds_types.proofs.family.put_along.Given as goal

abbrev pub invariant-loop-rest : goal.invariant-loop-rest
invariant-loop-rest l = (length l.lists ≡ length l.initial.lists) × ((x : ℕ) → option_map (with_member l.id l.rest x) (slice_get l.lists x) ≡ option_map (with_member l.id l.chain x) (slice_get l.initial.lists x))

abbrev pub decreases-loop-rest : goal.decreases-loop-rest
decreases-loop-rest l = length l.rest
