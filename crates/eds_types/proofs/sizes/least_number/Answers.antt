use Rattle.std.proofs.Common.{arith}
use Rattle.eds_types.proofs.LeastSizes.{least_number-le}
use Rattle.eds_types.proofs.sizes.least_number.Goals as goal

pub loop-span-init : goal.loop-span-init
loop-span-init c = (omega arith, omega (arith, least_number-le c.as_slice-span-items.result.now))
