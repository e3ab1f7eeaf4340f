use Rattle.std.proofs.Common.{refl}
use Rattle.eds_bits.specs.Bits.{low_bits, first_pieces}
use Rattle.eds_bits.specs.Scalars.{remainder}
use Rattle.eds_bits.proofs.law.check_vectors.Goals as goal

pub returns : goal.returns
unfolding low_bits first_pieces remainder
returns c = record { checksum = refl; longitudinal = refl; crc8 = refl; crc16_ccitt = refl }
