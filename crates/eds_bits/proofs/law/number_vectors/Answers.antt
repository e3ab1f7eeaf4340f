use Rattle.std.proofs.Common.{refl}
use Rattle.eds_bits.specs.Bits.{low_bits, first_pieces}
use Rattle.eds_bits.proofs.law.number_vectors.Goals as goal

pub returns : goal.returns
unfolding low_bits first_pieces
returns c = record {
  sign_magnitude = refl;
  ones_complement = refl;
  twos_complement = refl;
  sign_magnitude_zero = refl;
  ones_complement_zero = refl;
  little_endian = refl;
  packed_bcd = refl;
  packed_bcd_digit = refl;
  bcd = refl;
  bcd_digit = refl;
  greatest = refl;
}
