use Rattle.std.proofs.Common.{[], inl, inr, ap, sym}
use Rattle.eds_bits.specs.Scalars.{check_of_octets, remainder}
use Rattle.eds_codec.proofs.check.check_of_none.Goals as goal

pub returns-in-Checksum : goal.returns-in-Checksum
unfolding remainder
returns-in-Checksum c =
    elim c.in-Checksum.is [
      | inl checksum ↦ ap (λ kind. check_of_octets kind []) (sym checksum)
      | inr others ↦ elim others [ inl longitudinal ↦ ap (λ kind. check_of_octets kind []) (sym longitudinal) | inr crc8 ↦ ap (λ kind. check_of_octets kind []) (sym crc8) ]
    ]

pub returns-in-Crc16Ccitt : goal.returns-in-Crc16Ccitt
unfolding remainder
returns-in-Crc16Ccitt c = ap (λ kind. check_of_octets kind []) (sym c.in-Crc16Ccitt.is)
