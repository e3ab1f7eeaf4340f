-- The bits of a view, and those that a reader has left.
use Rattle.std.specs.Prelude.{drop}
use Rattle.eds_bits.specs.Bits.{Bits, bits_of}
use Rattle.eds_bits.specs.declared.reader.BitView.{BitView}
use Rattle.eds_bits.specs.declared.reader.BitReader.{BitReader}

-- the bits of a view
abbrev pub view_bits : BitView → Bits
view_bits view = drop view.from (bits_of view.octets.now)

-- the bits that a reader has left
abbrev pub bits_left : BitReader → Bits
bits_left reader = drop reader.at (bits_of reader.octets.now)
