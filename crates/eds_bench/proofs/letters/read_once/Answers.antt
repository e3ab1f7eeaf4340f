use Rattle.std.proofs.Common.{◌-◌, length, drop, ◌∙◌, ap, length-drop, arith}
use Rattle.eds_bits.specs.Bits.{bits_of}
use Rattle.eds_bits.proofs.OctetLaws.{length-bits_of}
use Rattle.eds_bench.proofs.letters.read_once.Goals as goal

pub after-requires : goal.after-requires
after-requires c = let bits = ap length c.new.ensures in omega (arith, bits, length-bits_of c.args.octets.now, c.requires.within_octet, c.requires.size, c.from.ensures)

pub check_next-requires : goal.check_next-requires
check_next-requires c =
    let left = ap length (c.new-reader.ensures ∙ c.after.ensures) in
    let dropped = length-drop c.from.result (bits_of c.args.octets.now) in
    omega (arith, left, dropped, ap (λ b. length (drop c.from.result b)) c.new.ensures, length-bits_of c.args.octets.now, c.requires.within_octet, c.requires.size, c.from.ensures)
