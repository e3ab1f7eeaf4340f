use Rattle.std.proofs.Common.{arith}
use Rattle.eds_bits.specs.Reader.{bits_left}
use Rattle.eds_unpack.proofs.Fronts.{readable, no_longer}
use Rattle.eds_unpack.proofs.whole.read_exactly.Goals as goal

pub overflow_sub-bits : goal.overflow_sub-bits
overflow_sub-bits c =
    let h = no_longer c.reading_is_exact.ensures c.args.table.now c.args.id.0 (readable c.args.table.now c.args.id.0 c.keeps_rules.ensures c.requires.clear c.requires.known) (bits_left c.new-reader.result) _ _ c.in_ok-value.ensures.gives in
    omega (arith, h, c.left-all.ensures, c.left-left.ensures)

pub read_value-requires-clause-inner : goal.read_value-requires-clause-inner
read_value-requires-clause-inner c = record { there = c.requires.known; low = record { rules = c.keeps_rules.ensures; low = c.keeps_rules.ensures.nesting c.args.id.0 } }
