use Rattle.std.proofs.Common.{arith}
use Rattle.eds_types.specs.Plain.{plain}
use Rattle.eds_bits.proofs.OctetLaws.{length-bits_of}
use Rattle.eds_replay.proofs.Holding.{held-few, value-held}
use Rattle.eds_replay.proofs.spelling.holds_value.Goals as goal

pub unpack_by-requires-clause-most : goal.unpack_by-requires-clause-most
unpack_by-requires-clause-most c = rw c.new.ensures (omega (arith, c.requires.most, length-bits_of c.args.octets.now))

pub is_whole-requires-clause-within : goal.is_whole-requires-clause-within
is_whole-requires-clause-within c = let size = rw c.new.ensures at c.in-Ok.ensures.size in omega (arith, size, length-bits_of c.args.octets.now)

pub returns-in-Ok-clause-holds : goal.returns-in-Ok-clause-holds
returns-in-Ok-clause-holds c h =
    let whole = c.is_whole.ensures.holds h in
    value-held c.args.table.now c.args.id.0 (plain c.args.value.now) c.args.octets.now (plain c.in-Ok.read) c.in-Ok.size whole.0 (rw c.new.ensures at c.in-Ok.ensures.size) whole.1 (rw c.new.ensures at c.in-Ok.ensures.value)

pub returns-in-Ok-clause-only : goal.returns-in-Ok-clause-only
returns-in-Ok-clause-only c h =
    c.is_whole.ensures.only (held-few c.args.table.now c.args.id.0 (plain c.args.value.now) c.args.octets.now c.in-Ok.read c.in-Ok.size _ c.new.ensures c.in-Ok.ensures.only_value h)
