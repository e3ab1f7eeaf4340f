use Rattle.std.proofs.Common.{rules}
use Rattle.eds_bits.specs.Reader.{bits_left}
use Rattle.eds_unpack.proofs.Numbers.{number_taken}
use Rattle.eds_unpack.proofs.skim.number.Goals as goal

pub returns-in-Some-decode_int-clause-read : goal.returns-in-Some-decode_int-clause-read
returns-in-Some-decode_int-clause-read c =
    let e = number_taken c.args.form (bits_left c.args.reader.now) c.in-Some.raw _ c.in-Some.ensures.enough c.in-Some.ensures.value (c.in-Some-decode_int.ensures.number c.in-Some.ensures.bound) in
    search rules

pub returns-in-None-decode_int-clause-fault : goal.returns-in-None-decode_int-clause-fault
returns-in-None-decode_int-clause-fault c =
    let e = number_taken c.args.form (bits_left c.args.reader.now) c.in-Some.raw _ c.in-Some.ensures.enough c.in-Some.ensures.value (c.in-None-decode_int.ensures.number c.in-Some.ensures.bound) in
    search rules
