use Rattle.std.proofs.Common.{length, ap, ◌∙◌, arith}
use Rattle.std.proofs.lemmas.List.{length-drop}
use Rattle.eds_bits.proofs.OctetLaws.{length-bits_of}
use Rattle.eds_bits.specs.Reader.{view_bits}
use Rattle.eds_trials.proofs.agreement.behind.Goals as goal

pub after-requires : goal.after-requires
after-requires c =
    let e = ap length c.new.ensures in
    omega (arith, e, length-bits_of c.args.octets.now, c.if-bits-octets.false)

pub returns : goal.returns
returns c =
    let e = ap length c.new.ensures in
    let d = ap length c.after.ensures ∙ length-drop c.args.bits (view_bits c.new.result) in
    omega (arith, e, d, length-bits_of c.args.octets.now, c.if-octets-gt65536.false)
