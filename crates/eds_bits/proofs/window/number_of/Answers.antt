use Rattle.std.proofs.Common.{◌*◌, ◌%◌, ◌^◌, ◌≤◌, length, take, bit_or, arith, ap, ◌∙◌, length-take}
use Rattle.eds_bits.proofs.Windows.{octet_step, octets_bound}
use Rattle.eds_bits.proofs.window.number_of.Goals as goal

pub loop-octet-preserved : goal.loop-octet-preserved
loop-octet-preserved c =
    ap (λ x. bit_or (x * 2 ^ 8 % 2 ^ 128) c.from.result) c.loop-octet.invariant
    ∙ octet_step c.args.octets.now c.loop-octet.octet-index c.from.result c.loop-octet-test.true c.requires c.from.ensures (omega (arith, c.from.ensures, c.type_inv.octets c.loop-octet.octet-index))

pub returns-clause-bound : goal.returns-clause-bound
returns-clause-bound c =
    let few : length (take c.loop-octet.octet-index c.args.octets.now) ≤ length c.args.octets.now = omega (arith, length-take c.loop-octet.octet-index c.args.octets.now) in
    omega (arith, c.loop-octet.invariant, octets_bound (take c.loop-octet.octet-index c.args.octets.now) (length c.args.octets.now) few)
