use Rattle.std.proofs.Common.{ap, sym, ◌∙◌, arith}
use Rattle.eds_types.specs.Plain.{bits}
use Rattle.eds_pack.proofs.Zeros.{zero_octets}
use Rattle.eds_pack.proofs.Plains.{plain_bits}
use Rattle.eds_pack.proofs.defaults.zero_value.Goals as goal

pub returns : goal.returns
returns c = plain_bits c.args.count c.from_vec.result ∙ ap (bits c.args.count) (c.from_vec.ensures ∙ c.in_ok-octets.ensures.items_if_clones_equal (λ y q. q) ∙ sym (zero_octets c.args.count c.div_ceil.result (omega (arith, c.div_ceil.ensures))))
