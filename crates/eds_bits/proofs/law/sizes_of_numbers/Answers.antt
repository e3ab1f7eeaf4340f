use Rattle.eds_bits.proofs.PatternLaws.{are_small}
use Rattle.eds_bits.proofs.law.sizes_of_numbers.Goals as goal

pub returns : goal.returns
returns c =
    let small = are_small c.args.form.encoding c.args.form.bits c.args.form.valid.some c.args.form.valid.few in
    record { in_order = small.in_order; least = small.least; greatest = small.greatest }
