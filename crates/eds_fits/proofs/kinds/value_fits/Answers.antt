use Rattle.std.proofs.Common.{length, ap, arith}
use Rattle.eds_types.specs.Plain.{plain}
use Rattle.eds_fits.proofs.Values.{value-told}
use Rattle.eds_fits.proofs.kinds.value_fits.Goals as goal

pub returns : goal.returns
returns c = value-told c.args.table.now c.args.id.0 (plain c.args.value.now) c.conforms.result c.keeps_rules.ensures (omega (arith, ap length c.rows.ensures)) c.conforms.ensures
