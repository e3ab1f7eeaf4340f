use Rattle.std.proofs.Common.{Ok}
use Rattle.eds_bits.specs.Reader.{view_bits}
use Rattle.eds_unpack.proofs.Fronts.{readable, fits_size, is_spelled}
use Rattle.eds_unpack.proofs.whole.value_by.Goals as goal

pub returns-in-Ok-clause-size : goal.returns-in-Ok-clause-size
returns-in-Ok-clause-size c = fits_size c.reading_is_exact.ensures c.args.table.now c.args.id.0 (readable c.args.table.now c.args.id.0 c.keeps_rules.ensures c.requires.clear c.requires.known) (view_bits c.args.view) (Ok c.in-Ok.found) c.in-Ok.ensures.gives

pub returns-in-Ok-clause-value : goal.returns-in-Ok-clause-value
returns-in-Ok-clause-value c = is_spelled c.reading_is_exact.ensures c.args.table.now c.args.id.0 (readable c.args.table.now c.args.id.0 c.keeps_rules.ensures c.requires.clear c.requires.known) (view_bits c.args.view) (Ok c.in-Ok.found) c.in-Ok.ensures.gives
