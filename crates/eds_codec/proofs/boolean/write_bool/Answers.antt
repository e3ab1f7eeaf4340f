use mathlib.Core.Bool.{beq}
use Rattle.eds_codec.proofs.Booleans.{number_fits, bool_written}
use Rattle.eds_codec.proofs.boolean.write_bool.Goals as goal

pub put-requires-clause-fits : goal.put-requires-clause-fits
put-requires-clause-fits c = number_fits c.args.form.bits c.from-number.result (beq c.args.b c.args.form.zero_is_false) c.args.form.some c.from-number.ensures

pub returns-clause-written : goal.returns-clause-written
returns-clause-written c = bool_written c.args.form c.args.b c.put.result c.from-number.result c.args.at c.args.room.now c.put.new.room c.from-number.ensures c.put.ensures.written
