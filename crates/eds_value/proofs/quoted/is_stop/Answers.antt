use Rattle.std.proofs.Common.{arith}
use Rattle.eds_value.proofs.Strings.{stop_entry}
use Rattle.eds_value.proofs.quoted.is_stop.Goals as goal

pub returns : goal.returns
returns c = stop_entry c.args.octet (omega arith)
