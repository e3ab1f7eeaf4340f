use Rattle.std.proofs.Common.{true, arith}
use Rattle.json.proofs.Printed.Plain.{escape_on_plain}
use Rattle.eds_value.proofs.quoted.is_plain.Goals as goal

pub returns : goal.returns
returns c = escape_on_plain true c.args.text.now (λ k from below. c.loop-octet.invariant k from (omega (arith, below, c.loop-octet-test.false)))
