use Rattle.std.proofs.Common.{◌∙◌, ◌++◌, ◌%◌, ap, take, sum, arith}
use Rattle.eds_codec.proofs.Checks.{sum_next, all_taken}
use Rattle.eds_codec.proofs.check.summed.Goals as goal

pub loop-octet-preserved : goal.loop-octet-preserved
loop-octet-preserved c seen h = sum_next seen c.args.octets.now c.loop-octet.octet-index c.loop-octet.sum c.loop-octet-test.true (c.loop-octet.invariant seen h)

pub returns : goal.returns
returns c seen h = c.from.ensures ∙ c.loop-octet.invariant seen h ∙ ap (λ r. sum r % 256) (ap (λ k. seen ++ take k c.args.octets.now) (omega arith) ∙ all_taken seen c.args.octets.now)
