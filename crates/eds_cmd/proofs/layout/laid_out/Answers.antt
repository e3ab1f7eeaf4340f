use Rattle.eds_cmd.specs.Target.{type_in}
use Rattle.eds_cmd.proofs.Reporting.{layout_told}
use Rattle.eds_cmd.proofs.layout.laid_out.Goals as goal

pub returns : goal.returns
returns c = layout_told c.layouts_tell.ensures (type_in c.args.target.now) c.keeps_rules.ensures c.in_ok-report.report c.in_ok-report.ensures
