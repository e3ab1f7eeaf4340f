use Rattle.std.proofs.Common.{arith}
use Rattle.eds_value.proofs.Steps.{drop_one}
use Rattle.eds_script.specs.Carries.{end_fields}
use Rattle.eds_script.proofs.Carrying.{mapped-step}
use Rattle.eds_script.proofs.carries.component_fields.Goals as goal

pub loop-end-preserved : goal.loop-end-preserved
loop-end-preserved c =
    mapped-step end_fields _ _ c.end-item.result c.loop-end.all c.push.new.self _ c.in_ok-fields.fields
    (drop_one c.as_slice-end-items.result.now c.loop-end.end-index c.end-item.result (omega arith) c.end-item.is) c.in_ok-push.ensures.ok c.in_ok-fields.ensures c.loop-end.invariant
