use Rattle.std.proofs.Common.{◌∙◌, ap, arith}
use Rattle.std.specs.List.{flat_map}
use Rattle.eds_base.specs.Refusals.{least}
use Rattle.eds_names.proofs.RepeatsLemmas.{least-next_of}
use Rattle.eds_read_types.specs.OpenConstraint.{open_asked, open_among}
use Rattle.eds_read_types.proofs.open_constraint.least_open.Goals as goal

pub loop-asked-preserved : goal.loop-asked-preserved
loop-asked-preserved c =
    least-next_of (open_among c.args.rows.now) c.args.lists.now c.loop-asked.asked-index c.asked-item.result _ c.loop-asked.found c.least_asked-here.result c.first-found.result _ (omega arith) c.asked-item.is
    (c.least_asked-here.ensures ∙ ap (λ s. least (flat_map (open_asked c.args.rows.now) s)) c.as_slice.ensures) c.first-found.ensures.first c.loop-asked.invariant
