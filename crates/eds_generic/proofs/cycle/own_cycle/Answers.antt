use Rattle.std.proofs.Common.{ap, ◌∙◌}
use Rattle.eds_base.specs.Refusals.{least}
use Rattle.eds_generic.specs.Cycles.{cycle_if}
use Rattle.eds_generic.proofs.Cycling.{circular-in}
use Rattle.eds_generic.proofs.cycle.own_cycle.Goals as goal

pub returns : goal.returns
returns c =
    c.cycle_where.ensures
    ∙ ap (λ b. least (cycle_if b c.args.face.now.place)) (c.is_circular.ensures ∙ circular-in c.args.faces.now c.args.courses.now c.args.id c.requires.within c.requires.courses)
