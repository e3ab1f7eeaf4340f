use Rattle.std.proofs.Common.{sym, ap, ◌∙◌}
use Rattle.eds_base.specs.Refusals.{least}
use Rattle.eds_generic.specs.Cycles.{cycle_if}
use Rattle.eds_generic.proofs.Cycling.{here-met, here-unmet}
use Rattle.eds_generic.proofs.cycle.cycle_at.Goals as goal

pub returns-then-is_marked : goal.returns-then-is_marked
returns-then-is_marked c =
    c.cycle_where.ensures ∙ ap (λ b. least (cycle_if b c.args.face.now.place)) c.is_circular-circular.ensures
    ∙ here-met c.args.faces.now c.args.met.now c.args.courses.now c.args.from c.args.id c.args.face.now.place c.requires.within c.requires.met c.requires.courses (sym c.is_marked.ensures ∙ c.if-is_marked.true)

pub returns-else-is_marked : goal.returns-else-is_marked
returns-else-is_marked c =
    here-unmet c.args.faces.now c.args.met.now c.args.courses.now c.args.from c.args.id c.args.face.now.place c.requires.within c.requires.met c.requires.courses (sym c.is_marked.ensures ∙ c.if-is_marked.false)
