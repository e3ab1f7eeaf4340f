use Rattle.std.proofs.Common.{refl, sym, ap, ◌∙◌}
use Rattle.eds_plan.specs.declared.component.Level.TheVariants.{Subnetwork}
use Rattle.eds_script.specs.Events.{frame_type}
use Rattle.eds_script.proofs.OnlyOne.{none-only, some-only}
use Rattle.eds_script.proofs.frame.only_type.Goals as goal

pub returns-then-any_goes : goal.returns-then-any_goes
returns-then-any_goes c =
    none-only c.args.way c.loop-rest.rest.now _ refl c.in-len1-up.len_at_least c.argument-item.result c.argument-item.is (sym c.if-goes.ensures) (sym c.if-any_goes.ensures)
    ∙ ap (frame_type Subnetwork) c.loop-rest.invariant

pub returns-else-any_goes : goal.returns-else-any_goes
returns-else-any_goes c =
    some-only c.args.way c.loop-rest.rest.now _ refl c.in-len1-up.len_at_least c.argument-item.result c.argument-item.is (sym c.if-goes.ensures) (sym c.if-any_goes.ensures)
    ∙ ap (frame_type Subnetwork) c.loop-rest.invariant
