use Rattle.std.proofs.Common.{◌≡◌, ◌<◌, List, Some, length, slice_get, subst, ap, ◌∙◌}
use Rattle.eds_act.specs.Does.{Conforms}
use Rattle.eds_plan.specs.Fitting.{ComponentFits}
use Rattle.eds_plan.specs.Plans.{component_at, no_component}
use Rattle.eds_plan.specs.declared.component.ComponentPlan.{ComponentPlan}
use Rattle.eds_plan.specs.declared.component.VarPlan.{VarPlan}
use Rattle.eds_types.specs.Plain.{plain}
use Rattle.eds_snap.proofs.Values.{is-known}
use Rattle.eds_snap.proofs.Slots.{all-at, all-there}
use Rattle.eds_snap.proofs.entry.variable_type.Goals as goal

pub returns-clause-known : goal.returns-clause-known
returns-clause-known c =
    let t = c.args.table.now in
    let fits = all-at (ComponentFits t (Conforms t)) c.args.plan.now c.args.comp no_component c.requires.fits.components c.requires.comp in
    let there : slice_get (component_at c.args.plan.now c.args.comp).variables c.args.place ≡ Some c.variable_in-variable.result.now = subst (λ (k : ComponentPlan). slice_get k.variables c.args.place ≡ Some c.variable_in-variable.result.now) c.component_in-component.ensures c.variable_in-variable.ensures in
    is-known t c.variable_in-variable.result.now.id.0 (plain c.variable_in-variable.result.now.initial) (all-there (λ (x : VarPlan). Conforms t x.id.0 (plain x.initial)) (component_at c.args.plan.now c.args.comp).variables c.args.place c.variable_in-variable.result.now fits.initial there)
